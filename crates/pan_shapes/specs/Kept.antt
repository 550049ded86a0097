-- What is kept of a checked program.
use Rattle.std.specs.Prelude.{◌≡◌, ℕ, ◌<◌, nat_lt, ◌&&◌, not, Bool, true, List, map, length, codes, slice_get}
use Rattle.std.specs.List.{list_all}
use Rattle.pan_base.specs.Names.{is_foreign_name}
use Rattle.pan_tree.specs.declared.program.Program.{Program}
use Rattle.pan_tree.specs.Check.{IsWellShaped, HasLawfulNames, function_of, function_weight, program_weight, foreign_names}

-- a foreign name that a checked program may have
abbrev pub is_short_foreign : List ℕ → Bool
is_short_foreign x = is_foreign_name x && not (nat_lt 64 (length x))

-- the index is that of `main`
abbrev pub IsMainAt : Program → ℕ → Type 0
IsMainAt p main = (function_of (codes "main") p ≡ slice_get p.functions main) × (main < length p.functions)

-- the index of `main`, what each function and all together weigh, and the foreign names
pub record Kept (p : Program) (main : ℕ) (weights : List ℕ) (weight : ℕ) (names : List (List ℕ)) : Type 0 where
  pub shaped : IsWellShaped p
  pub lawful : HasLawfulNames p
  pub main_is : IsMainAt p main
  pub weights_are : weights ≡ map (function_weight p) p.functions
  pub light : list_all (λ w. not (nat_lt 16384 w)) weights ≡ true
  pub weight_is : weight ≡ program_weight p
  pub names_are : names ≡ foreign_names p
  pub names_good : list_all is_short_foreign names ≡ true
