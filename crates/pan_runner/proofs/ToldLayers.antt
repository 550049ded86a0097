-- The values of the runner as those of the source, at each variant.
use Rattle.std.proofs.Common.{◌≡◌, ℕ, zero, suc, ◌+◌, ◌<◌, List, [], ◌∷◌, length, get_or, drop, Some, None, refl, sym, ap, ◌∙◌}
use Rattle.std.proofs.lemmas.List.{drop_more}
use Rattle.std.specs.Prelude.{option_map, slice_get}
use Rattle.pan_tree.specs.Value.{Value as Meant, Word, Struct, values_list, values_of, part, part_of_part}
use Rattle.pan_runner.specs.declared.value.Value.{Value, Value-F, fold-roll-Value, roll-Value, map-Value}
use Rattle.pan_runner.specs.declared.value.Value.TheOpen as open_value
use Rattle.pan_runner.specs.declared.value.Value.TheVariants as value
use Rattle.pan_runner.specs.Told.{told_layer, told, all_told}

told_roll : (x : Value-F Value) → told (roll-Value x) ≡ told_layer (map-Value Value Meant told x)
unfolding told
told_roll x = fold-roll-Value Meant told_layer x

pub told_word : (n : ℕ) → told (value.Word n) ≡ Word n
told_word n = ap told (sym (value.rolls-Word n)) ∙ told_roll (open_value.Word n)

pub told_struct : (parts : List Value) → told (value.Struct parts) ≡ Struct (values_of (all_told parts))
told_struct parts = ap told (sym (value.rolls-Struct parts)) ∙ told_roll (open_value.Struct parts)

pub ruleset told_rules = (told_word, told_struct)

-- ---- parts

list_of_values : (vs : List Meant) → values_list (values_of vs) ≡ vs
list_of_values [] = refl
list_of_values (v ∷ vs) = ap (λ ws. v ∷ ws) (list_of_values vs)

get_told : (parts : List Value) (i : ℕ) → slice_get (all_told parts) i ≡ option_map told (slice_get parts i)
get_told [] i = refl
get_told (v ∷ vs) zero = refl
get_told (v ∷ vs) (suc i) = get_told vs i

pub part_word : (n i : ℕ) → part (told (value.Word n)) i ≡ None
part_word n i = ap (λ v. part v i) (told_word n)

pub part_struct : (parts : List Value) (i : ℕ) → part (told (value.Struct parts)) i ≡ option_map told (slice_get parts i)
part_struct parts i = ap (λ v. part v i) (told_struct parts) ∙ ap (λ vs. slice_get vs i) (list_of_values (all_told parts)) ∙ get_told parts i

-- nothing has no part
pub part_of_none : (is : List ℕ) → part_of_part None is ≡ None
part_of_none [] = refl
part_of_none (i ∷ is) = part_of_none is

-- where a part is missing, so is all that the rest of the path leads to
pub part_missing : (v : Meant) (path : List ℕ) (i : ℕ) → i < length path → part v (get_or path i 0) ≡ None → part_of_part (Some v) (drop i path) ≡ None
part_missing v path i within missing =
    ap (part_of_part (Some v)) (drop_more path i 0 within) ∙ ap (λ o. part_of_part o (drop (i + 1) path)) missing ∙ part_of_none (drop (i + 1) path)

pub ruleset part_rules = (part_word, part_struct, part_of_none)
