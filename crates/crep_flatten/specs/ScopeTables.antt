-- Variables that are numbered in the order of their declarations, and a table of their places.
use Rattle.std.specs.Prelude.{◌≡◌, ℕ, nat_lt, ◌&&◌, Bool, true, List, [], ◌∷◌, map, length, reverse, get_or}
use Rattle.std.specs.List.{list_all}
use Rattle.pan_tree.specs.Scopes.{ScopesOf}
use Rattle.pan_tree.specs.declared.shape.Shape.TheVariants as shape
use Rattle.source_resolver.specs.Resolving as resolving
use Rattle.crep_flatten.specs.Flat.{Place, Places, count}

-- what a number stands for that no variable has
abbrev pub nowhere : Place
nowhere = record { first = 0; shape = shape.Word }

-- a variable with the place of its number
abbrev pub at_number : List Place → List ℕ × ℕ → List ℕ × Place
at_number table x = (x.0, get_or table x.1 nowhere)

-- each variable with the place of its number
abbrev pub placed : List Place → ScopesOf ℕ → Places
placed table scopes = map (map (at_number table)) scopes

-- each number is below the number of variables that are declared to the end of its block
abbrev pub are_numbered : ScopesOf ℕ → Bool
are_numbered [] = true
are_numbered (scope ∷ scopes) = list_all (λ (x : List ℕ × ℕ). nat_lt x.1 (resolving.count (scope ∷ scopes))) scope && are_numbered scopes

-- how many words there are outside of each block
abbrev pub outer_counts : Places → List ℕ
outer_counts [] = []
outer_counts (scope ∷ scopes) = count scopes ∷ outer_counts scopes

-- the table has each variable's place, and the words outside of each block, the innermost last, and those of all are counted
pub record Tabled (scopes : ScopesOf ℕ) (table : List Place) (outside : List ℕ) (words : ℕ) : Type 0 where
  pub numbered : are_numbered scopes ≡ true
  pub full : length table ≡ resolving.count scopes
  pub outer : reverse outside ≡ outer_counts (placed table scopes)
  pub counted : words ≡ count (placed table scopes)
