-- What the check answers.
use Rattle.std.specs.Prelude.{◌≡◌, List, [], ◌∷◌, Result, Ok, Err}
use Rattle.pan_tree.specs.Check.{Break}
use Rattle.pan_shapes.specs.declared.error.CheckError.{CheckError}
use Rattle.pan_shapes.specs.declared.error.CheckError.TheVariants as error

-- The answer of a part of the check, which breaks these rules in this order: the first, or what holds where there is none.
abbrev pub IsAnswer : {X : Type 0} → List Break → (X → Type 0) → Result X CheckError → Type 0
IsAnswer breaks Good (Ok x) = (breaks ≡ []) × Good x
IsAnswer breaks Good (Err (error.Breaks rule place)) = (others : List Break) × (breaks ≡ record { rule = rule; place = place } ∷ others)
IsAnswer breaks Good (Err error.NoMemory) = Unit {0}
