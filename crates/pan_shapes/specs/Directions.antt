-- What follows from an answer, for programs that break a rule and for those that break none.
use Rattle.std.specs.Prelude.{◌≡◌, Result, Ok, Err}
use Rattle.pan_tree.specs.Check.{Break}
use Rattle.pan_shapes.specs.declared.error.CheckError.{CheckError}
use Rattle.pan_shapes.specs.declared.error.CheckError.TheVariants as error

-- refused for this, or there is no memory
abbrev pub IsRefusedFor : {X : Type 0} → Break → Result X CheckError → Type 0
IsRefusedFor b (Ok x) = ⊥
IsRefusedFor b (Err (error.Breaks rule place)) = record { rule = rule; place = place } ≡ b
IsRefusedFor b (Err error.NoMemory) = Unit {0}

-- not refused, unless there is no memory
abbrev pub IsAccepted : {X : Type 0} → Result X CheckError → Type 0
IsAccepted (Ok x) = Unit {0}
IsAccepted (Err (error.Breaks rule place)) = ⊥
IsAccepted (Err error.NoMemory) = Unit {0}
