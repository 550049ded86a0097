-- What holds of a step that may not be done.
use Rattle.std.specs.Prelude.{◌≡◌, Option, Some, None, Result, Ok, Err}
use Rattle.pan_base.specs.Events.{Fails}
use Rattle.pan_runner.specs.Machine.{Config, Over}
use Rattle.pan_runner.specs.declared.halt.Halt.{Halt}
use Rattle.pan_runner.specs.declared.halt.Halt.TheVariants as halt

-- a fact where it fails; want of memory tells nothing
abbrev pub OnFails : Halt → Type 0 → Type 0
OnFails halt.Fails fact = fact
OnFails halt.NoMemory fact = Unit {0}

-- the answer, as it is seen, is what is given, and it fails where nothing is
abbrev pub Gives : {X A : Type 0} → (X → A) → Result X Halt → Option A → Type 0
Gives see (Ok x) given = given ≡ Some (see x)
Gives see (Err h) given = OnFails h (given ≡ None)

-- what was to come has come, and a step that fails was to fail
abbrev pub Comes : {X : Type 0} → Result X Halt → Config → Config → Type 0
Comes (Ok x) now to = now ≡ to
Comes (Err h) now to = OnFails h (to ≡ Over Fails)
