-- What runs and asks: a program, or the machine, between two requests.
use Rattle.std.specs.Prelude.{◌≡◌, ◌⊎◌, ℕ, ◌+◌, ◌≤◌, List, [], ◌∷◌, Option, Some, None, Bool, true, false, IsSome, Result, Ok, Err}
use Rattle.pan_base.specs.Events.{Asked, Replied, Fits, Ending, Stopped, Asks, Spent, Behaviour, only, before, end_of}
use Rattle.pan_base.specs.declared.error.NoMemory.{NoMemory}
use Rattle.pan_port.specs.declared.asker.Pause.{Pause}
use Rattle.pan_port.specs.declared.asker.Pause.TheVariants as pause
use Rattle.pan_port.specs.declared.asker.Advance.{Advance}

-- All that an asker means: its trace and end with these replies and so many more steps or units of fuel; a bound on the events that are
-- still possible within so many; what it asks, if it asks; how it has ended, if it has; how long a buffer of a request may be; whether it
-- never wants memory; and whether it wanted memory that wasn't there, and so goes on no more.
pub record Meaning : Type 0 where
  pub go : List Replied → ℕ → Behaviour
  pub ahead : ℕ → ℕ
  pub pending : Option Asked
  pub ended : Option Ending
  pub size : ℕ
  pub frugal : Bool
  pub starved : Bool

-- an end that is neither Asks nor Spent
abbrev pub IsOver : Ending → Type 0
IsOver (Asks q) = ⊥
IsOver Spent = ⊥
IsOver _ = Unit {0}

-- It asks: with no reply left that is the end, and a reply that fits makes an event.
pub record IsAsking (a : Meaning) (q : Asked) : Type 0 where
  pub asks : a.pending ≡ Some q
  pub runs : a.ended ≡ None
  pub silent : (k : ℕ) → a.go [] k ≡ only (Asks q)
  pub event : (r : Replied) (replies : List Replied) (k : ℕ) → Fits q r → (rest : Behaviour) × (a.go (r ∷ replies) k ≡ before q r rest)

-- it has ended, whatever replies and steps are left
pub record HasEnded (a : Meaning) (x : Ending) : Type 0 where
  pub ended : a.ended ≡ Some x
  pub asks : a.pending ≡ None
  pub over : IsOver x
  pub goes : (replies : List Replied) (k : ℕ) → a.go replies k ≡ only x

-- Why an advance paused: the budget was used, and nothing goes on without steps; or it asks; or it has ended, and was stopped only where it had been before.
abbrev pub PausesAt : Meaning → Meaning → ℕ → ℕ → Pause → Type 0
PausesAt old new budget used pause.Spent = (used ≡ budget) × (new.pending ≡ None) × (new.ended ≡ None) × ((replies : List Replied) → new.go replies 0 ≡ only Spent)
PausesAt old new budget used pause.Asks = (q : Asked) × IsAsking new q × (old.ended ≡ None)
PausesAt old new budget used (pause.Ended end) =
    (x : Ending) × HasEnded new x × (end_of x ≡ end) × ((q : Asked) → x ≡ Stopped q → old.ended ≡ Some x)

-- an advance, from old to new
pub record Advances (old new : Meaning) (budget : ℕ) (a : Advance) : Type 0 where
  pub within : a.used ≤ budget
  pub goes : (replies : List Replied) (k : ℕ) → old.go replies (a.used + k) ≡ new.go replies k
  pub bound : (k : ℕ) → new.ahead k ≤ old.ahead (a.used + k)
  pub pauses : PausesAt old new budget a.used a.pause
  -- one that asks or has ended stays as it is
  pub idle : IsSome old.pending ⊎ IsSome old.ended → (a.used ≡ 0) × (new ≡ old)
  pub size : new.size ≡ old.size
  pub frugal : new.frugal ≡ old.frugal
  pub fed : (old.starved ≡ false) × (new.starved ≡ false)

-- an advance that found no memory: a frugal asker never does, and from then on it finds none
pub record Starves (old new : Meaning) : Type 0 where
  pub wants : old.frugal ≡ false
  pub starved : new.starved ≡ true
  pub size : new.size ≡ old.size
  pub frugal : new.frugal ≡ old.frugal

-- what an advance leaves
abbrev pub AfterAdvance : Meaning → Meaning → ℕ → Result Advance NoMemory → Type 0
AfterAdvance old new budget (Ok a) = Advances old new budget a
AfterAdvance old new budget (Err e) = Starves old new

-- a reply that fits is taken
pub record Takes (old new : Meaning) (q : Asked) (r : Replied) : Type 0 where
  pub goes : (replies : List Replied) (k : ℕ) → old.go (r ∷ replies) k ≡ before q r (new.go replies k)
  pub bound : (k : ℕ) → new.ahead k + 1 ≤ old.ahead k
  pub runs : (new.pending ≡ None) × (new.ended ≡ None)

-- any other reply ends it
pub record Ends (old new : Meaning) (q : Asked) (r : Replied) : Type 0 where
  pub goes : (replies : List Replied) (k : ℕ) → old.go (r ∷ replies) k ≡ only (Stopped q)
  pub over : HasEnded new (Stopped q)

-- an answer, from old to new
pub record Answers (old new : Meaning) (r : Replied) : Type 0 where
  pub fits : (q : Asked) → old.pending ≡ Some q → Fits q r → Takes old new q r
  pub unfit : (q : Asked) → old.pending ≡ Some q → ¬ Fits q r → Ends old new q r
  pub size : new.size ≡ old.size
  pub frugal : new.frugal ≡ old.frugal
  pub starved : new.starved ≡ old.starved
