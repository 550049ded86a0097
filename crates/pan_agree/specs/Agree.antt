-- How the runs of a machine, at each number of steps, agree with those of a source, at each number of units of fuel, on one memory, stack and list of replies.
use Rattle.std.specs.Prelude.{◌≡◌, ◌≢◌, ◌⊎◌, ℕ, ◌<◌, Bool, true, false, IsTrue}
use Rattle.pan_base.specs.Events.{Ending, Exit, Uncaught, Stopped, Asks, Spent, Stack, Fault, Fails, Behaviour, IsPrefix}
use Rattle.pan_control.specs.Seen.{Seen}

-- an end of the run by itself or at the outside: not by want of fuel, of steps or of stack, and neither a failing step nor a fault
abbrev pub is_real : Ending → Bool
is_real (Exit n) = true
is_real (Uncaught n) = true
is_real (Stopped q) = true
is_real (Asks q) = true
is_real Spent = false
is_real Stack = false
is_real Fault = false
is_real Fails = false

-- the machine ran out of its stack in a run whose active calls cost more than that, and did a prefix of it
pub record Overflows (stack : ℕ) (s : Seen) (b : Behaviour) : Type 0 where
  pub stack_end : b.ending ≡ Stack
  pub deeper : stack < s.deepest
  pub front : IsPrefix b.events (s.behaviour).events

-- Whatever the source does, short of a failing step, the machine does in some number of steps, the exhausted stack aside.
abbrev pub Forward : ℕ → (ℕ → Seen) → (ℕ → Behaviour) → Type 0
Forward stack source machine =
    (n : ℕ) → ((source n).behaviour).ending ≢ Fails
    → (k : ℕ) × ((machine k ≡ (source n).behaviour) ⊎ Overflows stack (source n) (machine k))

-- the source makes no failing step
abbrev pub NeverFails : (ℕ → Seen) → Type 0
NeverFails source = (n : ℕ) → ((source n).behaviour).ending ≢ Fails

-- the machine does nothing that the source doesn't do: it meets no fault, its events are among the source's, and a real end is the source's
pub record DoesNoMore (source : ℕ → Seen) (b : Behaviour) : Type 0 where
  pub no_fault : b.ending ≢ Fault
  pub front : (n : ℕ) × IsPrefix b.events ((source n).behaviour).events
  pub same_end : IsTrue (is_real b.ending) → (n : ℕ) × (b ≡ (source n).behaviour)

-- Whatever the machine does, the source does, where it makes no failing step.
abbrev pub Backward : (ℕ → Seen) → (ℕ → Behaviour) → Type 0
Backward source machine = NeverFails source → (k : ℕ) → DoesNoMore source (machine k)

-- The machine runs out of its stack only where the active calls of the source cost more than that.
abbrev pub Exhausts : ℕ → (ℕ → Seen) → (ℕ → Behaviour) → Type 0
Exhausts stack source machine = NeverFails source → (k : ℕ) → (machine k).ending ≡ Stack → (n : ℕ) × Overflows stack (source n) (machine k)

-- both directions, and the exhausted stack
pub record Agree (stack : ℕ) (source : ℕ → Seen) (machine : ℕ → Behaviour) : Type 0 where
  pub forward : Forward stack source machine
  pub backward : Backward source machine
  pub exhausts : Exhausts stack source machine
