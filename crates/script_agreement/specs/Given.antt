-- How a source and its image stand to each other under one script.
use Rattle.std.specs.Prelude.{◌≡◌, ◌⊎◌, Bool, true, false, IsTrue}
use Rattle.pan_base.specs.Events.{Ending, Exit, Uncaught, Stopped, Asks, Spent, Stack, Fault, Fails, Behaviour, IsPrefix}

-- the run wanted no fuel, no steps and no stack
abbrev pub is_whole : Ending → Bool
is_whole (Exit n) = true
is_whole (Uncaught n) = true
is_whole (Stopped q) = true
is_whole (Asks q) = true
is_whole Spent = false
is_whole Stack = false
is_whole Fault = true
is_whole Fails = true

-- The events of one are a prefix of those of the other. Where neither wanted fuel, steps or stack, events and ends are the same, with the open request.
pub record Concur (a b : Behaviour) : Type 0 where
  pub fronts : IsPrefix a.events b.events ⊎ IsPrefix b.events a.events
  pub same : IsTrue (is_whole a.ending) → IsTrue (is_whole b.ending) → a ≡ b
