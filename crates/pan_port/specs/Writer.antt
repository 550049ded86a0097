-- An asker for the tests: it stores the numbers from n down to 1 and exits, in a step for each store and one for the exit.
use Rattle.std.specs.Prelude.{ℕ, ◌+◌, ◌-◌, zero, suc, List, [], ◌∷◌, Some, None, true, false}
use Rattle.pan_base.specs.declared.events.Size.TheVariants.{B8}
use Rattle.pan_base.specs.declared.events.End.{End}
use Rattle.pan_base.specs.declared.events.End.TheVariants as told_end
use Rattle.pan_base.specs.Events.{Asked, Store, Replied, Done, Ending, Exit, Stopped, Asks, Spent, Behaviour, only, before}
use Rattle.pan_port.specs.declared.asker.Pause.{Pause}
use Rattle.pan_port.specs.declared.asker.Pause.TheVariants as pause
use Rattle.pan_port.specs.Asker.{Meaning}

abbrev pub store_of : ℕ → Asked
store_of n = Store B8 0x40000000 n

-- it asks to store n, and goes on with next
abbrev pub asking : ℕ → List Replied → (List Replied → Behaviour) → Behaviour
asking n [] next = only (Asks (store_of n))
asking n (Done ∷ replies) next = before (store_of n) Done (next replies)
asking n (r ∷ replies) next = only (Stopped (store_of n))

-- with so many steps left
abbrev pub running : ℕ → ℕ → List Replied → Behaviour
running zero n replies = only Spent
running (suc k) zero replies = only (Exit 0)
running (suc k) (suc n) replies = asking (suc n) replies (λ rest. running k n rest)

abbrev pub ending : End → ℕ → Ending
ending told_end.Stopped n = Stopped (store_of n)
ending _ n = Exit 0

-- a writer after this pause, with the numbers from n on left
abbrev pub writer : Pause → ℕ → Meaning
writer pause.Spent n = record { go = λ replies k. running k n replies; ahead = λ k. k; pending = None; ended = None; size = 0; frugal = true; starved = false }
writer pause.Asks n = record { go = λ replies k. asking n replies (λ rest. running k (n - 1) rest); ahead = λ k. k + 1; pending = Some (store_of n); ended = None; size = 0; frugal = true; starved = false }
writer (pause.Ended end) n = record { go = λ replies k. only (ending end n); ahead = λ k. 0; pending = None; ended = Some (ending end n); size = 0; frugal = true; starved = false }
