-- Sources and machines on which agreement is tried.
use Rattle.std.specs.Prelude.{ℕ, zero, suc}
use Rattle.pan_base.specs.Events.{Exit, Spent, Behaviour, only}
use Rattle.pan_control.specs.Seen.{Seen}

-- a source that loops without end, asks nothing and calls nothing
abbrev pub loops : ℕ → Seen
loops n = record { behaviour = only Spent; deepest = 0; toll = 0 }

-- a source that exits with 0 after its first turn
abbrev pub exits : ℕ → Seen
exits zero = loops zero
exits (suc n) = record { behaviour = only (Exit 0); deepest = 0; toll = 0 }

-- a machine that does all that it ever does in its first step
abbrev pub at_once : Behaviour → ℕ → Behaviour
at_once b zero = only Spent
at_once b (suc k) = b
