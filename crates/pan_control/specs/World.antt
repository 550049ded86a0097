-- The outside as a program sees it: memory, globals (G), the replies to come, the trace so far, and the counters.
use Rattle.std.specs.Prelude.{ℕ, ◌+◌, ◌-◌, max, List}
use Rattle.pan_base.specs.Events.{Replied, Event}

-- all that a statement reads and changes beside its variables
pub record World (G : Type 0) : Type 0 where
  -- the bytes of local memory
  pub memory : List ℕ
  -- the globals, as the language has them
  pub globals : G
  pub replies : List Replied
  pub trace : List Event
  -- units of fuel that are left
  pub fuel : ℕ
  -- the costs of the active calls, that of the running function among them
  pub active : ℕ
  -- the cost of the running function
  pub own : ℕ
  -- the most that the costs of the active calls have been
  pub deepest : ℕ
  -- how much was done so far, as the language counts it
  pub toll : ℕ

-- a function of this cost is entered
abbrev pub entered : {G : Type 0} → ℕ → World G → World G
entered cost w = record w { active = w.active + cost; own = cost; deepest = max w.deepest (w.active + cost) }

-- the running function is about to leave its place to another
abbrev pub leaving : {G : Type 0} → World G → World G
leaving w = record w { active = w.active - w.own }

-- a call has come back to a caller that stood so
abbrev pub back_in : {G : Type 0} → World G → World G → World G
back_in caller w = record w { active = caller.active; own = caller.own }

-- so much more is done
abbrev pub tolled : {G : Type 0} → ℕ → World G → World G
tolled n w = record w { toll = w.toll + n }
