-- What is seen of a run of the source or of a stage.
use Rattle.std.specs.Prelude.{ℕ}
use Rattle.pan_base.specs.Events.{Behaviour}

-- its trace and end, the most that the costs of its active calls have been, and how much was done
pub record Seen : Type 0 where
  pub behaviour : Behaviour
  pub deepest : ℕ
  pub toll : ℕ
