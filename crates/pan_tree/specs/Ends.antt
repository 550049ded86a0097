-- How a source can't end.
use Rattle.std.specs.Prelude.{ℕ, ◌≢◌}
use Rattle.pan_base.specs.Events.{Stack, Fault}
use Rattle.pan_control.specs.Seen.{Seen}

-- the source meets neither a fault nor the end of a stack, which are the machine's
pub record IsSourceLike (source : ℕ → Seen) : Type 0 where
  pub no_fault : (n : ℕ) → ((source n).behaviour).ending ≢ Fault
  pub no_stack : (n : ℕ) → ((source n).behaviour).ending ≢ Stack
