use Rattle.std.proofs.Common.{◌≡◌, ◌-◌, ◌≤◌, false}
use Rattle.pan_runner.specs.View.{is_running}
use Rattle.pan_runner.specs.Runner.{config_of, Keeps, GoesOn, IsBounded, ComesFrom}
use Rattle.pan_runner.proofs.runner.Runner.run.Given as goal

abbrev pub invariant-units : goal.invariant-units
invariant-units l = record {
  within : l.used ≤ l.budget;
  keeps : Keeps l.fn.self l.self;
  goes : GoesOn l.fn.self l.self l.used;
  bound : IsBounded l.fn.self l.self l.used;
  origin : ComesFrom l.fn.self l.self l.used;
  still : is_running (config_of l.self) ≡ false;
}

abbrev pub decreases-units : goal.decreases-units
decreases-units l = l.budget - l.used
