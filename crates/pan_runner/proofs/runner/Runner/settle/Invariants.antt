use Rattle.pan_runner.specs.Runner.{config_of, Keeps, GoesOn, IsBounded, ComesFrom}
use Rattle.pan_runner.specs.Weight.{config_weight}
use Rattle.pan_runner.proofs.runner.Runner.settle.Given as goal

abbrev pub invariant-steps : goal.invariant-steps
invariant-steps l = record {
  keeps : Keeps l.fn.self l.self;
  goes : GoesOn l.fn.self l.self 0;
  bound : IsBounded l.fn.self l.self 0;
  origin : ComesFrom l.fn.self l.self 0;
}

abbrev pub decreases-steps : goal.decreases-steps
decreases-steps l = config_weight l.self.program (config_of l.self)
