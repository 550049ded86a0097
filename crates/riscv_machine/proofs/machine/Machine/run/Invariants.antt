use Rattle.std.proofs.Common.{◌-◌, ◌≤◌}
use Rattle.riscv_machine.specs.Machine.{GoesOn, IsBounded, HasSize, ComesFrom, StandsAtEnd}
use Rattle.riscv_machine.proofs.EndLemmas.{CameHere}
use Rattle.riscv_machine.proofs.machine.Machine.run.Given as goal

abbrev pub invariant-steps : goal.invariant-steps
invariant-steps l = record {
  within : l.used ≤ l.budget;
  goes : GoesOn l.fn.self l.self l.used;
  bound : IsBounded l.fn.self l.self l.used;
  size : HasSize l.fn.self l.self;
  origin : ComesFrom l.fn.self l.self l.used;
  came : CameHere l.fn.self l.self l.used;
  end : StandsAtEnd l.fn.self l.self l.used;
}

abbrev pub decreases-steps : goal.decreases-steps
decreases-steps l = l.budget - l.used
