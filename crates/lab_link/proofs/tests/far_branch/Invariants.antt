use Rattle.std.proofs.Common.{◌+◌}
use Rattle.lab_link.proofs.Filling.{Filled}
use Rattle.lab_link.proofs.tests.far_branch.Given as goal

abbrev pub invariant-loop : goal.invariant-loop
invariant-loop l = Filled l.lines (3 + l.counter)
