use Rattle.std.proofs.Common.{◌+◌}
use Rattle.lab_lang.specs.Layout.{longest}
use Rattle.lab_link.proofs.Filling.{Filled}
use Rattle.lab_link.proofs.tests.steps_between.Given as goal

abbrev pub invariant-loop : goal.invariant-loop
invariant-loop l = Filled l.lines (longest l.ends.0 + l.counter)
