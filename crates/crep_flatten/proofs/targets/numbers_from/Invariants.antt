use Rattle.std.proofs.Common.{◌≡◌, ◌++◌}
use Rattle.pan_stage.specs.Locals.{numbers_from}
use Rattle.crep_flatten.proofs.targets.numbers_from.Given as goal

-- what is left completes what is done
abbrev pub invariant-loop-left : goal.invariant-loop-left
invariant-loop-left l = l.numbers ++ numbers_from l.number l.left ≡ numbers_from l.first l.count

abbrev pub decreases-loop-left : goal.decreases-loop-left
decreases-loop-left l = l.left
