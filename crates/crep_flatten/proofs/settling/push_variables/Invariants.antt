use Rattle.std.proofs.Common.{◌≡◌, ◌++◌}
use Rattle.crep_flatten.specs.Rows.{variables}
use Rattle.crep_flatten.proofs.settling.push_variables.Given as goal

-- what is left completes what is done
abbrev pub invariant-loop-left : goal.invariant-loop-left
invariant-loop-left l = l.words ++ variables l.next l.left ≡ l.initial.words ++ variables l.first l.count

abbrev pub decreases-loop-left : goal.decreases-loop-left
decreases-loop-left l = l.left
