use Rattle.pan_parser.proofs.OperatorWays.{shifts_more, shifts_done}
use Rattle.pan_parser.proofs.operators.shifts.Goals as goal

pub amounts-preserved : goal.amounts-preserved
amounts-preserved c = rw c.in_ok-push.ensures.ok (shifts_more _ _ _ _ _ _ _ _ c.amounts.invariant c.in-Some.ensures.some c.in_ok-amount.ensures.ok c.in_ok-amount.ensures.reads)

pub returns-clause-tree : goal.returns-clause-tree
returns-clause-tree c = shifts_done _ _ _ _ c.amounts.invariant
