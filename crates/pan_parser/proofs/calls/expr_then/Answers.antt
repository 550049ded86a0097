use Rattle.pan_parser.proofs.CallTrees.{expr_then_tree}
use Rattle.pan_parser.proofs.calls.expr_then.Goals as goal

pub returns-clause-tree : goal.returns-clause-tree
returns-clause-tree c = expr_then_tree _ _ _ _ _ _ _ c.in_ok-value.ensures.tree c.in_ok-after.ensures.ok
