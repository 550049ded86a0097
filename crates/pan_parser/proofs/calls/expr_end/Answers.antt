use Rattle.pan_parser.proofs.CallTrees.{expr_end_tree}
use Rattle.pan_parser.proofs.calls.expr_end.Goals as goal

pub returns-clause-tree : goal.returns-clause-tree
returns-clause-tree c = expr_end_tree _ _ _ _ c.in_ok-value.ensures.tree
