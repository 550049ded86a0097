use Rattle.pan_parser.proofs.CallTrees.{two_exprs_tree}
use Rattle.pan_parser.proofs.calls.two_exprs.Goals as goal

pub returns-clause-tree : goal.returns-clause-tree
returns-clause-tree c = two_exprs_tree _ _ _ _ _ _ c.in_ok-one.ensures.tree c.in_ok-other.ensures.tree
