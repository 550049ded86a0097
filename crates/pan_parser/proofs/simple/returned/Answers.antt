use Rattle.pan_parser.proofs.StmtTrees.{return_tree, tail_call_tree}
use Rattle.pan_parser.proofs.simple.returned.Goals as goal

pub returns-then-begins_call-clause-tree : goal.returns-then-begins_call-clause-tree
returns-then-begins_call-clause-tree c = tail_call_tree _ _ _ _ _ _ _ c.in_ok-function.ensures.tree c.in_ok-after.ensures.ok

pub returns-clause-tree : goal.returns-clause-tree
returns-clause-tree c = return_tree _ _ _ _ c.in_ok-value.ensures.tree
