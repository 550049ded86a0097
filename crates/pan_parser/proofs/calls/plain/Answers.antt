use Rattle.pan_parser.proofs.CallTrees.{plain_tree}
use Rattle.pan_parser.proofs.calls.plain.Goals as goal

pub returns-clause-tree : goal.returns-clause-tree
returns-clause-tree c = plain_tree _ _ _ _ _ _ _ _ c.in_ok-name.ensures.ok c.in_ok-after.ensures.ok c.in_ok-arguments.ensures.tree
