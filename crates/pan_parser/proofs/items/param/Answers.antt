use Rattle.pan_parser.proofs.ItemTrees.{param_tree}
use Rattle.pan_parser.proofs.items.param.Goals as goal

pub returns-clause-tree : goal.returns-clause-tree
returns-clause-tree c = param_tree _ _ _ _ _ _ c.in_ok-shape.ensures.tree c.in_ok-name.ensures.ok
