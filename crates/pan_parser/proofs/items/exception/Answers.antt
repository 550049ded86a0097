use Rattle.pan_parser.proofs.ItemTrees.{exception_tree}
use Rattle.pan_parser.proofs.items.exception.Goals as goal

pub returns-clause-tree : goal.returns-clause-tree
returns-clause-tree c = exception_tree _ _ _ _ _ _ _ _ _ c.requires c.in_ok-name.ensures.ok c.in_ok-shape.ensures.tree c.in_ok-after.ensures.ok c.span_between-span.ensures
