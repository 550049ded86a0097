use Rattle.pan_parser.proofs.ItemTrees.{function_tree}
use Rattle.pan_parser.proofs.items.function.Goals as goal

pub returns-clause-tree : goal.returns-clause-tree
returns-clause-tree c = function_tree _ _ _ _ _ _ _ _ _ _ _ _ c.requires c.in_ok-result.ensures.tree c.in_ok-after.ensures.ok c.in_ok-params.ensures.tree c.in_ok-body.ensures.tree c.span_between-span.ensures
