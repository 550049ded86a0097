use Rattle.pan_parser.proofs.ItemTrees.{named_word, named_shape}
use Rattle.pan_parser.proofs.items.named_result.Goals as goal

pub returns-then-begins_name-clause-tree : goal.returns-then-begins_name-clause-tree
returns-then-begins_name-clause-tree c = named_word _ _ _ _ c.in_ok-name.ensures.ok

pub returns-clause-tree : goal.returns-clause-tree
returns-clause-tree c = named_shape _ _ _ _ _ _ c.in_ok-shape.ensures.tree c.in_ok-name-2.ensures.ok
