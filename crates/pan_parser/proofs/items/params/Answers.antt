use Rattle.pan_parser.proofs.ItemTrees.{no_params, some_params}
use Rattle.pan_parser.proofs.items.params.Goals as goal

pub returns-in-Some-clause-tree : goal.returns-in-Some-clause-tree
returns-in-Some-clause-tree c = no_params _ _ _ _ c.in-Some.ensures.some c.new.ensures

pub returns-clause-tree : goal.returns-clause-tree
returns-clause-tree c = some_params _ _ _ _ _ c.in_ok-params.ensures.tree c.in_ok-after.ensures.ok
