use Rattle.pan_parser.proofs.CallTrees.{no_arguments, some_arguments}
use Rattle.pan_parser.proofs.calls.arguments.Goals as goal

pub returns-in-Some-clause-tree : goal.returns-in-Some-clause-tree
returns-in-Some-clause-tree c = no_arguments _ _ _ _ _ c.in-Some.ensures.some c.new.ensures

pub returns-clause-tree : goal.returns-clause-tree
returns-clause-tree c = some_arguments _ _ _ _ _ _ c.in_ok-arguments.ensures.tree c.in_ok-after.ensures.ok
