use Rattle.pan_parser.proofs.ItemTrees.{params_one, params_more, params_done}
use Rattle.pan_parser.proofs.items.some_params.Goals as goal

pub params-init : goal.params-init
params-init c = rw c.in_ok-params.ensures (params_one _ _ _ _ c.in_ok-next.ensures.tree c.in_ok-next.ensures.reads c.in_ok-next.ensures.ahead)

pub params-preserved : goal.params-preserved
params-preserved c = rw c.in_ok-push.ensures.ok (params_more _ _ _ _ _ _ _ c.params.invariant c.in-Some.ensures.some c.in_ok-next-2.ensures.tree c.in_ok-next-2.ensures.reads c.in_ok-next-2.ensures.ahead)

pub returns-clause-tree : goal.returns-clause-tree
returns-clause-tree c = params_done _ _ _ _ c.params.invariant
