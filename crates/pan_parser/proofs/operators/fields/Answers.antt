use Rattle.pan_parser.proofs.OperatorWays.{fields_more, fields_done}
use Rattle.pan_parser.proofs.operators.fields.Goals as goal

pub indices-preserved : goal.indices-preserved
indices-preserved c = rw c.in_ok-push.ensures.ok (fields_more _ _ _ _ _ _ _ c.indices.invariant c.in-Some.ensures.some c.in_ok-index.ensures.ok c.in_ok-index.ensures.reads)

pub returns-clause-tree : goal.returns-clause-tree
returns-clause-tree c = fields_done _ _ _ _ c.indices.invariant
