use Rattle.std.proofs.Common.{[]}
use Rattle.pan_shapes.proofs.BodyLemmas.{heads_apart}
use Rattle.pan_shapes.proofs.bodies.check_bodies.Goals as goal

pub check_function-requires-clause-apart : goal.check_function-requires-clause-apart
check_function-requires-clause-apart c = heads_apart [] c.args.functions.now c.loop-function.function-index c.function-item.result c.requires c.loop-function-test.true c.function-item.is
