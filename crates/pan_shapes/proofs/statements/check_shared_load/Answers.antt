use Rattle.std.proofs.Common.{[]}
use Rattle.pan_tree.specs.Check.{judged}
use Rattle.pan_shapes.proofs.Answering.{refused, first_part}
use Rattle.pan_shapes.proofs.statements.check_shared_load.Goals as goal

pub returns-in_err-address : goal.returns-in_err-address
returns-in_err-address c =
    let bs = (judged c.args.address.now (c.args.walk.now).scopes).breaks in
    refused _ c.from_residual.result bs _ c.in_err-address.field-0.0 (first_part bs [] _) c.from_residual.ensures.1 c.in_err-address.ensures
