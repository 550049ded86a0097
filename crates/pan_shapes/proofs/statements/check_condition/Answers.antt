use Rattle.std.proofs.Common.{[]}
use Rattle.pan_tree.specs.Check.{judged}
use Rattle.pan_shapes.proofs.Answering.{refused, first_part}
use Rattle.pan_shapes.proofs.statements.check_condition.Goals as goal

pub returns-in_err-condition : goal.returns-in_err-condition
returns-in_err-condition c =
    let bs = (judged c.args.condition.now (c.args.walk.now).scopes).breaks in
    refused _ c.from_residual.result bs _ c.in_err-condition.field-0.0 (first_part bs [] _) c.from_residual.ensures.1 c.in_err-condition.ensures
