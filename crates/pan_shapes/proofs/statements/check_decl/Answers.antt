use Rattle.std.proofs.Common.{[]}
use Rattle.pan_tree.specs.Check.{judged}
use Rattle.pan_shapes.proofs.Answering.{refused, first_part}
use Rattle.pan_shapes.proofs.statements.check_decl.Goals as goal

pub returns-in_err-value : goal.returns-in_err-value
returns-in_err-value c =
    let bs = (judged c.args.value.now (c.args.walk.now).scopes).breaks in
    refused _ c.from_residual.result bs _ c.in_err-value.field-0.0 (first_part bs [] _) c.from_residual.ensures.1 c.in_err-value.ensures
