use Rattle.std.proofs.Common.{[], ◌++◌}
use Rattle.pan_tree.specs.Check.{judged}
use Rattle.pan_shapes.proofs.Answering.{refused, first_part, second_part}
use Rattle.pan_shapes.proofs.statements.check_store_words.Goals as goal

pub returns-in_err-address : goal.returns-in_err-address
returns-in_err-address c =
    let scopes = (c.args.walk.now).scopes in
    let bs = (judged c.args.address.now scopes).breaks in
    let cs = (judged c.args.value.now scopes).breaks in
    refused _ c.from_residual.result bs _ c.in_err-address.field-0.0 (first_part bs (cs ++ []) _) c.from_residual.ensures.1 c.in_err-address.ensures

pub returns-in_err-value : goal.returns-in_err-value
returns-in_err-value c =
    let scopes = (c.args.walk.now).scopes in
    let bs = (judged c.args.address.now scopes).breaks in
    let cs = (judged c.args.value.now scopes).breaks in
    refused _ c.from_residual-in_err-value.result cs _ c.in_err-value.field-0.0 (second_part bs cs [] _ c.in_ok-address.ensures.0) c.from_residual-in_err-value.ensures.1 c.in_err-value.ensures
