use Rattle.std.proofs.Common.{[], ◌++◌, refl}
use Rattle.pan_tree.specs.Check.{judged}
use Rattle.pan_shapes.proofs.Answering.{refused}
use Rattle.pan_shapes.proofs.statements.judge_two.Goals as goal

pub returns-in_err-first : goal.returns-in_err-first
returns-in_err-first c =
    refused _ c.from_residual.result (judged c.args.first.now c.args.scopes.now).breaks ((judged c.args.second.now c.args.scopes.now).breaks ++ []) c.in_err-first.field-0.0 refl c.from_residual.ensures.1 c.in_err-first.ensures
