use Rattle.std.proofs.Common.{[], ◌∷◌, refl}
use Rattle.pan_tree.specs.Check.{judged, breaks_of}
use Rattle.pan_shapes.proofs.Answering.{refused}
use Rattle.pan_shapes.proofs.statements.check_foreign.Goals as goal

pub returns-in_err-words : goal.returns-in_err-words
returns-in_err-words c =
    let v = (c.args.walk.now).scopes in
    let parts = judged c.args.config.0.now v ∷ judged c.args.config.1.now v ∷ judged c.args.array.0.now v ∷ judged c.args.array.1.now v ∷ [] in
    refused _ c.from_residual.result (breaks_of parts) _ c.in_err-words.field-0.0 refl c.from_residual.ensures.1 c.in_err-words.ensures
