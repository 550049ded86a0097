use Rattle.std.proofs.Common.{[], ◌∷◌, refl}
use Rattle.pan_tree.specs.Check.{judged, breaks_of}
use Rattle.pan_shapes.proofs.Answering.{refused}
use Rattle.pan_shapes.proofs.statements.check_two_words.Goals as goal

pub returns-in_err-words : goal.returns-in_err-words
returns-in_err-words c =
    let scopes = (c.args.walk.now).scopes in
    refused _ c.from_residual.result (breaks_of (judged c.args.address.now scopes ∷ judged c.args.value.now scopes ∷ [])) _ c.in_err-words.field-0.0 refl c.from_residual.ensures.1 c.in_err-words.ensures
