use Rattle.std.proofs.Common.{[], ◌∷◌}
use Rattle.std.proofs.lemmas.List.Concat.{flat_map-append}
use Rattle.pan_tree.specs.Check.{judged, Judged, breaks_of}
use Rattle.pan_shapes.proofs.Answering.{refused}
use Rattle.pan_shapes.proofs.statements.judge_buffers.Goals as goal

pub returns-in_err-config : goal.returns-in_err-config
returns-in_err-config c =
    let v = c.args.scopes.now in
    let first = judged c.args.config.0.now v ∷ judged c.args.config.1.now v ∷ [] in
    let second = judged c.args.array.0.now v ∷ judged c.args.array.1.now v ∷ [] in
    refused _ c.from_residual.result (breaks_of first) (breaks_of second) c.in_err-config.field-0.0 (flat_map-append (λ (j : Judged). j.breaks) first second) c.from_residual.ensures.1 c.in_err-config.ensures
