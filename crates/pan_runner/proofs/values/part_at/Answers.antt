use Rattle.std.proofs.Common.{ap, sym, ◌∙◌}
use Rattle.std.specs.Prelude.{option_map}
use Rattle.std.specs.Option.{option_copied}
use Rattle.pan_runner.specs.Told.{told}
use Rattle.pan_runner.proofs.ToldLayers.{part_missing}
use Rattle.pan_runner.proofs.values.part_at.Goals as goal

pub returns-in_err-at : goal.returns-in_err-at
returns-in_err-at c =
    ap (λ o. option_map told (option_copied o)) c.from_residual.ensures
    ∙ sym (part_missing (told c.loop-index.at.now) c.args.path.now c.loop-index.index-index c.loop-index-test.true (sym c.in_err-at.ensures))
    ∙ c.loop-index.invariant
