use Rattle.std.proofs.Common.{sym, ap, ◌∙◌}
use Rattle.pan_runner.proofs.Begun.{at_next}
use Rattle.pan_runner.proofs.Begun.{skipped}
use Rattle.std.specs.Prelude.{slice_get}
use Rattle.std.specs.Option.{option_copied}
use Rattle.pan_runner.proofs.runner.Runner.go_round.Goals as goal

pub returns-in_default-clause-config : goal.returns-in_default-clause-config
returns-in_default-clause-config c = at_next _ _ _ _ c.requires ∙ sym (skipped c.args.self.now c.args.block.now c.args.at (ap (λ b. slice_get b c.args.at) (sym c.get.ensures) ∙ sym c.get-2.ensures.value ∙ ap option_copied c.in_default.is))
