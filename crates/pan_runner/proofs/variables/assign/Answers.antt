use Rattle.std.proofs.Common.{◌∙◌, ap, sym}
use Rattle.std.proofs.lemmas.List.{map-set}
use Rattle.source_resolver.specs.Slots.{assigned}
use Rattle.pan_runner.specs.Told.{told, all_told}
use Rattle.pan_runner.proofs.variables.assign.Goals as goal

pub returns-then-at-len : goal.returns-then-at-len
returns-then-at-len c =
    ap all_told c.set.ensures
    ∙ map-set told c.args.variables.now c.in-Some.at c.args.value
    ∙ sym (ap (λ place. assigned place (told c.args.value) (all_told c.args.variables.now)) c.in-Some.is)
