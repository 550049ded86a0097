use Rattle.std.proofs.Common.{ap, sym, ◌∙◌, arith}
use Rattle.std.proofs.lemmas.List.{take_all, take-map}
use Rattle.pan_runner.specs.Told.{told, all_told}
use Rattle.pan_runner.proofs.variables.keep_first.Goals as goal

pub returns : goal.returns
returns c = ap all_told (sym (take_all c.args.count c.last.variables (omega arith)) ∙ c.last.invariant) ∙ sym (take-map told c.args.count c.args.variables.now)
