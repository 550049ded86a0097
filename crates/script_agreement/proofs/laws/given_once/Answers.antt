use Rattle.script_agreement.proofs.ScriptDevices.{RulesGive, determined, given_by_rules}
use Rattle.script_agreement.proofs.MachineOrder.{machine_in_order}
use Rattle.script_agreement.proofs.Cut.{once}
use Rattle.script_agreement.proofs.laws.given_once.Goals as goal

pub returns : goal.returns
returns c = record {
  of_source = λ program script memory fuel first second g h. once RulesGive determined script.rules _ (c.source_takes_in_order.ensures program memory fuel) first second (g.0).rules (h.0).rules (given_by_rules _ _ _ _ g.1) (given_by_rules _ _ _ _ h.1);
  of_machine = λ parts script memory stack steps first second g h. once RulesGive determined script.rules _ (machine_in_order parts memory stack steps) first second (g.0).rules (h.0).rules (given_by_rules _ _ _ _ g.1) (given_by_rules _ _ _ _ h.1);
}
