use Rattle.std.proofs.Common.{sym, subst, List}
use Rattle.pan_base.specs.Events.{Replied}
use Rattle.pan_tree.specs.Meaning.{source}
use Rattle.riscv_isa.specs.Image.{ImageParts}
use Rattle.riscv_isa.specs.Machine.{machine}
use Rattle.device_script.specs.Memory.{filled}
use Rattle.device_script.specs.Runs.{IsGiven}
use Rattle.script_agreement.specs.Given.{Concur}
use Rattle.script_agreement.proofs.ScriptDevices.{RulesGive, determined, given_by_rules}
use Rattle.script_agreement.proofs.MachineOrder.{machine_in_order}
use Rattle.script_agreement.proofs.Meeting.{concur}
use Rattle.script_agreement.proofs.laws.agrees_under_script.Goals as goal

pub returns : goal.returns
returns c program image parts others faithful layout script local stack lawful fits fuel steps asked got g h no_fail =
    let memory = filled script.pieces local in
    let same = c.one_image.ensures.same image parts others faithful.layout layout in
    let agree = λ (replies : List Replied). faithful.agree memory stack replies lawful fits in
    let h' = subst (λ (p : ImageParts). IsGiven script (machine p memory stack got steps) got) (sym same) h in
    let both =
    concur c.prefixes.ensures.transitive RulesGive determined script.rules stack steps (λ replies. source program memory replies fuel) (machine parts memory stack)
    (c.source_takes_in_order.ensures program memory fuel) (machine_in_order parts memory stack steps) (c.machine_goes_on.ensures parts memory stack) (λ replies never. (agree replies).forward fuel never)
    asked got (g.0).rules (h'.0).rules (given_by_rules _ _ _ _ g.1) (given_by_rules _ _ _ _ h'.1) no_fail in
    subst (λ (p : ImageParts). Concur ((source program memory asked fuel).behaviour) (machine p memory stack got steps)) same both
