use Rattle.std.proofs.Common.{sym, ◌∙◌, arith}
use Rattle.pan_base.specs.Events.{Foreign}
use Rattle.pan_port.specs.Device.{given_by_array}
use Rattle.device_script.specs.Rules.{answers_call}
use Rattle.device_script.proofs.PlaceLemmas.{place_where-within}
use Rattle.device_script.proofs.StepLemmas.{none_stepped, rule_stays}
use Rattle.device_script.proofs.rule_list.RuleList.call.Goals as goal

pub index-rule-requires : goal.index-rule-requires
index-rule-requires c =
    let rs = c.self.inside.rules in
    let within = place_where-within (λ r. answers_call r c.args.name.now) rs.items c.in-Some.at (sym (c.call.ensures rs.items c.self.invariant) ∙ c.in-Some.is) in
    omega (arith, within, rs.ok.0)

pub returns-in-Some : goal.returns-in-Some
returns-in-Some c = λ number.
    let rs = c.self.inside.rules.items in
    rule_stays (Foreign number c.args.name.now c.args.conf.now c.args.array.now) rs c.args.self.now c.in-Some.at c.index-rule.result.now (given_by_array c.call-in-Some.result c.call-in-Some.new.array) c.self.view_is (sym (c.call.ensures rs c.self.invariant) ∙ c.in-Some.is) c.index-rule.ensures c.call-in-Some.ensures

pub returns-in-None : goal.returns-in-None
returns-in-None c = λ number.
    let rs = c.self.inside.rules.items in
    none_stepped (Foreign number c.args.name.now c.args.conf.now c.args.array.now) rs c.args.self.now c.self.view_is (sym (c.call.ensures rs c.self.invariant) ∙ c.in-None.is)
