use Rattle.std.proofs.Common.{sym, ◌∙◌, arith}
use Rattle.pan_base.specs.Events.{Store}
use Rattle.pan_port.specs.Device.{given}
use Rattle.device_script.specs.Rules.{answers}
use Rattle.device_script.proofs.PlaceLemmas.{place_where-within}
use Rattle.device_script.proofs.StepLemmas.{none_stepped, rule_stepped}
use Rattle.device_script.proofs.IndexLemmas.{store_kept}
use Rattle.device_script.proofs.rule_list.RuleList.store.Goals as goal

pub index_mut-rule-requires : goal.index_mut-rule-requires
index_mut-rule-requires c =
    let rs = c.self.inside.rules in
    let within = place_where-within (λ r. answers r (Store c.args.size c.args.addr c.args.value)) rs.items c.in-Some.at (sym (c.store.ensures rs.items c.self.invariant) ∙ c.in-Some.is) in
    omega (arith, within, rs.ok.0)

pub invariant_of-self : goal.invariant_of-self
invariant_of-self c =
    store_kept c.self.inside.index c.self.inside.rules.items c.in-Some.at c.index_mut-rule.result.now c.store-in-Some.new.self (given c.store-in-Some.result) c.args.value c.self.invariant c.index_mut-rule.ensures.value c.store-in-Some.ensures

pub returns-in-Some : goal.returns-in-Some
returns-in-Some c =
    let rs = c.self.inside.rules.items in
    rule_stepped (Store c.args.size c.args.addr c.args.value) rs c.args.self.now c.in-Some.at c.index_mut-rule.result.now c.store-in-Some.new.self (given c.store-in-Some.result) c.self.view_is (sym (c.store.ensures rs c.self.invariant) ∙ c.in-Some.is) c.index_mut-rule.ensures.value c.store-in-Some.ensures

pub returns-in-None : goal.returns-in-None
returns-in-None c =
    let rs = c.self.inside.rules.items in
    none_stepped (Store c.args.size c.args.addr c.args.value) rs c.args.self.now c.self.view_is (sym (c.store.ensures rs c.self.invariant) ∙ c.in-None.is)
