-- A script device has one answer to each request, and what it answers says all of its rules.
use Rattle.std.proofs.Common.{List, [], ◌∷◌, sym, ap, ◌∙◌}
use Rattle.std.specs.Prelude.{◌≡◌}
use Rattle.pan_base.specs.Events.{Asked, Replied, Event, Ending, Exit, Uncaught, Stopped, Asks, Spent, Stack, Fault, Fails, Behaviour}
use Rattle.pan_port.specs.Device.{Given}
use Rattle.pan_port.specs.Drive.{Answered, Closes, AreGiven}
use Rattle.device_script.specs.declared.rules.Rule.{Rule}
use Rattle.device_script.specs.Device.{DeviceState, Steps}
use Rattle.device_script.specs.Rules.{step}
use Rattle.script_agreement.proofs.Cut.{IsDetermined}

-- the device without its counts
abbrev pub RulesGive : List Rule → Asked → Given → List Rule → Type 0
RulesGive old q g new = (g ≡ (step old q).0) × (new ≡ (step old q).1)

pub determined : IsDetermined RulesGive
determined = record { one = λ old q g g' new new' a b. (a.0 ∙ sym b.0, a.1 ∙ sym b.1) }

answered_by_rules : (events : List Event) (old new : DeviceState) → Answered Steps old events new → Answered RulesGive old.rules events new.rules
answered_by_rules [] old new same = ap (λ (d : DeviceState). d.rules) same
answered_by_rules (e ∷ events) old new a = ((a.0).rules, a.1, answered_by_rules events a.0 new a.2)

stays : (last : List Replied) (old new : DeviceState) → (last ≡ []) × (new ≡ old) → (last ≡ []) × (new.rules ≡ old.rules)
stays last old new c = (c.0, ap (λ (d : DeviceState). d.rules) c.1)

closes_by_rules : (ending : Ending) (last : List Replied) (old new : DeviceState) → Closes Steps old ending last new → Closes RulesGive old.rules ending last new.rules
closes_by_rules (Stopped q) last old new c = c
closes_by_rules (Asks q) last old new c = c
closes_by_rules (Exit n) last old new c = stays last old new c
closes_by_rules (Uncaught n) last old new c = stays last old new c
closes_by_rules Spent last old new c = stays last old new c
closes_by_rules Stack last old new c = stays last old new c
closes_by_rules Fault last old new c = stays last old new c
closes_by_rules Fails last old new c = stays last old new c

pub given_by_rules : (run : Behaviour) (replies : List Replied) (old new : DeviceState) → AreGiven Steps old run replies new → AreGiven RulesGive old.rules run replies new.rules
given_by_rules run replies old new g = record {
  mid = (g.mid).rules;
  last = g.last;
  answered = answered_by_rules run.events old g.mid g.answered;
  closes = closes_by_rules run.ending g.last g.mid new g.closes;
  all = g.all;
}
