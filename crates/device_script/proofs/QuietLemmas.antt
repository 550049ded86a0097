-- A device that is silent keeps its rules as they were, and so gives what it would have given before.
use Rattle.std.proofs.Common.{◌≡◌, ℕ, zero, suc, Bool, true, false, cond, List, [], ◌∷◌, refl, sym, ap, ◌∙◌}
use Rattle.pan_base.specs.Events.{Asked, Load, Store, Foreign}
use Rattle.pan_port.specs.Device.{Given, Silent, Alike, given}
use Rattle.pan_port.specs.declared.device.Answer.{Answer}
use Rattle.pan_port.specs.declared.device.Answer.TheVariants as answer
use Rattle.device_script.specs.declared.rules.Rule.{Rule}
use Rattle.device_script.specs.declared.rules.Rule.TheVariants as rule
use Rattle.device_script.specs.Device.{DeviceState, Steps}
use Rattle.device_script.specs.Rules as rules
use Rattle.device_script.proofs.StepLemmas.{stepped}

silent_load : (r : Rule) → (rules.answer_load r).0 ≡ Silent → (rules.answer_load r).1 ≡ r
silent_load (rule.Register size addr value) h = absurd (cc)
silent_load (rule.Queue size addr []) h = refl
silent_load (rule.Queue size addr (value ∷ values)) h = absurd (cc)
silent_load (rule.Counter size addr first step loads) h = absurd (cc)
silent_load (rule.Collector size addr left) h = refl
silent_load (rule.Foreign name effect) h = refl

silent_store : (r : Rule) (value : ℕ) → (rules.answer_store r value).0 ≡ Silent → (rules.answer_store r value).1 ≡ r
silent_store (rule.Register size addr old) value h = absurd (cc)
silent_store (rule.Queue size addr values) value h = refl
silent_store (rule.Counter size addr first step loads) value h = refl
silent_store (rule.Collector size addr zero) value h = refl
silent_store (rule.Collector size addr (suc left)) value h = absurd (cc)
silent_store (rule.Foreign name effect) value h = refl

silent_call : (r : Rule) (conf array : List ℕ) → (rules.answer_call r conf array).1 ≡ r
silent_call (rule.Register size addr value) conf array = refl
silent_call (rule.Queue size addr values) conf array = refl
silent_call (rule.Counter size addr first step loads) conf array = refl
silent_call (rule.Collector size addr left) conf array = refl
silent_call (rule.Foreign name effect) conf array = refl

silent_rule : (r : Rule) (q : Asked) → (rules.answer r q).0 ≡ Silent → (rules.answer r q).1 ≡ r
silent_rule r (Load size addr) h = silent_load r h
silent_rule r (Store size addr value) h = silent_store r value h
silent_rule r (Foreign number name conf array) h = silent_call r conf array

silent_step : (rs : List Rule) (q : Asked) → (rules.step rs q).0 ≡ Silent → (rules.step rs q).1 ≡ rs
silent_step [] q h = refl
silent_step (r ∷ rs) q h = by (rules.answers r q) (silent_step rs q) h
  where
    by : (t : Bool) → ((rules.step rs q).0 ≡ Silent → (rules.step rs q).1 ≡ rs) → (cond t (stepped (rules.answer r q).0 ((rules.answer r q).1 ∷ rs)) (stepped (rules.step rs q).0 (r ∷ (rules.step rs q).1))).0 ≡ Silent
        → (cond t (stepped (rules.answer r q).0 ((rules.answer r q).1 ∷ rs)) (stepped (rules.step rs q).0 (r ∷ (rules.step rs q).1))).1 ≡ r ∷ rs
    by true others h = ap (λ r. r ∷ rs) (silent_rule r q h)
    by false others h = ap (λ rs. r ∷ rs) (others h)

-- as the code steps
pub quiet_alike : (q : Asked) (old new : DeviceState) (a : Answer) → a ≡ answer.Quiet → stepped (given a) new.rules ≡ rules.step old.rules q → Alike Steps old new
quiet_alike q old new a quiet steps =
    let silent : (rules.step old.rules q).0 ≡ Silent = ap (λ (s : Given × List Rule). s.0) (sym steps) ∙ ap given quiet in
    let same : new.rules ≡ old.rules = ap (λ (s : Given × List Rule). s.1) steps ∙ silent_step old.rules q silent in
    record {
      to = λ q g next h. (h.0 ∙ ap (λ rs. (rules.step rs q).0) (sym same), h.1 ∙ ap (λ rs. (rules.step rs q).1) (sym same));
      from = λ q g next h. (h.0 ∙ ap (λ rs. (rules.step rs q).0) same, h.1 ∙ ap (λ rs. (rules.step rs q).1) same);
    }
