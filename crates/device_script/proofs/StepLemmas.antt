-- A step of the rules, by the place of the rule that answers.
use Rattle.std.proofs.Common.{◌≡◌, ℕ, zero, suc, ◌<◌, Bool, true, false, cond, List, [], ◌∷◌, length, get_or, set, Some, None, refl, sym, ap, ◌∙◌, arith, subst}
use Rattle.std.proofs.lemmas.List.{set-get_or}
use Rattle.pan_base.specs.Events.{Asked, Stop}
use Rattle.pan_port.specs.Device.{Given, Gave}
use Rattle.device_script.specs.declared.rules.Rule.{Rule}
use Rattle.device_script.specs.Rules.{answers, answer, step}
use Rattle.device_script.specs.Index.{place_where}
use Rattle.device_script.proofs.PlaceLemmas.{next, next_none, next_some}

-- what is given, and the rules then
abbrev pub Stepped : Type 0
Stepped = Given × List Rule

abbrev pub stepped : Given → List Rule → Stepped
stepped g rs = (g, rs)

-- no rule answers
pub step-none : (q : Asked) (rs : List Rule) → place_where (λ r. answers r q) rs ≡ None → step rs q ≡ stepped (Gave Stop) rs
step-none q [] none = refl
step-none q (r ∷ rs) none = by (answers r q) (step-none q rs) none
  where
    by : (t : Bool) → (place_where (λ r. answers r q) rs ≡ None → step rs q ≡ stepped (Gave Stop) rs) → cond t (Some 0) (next (place_where (λ r. answers r q) rs)) ≡ None → cond t (stepped (answer r q).0 ((answer r q).1 ∷ rs)) (stepped (step rs q).0 (r ∷ (step rs q).1)) ≡ stepped (Gave Stop) (r ∷ rs)
    by true others none = absurd (cc)
    by false others none = ap (λ (s : Stepped). stepped s.0 (r ∷ s.1)) (others (next_none (place_where (λ r. answers r q) rs) none))

-- the rule at the place answers
pub record AnswersAt (q : Asked) (rs : List Rule) (i : ℕ) (d : Rule) : Type 0 where
  pub within : i < length rs
  pub steps : step rs q ≡ stepped (answer (get_or rs i d) q).0 (set rs i (answer (get_or rs i d) q).1)

later : (q : Asked) (r : Rule) (rs : List Rule) (j : ℕ) (d : Rule) → answers r q ≡ false → AnswersAt q rs j d → AnswersAt q (r ∷ rs) (suc j) d
later q r rs j d other at =
    let within = at.within in
    record {
      within = omega arith;
      steps = ap (λ t. cond t (stepped (answer r q).0 ((answer r q).1 ∷ rs)) (stepped (step rs q).0 (r ∷ (step rs q).1))) other ∙ ap (λ (s : Stepped). stepped s.0 (r ∷ s.1)) at.steps;
    }

here : (q : Asked) (r : Rule) (rs : List Rule) (d : Rule) → answers r q ≡ true → AnswersAt q (r ∷ rs) zero d
here q r rs d first = record { within = omega arith; steps = ap (λ t. cond t (stepped (answer r q).0 ((answer r q).1 ∷ rs)) (stepped (step rs q).0 (r ∷ (step rs q).1))) first }

pub step-some : (q : Asked) (rs : List Rule) (i : ℕ) (d : Rule) → place_where (λ r. answers r q) rs ≡ Some i → AnswersAt q rs i d
step-some q [] i d some = absurd (cc)
step-some q (r ∷ rs) i d some = by (answers r q) refl (λ j. step-some q rs j d) some
  where
    by : (t : Bool) → answers r q ≡ t → ((j : ℕ) → place_where (λ r. answers r q) rs ≡ Some j → AnswersAt q rs j d) → cond t (Some 0) (next (place_where (λ r. answers r q) rs)) ≡ Some i → AnswersAt q (r ∷ rs) i d
    by true is others some =
        let first : 0 ≡ i = cc in
        subst (λ i. AnswersAt q (r ∷ rs) i d) first (here q r rs d is)
    by false is others some =
        let n = next_some (place_where (λ r. answers r q) rs) i some in
        let more : suc n.0 ≡ i = omega (arith, n.2) in
        subst (λ i. AnswersAt q (r ∷ rs) i d) more (later q r rs n.0 d is (others n.0 n.1))

-- ---- as the code takes it

pub none_stepped : (q : Asked) (rs self : List Rule) → rs ≡ self → place_where (λ r. answers r q) rs ≡ None → stepped (Gave Stop) self ≡ step self q
none_stepped q rs self is none = ap (stepped (Gave Stop)) (sym is) ∙ sym (step-none q rs none) ∙ ap (λ rs. step rs q) is

abbrev pub answered : Given → Rule → Given × Rule
answered g r = (g, r)

pub rule_stepped : (q : Asked) (rs self : List Rule) (i : ℕ) (r new : Rule) (g : Given) → rs ≡ self → place_where (λ r. answers r q) rs ≡ Some i → r ≡ get_or rs i r → answered g new ≡ answer r q
    → stepped g (set rs i new) ≡ step self q
rule_stepped q rs self i r new g is some at gave =
    let taken = step-some q rs i r some in
    ap (λ (a : Given × Rule). stepped a.0 (set rs i a.1)) (gave ∙ ap (λ r. answer r q) at) ∙ sym taken.steps ∙ ap (λ rs. step rs q) is

-- a rule that keeps nothing else
pub rule_stays : (q : Asked) (rs self : List Rule) (i : ℕ) (r : Rule) (g : Given) → rs ≡ self → place_where (λ r. answers r q) rs ≡ Some i → r ≡ get_or rs i r → answered g r ≡ answer r q
    → stepped g self ≡ step self q
rule_stays q rs self i r g is some at gave =
    let same : set rs i r ≡ rs = ap (set rs i) at ∙ set-get_or rs i r in
    ap (stepped g) (sym is ∙ sym same) ∙ rule_stepped q rs self i r r g is some at gave
