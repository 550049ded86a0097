-- Runs of anything that steps: they go on with more steps, silent steps are taken one after another, and a step that asks is an event.
use Rattle.std.proofs.Common.{◌≡◌, ℕ, ◌+◌, zero, suc, refl, sym, ap, ◌∙◌, subst, zero-add, List, [], ◌∷◌, Bool, true, false, arith, inl, inr}
use Rattle.std.specs.Prelude.{◌⊎◌}
use Rattle.pan_base.specs.Events.{Asked, Replied, Ending, Stopped, Asks, Spent, Behaviour, only, before, fits, IsPrefix}
use Rattle.pan_base.proofs.PrefixLaws.{prefix_refl}
use Rattle.riscv_isa.specs.Running.{Config, Runs, Waits, Over, taken, continue, run, Leads, IsSteady}
use Rattle.riscv_isa.specs.Step.{step, request_of, resumed}
use Rattle.riscv_isa.specs.Image.{ImageParts}
use Rattle.riscv_isa.specs.Machine.{machine, booted}

-- a longer run is the same, or goes on from one that was spent
pub record GoesOn (a b : Behaviour) : Type 0 where
  pub front : IsPrefix a.events b.events
  pub same : (a.ending ≡ Spent) ⊎ (b ≡ a)

goes_on_refl : (b : Behaviour) → GoesOn b b
goes_on_refl b = record { front = prefix_refl b.events; same = inr refl }

from_spent : (b : Behaviour) → GoesOn (only Spent) b
from_spent b = record { front = record { rest = b.events; all = refl }; same = inl refl }

before_on : (q : Asked) (r : Replied) (a b : Behaviour) → GoesOn a b → GoesOn (before q r a) (before q r b)
before_on q r a b h = record {
  front = record { rest = h.front.rest; all = ap (λ t. (record { request = q; reply = r }) ∷ t) h.front.all };
  same = elim h.same as (λ _. (a.ending ≡ Spent) ⊎ (before q r b ≡ before q r a)) [ inl e ↦ inl e | inr e ↦ inr (ap (before q r) e) ];
}

taken_on : (t : Bool) (q : Asked) (r : Replied) (a b : Behaviour) → GoesOn a b → GoesOn (taken t q r a) (taken t q r b)
taken_on true q r a b h = before_on q r a b h
taken_on false q r a b h = goes_on_refl _

pub leads_on : {P S : Type 0} (next : S → Config P S) (n m : ℕ) (s t u : S) → Leads next n s t → Leads next m t u → Leads next (n + m) s u
leads_on next zero m s t u first then = subst (λ x. Leads next (0 + m) x u) (sym first) (subst (λ k. Leads next k t u) (sym (zero-add m)) then)
leads_on next (suc n) m s t u (v, is, first) then =
    let e : suc (n + m) ≡ suc n + m = omega arith in
    subst (λ k. Leads next k s u) e (v, is, leads_on next n m v t u first then)

module _ {P S : Type 0} (asks : P → S → Asked) (resume : P → S → Replied → S) (next : S → Config P S) where
  -- ---- more steps

  continue_on : (c : Config P S) (f g : S → List Replied → Behaviour) (replies : List Replied) → ((s : S) (replies : List Replied) → GoesOn (f s replies) (g s replies)) → GoesOn (continue asks resume c f replies) (continue asks resume c g replies)
  continue_on (Runs s) f g replies h = h s replies
  continue_on (Over e) f g replies h = goes_on_refl _
  continue_on (Waits p s) f g [] h = goes_on_refl _
  continue_on (Waits p s) f g (r ∷ replies) h = taken_on (fits (asks p s) r) (asks p s) r _ _ (h (resume p s r) replies)

  pub more_steps : (k j : ℕ) (s : S) (replies : List Replied) → GoesOn (run asks resume next k s replies) (run asks resume next (k + j) s replies)
  unfolding run
  more_steps zero j s replies = from_spent _
  more_steps (suc k) j s replies =
      let e : suc k + j ≡ suc (k + j) = omega arith in
      subst (λ n. GoesOn (run asks resume next (suc k) s replies) (run asks resume next n s replies)) (sym e)
      (continue_on (next s) (run asks resume next k) (run asks resume next (k + j)) replies (λ t rs. more_steps k j t rs))

  pub steady : (s : S) (replies : List Replied) → IsSteady (λ k. run asks resume next k s replies)
  steady s replies = record {
    front = λ k j. (more_steps k j s replies).front;
    same = λ k j. (more_steps k j s replies).same;
  }

  -- ---- silent steps

  pub run_on : (n k : ℕ) (s t : S) (replies : List Replied) → Leads next n s t → run asks resume next (n + k) s replies ≡ run asks resume next k t replies
  unfolding run
  run_on zero k s t replies leads = ap (λ j. run asks resume next j s replies) (zero-add k) ∙ ap (λ x. run asks resume next k x replies) leads
  run_on (suc n) k s t replies (u, is, leads) =
      let e : suc n + k ≡ suc (n + k) = omega arith in
      ap (λ j. run asks resume next j s replies) e
      ∙ ap (λ c. continue asks resume c (run asks resume next (n + k)) replies) is
      ∙ run_on n k u t replies leads

  -- ---- steps that ask, and the end

  pub run_unanswered : (k : ℕ) (p : P) (s t : S) → next s ≡ Waits p t → run asks resume next (suc k) s [] ≡ only (Asks (asks p t))
  unfolding run
  run_unanswered k p s t is = ap (λ c. continue asks resume c (run asks resume next k) []) is

  run_taken : (k : ℕ) (p : P) (s t : S) (r : Replied) (replies : List Replied) (b : Bool) → next s ≡ Waits p t → fits (asks p t) r ≡ b
      → run asks resume next (suc k) s (r ∷ replies) ≡ taken b (asks p t) r (run asks resume next k (resume p t r) replies)
  unfolding run
  run_taken k p s t r replies b is fit =
      ap (λ c. continue asks resume c (run asks resume next k) (r ∷ replies)) is
      ∙ ap (λ v. taken v (asks p t) r (run asks resume next k (resume p t r) replies)) fit

  pub run_answered : (k : ℕ) (p : P) (s t : S) (r : Replied) (replies : List Replied) → next s ≡ Waits p t → fits (asks p t) r ≡ true
      → run asks resume next (suc k) s (r ∷ replies) ≡ before (asks p t) r (run asks resume next k (resume p t r) replies)
  run_answered k p s t r replies is fit = run_taken k p s t r replies true is fit

  pub run_stopped : (k : ℕ) (p : P) (s t : S) (r : Replied) (replies : List Replied) → next s ≡ Waits p t → fits (asks p t) r ≡ false
      → run asks resume next (suc k) s (r ∷ replies) ≡ only (Stopped (asks p t))
  run_stopped k p s t r replies is fit = run_taken k p s t r replies false is fit

  pub run_over : (k : ℕ) (s : S) (e : Ending) (replies : List Replied) → next s ≡ Over e → run asks resume next (suc k) s replies ≡ only e
  unfolding run
  run_over k s e replies is = ap (λ c. continue asks resume c (run asks resume next k) replies) is

-- ---- the machine

pub machine_steady : (parts : ImageParts) (memory : List ℕ) (stack : ℕ) (replies : List Replied) → IsSteady (machine parts memory stack replies)
machine_steady parts memory stack replies = steady request_of resumed step (booted parts memory stack) replies
