-- Which machines don't agree with a source that loops in silence, or with one that exits.
use Rattle.std.proofs.Common.{◌≡◌, ◌⊎◌, inl, inr, ℕ, zero, suc, refl, ap, [], ◌∷◌, arith}
use Rattle.std.proofs.lemmas.Bool.{false≢true}
use Rattle.pan_base.specs.Events.{Event, Exit, Spent, Stack, Fault, Behaviour, only}
use Rattle.pan_agree.specs.Agree.{Overflows, DoesNoMore, NeverFails, Agree}
use Rattle.pan_agree.specs.Samples.{loops, exits, at_once}

never_fails : NeverFails loops
never_fails n e = cc

module _ (stack : ℕ) where
  pub no_fault : Agree stack loops (at_once (only Fault)) → ⊥
  no_fault a = (a.backward never_fails 1).no_fault refl

  pub no_stack : Agree stack loops (at_once (only Stack)) → ⊥
  no_stack a = let o = (a.exhausts never_fails 1 refl).1 in let h = o.deeper in omega (arith, h)

  pub no_exit : Agree stack loops (at_once (only (Exit 0))) → ⊥
  no_exit a = let e = (a.backward never_fails 1).same_end refl in let same : Exit 0 ≡ Spent = ap (λ (b : Behaviour). b.ending) e.1 in cc same

  pub no_event : (e : Event) → Agree stack loops (at_once (record { events = e ∷ []; ending = Spent })) → ⊥
  no_event e a = let f = (a.backward never_fails 1).front in let h = (f.1).all in cc h

  idle_does : (k : ℕ) → ((at_once (only Spent) k ≡ only (Exit 0)) ⊎ Overflows stack (exits 1) (at_once (only Spent) k)) → ⊥
  idle_does zero (inl e) = let same : Spent ≡ Exit 0 = ap (λ (b : Behaviour). b.ending) e in cc same
  idle_does (suc k) (inl e) = let same : Spent ≡ Exit 0 = ap (λ (b : Behaviour). b.ending) e in cc same
  idle_does zero (inr o) = let same = o.stack_end in cc same
  idle_does (suc k) (inr o) = let same = o.stack_end in cc same

  pub no_idleness : Agree stack exits (at_once (only Spent)) → ⊥
  no_idleness a = let f = a.forward 1 (λ e. cc) in idle_does f.0 f.1

  idle : (k : ℕ) → DoesNoMore loops (at_once (only Spent) k)
  idle zero = record { no_fault = λ e. cc; front = (0, record { rest = []; all = refl }); same_end = λ real. absurd (false≢true real) }
  idle (suc k) = record { no_fault = λ e. cc; front = (0, record { rest = []; all = refl }); same_end = λ real. absurd (false≢true real) }

  idle_stack : (k : ℕ) → (at_once (only Spent) k).ending ≡ Stack → ⊥
  idle_stack zero e = cc
  idle_stack (suc k) e = cc

  pub right : Agree stack loops (at_once (only Spent))
  right = record {
    forward = λ n _. (0, inl refl);
    backward = λ _ k. idle k;
    exhausts = λ _ k e. absurd (idle_stack k e);
  }
