-- From the forward direction to all of the agreement: a law of any source and any machine whose longer runs go on from the shorter ones.
use Rattle.std.proofs.Common.{◌≡◌, ◌≢◌, ℕ, ◌+◌, ◌-◌, ◌≤◌, ◌<◌, sym, ap, ◌∙◌, subst, List, arith, inl, inr}
use Rattle.std.specs.Prelude.{◌⊎◌, IsTrue}
use Rattle.std.proofs.lemmas.Bool.{false≢true}
use Rattle.pan_base.specs.Events.{Event, Ending, Spent, Stack, Fails, Behaviour, IsPrefix}
use Rattle.pan_control.specs.Seen.{Seen}
use Rattle.pan_agree.specs.Agree.{is_real, Overflows, DoesNoMore, Agree}
use Rattle.pan_tree.specs.Ends.{IsSourceLike}
use Rattle.riscv_isa.specs.Running.{IsSteady}
use Rattle.pan_agree.specs.Laws.{DoesInTime, ForwardInTime, ForwardWithin}

-- how one run stands to another of the same machine
data Stands (a b : Behaviour) (k l : ℕ) : Type 0 where
  Earlier : a.ending ≡ Spent → IsPrefix a.events b.events → Stands a b k l
  Same : a ≡ b → Stands a b k l
  Later : b.ending ≡ Spent → l < k → Stands a b k l

-- what the crate of traces says of prefixes
pub record IsOrder : Type 0 where
  pub reflexive : (xs : List Event) → IsPrefix xs xs
  pub transitive : (xs ys zs : List Event) → IsPrefix xs ys → IsPrefix ys zs → IsPrefix xs zs

module _ (order : IsOrder) (stack : ℕ) (source : ℕ → Seen) (machine : ℕ → Behaviour) (steady : IsSteady machine) (like : IsSourceLike source) (forward : ForwardInTime stack source machine) where
  up : (k j : ℕ) → Stands (machine k) (machine (k + j)) k (k + j)
  up k j = elim (steady.same k j) [ inl e ↦ Earlier e (steady.front k j) | inr e ↦ Same (sym e) ]

  down : (l j : ℕ) → 0 < j → Stands (machine (l + j)) (machine l) (l + j) l
  down l j h = elim (steady.same l j) [ inl e ↦ Later e (omega arith) | inr e ↦ Same e ]

  split : (k l : ℕ) → (k ≤ l) ⊎ (l < k)
  split k l = grind (arith)

  stands : (k l : ℕ) → Stands (machine k) (machine l) k l
  stands k l =
      elim (split k l) [
        | inl h ↦ (let e : k + (l - k) ≡ l = omega arith in subst (λ m. Stands (machine k) (machine m) k m) e (up k (l - k)))
        | inr h ↦ (let e : l + (k - l) ≡ k = omega arith in subst (λ m. Stands (machine m) (machine l) m l) e (down l (k - l) (omega arith)))
      ]

  real_spent : (e : Ending) → e ≡ Spent → IsTrue (is_real e) → ⊥
  real_spent e is real = false≢true (rw is at real)

  real_stack : (e : Ending) → e ≡ Stack → IsTrue (is_real e) → ⊥
  real_stack e is real = false≢true (rw is at real)

  no_more : (k l : ℕ) → (DoesInTime k l (source k) (machine l) ⊎ Overflows stack (source k) (machine l)) → Stands (machine k) (machine l) k l → DoesNoMore source (machine k)
  no_more k l (inl d) (Earlier spent front) = record {
    no_fault = λ e. cc;
    front = (k, subst (λ b. IsPrefix (machine k).events b.events) d.same front);
    same_end = λ real. absurd (real_spent _ spent real);
  }
  no_more k l (inl d) (Same e) =
      let same = e ∙ d.same in
      record {
        no_fault = λ f. like.no_fault k (sym (ap (λ (b : Behaviour). b.ending) same) ∙ f);
        front = (k, subst (λ (b : Behaviour). IsPrefix (machine k).events b.events) same (order.reflexive _));
        same_end = λ real. (k, same);
      }
  no_more k l (inl d) (Later spent less) = absurd (let h : k ≤ l = d.in_time (sym (ap (λ (b : Behaviour). b.ending) d.same) ∙ spent) in omega arith)
  no_more k l (inr o) (Earlier spent front) = record {
    no_fault = λ e. cc;
    front = (k, order.transitive _ _ _ front o.front);
    same_end = λ real. absurd (real_spent _ spent real);
  }
  no_more k l (inr o) (Same e) =
      let end : (machine k).ending ≡ Stack = ap (λ (b : Behaviour). b.ending) e ∙ o.stack_end in
      record {
        no_fault = λ f. cc;
        front = (k, subst (λ (b : Behaviour). IsPrefix b.events ((source k).behaviour).events) (sym e) o.front);
        same_end = λ real. absurd (real_stack _ end real);
      }
  no_more k l (inr o) (Later spent less) = absurd (let h = o.stack_end in cc)

  overflowed : (k l : ℕ) → (machine k).ending ≡ Stack → (DoesInTime k l (source k) (machine l) ⊎ Overflows stack (source k) (machine l)) → Stands (machine k) (machine l) k l → Overflows stack (source k) (machine k)
  overflowed k l end (inl d) (Earlier spent front) = absurd (cc)
  overflowed k l end (inl d) (Same e) = absurd (like.no_stack k (sym (ap (λ (b : Behaviour). b.ending) (e ∙ d.same)) ∙ end))
  overflowed k l end (inl d) (Later spent less) = absurd (let h : k ≤ l = d.in_time (sym (ap (λ (b : Behaviour). b.ending) d.same) ∙ spent) in omega arith)
  overflowed k l end (inr o) (Earlier spent front) = absurd (cc)
  overflowed k l end (inr o) (Same e) = subst (Overflows stack (source k)) (sym e) o
  overflowed k l end (inr o) (Later spent less) = absurd (let h = o.stack_end in cc)

  on_from : (n : ℕ) → ((source n).behaviour).ending ≢ Fails → (k : ℕ) × ((machine k ≡ (source n).behaviour) ⊎ Overflows stack (source n) (machine k))
  on_from n not_failed =
      let f = forward n not_failed in
      (f.0, elim f.1 as (λ _. (machine f.0 ≡ (source n).behaviour) ⊎ Overflows stack (source n) (machine f.0)) [ inl d ↦ inl d.same | inr o ↦ inr o ])

  pub agrees : Agree stack source machine
  agrees = record {
    forward = on_from;
    backward = λ never k. let f = forward k (never k) in no_more k f.0 f.1 (stands k f.0);
    exhausts = λ never k end. let f = forward k (never k) in (k, overflowed k f.0 end f.1 (stands k f.0));
  }

-- what is done within limits is done in time
pub in_time : (stack : ℕ) (limit : ℕ → ℕ) (source : ℕ → Seen) (machine : ℕ → Behaviour) → ForwardWithin stack limit source machine → ForwardInTime stack source machine
in_time stack limit source machine f n not_failed = let (k, _, does) = f n not_failed in (k, does)
