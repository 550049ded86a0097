-- A machine that waits asks, and takes an answer.
use Rattle.std.proofs.Common.{◌≡◌, ℕ, refl, sym, ap, subst, arith, List, ◌∷◌, Some, Bool, true, false, length}
use Rattle.std.specs.Prelude.{IsTrue}
use Rattle.pan_base.specs.Events.{Asked, Replied, Fits, fits}
use Rattle.pan_port.specs.Asker.{Meaning, Answers, Takes, Ends, IsAsking}
use Rattle.riscv_isa.specs.declared.pending.Pending.{Pending}
use Rattle.riscv_isa.specs.Step.{State, Waits, request_of, resumed}
use Rattle.riscv_isa.specs.Running.{taken}
use Rattle.riscv_isa.specs.Machine.{run}
use Rattle.riscv_machine.specs.declared.machine.Machine.{Machine}
use Rattle.riscv_machine.specs.declared.machine.Phase.TheVariants as phase
use Rattle.riscv_machine.specs.View.{config_in, pending_in}
use Rattle.riscv_machine.specs.Machine.{state_of, config_of, meaning_in, meaning_of, HasSize}
use Rattle.riscv_machine.specs.Taking.{config_by, config_after}

false_of : (b : Bool) → ¬ IsTrue b → b ≡ false
false_of true h = absurd (h refl)
false_of false h = refl

module _ (p : Pending) (s : State) (size : ℕ) where
  abbrev q : Asked
  q = request_of p s

  abbrev waiting : Meaning
  waiting = meaning_in (Waits p s) size

  abbrev after : Bool → Replied → Meaning
  after b r = meaning_in (config_by b p s r) size

  -- by whether the reply fits
  goes_by : (r : Replied) (b : Bool) → fits q r ≡ b → (replies : List Replied) (k : ℕ) →
      waiting.go (r ∷ replies) k ≡ taken b q r (run k (resumed p s r) replies)
  goes_by r b e replies k = ap (λ v. taken v q r (run k (resumed p s r) replies)) e

  takes : (r : Replied) → fits q r ≡ true → Takes waiting (after true r) q r
  takes r e = record {
    goes = goes_by r true e;
    bound = λ k. omega arith;
    runs = (refl, refl);
  }

  ends : (r : Replied) → fits q r ≡ false → Ends waiting (after false r) q r
  ends r e = record {
    goes = goes_by r false e;
    over = record { ended = refl; asks = refl; over = tt; goes = λ replies k. refl };
  }

  same_request : (asked : Asked) → pending_in (Waits p s) ≡ Some asked → q ≡ asked
  same_request asked e = cc

  takes_fit : (r : Replied) → Fits q r → Takes waiting (after (fits q r) r) q r
  takes_fit r fit = subst (λ b. Takes waiting (after b r) q r) (sym fit) (takes r fit)

  ends_unfit : (r : Replied) → ¬ Fits q r → Ends waiting (after (fits q r) r) q r
  ends_unfit r unfit =
      let e = false_of (fits q r) unfit in
      subst (λ b. Ends waiting (after b r) q r) (sym e) (ends r e)

  pub answers : (r : Replied) → Answers waiting (meaning_in (config_after p s r) size) r
  answers r = record {
    fits = λ asked e fit.
        let same = same_request asked e in
        let takes = takes_fit r (subst (λ a. Fits a r) (sym same) fit) in
        subst (λ a. Takes waiting (after (fits q r) r) a r) same takes;
    unfit = λ asked e unfit.
        let same = same_request asked e in
        let ends = ends_unfit r (λ fit. unfit (subst (λ a. Fits a r) same fit)) in
        subst (λ a. Ends waiting (after (fits q r) r) a r) same ends;
    size = refl;
    frugal = refl;
    starved = refl;
  }

  pub asking : IsAsking waiting q
  asking = record {
    asks = refl;
    runs = refl;
    silent = λ k. refl;
    event = λ r replies k fit. (run k (resumed p s r) replies, goes_by r true fit replies k);
  }

-- a machine that waits answers
pub machine_answers : (m n : Machine) (p : Pending) (r : Replied) → m.phase ≡ phase.Waiting p →
    config_of n ≡ config_after p (state_of m) r → HasSize m n → Answers (meaning_of m) (meaning_of n) r
machine_answers m n p r waits after sized =
    let size = length m.memory.local in
    let s = state_of m in
    let waiting = meaning_in (Waits p s) size in
    let f = subst (λ c. Answers waiting (meaning_in c size) r) (sym after) (answers p s size r) in
    let g = subst (λ i. Answers waiting (meaning_in (config_of n) i) r) (sym sized) f in
    subst (λ ph. Answers (meaning_in (config_in ph s) size) (meaning_of n) r) (sym waits) g
