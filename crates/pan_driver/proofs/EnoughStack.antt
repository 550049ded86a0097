-- From a program over frames that never runs out of its stack to a machine that doesn't.
use Rattle.std.proofs.Common.{◌≡◌, ◌≢◌, ℕ, ◌+◌, ◌-◌, ◌≤◌, ◌<◌, List, sym, ap, subst, ◌∙◌, arith, inl, inr}
use Rattle.std.specs.Prelude.{◌⊎◌}
use Rattle.pan_base.specs.Events.{Replied, Ending, Spent, Stack, Fails, Behaviour}
use Rattle.pan_base.specs.Lawful.{IsLawfulMemory, IsLawfulStack}
use Rattle.pan_control.specs.Seen.{Seen}
use Rattle.pan_stage.specs.Stage.{InSteps, IsSeenAs, IsCutShort, IsDoneInSteps, KeepsOverStack, KeepsInSteps, Executes, Stage, StackStage, StepStage}
use Rattle.pan_tree.specs.Ends.{IsSourceLike}
use Rattle.pan_agree.specs.Laws.{DoesInTime}
use Rattle.riscv_isa.specs.Running.{IsSteady}

-- ---- a machine that does in time whatever the source does

-- each run is of a number of steps that is at most the other's, or greater
data Order (k l : ℕ) : Type 0 where
  AtMost : (j : ℕ) → k + j ≡ l → Order k l
  Above : (j : ℕ) → l + j ≡ k → l < k → Order k l

order : (k l : ℕ) → Order k l
order k l = elim (split k l) [ inl h ↦ AtMost (l - k) (omega arith) | inr h ↦ Above (k - l) (omega arith) h ]
  where
    split : (k l : ℕ) → (k ≤ l) ⊎ (l < k)
    split k l = grind (arith)

module _ (source : ℕ → Seen) (machine : ℕ → Behaviour) (steady : IsSteady machine) (like : IsSourceLike source) where
  ended : (k l : ℕ) → (machine k).ending ≡ Stack → DoesInTime k l (source k) (machine l) → machine k ≡ machine l → ⊥
  ended k l end d same = like.no_stack k (sym (ap (λ (b : Behaviour). b.ending) (same ∙ d.same)) ∙ end)

  stopped : (k l : ℕ) → (machine k).ending ≡ Stack → DoesInTime k l (source k) (machine l) → Order k l → ⊥
  stopped k l end d (AtMost j e) =
      elim (steady.same k j) [
        | inl spent ↦ (let s : Spent ≡ Stack = sym spent ∙ end in cc)
        | inr same ↦ ended k l end d (sym same ∙ ap machine e)
      ]
  stopped k l end d (Above j e less) =
      elim (steady.same l j) [
        | inl spent ↦ (let h : k ≤ l = d.in_time (sym (ap (λ (b : Behaviour). b.ending) d.same) ∙ spent) in omega arith)
        | inr same ↦ ended k l end d (sym (ap machine e) ∙ same)
      ]

  pub never_out : ((n : ℕ) → (l : ℕ) × DoesInTime n l (source n) (machine l)) → (k : ℕ) → (machine k).ending ≢ Stack
  never_out does k end = let d = does k in stopped k d.0 end d.1 (order k d.0)

-- ---- the stages

module _ (a : Stage) (b : StackStage) (c : StepStage) (machine : InSteps) (over : KeepsOverStack a b) (steps : KeepsInSteps b c) (executes : Executes c machine)
    (size : ℕ) (m : List ℕ) (r : List Replied) (lawful : IsLawfulStack size) (memory : IsLawfulMemory m)
    (enough : (n : ℕ) → ((b.meaning size m r n).behaviour).ending ≢ Stack) (never : (n : ℕ) → ((a.meaning m r n).behaviour).ending ≢ Fails) where
  in_steps : (n : ℕ) → IsSeenAs (a.meaning m r n) (b.meaning size m r n) → (l : ℕ) × DoesInTime n l (a.meaning m r n) (machine size m r l)
  in_steps n seen =
      let same_end : ((b.meaning size m r n).behaviour).ending ≡ ((a.meaning m r n).behaviour).ending = ap (λ (x : Behaviour). x.ending) seen.behaviour in
      let done = steps.done size m r n lawful memory (λ fails. never n (sym same_end ∙ fails)) in
      let same : c.behaviour size m r done.steps ≡ (a.meaning m r n).behaviour = done.same ∙ seen.behaviour in
      let runs = executes size m r done.steps lawful memory (λ fails. never n (sym (ap (λ (x : Behaviour). x.ending) same) ∙ fails)) in
      (done.steps, record { same = runs ∙ same; in_time = λ spent. done.fuel (same_end ∙ spent) })

  pub does : (n : ℕ) → (l : ℕ) × DoesInTime n l (a.meaning m r n) (machine size m r l)
  does n = elim (over.seen size m r n lawful memory (never n)) [ inl seen ↦ in_steps n seen | inr cut ↦ absurd (enough n cut.ends) ]
