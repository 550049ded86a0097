-- What no pass may do.
use Rattle.std.specs.Prelude.{◌⊎◌}
use Rattle.std.proofs.Common.{◌≡◌, ℕ, zero, suc, ◌+◌, ◌≤◌, [], ◌∷◌, refl, sym, ap, ◌∙◌, inl, inr, arith}
use Rattle.pan_base.specs.Events.{Ending, Exit, Spent, Stack, Behaviour, only}
use Rattle.pan_base.specs.Lawful.{IsLawfulMemory, IsLawfulStack}
use Rattle.pan_stage.specs.Stage.{Keeps, KeepsOverStack, IsSeenAs, IsCutShort, RunsInSteps, IsDoneInSteps, IsCutShortInSteps}
use Rattle.pan_chain.specs.Samples.{sample, needing, without_stack, exits_after}

no_memory : IsLawfulMemory []
no_memory = record { whole = refl; most = omega arith; bytes = λ i. omega arith }

small_stack : IsLawfulStack 64
small_stack = record { whole = refl; most = omega arith }

pub no_dearer : (toll : ℕ) → Keeps (sample (only (Exit 0)) 64 toll) (sample (only (Exit 0)) 64 (toll + 1)) → ⊥
no_dearer toll k = let s = k.seen [] [] 0 no_memory (λ e. cc) in let h = s.toll in omega (arith, h)

pub no_other_end : (toll : ℕ) → Keeps (sample (only (Exit 0)) 64 toll) (sample (only (Exit 1)) 64 toll) → ⊥
no_other_end toll k = let s = k.seen [] [] 0 no_memory (λ e. cc) in let same : Exit 1 ≡ Exit 0 = ap (λ (b : Behaviour). b.ending) s.behaviour in let h = ap value same in omega (arith, h)
  where
    value : Ending → ℕ
    value (Exit n) = n
    value _ = 0

pub no_other_cost : (toll : ℕ) → Keeps (sample (only (Exit 0)) 64 toll) (sample (only (Exit 0)) 80 toll) → ⊥
no_other_cost toll k = let s = k.seen [] [] 0 no_memory (λ e. cc) in let h = s.deepest in omega (arith, h)

pub no_wider : Keeps (needing (record { frames = 64 ∷ []; code = 8 })) (needing (record { frames = 72 ∷ []; code = 8 })) → ⊥
no_wider k = let h = ((k.needs).frames).0 in omega (arith, h)

pub no_longer : Keeps (needing (record { frames = 64 ∷ []; code = 8 })) (needing (record { frames = 64 ∷ []; code = 12 })) → ⊥
no_longer k = let h = (k.needs).code in omega (arith, h)

pub not_early : (toll : ℕ) → KeepsOverStack (sample (only (Exit 0)) 64 toll) without_stack → ⊥
not_early toll k = by (k.seen 64 [] [] 0 small_stack no_memory (λ e. cc))
  where
    by : IsSeenAs ((sample (only (Exit 0)) 64 toll).meaning [] [] 0) (without_stack.meaning 64 [] [] 0) ⊎ IsCutShort 64 ((sample (only (Exit 0)) 64 toll).meaning [] [] 0) (without_stack.meaning 64 [] [] 0) → ⊥
    by (inl s) = let same : Stack ≡ Exit 0 = ap (λ (b : Behaviour). b.ending) s.behaviour in cc same
    by (inr c) = let h = c.deeper in omega (arith, h)

-- before its exit the machine has steps left
not_yet : (toll k : ℕ) → k ≤ toll → exits_after toll k ≡ only Spent
not_yet toll zero le = refl
not_yet zero (suc k) le = absurd (omega (arith, le))
not_yet (suc toll) (suc k) le = not_yet toll k (omega (arith, le))

then_exits : (toll : ℕ) → exits_after toll (suc toll) ≡ only (Exit 0)
then_exits zero = refl
then_exits (suc toll) = then_exits toll

pub not_slow : (toll : ℕ) → RunsInSteps (sample (only (Exit 0)) 64 toll) (λ size m r. exits_after toll) → ⊥
not_slow toll k = by (k 64 [] [] 0 small_stack no_memory (λ e. cc))
  where
    by : IsDoneInSteps 0 ((sample (only (Exit 0)) 64 toll).meaning [] [] 0) (exits_after toll) ⊎ IsCutShortInSteps 64 ((sample (only (Exit 0)) 64 toll).meaning [] [] 0) (exits_after toll) → ⊥
    by (inl d) = let same : Spent ≡ Exit 0 = ap (λ (b : Behaviour). b.ending) (sym (not_yet toll d.steps d.toll) ∙ d.same) in cc same
    by (inr c) = let h = c.deeper in omega (arith, h)

pub right : (toll : ℕ) → RunsInSteps (sample (only (Exit 0)) 64 (toll + 1)) (λ size m r. exits_after toll)
right toll size m r n stack memory fine = inl (record { steps = suc toll; same = then_exits toll; fuel = λ e. cc e; toll = omega arith })
