-- What the law of both directions asks of the forward direction.
use Rattle.std.specs.Prelude.{◌≡◌, ◌≢◌, ◌⊎◌, ℕ, ◌≤◌}
use Rattle.pan_base.specs.Events.{Spent, Fails, Behaviour}
use Rattle.pan_control.specs.Seen.{Seen}
use Rattle.pan_agree.specs.Agree.{Overflows}

-- the machine does in k steps what the source did with n units of fuel, and took at least as many steps as units where the source was spent
pub record DoesInTime (n k : ℕ) (s : Seen) (b : Behaviour) : Type 0 where
  pub same : b ≡ s.behaviour
  pub in_time : (s.behaviour).ending ≡ Spent → n ≤ k

-- The forward direction, where the steps are at least the fuel that was used: a source that is spent used all of it.
abbrev pub ForwardInTime : ℕ → (ℕ → Seen) → (ℕ → Behaviour) → Type 0
ForwardInTime stack source machine =
    (n : ℕ) → ((source n).behaviour).ending ≢ Fails
    → (k : ℕ) × (DoesInTime n k (source n) (machine k) ⊎ Overflows stack (source n) (machine k))

-- The same within limits: in no more steps than the limit for so much fuel allows, also where the stack is exhausted.
abbrev pub ForwardWithin : ℕ → (ℕ → ℕ) → (ℕ → Seen) → (ℕ → Behaviour) → Type 0
ForwardWithin stack limit source machine =
    (n : ℕ) → ((source n).behaviour).ending ≢ Fails
    → (k : ℕ) × (k ≤ limit n) × (DoesInTime n k (source n) (machine k) ⊎ Overflows stack (source n) (machine k))
