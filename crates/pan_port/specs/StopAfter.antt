-- A device that stops after a while.
use Rattle.std.specs.Prelude.{◌≡◌, ℕ, zero, suc}
use Rattle.pan_base.specs.Events.{Asked, Stop}
use Rattle.pan_port.specs.Device.{Given, Gave, Silent, Gives}

-- the inner device, how many answers are left to it, and how often Stop and Quiet were answered
pub record StopAfterState (D : Type 0) : Type 0 where
  pub inner : D
  pub left : ℕ
  pub stops : ℕ
  pub silences : ℕ

-- With no answer left it stops. Else it answers as the inner device, and has one answer less where that isn't silent.
abbrev pub PassesOn : {D : Type 0} → Gives D → ℕ → D → Asked → Given → D → ℕ → Type 0
PassesOn gives zero old q g new left = (g ≡ Gave Stop) × (new ≡ old) × (left ≡ 0)
PassesOn gives (suc n) old q Silent new left = gives old q Silent new × (left ≡ suc n)
PassesOn gives (suc n) old q (Gave r) new left = gives old q (Gave r) new × (left ≡ n)
