-- What a script device gives.
use Rattle.std.specs.Prelude.{◌≡◌, ℕ, List}
use Rattle.pan_base.specs.Events.{Asked}
use Rattle.pan_port.specs.Device.{Given}
use Rattle.device_script.specs.declared.rules.Rule.{Rule}
use Rattle.device_script.specs.Rules.{step}

-- the rules with what they keep, and how often Stop and Quiet were answered
pub record DeviceState : Type 0 where
  pub rules : List Rule
  pub stops : ℕ
  pub silences : ℕ

-- the rules give this, and are then those of the step
abbrev pub Steps : DeviceState → Asked → Given → DeviceState → Type 0
Steps old q g new = (g ≡ (step old.rules q).0) × (new.rules ≡ (step old.rules q).1)
