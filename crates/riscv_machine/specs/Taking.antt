-- What a reply leaves, and why a machine pauses.
use Rattle.std.specs.Prelude.{◌≡◌, Bool, true, false}
use Rattle.pan_base.specs.declared.events.End.TheVariants as told_end
use Rattle.pan_base.specs.Events.{Replied, Stopped, fits, end_of}
use Rattle.pan_port.specs.declared.asker.Pause.{Pause}
use Rattle.pan_port.specs.declared.asker.Pause.TheVariants as pause
use Rattle.riscv_isa.specs.declared.pending.Pending.{Pending}
use Rattle.riscv_isa.specs.Step.{State, Config, Runs, Over, request_of, resumed}
use Rattle.riscv_machine.specs.declared.machine.Phase.{Phase}
use Rattle.riscv_machine.specs.declared.machine.Phase.TheVariants as phase
use Rattle.riscv_machine.specs.View.{ending_of}

-- by whether the reply fits
abbrev pub config_by : Bool → Pending → State → Replied → Config
config_by true p s r = Runs (resumed p s r)
config_by false p s r = Over (Stopped (request_of p s))

-- the configuration after a reply to what is pending
abbrev pub config_after : Pending → State → Replied → Config
config_after p s r = config_by (fits (request_of p s) r) p s r

-- it pauses since it has no steps left, asks, or is over
abbrev pub PausedAt : Phase → Pause → Type 0
PausedAt phase.Running why = why ≡ pause.Spent
PausedAt (phase.Waiting p) why = why ≡ pause.Asks
PausedAt (phase.Refused p) why = why ≡ pause.Ended told_end.Stopped
PausedAt (phase.Ended end) why = why ≡ pause.Ended (end_of (ending_of end))
