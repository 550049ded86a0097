-- A machine's phase as the definitions see it.
use Rattle.std.specs.Prelude.{◌≡◌, ℕ, ◌+◌, ◌&&◌, Bool, true, nat_lt, nat_le, Option, Some, None}
use Rattle.pan_base.specs.Events.{Asked, Ending, Exit, Uncaught, Stopped, Stack, Fault}
use Rattle.riscv_isa.specs.declared.pending.Buffer.{Buffer}
use Rattle.riscv_isa.specs.declared.pending.Pending.TheVariants as pending
use Rattle.riscv_isa.specs.Step.{State, Config, Runs, Waits, Over, request_of}
use Rattle.riscv_machine.specs.declared.machine.MachineEnd.{MachineEnd}
use Rattle.riscv_machine.specs.declared.machine.MachineEnd.TheVariants as machine_end
use Rattle.riscv_machine.specs.declared.machine.Phase.{Phase}
use Rattle.riscv_machine.specs.declared.machine.Phase.TheVariants as phase

-- an end as a run's ending
abbrev pub ending_of : MachineEnd → Ending
ending_of (machine_end.Exit n) = Exit n
ending_of (machine_end.Uncaught n) = Uncaught n
ending_of machine_end.Stack = Stack
ending_of machine_end.Fault = Fault

-- the configuration of a state in a phase
abbrev pub config_in : Phase → State → Config
config_in phase.Running s = Runs s
config_in (phase.Waiting p) s = Waits p s
config_in (phase.Refused p) s = Over (Stopped (request_of p s))
config_in (phase.Ended end) s = Over (ending_of end)

-- what a configuration asks, if it waits
abbrev pub pending_in : Config → Option Asked
pending_in (Waits p s) = Some (request_of p s)
pending_in _ = None

-- how a configuration has ended, if it is over
abbrev pub ended_in : Config → Option Ending
ended_in (Over e) = Some e
ended_in _ = None

-- a bound on the events of a configuration that may take so many steps
abbrev pub ahead_in : Config → ℕ → ℕ
ahead_in (Runs s) k = k
ahead_in (Waits p s) k = k + 1
ahead_in (Over e) k = 0

-- a buffer lies in so many bytes
abbrev pub is_inside : Buffer → ℕ → Bool
is_inside b size = nat_le (b.at + b.count) size

-- A load waits to write one of the 32 registers, and a foreign call is one of so many, on buffers in so many bytes.
abbrev pub is_lawful : Phase → ℕ → ℕ → Bool
is_lawful (phase.Waiting (pending.Load op rd addr)) names size = nat_lt rd 32
is_lawful (phase.Waiting (pending.Foreign number conf array)) names size =
    nat_lt number names && is_inside conf size && is_inside array size
is_lawful _ names size = true

-- it was not stopped
abbrev pub IsUnrefused : Phase → Type 0
IsUnrefused (phase.Refused p) = ⊥
IsUnrefused _ = Unit {0}

-- where it has ended, its state is the one before
abbrev pub IsKeptAtEnd : Phase → State → State → Type 0
IsKeptAtEnd (phase.Ended end) before after = after ≡ before
IsKeptAtEnd _ before after = Unit {0}
