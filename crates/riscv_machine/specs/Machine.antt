-- A machine's state, configuration and meaning.
use Rattle.std.specs.Prelude.{◌≡◌, ◌⊎◌, ◌+◌, ◌≤◌, ℕ, List, length, true, false}
use Rattle.pan_base.specs.Events.{Replied, Behaviour}
use Rattle.pan_port.specs.Asker.{Meaning}
use Rattle.riscv_isa.specs.Running.{Leads}
use Rattle.riscv_isa.specs.Step.{State, Config, Over, step}
use Rattle.riscv_isa.specs.Machine.{continue, run}
use Rattle.riscv_machine.specs.declared.machine.Machine.{Machine}
use Rattle.riscv_machine.specs.declared.machine.MachineEnd.{MachineEnd}
use Rattle.riscv_machine.specs.declared.machine.Phase.TheVariants.{Running, Ended}
use Rattle.riscv_machine.specs.View.{config_in, pending_in, ended_in, ahead_in, ending_of, IsUnrefused}

-- the registers, the program counter, the code, the names and data memory of a machine
abbrev pub state_of : Machine → State
state_of m = record {
  registers = m.registers;
  pc = m.pc;
  code = m.image.code;
  names = m.image.names;
  memory = m.memory;
}

-- its state, and whether it runs, waits or is over
abbrev pub config_of : Machine → Config
config_of m = config_in m.phase (state_of m)

-- at most so many steps from a configuration
abbrev pub goes : Config → List Replied → ℕ → Behaviour
goes c replies k = continue c (run k) replies

-- what a configuration means, with so many bytes of local memory
abbrev pub meaning_in : Config → ℕ → Meaning
meaning_in c size = record {
  go = goes c;
  ahead = ahead_in c;
  pending = pending_in c;
  ended = ended_in c;
  size = size;
  frugal = true;
  starved = false;
}

-- what a machine means
abbrev pub meaning_of : Machine → Meaning
meaning_of m = meaning_in (config_of m) (length m.memory.local)

-- the same number of bytes of local memory
abbrev pub HasSize : Machine → Machine → Type 0
HasSize old new = length new.memory.local ≡ length old.memory.local

-- after so many steps of the old machine the new one goes on
abbrev pub GoesOn : Machine → Machine → ℕ → Type 0
GoesOn old new used = (replies : List Replied) (k : ℕ) →
    goes (config_of old) replies (used + k) ≡ goes (config_of new) replies k

-- the bound on the events of the new machine is within that of the old
abbrev pub IsBounded : Machine → Machine → ℕ → Type 0
IsBounded old new used = (k : ℕ) → ahead_in (config_of new) k ≤ ahead_in (config_of old) (used + k)

-- a machine that didn't run stays as it is, and one that ran was not stopped by a reply
abbrev pub ComesFrom : Machine → Machine → ℕ → Type 0
ComesFrom old new used = ((new ≡ old) × (used ≡ 0)) ⊎ ((old.phase ≡ Running) × IsUnrefused new.phase)

-- so many steps of the budget were used
pub record Ran (old new : Machine) (budget used : ℕ) : Type 0 where
  pub within : used ≤ budget
  pub goes : GoesOn old new used
  pub bound : IsBounded old new used
  pub size : HasSize old new
  pub origin : ComesFrom old new used
  pub spent : new.phase ≡ Running → used ≡ budget

-- A machine that ran and has ended by itself after so many steps stands where it came to its last instruction.
abbrev pub StandsAtEnd : Machine → Machine → ℕ → Type 0
StandsAtEnd old new used = (end : MachineEnd) → old.phase ≡ Running → new.phase ≡ Ended end →
    (n : ℕ) × (used ≡ n + 1) × Leads step n (state_of old) (state_of new) × (step (state_of new) ≡ Over (ending_of end))
