-- Sound states of the machine, and what a state goes on to.
use Rattle.std.specs.Prelude.{◌≡◌, ℕ, ◌≤◌, length, slice_index}
use Rattle.pan_base.specs.Words.{IsBytes, IsWord}
use Rattle.pan_base.specs.Events.{Replied, Fits}
use Rattle.riscv_isa.specs.declared.place.Region.{Region}
use Rattle.riscv_isa.specs.Regions.{AreApart, bytes_of}
use Rattle.riscv_isa.specs.Step.{State, Config, Runs, Waits, Over, request_of, resumed}

-- 32 registers that are words, a program counter that is one, bytes as code, at most as many as an image may hold, and regions of bytes that are apart
pub record IsSound (s : State) : Type 0 where
  pub count : length s.registers ≡ 32
  pub words : (i : ℕ) → IsWord (slice_index s.registers i)
  pub pc : IsWord s.pc
  pub most : length s.code ≤ 268439552
  pub code : IsBytes s.code
  pub apart : AreApart s.memory
  pub bytes : (r : Region) → IsBytes (bytes_of r s.memory)

-- what no step changes: the code, the names, and how large the regions are
pub record IsFixed (s t : State) : Type 0 where
  pub code : t.code ≡ s.code
  pub names : t.names ≡ s.names
  pub sizes : (r : Region) → length (bytes_of r t.memory) ≡ length (bytes_of r s.memory)

-- where it goes on, by itself or after a reply that fits, the next state is of this kind
abbrev pub GoesOnIn : (State → Type 0) → Config → Type 0
GoesOnIn P (Runs t) = P t
GoesOnIn P (Waits p t) = (r : Replied) → Fits (request_of p t) r → P (resumed p t r)
GoesOnIn P (Over e) = Unit {0}
