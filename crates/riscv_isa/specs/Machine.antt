-- Whole runs of the machine.
use Rattle.std.specs.Prelude.{ℕ, ◌+◌, List, [], replicate, slice_set}
use Rattle.pan_base.specs.Events.{Replied, Behaviour}
use Rattle.riscv_isa.specs.Running as running
use Rattle.riscv_isa.specs.Step.{State, Config, step, request_of, resumed}
use Rattle.riscv_isa.specs.Image.{ImageParts}

-- from a configuration of the machine, where `go` says how a state goes on
abbrev pub continue : Config → (State → List Replied → Behaviour) → List Replied → Behaviour
continue = running.continue request_of resumed

-- at most so many steps of the machine
abbrev pub run : ℕ → State → List Replied → Behaviour
run = running.run request_of resumed step

-- The machine of an image at its start: x2 is the end of the stack, x3 the begin of the block, x4 that of the stack.
abbrev pub booted : ImageParts → List ℕ → ℕ → State
booted parts memory stack = record {
  registers = slice_set (slice_set (slice_set (replicate 32 0) 2 (0x20000000 + stack)) 3 0x08000000) 4 0x20000000;
  pc = 0x100000000;
  code = parts.code;
  names = parts.names;
  memory = record { block = replicate 1024 0; globals = []; local = memory; stack = replicate stack 0 };
}

-- The trace and the end of the machine of an image with this local memory and so many bytes of stack, with these replies and at most k steps.
abbrev pub machine : ImageParts → List ℕ → ℕ → List Replied → ℕ → Behaviour
machine parts memory stack replies k = run k (booted parts memory stack) replies
