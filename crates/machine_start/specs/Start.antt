-- How the machine starts for a program whose code isn't linked yet.
use Rattle.std.specs.Prelude.{ℕ, List, [], None}
use Rattle.pan_stage.specs.Data.{words_bytes}
use Rattle.pan_stage.specs.declared.program.Program.{Program}
use Rattle.riscv_isa.specs.Machine.{booted}
use Rattle.riscv_isa.specs.Step.{State}

-- as for an image, without code, with the program's names and the bytes of its globals, on this local memory and a stack of this size
abbrev pub started : {F : Type 0} → Program F → List ℕ → ℕ → State
started p memory size =
    let s = booted (record { code = []; names = p.names; bound = None }) memory size in
    record s { memory = record s.memory { globals = words_bytes p.globals } }
