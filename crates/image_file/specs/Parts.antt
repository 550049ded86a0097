-- The parts of an image to be written.
use Rattle.std.specs.Prelude.{ℕ, Option}
use Rattle.riscv_isa.specs.declared.code.Code.{Code}
use Rattle.riscv_isa.specs.declared.code.Names.{Names}
use Rattle.riscv_isa.specs.Image.{ImageParts}

-- linked code, the names of foreign functions that it calls, and a bound
abbrev pub parts_of : Code → Names → Option ℕ → ImageParts
parts_of code names bound = record { code = code.bytes; names = names.list; bound = bound }
