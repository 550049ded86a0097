use Rattle.riscv_isa.proofs.Spelling.{spelled_length, spelled_bytes}
use Rattle.riscv_isa.proofs.Fetching.{spelled_at, stepped}
use Rattle.riscv_isa.proofs.spelled.spelled_code.Goals as goal

pub returns : goal.returns
returns c = record { long = spelled_length; bytes = spelled_bytes; held = spelled_at; acted = stepped }
