use Rattle.riscv_isa.proofs.Registers.{written, unwritten, zero_is, zero_unwritten}
use Rattle.riscv_isa.proofs.laws.registers_hold.Goals as goal

pub returns : goal.returns
returns c = record {
  same = written;
  other = unwritten;
  zero = zero_is;
  dropped = zero_unwritten;
}
