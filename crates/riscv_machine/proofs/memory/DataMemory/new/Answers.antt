use Rattle.std.proofs.Common.{refl}
use Rattle.riscv_machine.proofs.memory.DataMemory.new.Goals as goal

pub returns : goal.returns
returns c = rw (c.in_ok-zeros.ensures, c.new.ensures.items, c.in_ok-from_slice.ensures.items, c.in_ok-zeros-2.ensures) refl
