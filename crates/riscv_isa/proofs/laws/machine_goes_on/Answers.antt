use Rattle.riscv_isa.proofs.RunLaws.{machine_steady}
use Rattle.riscv_isa.proofs.laws.machine_goes_on.Goals as goal

pub returns : goal.returns
returns c = machine_steady
