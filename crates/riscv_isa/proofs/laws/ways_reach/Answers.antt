use Rattle.riscv_isa.proofs.WayLaws.{jumps_far, makes_address, jumps_near}
use Rattle.riscv_isa.proofs.laws.ways_reach.Goals as goal

pub returns : goal.returns
returns c = record {
  far = jumps_far;
  address = makes_address;
  near = jumps_near;
}
