use Rattle.riscv_isa.proofs.DecodedLaws.{reads, fits}
use Rattle.riscv_isa.proofs.Ranges.{decoded_in_range}
use Rattle.riscv_isa.proofs.laws.decoded_is_the_table.Goals as goal

pub returns : goal.returns
returns c = record {
  reads = reads;
  fits = fits;
  range = decoded_in_range;
}
