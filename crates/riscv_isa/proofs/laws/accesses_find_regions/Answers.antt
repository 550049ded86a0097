use Rattle.riscv_isa.proofs.Memories.{read_back, read_beside, bytes_elsewhere}
use Rattle.riscv_isa.proofs.Places.{placed_exactly, windowed_exactly}
use Rattle.riscv_isa.proofs.laws.accesses_find_regions.Goals as goal

pub returns : goal.returns
returns c = record {
  region = placed_exactly;
  window = windowed_exactly;
  read_back = read_back;
  read_beside = read_beside;
  read_elsewhere = bytes_elsewhere;
}
