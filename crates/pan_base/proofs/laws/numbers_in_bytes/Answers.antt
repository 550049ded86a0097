use Rattle.std.proofs.Common.{arith}
use Rattle.pan_base.proofs.ByteLaws.{number_read_back, number_elsewhere, with_number_length, with_number_is_small, number_is_small, number_by_bytes, written_by_bytes, low_part_written}
use Rattle.pan_base.proofs.laws.numbers_in_bytes.Goals as goal

pub returns : goal.returns
returns c = record {
  number_read_back = λ size bytes at n inside. number_read_back size bytes at n (omega arith);
  number_elsewhere = number_elsewhere;
  low_bytes_alone = low_part_written;
  same_length = with_number_length;
  stay_bytes = with_number_is_small;
  number_fits = number_is_small;
  read_by_bytes = number_by_bytes;
  written_by_bytes = written_by_bytes;
}
