use Rattle.pan_base.proofs.ByteLaws.{part_read_back, part_elsewhere, part_length, with_part_is_small, part_is_small}
use Rattle.pan_base.proofs.laws.parts_of_bytes.Goals as goal

pub returns : goal.returns
returns c = record {
  part_read_back = part_read_back;
  part_elsewhere = part_elsewhere;
  same_length = part_length;
  stay_bytes = with_part_is_small;
  part_is_bytes = part_is_small;
}
