use Rattle.pan_stage.proofs.DataLaws.{read_back, read_elsewhere, same_lengths, stay_bytes, word_read, word_written, byte_read, byte_written, read_by_bytes, write_by_bytes, global_at_start}
use Rattle.pan_stage.proofs.laws.data_memory.Goals as goal

pub returns : goal.returns
returns c = record {
  read_back = read_back;
  read_elsewhere = read_elsewhere;
  same_lengths = same_lengths;
  stay_bytes = stay_bytes;
  word_read = word_read;
  word_written = word_written;
  byte_read = byte_read;
  byte_written = byte_written;
  read_by_bytes = read_by_bytes;
  write_by_bytes = write_by_bytes;
  first_globals = global_at_start;
}
