use Rattle.std.proofs.Common.{◌≡◌, drop}
use Rattle.pan_base.specs.MemFiles.{file_at}
use Rattle.pan_base.proofs.memory_files.bytes_of.Given as goal

abbrev pub invariant-loop-file : goal.invariant-loop-file
invariant-loop-file l = file_at (drop l.file-index l.files) l.name ≡ file_at l.files l.name
