use Rattle.std.proofs.Common.{◌≡◌, false, take}
use Rattle.std.specs.List.{list_any}
use Rattle.crep_flatten.specs.Reads.{reads_memory}
use Rattle.crep_flatten.proofs.moving.read_memory.Given as goal

abbrev pub invariant-loop-word : goal.invariant-loop-word
invariant-loop-word l = list_any reads_memory (take l.word-index l.words) ≡ false
