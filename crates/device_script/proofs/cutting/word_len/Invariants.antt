use Rattle.std.proofs.Common.{◌≡◌, ◌+◌, drop}
use Rattle.std.specs.List.{prefix_len}
use Rattle.device_script.specs.Cutting.{is_in_word}
use Rattle.device_script.proofs.cutting.word_len.Given as goal

abbrev pub invariant-loop-i : goal.invariant-loop-i
invariant-loop-i l = prefix_len is_in_word l.line ≡ l.i + prefix_len is_in_word (drop l.i l.line)
