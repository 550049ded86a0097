use Rattle.std.proofs.Common.{◌≡◌, ◌+◌, drop}
use Rattle.std.specs.List.{prefix_len}
use Rattle.device_script.specs.Cutting.{is_in_line}
use Rattle.device_script.proofs.cutting.line_len.Given as goal

abbrev pub invariant-loop-i : goal.invariant-loop-i
invariant-loop-i l = prefix_len is_in_line l.bytes ≡ l.i + prefix_len is_in_line (drop l.i l.bytes)
