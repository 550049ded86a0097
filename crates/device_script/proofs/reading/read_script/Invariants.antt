use Rattle.std.proofs.Common.{◌≡◌, ◌+◌, ◌≤◌, length}
use Rattle.device_script.specs.Lines.{lines}
use Rattle.device_script.specs.Script.{with_lines, script_of_file}
use Rattle.device_script.proofs.reading.read_script.Given as goal

-- what was read, and then the lines that are left
abbrev pub invariant-lines : goal.invariant-lines
invariant-lines l = record {
  so_far : script_of_file l.bytes ≡ with_lines l.number l.script (lines l.rest);
  within : l.number + length l.rest ≤ length l.bytes + 1;
}

abbrev pub decreases-lines : goal.decreases-lines
decreases-lines l = length l.rest
