use Rattle.std.proofs.Common.{◌≡◌, drop}
use Rattle.std.specs.Prelude.{max}
use Rattle.pan_stage.specs.Sums.{above}
use Rattle.loop_lower.proofs.numbers.above_numbers.Given as goal

abbrev pub invariant-loop-i : goal.invariant-loop-i
invariant-loop-i l = max l.most (above (drop l.i l.numbers)) ≡ above l.numbers
