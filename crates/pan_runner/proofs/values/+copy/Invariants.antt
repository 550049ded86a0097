use Rattle.std.proofs.Common.{◌≡◌, take}
use Rattle.pan_runner.proofs.values.+copy.Given as goal

abbrev pub invariant-copy_all-loop-i : goal.invariant-copy_all-loop-i
invariant-copy_all-loop-i l = l.all ≡ take l.i l.values
