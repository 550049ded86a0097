use Rattle.std.proofs.Common.{◌≡◌, map, take}
use Rattle.loop_lower.specs.Lowered.{lower_function as lowered}
use Rattle.loop_lower.proofs.functions.lower_functions.Given as goal

abbrev pub invariant-loop-i : goal.invariant-loop-i
invariant-loop-i l = l.lowered ≡ map lowered (take l.i l.functions)
