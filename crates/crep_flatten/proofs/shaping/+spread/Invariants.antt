use Rattle.std.proofs.Common.{◌≡◌, map, take}
use Rattle.check_soundness.specs.Spread.{spread}
use Rattle.crep_flatten.proofs.shaping.+spread.Given as goal

abbrev pub invariant-spread_each-loop-i : goal.invariant-spread_each-loop-i
invariant-spread_each-loop-i l = l.all ≡ map spread (take l.i l.shapes)
