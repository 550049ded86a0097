use Rattle.std.proofs.Common.{◌≡◌, ◌-◌, ◌^◌, min, sum, take}
use Rattle.pan_shapes.proofs.weights.total_of.Given as goal

abbrev pub invariant-loop-weight : goal.invariant-loop-weight
invariant-loop-weight l = l.total ≡ min (sum (take l.weight-index l.weights)) (2 ^ 64 - 1)
