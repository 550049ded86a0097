use Rattle.std.proofs.Common.{◌≡◌, ◌-◌, ◌^◌, map, min, sum, take}
use Rattle.pan_shapes.specs.declared.judging.Judged.{Judged}
use Rattle.pan_shapes.proofs.calls.weight_of_all.Given as goal

abbrev pub invariant-loop-arg : goal.invariant-loop-arg
invariant-loop-arg l = l.total ≡ min (sum (map (λ (j : Judged). j.weight) (take l.arg-index l.args))) (2 ^ 64 - 1)
