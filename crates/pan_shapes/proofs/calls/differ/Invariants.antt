use Rattle.std.proofs.Common.{◌≡◌, map, drop}
use Rattle.pan_shapes.specs.declared.judging.Judged.{Judged}
use Rattle.pan_shapes.specs.Arguments.{differing}
use Rattle.pan_shapes.proofs.calls.differ.Given as goal

-- none before differs
abbrev pub invariant-loop-i : goal.invariant-loop-i
invariant-loop-i l = differing l.params (map (λ (j : Judged). j.shape) l.args) ≡ differing (drop l.i l.params) (map (λ (j : Judged). j.shape) (drop l.i l.args))
