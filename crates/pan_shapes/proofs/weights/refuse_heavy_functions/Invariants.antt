use Rattle.std.proofs.Common.{◌≡◌, drop}
use Rattle.pan_shapes.specs.Weights.{heavy_functions}
use Rattle.pan_shapes.proofs.weights.refuse_heavy_functions.Given as goal

-- none before is too heavy
abbrev pub invariant-loop-i : goal.invariant-loop-i
invariant-loop-i l = heavy_functions l.program l.functions ≡ heavy_functions l.program (drop l.i l.functions)
