use Rattle.std.proofs.Common.{◌≡◌, [], take, drop}
use Rattle.pan_tree.specs.Check.{bodies, names_after}
use Rattle.pan_shapes.specs.Weights.{are_weights}
use Rattle.pan_shapes.proofs.bodies.check_bodies.Given as goal

-- what is left to do completes what is done
abbrev pub invariant-loop-function : goal.invariant-loop-function
invariant-loop-function l = record {
  weights : l.weights ≡ are_weights l.heads (take l.function-index l.functions);
  outside : l.walk.scopes ≡ [];
  left : bodies l.heads l.functions [] ≡ bodies l.heads (drop l.function-index l.functions) l.walk.names;
  names : names_after l.heads l.functions [] ≡ names_after l.heads (drop l.function-index l.functions) l.walk.names;
}
