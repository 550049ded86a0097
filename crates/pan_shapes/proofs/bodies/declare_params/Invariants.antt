use Rattle.std.proofs.Common.{◌≡◌, [], ◌∷◌, take}
use Rattle.pan_tree.specs.Check.{parameters}
use Rattle.pan_shapes.proofs.bodies.declare_params.Given as goal

abbrev pub invariant-loop-param : goal.invariant-loop-param
invariant-loop-param l = l.scopes ≡ parameters (take l.param-index l.params) ∷ []
