use Rattle.std.proofs.Common.{◌≡◌, drop}
use Rattle.crep_flatten.specs.Flattened.{with_parameters}
use Rattle.crep_flatten.proofs.functions.declare_parameters.Given as goal

-- what is left completes what is done
abbrev pub invariant-loop-param : goal.invariant-loop-param
invariant-loop-param l = with_parameters (drop l.param-index l.params) l.here ≡ with_parameters l.params l.initial.here
