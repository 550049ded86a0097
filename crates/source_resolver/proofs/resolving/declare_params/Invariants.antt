use Rattle.std.proofs.Common.{◌≡◌, drop}
use Rattle.source_resolver.specs.Resolving.{with_parameters}
use Rattle.source_resolver.proofs.resolving.declare_params.Given as goal

-- what is left completes what is done
abbrev pub invariant-loop-param : goal.invariant-loop-param
invariant-loop-param l = with_parameters (drop l.param-index l.params) l.places ≡ with_parameters l.params l.initial.places
