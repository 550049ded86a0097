use Rattle.std.proofs.Common.{◌≡◌, ◌++◌, map, drop}
use Rattle.source_resolver.specs.Resolving.{resolved_function}
use Rattle.source_resolver.proofs.resolving.resolve_functions.Given as goal

-- what is left completes what is done
abbrev pub invariant-loop-function : goal.invariant-loop-function
invariant-loop-function l =
    l.all ++ map (λ f. resolved_function l.directory f) (drop l.function-index l.functions) ≡ map (λ f. resolved_function l.directory f) l.functions
