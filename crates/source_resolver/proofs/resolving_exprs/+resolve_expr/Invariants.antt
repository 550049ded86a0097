use Rattle.std.proofs.Common.{◌≡◌, ◌+◌, ◌*◌, ◌++◌, map, drop}
use Rattle.source_resolver.specs.Resolving.{resolved_expr, resolved_exprs}
use Rattle.source_resolver.proofs.resolving_exprs.+resolve_expr.Given as goal

-- what is left completes what is done
abbrev pub invariant-resolve_parts-loop-part : goal.invariant-resolve_parts-loop-part
invariant-resolve_parts-loop-part l = l.all ++ resolved_exprs (drop l.part-index l.parts) l.places ≡ resolved_exprs l.parts l.places

abbrev pub invariant-resolve_terms-loop-operator : goal.invariant-resolve_terms-loop-operator
invariant-resolve_terms-loop-operator l =
    l.all ++ map (λ t. (t.0, resolved_expr t.1 l.places)) (drop l.operator-index l.terms) ≡ map (λ t. (t.0, resolved_expr t.1 l.places)) l.terms

-- an expression's parts are resolved by way of the others
abbrev pub decreases-resolve_expr : goal.decreases-resolve_expr
decreases-resolve_expr l = 2 * goal.size-resolve_expr l

abbrev pub decreases-resolve_boxed : goal.decreases-resolve_boxed
decreases-resolve_boxed l = 2 * goal.size-resolve_boxed l + 1

abbrev pub decreases-resolve_parts : goal.decreases-resolve_parts
decreases-resolve_parts l = 2 * goal.size-resolve_parts l + 1

abbrev pub decreases-resolve_terms : goal.decreases-resolve_terms
decreases-resolve_terms l = 2 * goal.size-resolve_terms l + 1
