use Rattle.std.proofs.Common.{◌≡◌, ◌++◌, map, drop}
use Rattle.std.specs.List.{list_all}
use Rattle.crep_flatten.specs.Flat.{flat}
use Rattle.crep_flatten.specs.Flattened.{rows_of}
use Rattle.crep_flatten.specs.Literals.{fits}
use Rattle.crep_flatten.proofs.exprs.flatten_rows.Given as goal

-- what is left completes what is done
abbrev pub invariant-loop-expr : goal.invariant-loop-expr
invariant-loop-expr l =
    (l.rows ++ rows_of (map (λ v. flat v l.here) (drop l.expr-index l.exprs)) ≡ rows_of (map (λ v. flat v l.here) l.exprs))
    × (list_all fits (drop l.expr-index l.exprs) ≡ list_all fits l.exprs)
