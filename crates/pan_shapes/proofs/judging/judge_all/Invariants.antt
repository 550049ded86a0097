use Rattle.std.proofs.Common.{◌≡◌, ◌++◌, ◌-◌, ◌^◌, min, map, drop}
use Rattle.pan_tree.specs.Check as check
use Rattle.pan_tree.specs.Check.{judged}
use Rattle.pan_shapes.proofs.judging.judge_all.Given as goal

-- no expression before breaks a rule, and what is left completes what is done
abbrev pub invariant-loop-expr : goal.invariant-loop-expr
invariant-loop-expr l =
    let all = map (λ x. judged x l.scopes) l.exprs in
    let left = map (λ x. judged x l.scopes) (drop l.expr-index l.exprs) in
    (check.breaks_of all ≡ check.breaks_of left)
    × (map (λ k. k.shape) l.all ++ map (λ j. j.shape) left ≡ map (λ j. j.shape) all)
    × (map (λ k. k.weight) l.all ++ map (λ j. min j.weight (2 ^ 64 - 1)) left ≡ map (λ j. min j.weight (2 ^ 64 - 1)) all)
