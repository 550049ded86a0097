use Rattle.std.proofs.Common.{◌≡◌, ◌≤◌, ◌++◌, ◌+◌, ◌-◌, ◌^◌, ◌*◌, ◌||◌, min, max, map, drop}
use Rattle.pan_tree.specs.declared.syntax.ExprKind.{size-ExprKind}
use Rattle.pan_tree.specs.Check as check
use denote.Param.Weighed.{most}
use Rattle.pan_tree.specs.Check.{judged}
use Rattle.pan_shapes.proofs.judging.+judge.Given as goal

-- no part before breaks a rule, and what is left completes what is done
abbrev pub invariant-judge_parts-loop-part : goal.invariant-judge_parts-loop-part
invariant-judge_parts-loop-part l =
    let all = map (λ x. judged x l.scopes) l.parts in
    let left = map (λ x. judged x l.scopes) (drop l.part-index l.parts) in
    (check.breaks_of all ≡ check.breaks_of left)
    × (l.shapes ++ map (λ j. j.shape) left ≡ map (λ j. j.shape) all)
    × (min (l.weight + check.weights left) (2 ^ 64 - 1) ≡ min (check.weights all) (2 ^ 64 - 1))
    × (l.weight ≤ 2 ^ 64 - 1)

abbrev pub invariant-judge_terms-loop-term : goal.invariant-judge_terms-loop-term
invariant-judge_terms-loop-term l =
    let all = map (λ y. judged y.1 l.scopes) l.terms in
    let left = map (λ y. judged y.1 l.scopes) (drop l.term-index l.terms) in
    (check.breaks_of all ≡ check.breaks_of left)
    × ((l.has_no_word || check.has_no_word left) ≡ check.has_no_word all)
    × (min (l.weight + check.weights left) (2 ^ 64 - 1) ≡ min (check.weights all) (2 ^ 64 - 1))
    × (l.weight ≤ 2 ^ 64 - 1)

-- an expression calls those that go over its parts, a chain calls its terms, and all of them call expressions
abbrev pub decreases-judge : goal.decreases-judge
decreases-judge l = 3 * goal.size-judge l

abbrev pub decreases-judge_compare : goal.decreases-judge_compare
decreases-judge_compare l = 3 * max (size-ExprKind l.left.now.kind) (size-ExprKind l.right.now.kind) + 1

abbrev pub decreases-judge_chain : goal.decreases-judge_chain
decreases-judge_chain l = 3 * max (size-ExprKind l.first.now.kind) (most (λ y. size-ExprKind y.1.kind) l.rest.now) + 2

abbrev pub decreases-judge_parts : goal.decreases-judge_parts
decreases-judge_parts l = 3 * goal.size-judge_parts l + 1

abbrev pub decreases-judge_terms : goal.decreases-judge_terms
decreases-judge_terms l = 3 * goal.size-judge_terms l + 1
