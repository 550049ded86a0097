use Rattle.std.proofs.Common.{◌≡◌, ◌++◌, ◌+◌, ◌*◌, length}
use Rattle.crep_lang.specs.Steps.{expr_steps}
use Rattle.crep_lang.specs.declared.syntax.Expr.{Expr}
use Rattle.loop_lower.specs.Lowered.{lower, next, steps_at, place_at}
use Rattle.loop_lower.specs.Spine.{all_applied, target_before}
use Rattle.loop_lower.proofs.Spines.{second_steps}
use Rattle.loop_lower.proofs.lowering.+lowered.Given as goal

-- so much of the expression is computed, and the later operations make the whole of it
abbrev pub invariant-lower_expr-operations : goal.invariant-lower_expr-operations
invariant-lower_expr-operations l =
    (done : Expr)
    × (all_applied l.later done ≡ l.expr)
    × (l.steps ≡ l.fn.steps ++ steps_at l.apart (target_before l.later l.target) done l.free)
    × (l.place.variable ≡ place_at l.apart (target_before l.later l.target) done l.free)
    × (l.place.free ≡ next (lower l.apart done) l.free)

-- a second operand counts less than what it stands in
abbrev pub decreases-lower_expr : goal.decreases-lower_expr
decreases-lower_expr l = 2 * expr_steps l.expr.now + 1

abbrev pub decreases-lower_operation : goal.decreases-lower_operation
decreases-lower_operation l = 2 * second_steps l.operation + 2

abbrev pub decreases-lower_expr-operations : goal.decreases-lower_expr-operations
decreases-lower_expr-operations l = length l.later
