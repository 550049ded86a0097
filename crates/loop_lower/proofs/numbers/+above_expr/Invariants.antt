use Rattle.std.proofs.Common.{◌≡◌, ◌≤◌}
use Rattle.std.specs.Prelude.{max}
use Rattle.pan_stage.specs.Sums.{above}
use Rattle.crep_lang.specs.Steps.{expr_steps}
use Rattle.crep_lang.specs.Text.{variables_read}
use Rattle.loop_lower.proofs.numbers.+above_expr.Given as goal

abbrev pub invariant-operands : goal.invariant-operands
invariant-operands l = (expr_steps l.rest ≤ expr_steps l.expr) × (max l.most (above (variables_read l.rest)) ≡ above (variables_read l.expr))

abbrev pub decreases-above_expr : goal.decreases-above_expr
decreases-above_expr l = expr_steps l.expr.now
