use Rattle.std.proofs.Common.{map}
use Rattle.pan_tree.specs.declared.spanned.Spanned.{Spanned}
use Rattle.pan_tree.specs.declared.syntax.ExprKind.{ExprKind}
use Rattle.pan_tree.specs.Check.{judged, breaks_of}
use Rattle.pan_shapes.specs.Judging.{TellsAll}
use Rattle.pan_shapes.proofs.Combining.{handed_on, item_refused}
use Rattle.pan_shapes.proofs.judging.judge_all.Goals as goal

pub returns-in_err-judge : goal.returns-in_err-judge
returns-in_err-judge c =
    let v = c.args.scopes.now in
    let judged_expr = λ (x : Spanned ExprKind). judged x v in
    let e = c.in_err-judge.field-0.0 in
    let xs = c.args.exprs.now in
    handed_on (TellsAll (map judged_expr xs)) (breaks_of (map judged_expr xs)) e c.from_residual.result c.from_residual.ensures.1
    (item_refused judged_expr xs c.loop-expr.expr-index c.expr-item.result e c.loop-expr-test.true c.expr-item.is c.loop-expr.invariant.0 c.in_err-judge.ensures)
