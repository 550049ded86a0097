use Rattle.std.proofs.Common.{◌≡◌, ◌∙◌, ap, IfOk, subst, true}
use Rattle.lab_flatten.specs.Flatten.{empty}
use Rattle.lab_flatten.proofs.Rules.{flat_more, if_lines, while_lines, continue_lines, called_lines, guarded_lines}
use Rattle.lab_flatten.proofs.statements.+flatten.Goals as goal

pub flatten_all-loop-i-preserved : goal.flatten_all-loop-i-preserved
flatten_all-loop-i-preserved t c =
    flat_more c.args.place.front c.args.place.size c.args.place.unwind c.args.stmts.now c.loop-i.i c.index-stmts-i.result c.args.free c.loop-i.at c.in_ok-at.at c.args.place.out c.args.place.again c.args.place.last c.is_behind.result
    c.args.lines.now c.loop-i.lines c.flatten_stmt.new.lines c.loop-i-test.true c.index-stmts-i.is c.is_behind.ensures c.loop-i.invariant c.in_ok-at.ensures.lines c.in_ok-at.ensures.labels

pub flatten_stmt-returns-in_ok-put_joined-in-If-clause-lines : goal.flatten_stmt-returns-in_ok-put_joined-in-If-clause-lines
flatten_stmt-returns-in_ok-put_joined-in-If-clause-lines t c =
    if_lines c.args.place.front c.args.place.size c.args.place.unwind c.args.stmt.now c.in-If.first c.in-If.second c.get-in-If-3.result.now c.get-in-If-2.result.now c.in-If.comparison c.in-If.left c.in-If.right c.args.free c.args.place.out c.args.place.again
    c.in_ok-start-in-If.start c.in_ok-next-in-If.next c.is_empty.result c.is_empty-in-If.result c.args.place.last c.last_of.result
    c.args.lines.now c.put_choice.new.lines c.flatten_stmt.new.lines c.put_between.new.lines c.flatten_stmt-in-If.new.lines c.put_joined.new.lines
    c.in-If.is c.get-in-If-3.ensures c.get-in-If-2.ensures c.in_ok-start-in-If.ensures c.in_ok-next-in-If.ensures.labels
    (c.is_empty.ensures ∙ ap (λ s. empty s c.args.place.last) c.get.ensures) (c.is_empty-in-If.ensures ∙ ap (λ s. empty s c.args.place.last) c.get-in-If.ensures) c.last_of.ensures
    c.in_ok-put_choice-in-If.ensures c.in_ok-next-in-If.ensures.lines c.in_ok-put_between-in-If.ensures c.in_ok-last-in-If.ensures.lines c.in_ok-put_joined-in-If.ensures

pub flatten_stmt-returns-in_ok-put_test-in-While-clause-lines : goal.flatten_stmt-returns-in_ok-put_test-in-While-clause-lines
flatten_stmt-returns-in_ok-put_test-in-While-clause-lines t c =
    while_lines c.args.place.front c.args.place.size c.args.place.unwind c.args.stmt.now c.in-While.body c.get-in-While-2.result.now c.in-While.before c.as_slice-in-While.result.now c.in-While.comparison c.in-While.left c.in-While.right
    c.args.free c.args.place.out c.args.place.again c.in_ok-start-in-While.start c.in_ok-end-in-While.end c.in_ok-next-in-While.next c.is_empty-no_body.result c.args.place.last
    c.args.lines.now c.put_loop.new.lines c.flatten_stmt-in-While.new.lines c.put-in-While.new.lines c.flatten_all-in-While.new.lines c.put_test.new.lines
    c.in-While.is c.as_slice-in-While.ensures c.get-in-While-2.ensures c.in_ok-start-in-While.ensures c.in_ok-end-in-While.ensures c.in_ok-next-in-While.ensures.labels
    (c.is_empty-no_body.ensures ∙ ap (λ s. empty s true) c.get-in-While.ensures)
    c.in_ok-put_loop-in-While.ensures c.in_ok-next-in-While.ensures.lines c.in_ok-put-in-While.ensures c.in_ok-last-in-While.ensures.lines c.in_ok-put_test-in-While.ensures

pub flatten_stmt-returns-else-not-place-clause-lines : goal.flatten_stmt-returns-else-not-place-clause-lines
flatten_stmt-returns-else-not-place-clause-lines t c =
    continue_lines c.args.place.front c.args.place.size c.args.place.unwind c.args.stmt.now c.args.free c.args.place.out c.args.place.again c.args.place.last c.args.lines.now c.in-Continue.is c.if-not-place.false

pub flatten_stmt-returns-in_ok-put-in-None-clause-lines : goal.flatten_stmt-returns-in_ok-put-in-None-clause-lines
flatten_stmt-returns-in_ok-put-in-None-clause-lines t c =
    subst (λ ls. IfOk c.flatten_stmt-in-None.result (λ next. c.flatten_stmt-in-None.new.lines ≡ ls))
    (called_lines c.args.place.front c.args.place.size c.args.place.unwind c.args.stmt.now c.in-Call.returned c.get-in-None.result.now c.in-Call.function c.args.free c.args.place.out c.args.place.again c.args.place.last c.in-Call.handler c.args.lines.now
    c.put-in-None.new.lines c.in-Call.is c.in-None.is c.get-in-None.ensures c.in_ok-put-in-None.ensures) c.flatten_stmt-in-None.ensures.lines

pub flatten_stmt-returns-in_ok-put-in-Some-clause-lines : goal.flatten_stmt-returns-in_ok-put-in-Some-clause-lines
flatten_stmt-returns-in_ok-put-in-Some-clause-lines t c =
    guarded_lines c.args.place.front c.args.place.size c.args.place.unwind c.args.stmt.now c.in-Call.returned c.get-in-Some.result.now c.get-in-Some-2.result.now c.in-Call.function c.args.free c.args.place.out c.args.place.again
    c.in_ok-start-in-Some.start c.in_ok-end-in-Some.end c.in_ok-next-in-Some.next c.args.place.last c.in-Call.handler c.in-Some.handler
    c.args.lines.now c.put_guard.new.lines c.flatten_stmt-in-Some.new.lines c.put_handler.new.lines c.flatten_stmt-in-Some-2.new.lines c.put-in-Some.new.lines
    c.in-Call.is c.in-Some.is c.get-in-Some.ensures c.get-in-Some-2.ensures c.in_ok-start-in-Some.ensures c.in_ok-end-in-Some.ensures c.in_ok-next-in-Some.ensures.labels
    c.in_ok-put_guard-in-Some.ensures c.in_ok-next-in-Some.ensures.lines c.in_ok-put_handler-in-Some.ensures c.in_ok-last-in-Some.ensures.lines c.in_ok-put-in-Some.ensures
