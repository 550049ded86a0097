use Rattle.std.proofs.Common.{◌∙◌, sym}
use Rattle.lab_flatten.proofs.Rules.{empty_more, empty_not}
use Rattle.lab_flatten.proofs.emptiness.+emptiness.Goals as goal

pub are_empty-returns-then-not-is_empty : goal.are_empty-returns-then-not-is_empty
are_empty-returns-then-not-is_empty t c =
    sym (empty_not c.args.stmts.now c.loop-i.i c.index-stmts-i.result c.args.last c.is_behind.result c.loop-i-test.true c.index-stmts-i.is c.is_behind.ensures (sym c.is_empty.ensures ∙ c.if-not-is_empty.true) c.loop-i.invariant)

pub are_empty-loop-i-preserved : goal.are_empty-loop-i-preserved
are_empty-loop-i-preserved t c =
    empty_more c.args.stmts.now c.loop-i.i c.index-stmts-i.result c.args.last c.is_behind.result c.loop-i-test.true c.index-stmts-i.is c.is_behind.ensures (sym c.is_empty.ensures ∙ c.if-not-is_empty.false) c.loop-i.invariant
