use Rattle.word_select.proofs.BoundRules.{row_step}
use Rattle.word_select.proofs.bounds.+bound.Goals as goal

pub row_bound-loop-i-preserved : goal.row_bound-loop-i-preserved
row_bound-loop-i-preserved t c =
    row_step c.args.all.now c.loop-i.i c.loop-i.least c.bound.result c.greater-least.result c.index-all-i.result c.loop-i-test.true c.index-all-i.is c.bound.ensures c.greater-least.ensures c.loop-i.invariant
