use Rattle.std.proofs.Common.{arith}
use Rattle.reg_alloc.proofs.Above.{above_step}
use Rattle.reg_alloc.proofs.variables.+above.Goals as goal

pub above_row-loop-i-preserved : goal.above_row-loop-i-preserved
above_row-loop-i-preserved t c =
    above_step c.args.all.now c.loop-i.i c.loop-i.most c.above_stmt.result c.greater-most.result _ c.index-all-i.result (omega arith) c.index-all-i.is c.above_stmt.ensures c.greater-most.ensures c.loop-i.invariant
