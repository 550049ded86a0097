use Rattle.std.proofs.Common.{ap, arith}
use Rattle.pan_stage.specs.Sums.{above}
use Rattle.crep_lang.specs.Text.{variables_read}
use Rattle.loop_lower.proofs.ReachRules.{above_reads_more}
use Rattle.loop_lower.proofs.numbers.above_exprs.Goals as goal

pub loop-i-preserved : goal.loop-i-preserved
loop-i-preserved c =
    let more = above_reads_more c.args.exprs.now c.loop-i.i c.index-exprs-i.result c.loop-i-test.true in
    let inv = c.loop-i.invariant in
    let one = c.above_expr.ensures in
    let step = c.greater-most.ensures in
    let is = c.index-exprs-i.is in
    let same = ap (λ x. above (variables_read x)) is in omega (arith, more, inv, one, step, same)
