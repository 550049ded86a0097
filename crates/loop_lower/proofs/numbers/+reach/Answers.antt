use Rattle.std.proofs.Common.{ap, arith}
use Rattle.pan_flow.specs.Functions.{variables}
use Rattle.pan_stage.specs.Sums.{above}
use Rattle.crep_lang.specs.Text.{flow_of}
use Rattle.loop_lower.proofs.ReachRules.{above_turn_more}
use Rattle.loop_lower.proofs.numbers.+reach.Goals as goal

pub above_stmts-loop-i-preserved : goal.above_stmts-loop-i-preserved
above_stmts-loop-i-preserved t c =
    let more = above_turn_more c.args.all.now c.loop-i.i c.index-all-i.result c.loop-i-test.true in
    let inv = c.loop-i.invariant in
    let one = c.above_stmt.ensures in
    let step = c.greater-most.ensures in
    let is = c.index-all-i.is in
    let same = ap (λ x. above (variables (flow_of x))) is in omega (arith, more, inv, one, step, same)
