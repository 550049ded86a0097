use Rattle.std.proofs.Common.{◌-◌, ◌+◌, arith}
use Rattle.pan_runner.proofs.FillLemmas.{fill_word_step}
use Rattle.pan_runner.proofs.values.fill_words.Goals as goal

pub loop-preserved : goal.loop-preserved
loop-preserved c =
    let pushed = c.in_ok-push.ensures.ok in
    let one = c.fill_word-value.result in
    let n = c.args.count - c.loop.counter in
    let m = c.args.count - (c.loop.counter + 1) in
    let step = fill_word_step c.loop.values one.0 n m c.loop.left.now one.1.now (omega arith) c.fill_word-value.ensures in
    let before = c.loop.invariant in
    cc
