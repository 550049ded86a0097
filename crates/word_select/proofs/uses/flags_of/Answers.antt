use Rattle.std.proofs.Common.{arith}
use Rattle.word_select.proofs.FlagLaws.{item_below, flags_more}
use Rattle.word_select.proofs.uses.flags_of.Goals as goal

pub set-requires : goal.set-requires
set-requires c = let low = item_below c.args.variables.now c.loop-x.x-index c.loop-x-test.true in let long = (c.loop-x.invariant).0 in omega (arith, low, long)

pub loop-x-preserved : goal.loop-x-preserved
loop-x-preserved c = flags_more c.args.variables.now c.loop-x.x-index c.loop-x.flags c.set.new.self c.loop-x-test.true c.set.ensures c.loop-x.invariant
