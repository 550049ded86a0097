use Rattle.word_select.proofs.BoundRules.{numbers_more}
use Rattle.word_select.proofs.whole.first_variables.Goals as goal

pub loop-x-preserved : goal.loop-x-preserved
loop-x-preserved c = let e = c.in_ok-push.ensures in numbers_more c.loop-x.x c.args.count c.loop-x.xs c.push.new.self _ c.loop-x-test.true e.ok c.loop-x.invariant
