use Rattle.pan_port.proofs.WriterLemmas.{spent, exits, asks, still_asks, still_over}
use Rattle.pan_port.proofs.tests.WriterAsker.advance.Goals as goal

pub returns-then-budget-eq0 : goal.returns-then-budget-eq0
returns-then-budget-eq0 c = spent c.args.self.now.pause c.args.self.now.left c.args.budget c.in-Spent.is c.if-budget-eq0.true

pub returns-then-self-eq0 : goal.returns-then-self-eq0
returns-then-self-eq0 c = exits c.args.self.now.pause c.args.self.now.left c.args.budget c.in-Spent.is c.if-self-eq0.true c.if-budget-eq0.false

pub returns-else-self-eq0 : goal.returns-else-self-eq0
returns-else-self-eq0 c = asks c.args.self.now.pause c.args.self.now.left c.args.budget c.in-Spent.is c.if-self-eq0.false c.if-budget-eq0.false

pub returns-in-Asks : goal.returns-in-Asks
returns-in-Asks c = still_asks c.args.self.now.pause c.args.self.now.left c.args.budget c.in-Asks.is

pub returns-in-Ended : goal.returns-in-Ended
returns-in-Ended c = still_over c.args.self.now.pause c.in-Ended.end c.end_told.result c.args.self.now.left c.args.budget c.in-Ended.is (c.end_told.ensures c.args.self.now.left)
