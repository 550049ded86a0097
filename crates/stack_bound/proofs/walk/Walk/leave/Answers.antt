use Rattle.stack_bound.proofs.Walking.{leaves_as, leaves_main_as}
use Rattle.stack_bound.proofs.walk.Walk.leave.Goals as goal

pub returns-in-Some : goal.returns-in-Some
returns-in-Some c = leaves_as c.args.nodes.now c.args.self.now c.set.new.self c.pop.new.self c.in-Some.caller c.requires.walk c.requires.counted c.in-Some.ensures c.set.ensures

pub returns-in-None : goal.returns-in-None
returns-in-None c = leaves_main_as c.args.nodes.now c.args.self.now c.requires.walk c.requires.counted c.in-None.ensures.0
