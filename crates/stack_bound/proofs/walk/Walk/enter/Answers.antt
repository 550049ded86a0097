use Rattle.stack_bound.proofs.Walking.{enters_as}
use Rattle.stack_bound.proofs.walk.Walk.enter.Goals as goal

pub returns : goal.returns
returns c =
    enters_as c.args.nodes.now c.args.self.now c.args.call c.set.new.self c.push.new.self c.new-self.result c.len.result c.requires.sound c.requires.walk c.requires.next c.requires.unseen c.in_ok-push.ensures.ok c.len.ensures c.set.ensures c.new-self.ensures
