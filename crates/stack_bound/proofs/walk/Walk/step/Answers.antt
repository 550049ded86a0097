use Rattle.std.proofs.Common.{◌≡◌, get_or, rules, arith}
use Rattle.std.proofs.lemmas.Grind.{common_steps}
use Rattle.stack_bound.specs.declared.walk.Mark.TheVariants.{Unseen, Open}
use Rattle.stack_bound.proofs.Walking.{kept}
use Rattle.stack_bound.proofs.walk.Walk.step.Goals as goal

pub returns-in-Open : goal.returns-in-Open
returns-in-Open c =
    let mark : get_or c.args.self.now.marks c.in-Some.call.function Unseen ≡ Open c.in-Open.place = first_of (search rules, grind (arith, common_steps)) in
    kept c.args.nodes.now c.args.self.now c.in-Some.call c.in-Open.place c.in_ok-cycle-in-Open.cycle.items c.from_least.result c.requires.walk c.in-Some.ensures mark c.in_ok-cycle-in-Open.ensures c.from_least.ensures.turned c.from_least.ensures.least
