use Rattle.std.proofs.Common.{sym, subst}
use Rattle.stack_bound.specs.Walks.{IsWalk}
use Rattle.stack_bound.proofs.Walking.{starts_as}
use Rattle.stack_bound.proofs.walk.Walk.new.Goals as goal

pub returns-clause-walk : goal.returns-clause-walk
returns-clause-walk c =
    subst (λ vs. IsWalk c.args.nodes.now (record { marks = c.set.new.self; callers = vs; current = c.new-2.result })) (sym c.new.ensures)
    (starts_as c.args.nodes.now c.args.main c.in_ok-marks.marks c.set.new.self c.new-2.result c.requires.main c.in_ok-marks.ensures.length c.in_ok-marks.ensures.unseen c.set.ensures c.new-2.ensures).0
