use Rattle.std.proofs.Common.{◌≡◌}
use Rattle.stack_bound.specs.Walks.{IsWalk, left, main_of}
use Rattle.stack_bound.proofs.walk.walk_from.Given as goal

abbrev pub invariant-steps : goal.invariant-steps
invariant-steps l = IsWalk l.nodes l.walk × (main_of l.walk ≡ l.main)

abbrev pub decreases-steps : goal.decreases-steps
decreases-steps l = left l.nodes l.walk
