use Rattle.std.proofs.Common.{◌≡◌, length}
use Rattle.stack_bound.specs.Walks.{AreUnseen}
use Rattle.stack_bound.proofs.walk.unseen.Given as goal

abbrev pub invariant-loop : goal.invariant-loop
invariant-loop l = (length l.marks ≡ l.counter) × AreUnseen l.marks
