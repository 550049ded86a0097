use Rattle.lab_flatten.proofs.Rules.{AreEmptyTo}
use Rattle.lab_flatten.proofs.emptiness.+emptiness.Given as goal

-- those before number i have no lines
abbrev pub invariant-are_empty-loop-i : goal.invariant-are_empty-loop-i
invariant-are_empty-loop-i l = AreEmptyTo l.stmts l.i l.last
