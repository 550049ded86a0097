use Rattle.lab_flatten.proofs.Rules.{IsFlatTo}
use Rattle.lab_flatten.proofs.statements.+flatten.Given as goal

-- the lines of the statements that are left complete the lines
abbrev pub invariant-flatten_all-loop-i : goal.invariant-flatten_all-loop-i
invariant-flatten_all-loop-i l = IsFlatTo l.place.front l.place.size l.place.unwind l.stmts l.i l.free l.at l.place.out l.place.again l.place.last l.fn.lines l.lines
