use Rattle.std.proofs.Common.{ℕ, Option}
use Rattle.lab_link.specs.Turns.{IsTable, lengthened}
use Rattle.lab_link.proofs.Laying.{IsLaid}
use Rattle.lab_link.proofs.layout.lengthen.Given as goal

-- so many lines are laid out, by the numbers after the turn
abbrev pub invariant-loop-i : goal.invariant-loop-i
invariant-loop-i l = (f : ℕ → Option ℕ) → IsTable f l.table → IsLaid (lengthened l.lines l.layout f) l.i l.size l.longer
