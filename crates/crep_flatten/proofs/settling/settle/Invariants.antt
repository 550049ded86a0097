use Rattle.std.proofs.Common.{◌≡◌, ◌++◌, length}
use Rattle.crep_flatten.specs.Rows as rows_of
use Rattle.crep_flatten.proofs.settling.settle.Given as goal

-- what comes of the rows that are left completes what came of the others
abbrev pub invariant-loop-next : goal.invariant-loop-next
invariant-loop-next l =
    (l.before ++ (rows_of.settle l.left l.next).before ≡ (rows_of.settle l.initial.left l.free).before)
    × ((l.words ++ (rows_of.settle l.left l.next).words ≡ (rows_of.settle l.initial.left l.free).words)
    × ((rows_of.settle l.left l.next).next ≡ (rows_of.settle l.initial.left l.free).next))

abbrev pub decreases-loop-next : goal.decreases-loop-next
decreases-loop-next l = length l.left
