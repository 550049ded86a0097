use Rattle.std.proofs.Common.{◌≡◌, ◌++◌, length}
use Rattle.crep_flatten.specs.Rows.{cut_rows}
use Rattle.crep_flatten.proofs.rows.cut.Given as goal

-- what is kept, and what is still to be kept of the rows that are left
abbrev pub invariant-loop-row : goal.invariant-loop-row
invariant-loop-row l = l.kept ++ cut_rows l.before l.wanted l.left ≡ cut_rows l.initial.before l.initial.wanted l.initial.left

abbrev pub decreases-loop-row : goal.decreases-loop-row
decreases-loop-row l = length l.left
