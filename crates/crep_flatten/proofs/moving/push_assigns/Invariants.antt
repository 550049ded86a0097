use Rattle.std.proofs.Common.{◌≡◌, ◌++◌, length, reverse}
use Rattle.crep_flatten.specs.Flattened.{assign_row}
use Rattle.crep_flatten.proofs.moving.push_assigns.Given as goal

-- what is left completes what is done
abbrev pub invariant-loop-word : goal.invariant-loop-word
invariant-loop-word l = l.stmts ++ assign_row l.variable (reverse l.left) ≡ l.initial.stmts ++ assign_row l.initial.variable (reverse l.initial.left)

abbrev pub decreases-loop-word : goal.decreases-loop-word
decreases-loop-word l = length l.left
