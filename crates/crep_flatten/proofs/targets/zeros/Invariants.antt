use Rattle.std.proofs.Common.{◌≡◌, ◌++◌, replicate}
use Rattle.crep_lang.specs.declared.syntax.Expr.TheVariants as e
use Rattle.crep_flatten.specs.Flattened.{assign_row}
use Rattle.crep_flatten.proofs.targets.zeros.Given as goal

-- what is left completes what is done
abbrev pub invariant-loop-left : goal.invariant-loop-left
invariant-loop-left l = l.stmts ++ assign_row l.variable (replicate l.left (e.Num 0)) ≡ assign_row l.first (replicate l.count (e.Num 0))

abbrev pub decreases-loop-left : goal.decreases-loop-left
decreases-loop-left l = l.left
