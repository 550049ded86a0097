use Rattle.std.proofs.Common.{◌≡◌, ◌++◌, length, reverse}
use Rattle.crep_lang.specs.declared.syntax.Expr.TheVariants as e
use Rattle.crep_flatten.specs.Flattened.{store_row}
use Rattle.crep_flatten.proofs.moving.push_stores.Given as goal

-- what is left completes what is done
abbrev pub invariant-loop-word : goal.invariant-loop-word
invariant-loop-word l = l.stmts ++ store_row (e.Var l.address) l.skip (reverse l.left) ≡ l.initial.stmts ++ store_row (e.Var l.address) l.initial.skip (reverse l.initial.left)

abbrev pub decreases-loop-word : goal.decreases-loop-word
decreases-loop-word l = length l.left
