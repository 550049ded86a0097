use Rattle.std.proofs.Common.{◌≡◌, ◌++◌}
use Rattle.crep_lang.specs.declared.syntax.Expr.TheVariants as e
use Rattle.crep_flatten.specs.Rows.{loads}
use Rattle.crep_flatten.proofs.settling.push_loads.Given as goal

-- what is left completes what is done
abbrev pub invariant-loop-left : goal.invariant-loop-left
invariant-loop-left l = l.words ++ loads (e.Var l.address) l.next l.left ≡ l.initial.words ++ loads (e.Var l.address) l.skip l.count

abbrev pub decreases-loop-left : goal.decreases-loop-left
decreases-loop-left l = l.left
