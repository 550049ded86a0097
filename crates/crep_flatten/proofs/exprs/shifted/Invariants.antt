use Rattle.std.proofs.Common.{◌≡◌, drop}
use Rattle.crep_flatten.specs.Flat.{shifts}
use Rattle.crep_flatten.proofs.exprs.shifted.Given as goal

-- what is left completes what is done
abbrev pub invariant-loop-operator : goal.invariant-loop-operator
invariant-loop-operator l = shifts l.word (drop l.operator-index l.amounts) ≡ shifts l.initial.word l.amounts
