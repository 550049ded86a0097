use Rattle.std.proofs.Common.{◌≡◌, length, reverse}
use Rattle.crep_flatten.specs.Flat.{chain}
use Rattle.crep_flatten.proofs.exprs.chained.Given as goal

-- what is left completes what is done
abbrev pub invariant-loop-operator : goal.invariant-loop-operator
invariant-loop-operator l = chain l.word (reverse l.left) ≡ chain l.initial.word (reverse l.initial.left)

abbrev pub decreases-loop-operator : goal.decreases-loop-operator
decreases-loop-operator l = length l.left
