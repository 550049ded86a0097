use Rattle.std.proofs.Common.{◌≡◌, ◌++◌, drop}
use Rattle.word_select.specs.Pruned.{others}
use Rattle.word_select.proofs.uses.add_others.Given as goal

-- what is still to add completes what is added
abbrev pub invariant-loop-x : goal.invariant-loop-x
invariant-loop-x l = l.out ++ others l.target (drop l.x-index l.variables) ≡ l.initial.out ++ others l.target l.variables
