use Rattle.std.proofs.Common.{◌≡◌, ◌++◌, drop}
use Rattle.word_select.proofs.uses.add_all.Given as goal

-- what is still to add completes what is added
abbrev pub invariant-loop-x : goal.invariant-loop-x
invariant-loop-x l = l.out ++ drop l.x-index l.variables ≡ l.initial.out ++ l.variables
