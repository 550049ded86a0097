use Rattle.std.proofs.Common.{◌≡◌, ◌++◌, length, reverse}
use Rattle.crep_flatten.proofs.lists.reversed.Given as goal

-- what is left completes what is done
abbrev pub invariant-loop-item : goal.invariant-loop-item
invariant-loop-item g l = l.all ++ reverse l.items ≡ reverse l.initial.items

abbrev pub decreases-loop-item : goal.decreases-loop-item
decreases-loop-item g l = length l.items
