use Rattle.std.proofs.Common.{◌≡◌, ◌++◌, drop}
use Rattle.word_select.specs.Pruned.{is_set, pruned_row}
use Rattle.word_select.proofs.pruning.+pruned.Given as goal

-- what is still to add completes what is added
abbrev pub invariant-add_pruned_row-loop-i : goal.invariant-add_pruned_row-loop-i
invariant-add_pruned_row-loop-i l = l.out ++ pruned_row (is_set l.used) (drop l.i l.all) ≡ l.initial.out ++ pruned_row (is_set l.used) l.all
