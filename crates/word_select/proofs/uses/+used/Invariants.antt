use Rattle.std.proofs.Common.{◌≡◌, ◌++◌, map, drop}
use Rattle.std.specs.Prelude.{flat_map}
use Rattle.word_select.specs.Pruned.{used}
use Rattle.word_select.proofs.uses.+used.Given as goal

-- what is still to add completes what is added
abbrev pub invariant-add_used_row-loop-i : goal.invariant-add_used_row-loop-i
invariant-add_used_row-loop-i l = l.out ++ flat_map (λ xs. xs) (map used (drop l.i l.all)) ≡ l.initial.out ++ flat_map (λ xs. xs) (map used l.all)
