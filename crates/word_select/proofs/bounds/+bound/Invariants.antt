use Rattle.std.proofs.Common.{◌≡◌, drop}
use Rattle.std.specs.Prelude.{max}
use Rattle.word_select.specs.Bounds.{row_bound}
use Rattle.word_select.proofs.bounds.+bound.Given as goal

-- what is above the rest completes it
abbrev pub invariant-row_bound-loop-i : goal.invariant-row_bound-loop-i
invariant-row_bound-loop-i l = max l.least (row_bound (drop l.i l.all)) ≡ row_bound l.all
