use Rattle.std.proofs.Common.{◌≡◌, ◌++◌, drop}
use Rattle.word_select.specs.Facts.{forget}
use Rattle.word_select.proofs.facts.add_untouched.Given as goal

-- what is still to add completes what is added
abbrev pub invariant-loop-k : goal.invariant-loop-k
invariant-loop-k l = l.kept ++ forget l.variable (drop l.k-index l.known) ≡ l.initial.kept ++ forget l.variable l.known
