use Rattle.std.proofs.Common.{◌≡◌, ◌++◌, drop}
use Rattle.pan_tree.specs.Check.{foreign_names}
use Rattle.source_resolver.specs.Numbering.{numbered}
use Rattle.source_resolver.proofs.directory.foreign_numbers.Given as goal

-- what is left completes what is done
abbrev pub invariant-loop-i : goal.invariant-loop-i
invariant-loop-i l = l.numbers ++ numbered l.i (drop l.i (foreign_names l.checked)) ≡ numbered 0 (foreign_names l.checked)
