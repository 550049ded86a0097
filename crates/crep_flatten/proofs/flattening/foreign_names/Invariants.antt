use Rattle.std.proofs.Common.{◌≡◌, ◌++◌, drop}
use Rattle.pan_tree.specs.Check.{foreign_names}
use Rattle.crep_flatten.proofs.flattening.foreign_names.Given as goal

-- what is left completes what is done
abbrev pub invariant-loop-i : goal.invariant-loop-i
invariant-loop-i l = l.names ++ drop l.i (foreign_names l.checked) ≡ foreign_names l.checked
