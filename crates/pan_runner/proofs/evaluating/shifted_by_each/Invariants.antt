use Rattle.std.proofs.Common.{◌≡◌, drop}
use Rattle.pan_tree.specs.Meaning.{shifted}
use Rattle.pan_runner.proofs.evaluating.shifted_by_each.Given as goal

-- the shifts that are left complete those that are done
abbrev pub invariant-loop-op : goal.invariant-loop-op
invariant-loop-op l = shifted (drop l.op-index l.amounts) l.word ≡ shifted l.amounts l.initial.word
