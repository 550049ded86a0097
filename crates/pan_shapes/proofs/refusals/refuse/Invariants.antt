use Rattle.std.proofs.Common.{◌≡◌, drop}
use Rattle.pan_tree.specs.Check.{broken}
use Rattle.pan_shapes.proofs.refusals.refuse.Given as goal

-- none before is broken
abbrev pub invariant-loop-rule : goal.invariant-loop-rule
invariant-loop-rule l = broken l.place l.rules ≡ broken l.place (drop l.rule-index l.rules)
