use Rattle.std.proofs.Common.{◌≡◌}
use Rattle.loop_lower.specs.Spine.{all_applied}
use Rattle.loop_lower.proofs.spine.spine_of.Given as goal

abbrev pub invariant-operands : goal.invariant-operands
invariant-operands l = all_applied l.operations l.rest ≡ l.expr
