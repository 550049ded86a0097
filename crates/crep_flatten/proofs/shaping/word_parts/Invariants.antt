use Rattle.std.proofs.Common.{◌≡◌, ◌++◌, replicate}
use Rattle.pan_tree.specs.declared.shape.Shape.TheVariants as shape
use Rattle.crep_flatten.proofs.shaping.word_parts.Given as goal

-- what is left completes what is done
abbrev pub invariant-loop-left : goal.invariant-loop-left
invariant-loop-left l = l.parts ++ replicate l.left shape.Word ≡ replicate l.count shape.Word

abbrev pub decreases-loop-left : goal.decreases-loop-left
decreases-loop-left l = l.left
