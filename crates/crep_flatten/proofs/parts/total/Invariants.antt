use Rattle.std.proofs.Common.{◌≡◌, ◌+◌, map, drop}
use Rattle.std.specs.Prelude.{sum}
use Rattle.pan_tree.specs.Shapes.{words_of}
use Rattle.crep_flatten.proofs.parts.total.Given as goal

-- what is left completes what is done
abbrev pub invariant-loop-shape : goal.invariant-loop-shape
invariant-loop-shape l = l.total + sum (map words_of (drop l.shape-index l.shapes)) ≡ sum (map words_of l.shapes)
