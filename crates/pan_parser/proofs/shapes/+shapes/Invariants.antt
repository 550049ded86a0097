use Rattle.std.proofs.Common.{◌+◌, ◌-◌, ◌*◌, length}
use Rattle.pan_tree.specs.Grammar.{nesting_limit}
use Rattle.pan_parser.proofs.ShapeWays.{ShapesSo}
use Rattle.pan_parser.proofs.shapes.+shapes.Given as goal

abbrev pub decreases-shape : goal.decreases-shape
decreases-shape l = 2 * (nesting_limit - l.depth)

abbrev pub decreases-shapes : goal.decreases-shapes
decreases-shapes l = 2 * (nesting_limit - l.depth) + 1

abbrev pub invariant-shapes-parts : goal.invariant-shapes-parts
invariant-shapes-parts l = ShapesSo l.tokens l.depth l.fn.at l.rest l.parts

abbrev pub decreases-shapes-parts : goal.decreases-shapes-parts
decreases-shapes-parts l = length l.tokens.tokens - l.rest
