use Rattle.std.proofs.Common.{◌≡◌, take}
use Rattle.pan_tree.proofs.shapes.+copy_shape.Given as goal

abbrev pub invariant-copy_shapes-loop-i : goal.invariant-copy_shapes-loop-i
invariant-copy_shapes-loop-i l = l.all ≡ take l.i l.shapes
