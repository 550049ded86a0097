use Rattle.std.proofs.Common.{◌≡◌, drop}
use Rattle.pan_tree.specs.Shapes.{APart, part_at}
use Rattle.pan_shapes.proofs.fields.part_at.Given as goal

-- what is left of the path leads on from here
abbrev pub invariant-loop-index : goal.invariant-loop-index
invariant-loop-index l = part_at (APart l.at) (drop l.index-index l.path) ≡ part_at (APart l.shape) l.path
