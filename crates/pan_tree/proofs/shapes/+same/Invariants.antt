use Rattle.std.proofs.Common.{◌≡◌, map, drop}
use Rattle.pan_tree.specs.Shapes.{holds_each, same}
use Rattle.pan_tree.proofs.shapes.+same.Given as goal

-- what is left decides the whole
abbrev pub invariant-same_each-loop-i : goal.invariant-same_each-loop-i
invariant-same_each-loop-i l = holds_each (map same l.left) l.right ≡ holds_each (map same (drop l.i l.left)) (drop l.i l.right)
