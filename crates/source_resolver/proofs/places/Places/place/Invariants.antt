use Rattle.std.proofs.Common.{◌≡◌, ◌≤◌, length, take, reverse}
use Rattle.pan_tree.specs.Scopes.{innermost}
use Rattle.source_resolver.proofs.places.Places.place.Given as goal

-- the blocks that were looked through have no such variable
abbrev pub invariant-loop-left : goal.invariant-loop-left
invariant-loop-left l =
    (l.left ≤ length l.self-inside.blocks.items)
    × (innermost l.name (reverse (take l.left l.self-inside.blocks.items)) ≡ innermost l.name (reverse l.self-inside.blocks.items))

abbrev pub decreases-loop-left : goal.decreases-loop-left
decreases-loop-left l = l.left
