use Rattle.std.proofs.Common.{◌≡◌, ◌++◌, map, drop}
use Rattle.loop_lower.specs.Lowered.{placed, placed_row}
use Rattle.loop_lower.proofs.blocks.+placed.Given as goal

-- what is left to do completes what is done
abbrev pub invariant-lower_stmts-loop-i : goal.invariant-lower_stmts-loop-i
invariant-lower_stmts-loop-i l =
    let limit = l.room.limit in let base = l.room.base in
    (l.stmts ++ (placed_row limit base (map (placed limit base) (drop l.i l.all)) l.start).stmts ≡ (placed_row limit base (map (placed limit base) l.all) l.next).stmts)
    × ((placed_row limit base (map (placed limit base) (drop l.i l.all)) l.start).next ≡ (placed_row limit base (map (placed limit base) l.all) l.next).next)
