use Rattle.std.proofs.Common.{◌≡◌, ◌++◌, map, drop}
use Rattle.loop_lower.specs.Lowered.{lower, before_all, operands}
use Rattle.loop_lower.proofs.rows.lower_all.Given as goal

-- what is left to do completes what is done
abbrev pub invariant-loop-i : goal.invariant-loop-i
invariant-loop-i l =
    (l.steps ++ before_all (map (lower l.apart) (drop l.i l.exprs)) l.next ≡ l.initial.steps ++ before_all (map (lower l.apart) l.exprs) l.free)
    × (l.variables ++ operands (map (lower l.apart) (drop l.i l.exprs)) l.next ≡ operands (map (lower l.apart) l.exprs) l.free)
