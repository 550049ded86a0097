use Rattle.std.proofs.Common.{◌*◌, ◌-◌}
use Rattle.lab_link.proofs.Places.{span}
use Rattle.lab_link.proofs.Needed.{IsTurn}
use Rattle.lab_link.proofs.growing.grow.Given as goal

-- the layout is one of the lines, in which each long line is needed
abbrev pub invariant-loop-laid : goal.invariant-loop-laid
invariant-loop-laid l = IsTurn l.lines l.laid.layout l.laid.size

-- what lines could still grow
abbrev pub decreases-loop-laid : goal.decreases-loop-laid
decreases-loop-laid l = 4 * span l.lines - l.laid.size
