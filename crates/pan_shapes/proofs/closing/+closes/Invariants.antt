use Rattle.std.proofs.Common.{◌+◌, ◌*◌}
use Rattle.pan_shapes.proofs.closing.+closes.Given as goal

-- a block calls its statements
abbrev pub decreases-closes : goal.decreases-closes
decreases-closes l = 2 * goal.size-closes l + 1

abbrev pub decreases-stmt_closes : goal.decreases-stmt_closes
decreases-stmt_closes l = 2 * goal.size-stmt_closes l
