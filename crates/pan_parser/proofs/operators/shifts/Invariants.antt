use Rattle.std.proofs.Common.{◌-◌, length}
use Rattle.pan_parser.proofs.OperatorWays.{ShiftsSo}
use Rattle.pan_parser.proofs.operators.shifts.Given as goal

abbrev pub invariant-amounts : goal.invariant-amounts
invariant-amounts l = ShiftsSo l.tokens l.at l.rest l.amounts

abbrev pub decreases-amounts : goal.decreases-amounts
decreases-amounts l = length l.tokens.tokens - l.rest
