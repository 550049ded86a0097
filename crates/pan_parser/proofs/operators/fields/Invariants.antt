use Rattle.std.proofs.Common.{◌-◌, length}
use Rattle.pan_parser.proofs.OperatorWays.{FieldsSo}
use Rattle.pan_parser.proofs.operators.fields.Given as goal

abbrev pub invariant-indices : goal.invariant-indices
invariant-indices l = FieldsSo l.tokens l.at l.rest l.indices

abbrev pub decreases-indices : goal.decreases-indices
decreases-indices l = length l.tokens.tokens - l.rest
