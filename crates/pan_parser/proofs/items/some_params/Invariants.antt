use Rattle.std.proofs.Common.{◌-◌, length}
use Rattle.pan_parser.proofs.ItemTrees.{ParamsSo}
use Rattle.pan_parser.proofs.items.some_params.Given as goal

abbrev pub invariant-params : goal.invariant-params
invariant-params l = ParamsSo l.tokens l.fn.at l.rest l.params

abbrev pub decreases-params : goal.decreases-params
decreases-params l = length l.tokens.tokens - l.rest
