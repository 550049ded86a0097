use Rattle.std.proofs.Common.{◌-◌, length}
use Rattle.pan_parser.proofs.ItemTrees.{ItemsSo}
use Rattle.pan_parser.proofs.items.program.Given as goal

abbrev pub invariant-items : goal.invariant-items
invariant-items l = ItemsSo l.tokens l.rest l.program

abbrev pub decreases-items : goal.decreases-items
decreases-items l = length l.tokens.tokens - l.rest
