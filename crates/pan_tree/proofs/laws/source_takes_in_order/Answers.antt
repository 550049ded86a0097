use Rattle.pan_tree.proofs.SourceOrder.{source_in_order}
use Rattle.pan_tree.proofs.laws.source_takes_in_order.Goals as goal

pub returns : goal.returns
returns c = source_in_order
