use Rattle.pan_tree.proofs.Ends.{source_like}
use Rattle.pan_tree.proofs.laws.source_meets_no_limit.Goals as goal

pub returns : goal.returns
returns c = source_like
