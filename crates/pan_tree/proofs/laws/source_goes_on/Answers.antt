use Rattle.pan_tree.proofs.GoesOn.{source_goes_on}
use Rattle.pan_tree.proofs.laws.source_goes_on.Goals as goal

pub returns : goal.returns
returns c program memory replies later n more = source_goes_on more later program memory replies n
