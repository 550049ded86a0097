use Rattle.crep_flatten.proofs.WellFormed.{well_formed}
use Rattle.crep_flatten.proofs.laws.flattened_is_well_formed.Goals as goal

pub returns : goal.returns
returns c = well_formed
