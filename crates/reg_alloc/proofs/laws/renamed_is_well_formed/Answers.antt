use Rattle.reg_alloc.proofs.Kept.{well_formed}
use Rattle.reg_alloc.proofs.laws.renamed_is_well_formed.Goals as goal

pub returns : goal.returns
returns c = well_formed
