use Rattle.crep_flatten.proofs.Kept.{kept}
use Rattle.crep_flatten.proofs.laws.flattened_is_kept.Goals as goal

pub returns : goal.returns
returns c = kept
