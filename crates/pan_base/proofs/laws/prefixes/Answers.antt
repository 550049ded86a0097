use Rattle.pan_base.proofs.PrefixLaws.{prefix_refl, prefix_trans}
use Rattle.pan_base.proofs.laws.prefixes.Goals as goal

pub returns : goal.returns
returns c = record { reflexive = prefix_refl; transitive = prefix_trans }
