use Rattle.pan_tree.proofs.MeaningLayers.{run_roll}
use Rattle.pan_tree.proofs.laws.statements_mean_by_parts.Goals as goal

pub returns : goal.returns
returns c = run_roll
