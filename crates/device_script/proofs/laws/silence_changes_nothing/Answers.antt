use Rattle.device_script.proofs.LawLemmas.{step_silent}
use Rattle.device_script.proofs.laws.silence_changes_nothing.Goals as goal

pub returns : goal.returns
returns c = step_silent
