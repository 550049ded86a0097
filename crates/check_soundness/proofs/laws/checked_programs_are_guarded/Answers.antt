use Rattle.check_soundness.proofs.SoundPrograms.{guarded_same}
use Rattle.check_soundness.proofs.laws.checked_programs_are_guarded.Goals as goal

pub returns : goal.returns
returns c ill halt program memory replies fuel well = guarded_same ill halt program memory replies fuel well
