use Rattle.pan_command.proofs.WrongImage.{refuted}
use Rattle.pan_command.proofs.laws.refuses_a_wrong_image.Goals as goal

pub returns : goal.returns
returns c = refuted c.one_image.ensures.same
