use Rattle.reg_alloc.proofs.Kept.{keeps}
use Rattle.reg_alloc.proofs.laws.renaming_keeps.Goals as goal

pub returns : goal.returns
returns c = keeps
