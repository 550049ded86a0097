use Rattle.reg_alloc.proofs.SlotNumbers.{different_slots}
use Rattle.reg_alloc.proofs.laws.different_slots_are_accepted.Goals as goal

pub returns : goal.returns
returns c = different_slots
