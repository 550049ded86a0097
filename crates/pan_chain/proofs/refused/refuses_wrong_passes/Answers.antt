use Rattle.pan_chain.proofs.WrongPasses.{no_dearer, no_other_end, no_other_cost, no_wider, no_longer, not_early, not_slow, right}
use Rattle.pan_chain.proofs.refused.refuses_wrong_passes.Goals as goal

pub returns : goal.returns
returns c = record { dearer = no_dearer; other_end = no_other_end; other_cost = no_other_cost; wider = no_wider; longer = no_longer; early = not_early; slow = not_slow; in_time = right }
