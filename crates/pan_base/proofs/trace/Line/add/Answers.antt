use Rattle.pan_base.proofs.LineLemmas.{put_whole}
use Rattle.pan_base.proofs.trace.Line.add.Goals as goal

pub returns-else-text-clause-took : goal.returns-else-text-clause-took
returns-else-text-clause-took g c = put_whole c.put_all.result _ _ _ _ _ _ c.in_ok-put.ensures.took c.in_ok-put.ensures.emptied c.put_all.ensures.took
