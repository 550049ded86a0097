use Rattle.script_agreement.proofs.OtherRuns.{ends, stopped, event, unasked}
use Rattle.script_agreement.proofs.refuted.refuses_other_runs.Goals as goal

pub returns : goal.returns
returns c = record { ends = ends; stopped = stopped; event = event; unasked = unasked }
