use Rattle.device_script.proofs.CuttingLemmas.{return_cut, no_return_cut}
use Rattle.device_script.proofs.cutting.without_return.Goals as goal

pub returns-in-Some : goal.returns-in-Some
returns-in-Some c = return_cut c.args.line.now c.in-Some.front.now c.in-Some.ensures.cases.0 c.in-Some.ensures.cases.1

pub returns-in-None : goal.returns-in-None
returns-in-None c = no_return_cut c.args.line.now c.in-None.ensures.cases
