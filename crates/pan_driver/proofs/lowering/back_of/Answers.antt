use Rattle.pan_driver.proofs.lowering.back_of.Goals as goal

pub frames-requires : goal.frames-requires
frames-requires c = c.requires

pub returns-clause-stack : goal.returns-clause-stack
returns-clause-stack c = c.in_ok-stack.ensures

pub returns-clause-bound : goal.returns-clause-bound
returns-clause-bound c = c.in_ok-bound.ensures

pub returns-clause-lab : goal.returns-clause-lab
returns-clause-lab c = c.in_ok-lab.ensures.keeps

pub returns-clause-fuel : goal.returns-clause-fuel
returns-clause-fuel c = c.in_ok-lab.ensures.fuel

pub returns-clause-code : goal.returns-clause-code
returns-clause-code c = c.in_ok-code.ensures
