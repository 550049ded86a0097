use Rattle.pan_driver.proofs.lowering.front_of.Goals as goal

pub returns-clause-crep : goal.returns-clause-crep
returns-clause-crep c = c.in_ok-crep.ensures

pub returns-clause-loops : goal.returns-clause-loops
returns-clause-loops c = c.in_ok-loops.ensures

pub returns-clause-words : goal.returns-clause-words
returns-clause-words c = c.in_ok-words.ensures
