use Rattle.std.proofs.Common.{sym, subst}
use Rattle.pan_driver.proofs.lowering.middle_of.Goals as goal

pub returns-clause-over_homes : goal.returns-clause-over_homes
returns-clause-over_homes c = c.in_ok-homes.ensures.homes
