use Rattle.std.proofs.Common.{ap, sym, subst}
use Rattle.pan_driver.specs.Chained.{AreChained}
use Rattle.pan_driver.specs.declared.built.Stages.{Stages}
use Rattle.pan_driver.proofs.building.stages_of.Goals as goal

pub returns-clause-checked : goal.returns-clause-checked
returns-clause-checked c = ap (λ (s : Stages). s.checked) c.join-stages.ensures

pub returns-clause-chained : goal.returns-clause-chained
returns-clause-chained c = subst AreChained (sym c.join-stages.ensures) c.in_ok-lowered.ensures
