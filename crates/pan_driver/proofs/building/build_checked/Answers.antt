use Rattle.std.proofs.Common.{subst}
use Rattle.pan_agree.specs.Faithful.{Faithful}
use Rattle.pan_driver.specs.Chained.{parts}
use Rattle.pan_driver.specs.Bounded.{IsBoundOf}
use Rattle.pan_driver.specs.InTime.{IsInTime, IsShort}
use Rattle.pan_driver.proofs.building.build_checked.Goals as goal

pub returns-clause-chained : goal.returns-clause-chained
returns-clause-chained c = record { checked = c.in_ok-stages.ensures.checked; stages = c.in_ok-stages.ensures.chained; written = c.in_ok-image.ensures }

pub returns-clause-faithful : goal.returns-clause-faithful
returns-clause-faithful c =
    let s = c.in_ok-stages.stages in
    subst (λ p. Faithful p c.in_ok-image.image (parts s)) c.in_ok-stages.ensures.checked (c.chained_is_faithful.ensures.faithful s c.in_ok-image.image c.in_ok-stages.ensures.chained c.in_ok-image.ensures)

pub returns-clause-in_time : goal.returns-clause-in_time
returns-clause-in_time c =
    let s = c.in_ok-stages.stages in
    subst (λ p. IsInTime p (parts s)) c.in_ok-stages.ensures.checked (c.chained_is_faithful.ensures.in_time s c.in_ok-stages.ensures.chained)

pub returns-clause-code : goal.returns-clause-code
returns-clause-code c =
    let s = c.in_ok-stages.stages in
    subst (λ p. IsShort p (parts s)) c.in_ok-stages.ensures.checked (c.chained_is_faithful.ensures.code s c.in_ok-stages.ensures.chained)

pub returns-clause-bounded : goal.returns-clause-bounded
returns-clause-bounded c =
    let s = c.in_ok-stages.stages in
    subst (λ p. IsBoundOf p (parts s) s.bound) c.in_ok-stages.ensures.checked (c.chained_is_faithful.ensures.bounded s c.in_ok-stages.ensures.chained)
