use Rattle.std.proofs.Common.{subst, sym}
use Rattle.pan_agree.specs.Faithful.{Faithful}
use Rattle.pan_driver.specs.Chained.{parts}
use Rattle.pan_driver.specs.Bounded.{IsBoundOf}
use Rattle.pan_driver.specs.InTime.{IsInTime, IsShort}
use Rattle.pan_driver.proofs.Sources.{refused_so, starved_so, told_so, not_refused, of_source_so}
use Rattle.pan_driver.proofs.building.build.Goals as goal

pub returns-in_err-checked-clause-refused : goal.returns-in_err-checked-clause-refused
returns-in_err-checked-clause-refused c = refused_so _ c.in_err-checked.field-0.0 _ c.from_residual.ensures.1 c.in_err-checked.ensures.refused

pub returns-in_err-checked-clause-passes : goal.returns-in_err-checked-clause-passes
returns-in_err-checked-clause-passes c = starved_so _ c.in_err-checked.field-0.0 _ c.from_residual.ensures.1 c.in_err-checked.ensures.passes

pub returns-in_err-checked-clause-exact : goal.returns-in_err-checked-clause-exact
returns-in_err-checked-clause-exact c = told_so _ c.in_err-checked.field-0.0 _ c.from_residual.ensures.1 c.in_err-checked.ensures.exact

pub returns-clause-chained : goal.returns-clause-chained
returns-clause-chained c = of_source_so _ c.in_ok-checked.checked (c.in_ok-built.built).stages (c.in_ok-built.built).image c.in_ok-checked.ensures.checked c.in_ok-built.ensures.chained

pub returns-clause-faithful : goal.returns-clause-faithful
returns-clause-faithful c =
    let b = c.in_ok-built.built in
    subst (λ p. Faithful p b.image (parts b.stages)) (sym c.in_ok-built.ensures.chained.checked) c.in_ok-built.ensures.faithful

pub returns-clause-in_time : goal.returns-clause-in_time
returns-clause-in_time c = let b = c.in_ok-built.built in subst (λ p. IsInTime p (parts b.stages)) (sym c.in_ok-built.ensures.chained.checked) c.in_ok-built.ensures.in_time

pub returns-clause-code : goal.returns-clause-code
returns-clause-code c = let b = c.in_ok-built.built in subst (λ p. IsShort p (parts b.stages)) (sym c.in_ok-built.ensures.chained.checked) c.in_ok-built.ensures.code

pub returns-clause-bounded : goal.returns-clause-bounded
returns-clause-bounded c = let b = c.in_ok-built.built in subst (λ p. IsBoundOf p (parts b.stages) b.stages.bound) (sym c.in_ok-built.ensures.chained.checked) c.in_ok-built.ensures.bounded

pub returns-clause-exact : goal.returns-clause-exact
returns-clause-exact c = λ e refused. absurd (not_refused _ c.in_ok-checked.checked c.in_ok-checked.ensures.exact e refused)
