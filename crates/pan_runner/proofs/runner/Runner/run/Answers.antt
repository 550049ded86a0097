use Rattle.std.proofs.Common.{◌≡◌, ◌+◌, sym, subst, ◌∙◌, arith, true}
use Rattle.pan_runner.specs.View.{is_spending}
use Rattle.pan_runner.specs.Runner.{config_of, GoesOn, IsBounded}
use Rattle.pan_runner.proofs.Advancing.{keeps_on, goes_on, bound_on, feeds_on, feeds_bound, feeds_unstopped, units_origin}
use Rattle.pan_runner.proofs.runner.Runner.run.Goals as goal

pub units-preserved : goal.units-preserved
units-preserved c =
    let old = c.args.self.now in
    let mid = c.units.self in
    let given = c.feed.new.self in
    let new = c.settle-in-units.new.self in
    let before = c.units.invariant in
    let keeps = c.feed.ensures.keeps in
    let to = c.feed.ensures.config in
    let spends : is_spending (config_of mid) ≡ true = sym c.is_spending.ensures ∙ c.if-not-is_spending.false in
    let settled = c.in_ok-settle-2.ensures.settled in
    let used = c.units.used in
    let same : used + 1 + 0 ≡ used + 1 = omega arith in
    record {
      within = omega arith;
      keeps = keeps_on old given new (keeps_on old mid given before.keeps keeps) settled.keeps;
      goes = subst (λ n. GoesOn old new n) same (goes_on old given new (used + 1) 0 (goes_on old mid given used 1 before.goes (feeds_on mid given keeps to spends)) settled.goes);
      bound = subst (λ n. IsBounded old new n) same (bound_on old given new (used + 1) 0 (bound_on old mid given used 1 before.bound (feeds_bound mid given keeps to spends)) settled.bound);
      origin = units_origin old mid given new used before.origin spends (feeds_unstopped mid given keeps to spends) settled.origin;
      still = settled.still;
    }
