use Rattle.std.proofs.Common.{sym, ◌∙◌}
use Rattle.pan_runner.proofs.Advancing.{keeps_on, goes_on, bound_on, steps_on, steps_bound, steps_lighter, steps_unstopped, steps_origin}
use Rattle.pan_runner.proofs.runner.Runner.settle.Goals as goal

pub steps-smaller : goal.steps-smaller
steps-smaller c = steps_lighter c.steps.self c.step.new.self c.step.ensures.keeps c.in_ok-step.ensures.config (sym c.is_running.ensures ∙ c.steps-test.true)

pub steps-preserved : goal.steps-preserved
steps-preserved c =
    let old = c.args.self.now in
    let mid = c.steps.self in
    let new = c.step.new.self in
    let before = c.steps.invariant in
    let keeps = c.step.ensures.keeps in
    let to = c.in_ok-step.ensures.config in
    let running = sym c.is_running.ensures ∙ c.steps-test.true in
    record {
      keeps = keeps_on old mid new before.keeps keeps;
      goes = goes_on old mid new 0 0 before.goes (steps_on mid new keeps to);
      bound = bound_on old mid new 0 0 before.bound (steps_bound mid new keeps to);
      origin = steps_origin old mid new before.origin running (steps_unstopped mid new keeps to running);
    }
