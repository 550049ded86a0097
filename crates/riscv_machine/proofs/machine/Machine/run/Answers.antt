use Rattle.std.proofs.Common.{arith, inr, ◌∙◌}
use Rattle.riscv_machine.proofs.AdvanceLemmas.{goes_on, bound_on, started}
use Rattle.riscv_machine.proofs.EndLemmas.{came_on, ends_here}
use Rattle.riscv_machine.proofs.machine.Machine.run.Goals as goal

pub steps-preserved : goal.steps-preserved
steps-preserved c =
    let old = c.args.self.now in
    let mid = c.steps.self in
    let new = c.step.new.self in
    let used = c.steps.used in
    let invariant = c.steps.invariant in
    let running = c.in-Running.is in
    let stepped = c.step.ensures.config in
    record {
      within = omega arith;
      goes = goes_on old mid new used running stepped invariant.goes;
      bound = bound_on old mid new used running stepped invariant.bound;
      size = c.step.ensures.size ∙ invariant.size;
      origin = inr (started old mid used invariant.origin running, c.step.ensures.unrefused);
      came = came_on old mid new used running stepped invariant.came;
      end = ends_here old mid new used running stepped invariant.came c.step.ensures.kept;
    }
