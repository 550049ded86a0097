use Rattle.std.proofs.Common.{sym, ap, ◌∙◌}
use Rattle.pan_runner.specs.Machine.{Next, Leave, Runs}
use Rattle.pan_runner.specs.Runner.{frames_of}
use Rattle.pan_runner.proofs.Begun.{given, at_next}
use Rattle.pan_runner.proofs.Halts.{halted}
use Rattle.pan_runner.proofs.Equations.{begins_assign}
use Rattle.pan_runner.proofs.runner.Runner.assign.Goals as goal

pub returns-in_err-value-clause-config : goal.returns-in_err-value-clause-config
returns-in_err-value-clause-config c =
    halted _ _ _ _ _ _ c.from_residual.ensures.1 (begins_assign c.args.self.now c.args.place c.args.e.now) c.in_err-value.ensures

pub returns-clause-config : goal.returns-clause-config
returns-clause-config c =
    let r = c.args.self.now in
    at_next _ _ _ _ c.requires
    ∙ ap (λ u. Runs (Leave (Next u)) (frames_of r) r.memory) c.assign.ensures
    ∙ sym (begins_assign r c.args.place c.args.e.now ∙ given _ _ _ c.in_ok-value.ensures)
