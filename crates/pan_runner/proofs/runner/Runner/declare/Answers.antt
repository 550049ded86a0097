use Rattle.std.proofs.Common.{sym, ap, ◌∙◌}
use Rattle.pan_runner.specs.Told.{all_told}
use Rattle.pan_runner.specs.Machine.{Next, Leave, Runs}
use Rattle.pan_runner.specs.Runner.{frames_of}
use Rattle.pan_runner.proofs.Begun.{given, told_more, at_next}
use Rattle.pan_runner.proofs.Halts.{halted}
use Rattle.pan_runner.proofs.Equations.{begins_declare}
use Rattle.pan_runner.proofs.runner.Runner.declare.Goals as goal

pub returns-in_err-value-clause-config : goal.returns-in_err-value-clause-config
returns-in_err-value-clause-config c =
    halted _ _ _ _ _ _ c.from_residual.ensures.1 (begins_declare c.args.self.now c.args.e.now) c.in_err-value.ensures

pub returns-clause-config : goal.returns-clause-config
returns-clause-config c =
    let r = c.args.self.now in
    at_next _ _ _ _ c.requires
    ∙ ap (λ u. Runs (Leave (Next u)) (frames_of r) r.memory) (ap all_told c.in_ok-push.ensures.ok ∙ told_more r.variables c.in_ok-value.value)
    ∙ sym (begins_declare r c.args.e.now ∙ given _ _ _ c.in_ok-value.ensures)
