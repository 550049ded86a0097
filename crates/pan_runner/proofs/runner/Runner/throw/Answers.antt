use Rattle.std.proofs.Common.{sym, ◌∙◌}
use Rattle.pan_runner.proofs.Begun.{given}
use Rattle.pan_runner.proofs.Halts.{halted, surely}
use Rattle.pan_runner.proofs.Equations.{begins_raise}
use Rattle.pan_runner.proofs.runner.Runner.throw.Goals as goal

pub returns-in_err-exception-clause-config : goal.returns-in_err-exception-clause-config
returns-in_err-exception-clause-config c =
    halted _ _ _ _ _ _ c.from_residual.ensures.1 (begins_raise c.args.self.now c.args.exception c.args.e.now) (surely _ _ c.in_err-exception.ensures.ok_part)

pub returns-in_err-value-clause-config : goal.returns-in_err-value-clause-config
returns-in_err-value-clause-config c =
    halted _ _ _ _ _ _ c.from_residual-in_err-value.ensures.1 (begins_raise c.args.self.now c.args.exception c.args.e.now ∙ given _ _ _ c.in_ok-exception.ensures.ok_part) c.in_err-value.ensures

pub returns-clause-config : goal.returns-clause-config
returns-clause-config c = sym (begins_raise c.args.self.now c.args.exception c.args.e.now ∙ given _ _ _ c.in_ok-exception.ensures.ok_part ∙ given _ _ _ c.in_ok-value.ensures)
