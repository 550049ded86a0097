use Rattle.std.proofs.Common.{sym, ◌∙◌}
use Rattle.pan_runner.proofs.Begun.{given}
use Rattle.pan_runner.proofs.Halts.{halted}
use Rattle.pan_runner.proofs.Equations.{begins_return}
use Rattle.pan_runner.proofs.runner.Runner.give.Goals as goal

pub returns-in_err-value-clause-config : goal.returns-in_err-value-clause-config
returns-in_err-value-clause-config c =
    halted _ _ _ _ _ _ c.from_residual.ensures.1 (begins_return c.args.self.now c.args.e.now) c.in_err-value.ensures

pub returns-clause-config : goal.returns-clause-config
returns-clause-config c = sym (begins_return c.args.self.now c.args.e.now ∙ given _ _ _ c.in_ok-value.ensures)
