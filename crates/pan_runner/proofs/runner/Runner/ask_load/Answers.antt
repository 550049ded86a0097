use Rattle.std.proofs.Common.{sym, ◌∙◌}
use Rattle.pan_runner.proofs.Begun.{given, where_so, where_not}
use Rattle.pan_runner.proofs.Halts.{halted}
use Rattle.pan_runner.proofs.Equations.{begins_load}
use Rattle.pan_runner.proofs.runner.Runner.ask_load.Goals as goal

pub returns-in_err-addr-clause-config : goal.returns-in_err-addr-clause-config
returns-in_err-addr-clause-config c =
    halted _ _ _ _ _ _ c.from_residual.ensures.1 (begins_load c.args.self.now c.args.size c.args.place c.args.a.now) c.in_err-addr.ensures

pub returns-then-not-is_shared-clause-config : goal.returns-then-not-is_shared-clause-config
returns-then-not-is_shared-clause-config c = begins_load c.args.self.now c.args.size c.args.place c.args.a.now ∙ given _ _ _ c.in_ok-addr.ensures ∙ where_not _ _ (sym c.if-not-is_shared.ensures)

pub returns-clause-config : goal.returns-clause-config
returns-clause-config c = sym (begins_load c.args.self.now c.args.size c.args.place c.args.a.now ∙ given _ _ _ c.in_ok-addr.ensures ∙ where_so _ _ (sym c.if-not-is_shared.ensures))
