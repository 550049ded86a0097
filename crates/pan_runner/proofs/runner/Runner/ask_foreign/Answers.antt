use Rattle.std.proofs.Common.{sym, subst, ◌∙◌}
use Rattle.pan_runner.specs.Halting.{Comes}
use Rattle.pan_runner.specs.Runner.{config_of}
use Rattle.pan_runner.proofs.Begun.{given}
use Rattle.pan_runner.proofs.Halts.{halted, surely}
use Rattle.pan_runner.proofs.Equations.{begins_foreign}
use Rattle.pan_runner.proofs.runner.Runner.ask_foreign.Goals as goal

pub returns-in_err-name-clause-config : goal.returns-in_err-name-clause-config
returns-in_err-name-clause-config c =
    halted _ _ _ _ _ _ c.from_residual.ensures.1 (begins_foreign c.args.self.now c.args.name c.args.conf.now c.args.conf_len.now c.args.array.now c.args.array_len.now) (surely _ _ c.in_err-name.ensures.ok_part)

pub returns-in_err-conf_at-clause-config : goal.returns-in_err-conf_at-clause-config
returns-in_err-conf_at-clause-config c =
    halted _ _ _ _ _ _ c.from_residual-in_err-conf_at.ensures.1 (begins_foreign c.args.self.now c.args.name c.args.conf.now c.args.conf_len.now c.args.array.now c.args.array_len.now ∙ given _ _ _ c.in_ok-name.ensures.ok_part) c.in_err-conf_at.ensures

pub returns-in_err-conf_count-clause-config : goal.returns-in_err-conf_count-clause-config
returns-in_err-conf_count-clause-config c =
    halted _ _ _ _ _ _ c.from_residual-in_err-conf_count.ensures.1 (begins_foreign c.args.self.now c.args.name c.args.conf.now c.args.conf_len.now c.args.array.now c.args.array_len.now ∙ given _ _ _ c.in_ok-name.ensures.ok_part ∙ given _ _ _ c.in_ok-conf_at.ensures) c.in_err-conf_count.ensures

pub returns-in_err-array_at-clause-config : goal.returns-in_err-array_at-clause-config
returns-in_err-array_at-clause-config c =
    halted _ _ _ _ _ _ c.from_residual-in_err-array_at.ensures.1 (begins_foreign c.args.self.now c.args.name c.args.conf.now c.args.conf_len.now c.args.array.now c.args.array_len.now ∙ given _ _ _ c.in_ok-name.ensures.ok_part ∙ given _ _ _ c.in_ok-conf_at.ensures ∙ given _ _ _ c.in_ok-conf_count.ensures) c.in_err-array_at.ensures

pub returns-in_err-array_count-clause-config : goal.returns-in_err-array_count-clause-config
returns-in_err-array_count-clause-config c =
    halted _ _ _ _ _ _ c.from_residual-in_err-array_count.ensures.1 (begins_foreign c.args.self.now c.args.name c.args.conf.now c.args.conf_len.now c.args.array.now c.args.array_len.now ∙ given _ _ _ c.in_ok-name.ensures.ok_part ∙ given _ _ _ c.in_ok-conf_at.ensures ∙ given _ _ _ c.in_ok-conf_count.ensures ∙ given _ _ _ c.in_ok-array_at.ensures) c.in_err-array_count.ensures

pub returns-clause-config : goal.returns-clause-config
returns-clause-config c =
    let asks =
    begins_foreign c.args.self.now c.args.name c.args.conf.now c.args.conf_len.now c.args.array.now c.args.array_len.now
    ∙ given _ _ _ c.in_ok-name.ensures.ok_part ∙ given _ _ _ c.in_ok-conf_at.ensures ∙ given _ _ _ c.in_ok-conf_count.ensures ∙ given _ _ _ c.in_ok-array_at.ensures ∙ given _ _ _ c.in_ok-array_count.ensures in
    subst (Comes c.ask_buffers.result (config_of c.ask_buffers.new.self)) (sym asks) c.ask_buffers.ensures.config
