use Rattle.std.proofs.Common.{sym, ◌∙◌}
use Rattle.pan_runner.proofs.Begun.{given, opened, if_some, if_none}
use Rattle.pan_runner.proofs.Halts.{halted}
use Rattle.pan_runner.proofs.Equations.{begins_if}
use Rattle.pan_runner.proofs.runner.Runner.choose.Goals as goal

pub returns-in_err-word-clause-config : goal.returns-in_err-word-clause-config
returns-in_err-word-clause-config c =
    halted _ _ _ _ _ _ c.from_residual.ensures.1 (begins_if c.args.self.now c.args.e.now c.args.first.now c.args.second.now) c.in_err-word.ensures

pub returns-in_ok-open-clause-config : goal.returns-in_ok-open-clause-config
returns-in_ok-open-clause-config c =
    opened c.args.self.now c.open.new.self _ c.requires c.open.ensures.keeps (c.in_ok-open.ensures {u = tt}).frames
    ∙ sym (begins_if c.args.self.now c.args.e.now c.args.first.now c.args.second.now ∙ given _ _ _ c.in_ok-word.ensures ∙ if_some c.args.self.now c.in_ok-word.word c.args.first.now c.args.second.now c.if-word-ne0.true)

pub returns-in_ok-open-2-clause-config : goal.returns-in_ok-open-2-clause-config
returns-in_ok-open-2-clause-config c =
    opened c.args.self.now c.open-else-word-ne0.new.self _ c.requires c.open-else-word-ne0.ensures.keeps (c.in_ok-open-2.ensures {u = tt}).frames
    ∙ sym (begins_if c.args.self.now c.args.e.now c.args.first.now c.args.second.now ∙ given _ _ _ c.in_ok-word.ensures ∙ if_none c.args.self.now c.in_ok-word.word c.args.first.now c.args.second.now c.if-word-ne0.false)
