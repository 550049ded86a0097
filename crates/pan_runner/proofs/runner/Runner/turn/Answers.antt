use Rattle.std.proofs.Common.{sym, ◌∙◌}
use Rattle.pan_runner.proofs.Begun.{given, at_next, begins_turn, ends_turn, turned}
use Rattle.pan_runner.proofs.Halts.{halted}
use Rattle.pan_runner.proofs.Equations.{begins_while}
use Rattle.pan_runner.proofs.runner.Runner.turn.Goals as goal

pub returns-in_err-word-clause-config : goal.returns-in_err-word-clause-config
returns-in_err-word-clause-config c =
    halted _ _ _ _ _ _ c.from_residual.ensures.1 (begins_while c.args.self.now c.args.e.now c.args.body.now) c.in_err-word.ensures

pub returns-then-word-eq0-clause-config : goal.returns-then-word-eq0-clause-config
returns-then-word-eq0-clause-config c = at_next _ _ _ _ c.requires.phase ∙ sym (begins_while c.args.self.now c.args.e.now c.args.body.now ∙ given _ _ _ c.in_ok-word.ensures ∙ ends_turn c.args.self.now c.in_ok-word.word c.args.e.now c.args.body.now c.if-word-eq0.true)

pub returns-clause-config : goal.returns-clause-config
returns-clause-config c =
    turned c.args.self.now c.push.new.self c.open.new.self c.in_ok-block.block c.args.block.now c.args.at c.args.e.now c.args.body.now c.in_ok-block.ensures c.requires.place
    c.push.ensures.keeps (c.in_ok-push.ensures {u = tt}).frames c.open.ensures.keeps (c.in_ok-open.ensures {u = tt}).frames
    ∙ sym (begins_while c.args.self.now c.args.e.now c.args.body.now ∙ given _ _ _ c.in_ok-word.ensures ∙ begins_turn c.args.self.now c.in_ok-word.word c.args.e.now c.args.body.now c.if-word-eq0.false)
