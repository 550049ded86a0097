use Rattle.std.proofs.Common.{sym, ◌∙◌}
use Rattle.pan_runner.proofs.Begun.{given, missing, at_next}
use Rattle.pan_runner.proofs.Halts.{halted}
use Rattle.pan_runner.proofs.Equations.{begins_store_words}
use Rattle.pan_runner.proofs.runner.Runner.store_words.Goals as goal

pub returns-in_err-addr-clause-config : goal.returns-in_err-addr-clause-config
returns-in_err-addr-clause-config c =
    halted _ _ _ _ _ _ c.from_residual.ensures.1 (begins_store_words c.args.self.now c.args.a.now c.args.e.now) c.in_err-addr.ensures

pub returns-in_err-value-clause-config : goal.returns-in_err-value-clause-config
returns-in_err-value-clause-config c =
    halted _ _ _ _ _ _ c.from_residual-in_err-value.ensures.1 (begins_store_words c.args.self.now c.args.a.now c.args.e.now ∙ given _ _ _ c.in_ok-addr.ensures) c.in_err-value.ensures

pub returns-then-not-store_words-clause-config : goal.returns-then-not-store_words-clause-config
returns-then-not-store_words-clause-config c =
    begins_store_words c.args.self.now c.args.a.now c.args.e.now ∙ given _ _ _ c.in_ok-addr.ensures ∙ given _ _ _ c.in_ok-value.ensures ∙ missing _ _ (c.if-not-store_words.ensures {u = tt}).refused

pub returns-clause-config : goal.returns-clause-config
returns-clause-config c =
    at_next _ _ _ _ c.requires
    ∙ sym (begins_store_words c.args.self.now c.args.a.now c.args.e.now ∙ given _ _ _ c.in_ok-addr.ensures ∙ given _ _ _ c.in_ok-value.ensures ∙ given _ _ _ (c.if-not-store_words.ensures {u = tt}).stored)
