use Rattle.std.proofs.Common.{sym, ap, ◌∙◌}
use Rattle.pan_runner.specs.Runner.{variables_of, frames_of}
use Rattle.pan_runner.specs.Machine.{Waits, Storing}
use Rattle.pan_runner.proofs.Begun.{given, where_so, where_not}
use Rattle.pan_runner.proofs.Halts.{halted}
use Rattle.pan_runner.proofs.Equations.{begins_store}
use Rattle.pan_runner.proofs.runner.Runner.ask_store.Goals as goal

pub returns-in_err-addr-clause-config : goal.returns-in_err-addr-clause-config
returns-in_err-addr-clause-config c =
    halted _ _ _ _ _ _ c.from_residual.ensures.1 (begins_store c.args.self.now c.args.size c.args.a.now c.args.e.now) c.in_err-addr.ensures

pub returns-in_err-word-clause-config : goal.returns-in_err-word-clause-config
returns-in_err-word-clause-config c =
    halted _ _ _ _ _ _ c.from_residual-in_err-word.ensures.1 (begins_store c.args.self.now c.args.size c.args.a.now c.args.e.now ∙ given _ _ _ c.in_ok-addr.ensures) c.in_err-word.ensures

pub returns-then-not-is_shared-clause-config : goal.returns-then-not-is_shared-clause-config
returns-then-not-is_shared-clause-config c =
    begins_store c.args.self.now c.args.size c.args.a.now c.args.e.now ∙ given _ _ _ c.in_ok-addr.ensures ∙ given _ _ _ c.in_ok-word.ensures ∙ where_not _ _ (sym c.if-not-is_shared.ensures)

pub returns-clause-config : goal.returns-clause-config
returns-clause-config c =
    let r = c.args.self.now in
    ap (λ n. Waits (Storing c.args.size c.in_ok-addr.addr n) (variables_of r) (frames_of r) r.memory) c.cut-value.ensures
    ∙ sym (begins_store r c.args.size c.args.a.now c.args.e.now ∙ given _ _ _ c.in_ok-addr.ensures ∙ given _ _ _ c.in_ok-word.ensures ∙ where_so _ _ (sym c.if-not-is_shared.ensures))
