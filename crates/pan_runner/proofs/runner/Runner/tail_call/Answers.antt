use Rattle.std.proofs.Common.{sym, ap, ◌∙◌}
use Rattle.source_resolver.specs.Slots.{values}
use Rattle.pan_runner.specs.Runner.{variables_of}
use Rattle.pan_runner.proofs.Begun.{given}
use Rattle.pan_runner.proofs.Halts.{halted, surely, moved}
use Rattle.pan_runner.proofs.Equations.{begins_tail_call}
use Rattle.pan_runner.proofs.runner.Runner.tail_call.Goals as goal

pub returns-in_err-function-clause-config : goal.returns-in_err-function-clause-config
returns-in_err-function-clause-config c =
    halted _ _ _ _ _ _ c.from_residual.ensures.1 (begins_tail_call c.args.self.now c.args.function c.args.args.now) (surely _ _ c.in_err-function.ensures.ok_part)

pub returns-in_err-args-clause-config : goal.returns-in_err-args-clause-config
returns-in_err-args-clause-config c =
    halted _ _ _ _ _ _ c.from_residual-in_err-args.ensures.1 (begins_tail_call c.args.self.now c.args.function c.args.args.now ∙ given _ _ _ c.in_ok-function.ensures.ok_part) (moved _ (λ es. values es (variables_of c.args.self.now) c.args.self.now.memory) _ _ c.as_slice.ensures c.in_err-args.ensures)

pub returns-clause-config : goal.returns-clause-config
returns-clause-config c =
    let r = c.args.self.now in
    sym (begins_tail_call r c.args.function c.args.args.now ∙ given _ _ _ c.in_ok-function.ensures.ok_part ∙ given _ _ _ (ap (λ es. values es (variables_of r) r.memory) (sym c.as_slice.ensures) ∙ c.in_ok-args.ensures))
