use Rattle.std.proofs.Common.{◌++◌, arith, sym, ap, ◌∙◌}
use Rattle.crep_lang.specs.Steps.{expr_steps}
use Rattle.loop_lower.specs.Lowered.{steps_at, place_at}
use Rattle.loop_lower.specs.Spine.{leaf_expr, applied, all_applied, target_before}
use Rattle.loop_lower.proofs.Spines.{applied_first, operand_smaller, steps_more, place_more, next_more, all_done}
use Rattle.loop_lower.proofs.lowering.+lowered.Goals as goal

pub lower_expr-operations-init : goal.lower_expr-operations-init
lower_expr-operations-init t c =
    let a = c.args in
    let leaf = leaf_expr c.in_ok-spine.spine.leaf in
    let goes = c.target_now-into.ensures in
    let into = c.in_ok-place.ensures in (
      leaf,
      c.in_ok-spine.ensures,
      into.steps ∙ ap (λ g. a.steps.now ++ steps_at a.apart g leaf a.free) goes,
      into.variable ∙ ap (λ g. place_at a.apart g leaf a.free) goes,
      into.free,
    )

pub lower_expr-lower_operation-requires : goal.lower_expr-lower_operation-requires
lower_expr-lower_operation-requires t c =
    let i = c.operations.invariant in
    let last = ap (λ os. expr_steps (all_applied os i.0)) c.in-Some.ensures in
    let whole = ap expr_steps i.1 in
    let less = operand_smaller c.pop.new.self c.in-Some.operation i.0 in
    (omega (arith, last, whole, less), tt)

pub lower_expr-operations-preserved : goal.lower_expr-operations-preserved
lower_expr-operations-preserved t c =
    let a = c.args in
    let i = c.operations.invariant in
    let o = c.in-Some.operation in
    let rest = c.pop.new.self in
    let last = c.in-Some.ensures in
    let goes = c.target_now-into-in-Some.ensures in
    let into = c.in_ok-place-2.ensures in (
      applied o i.0,
      sym (applied_first rest o i.0) ∙ sym (ap (λ os. all_applied os i.0) last) ∙ i.1,
      steps_more a.apart a.target _ _ rest o i.0 _ _ a.free last goes i.3 i.4 a.steps.now _ _ i.2 into.steps,
      place_more a.apart a.target _ _ rest o i.0 _ _ a.free last goes i.3 i.4 _ into.variable,
      next_more a.apart a.target _ _ rest o i.0 _ _ a.free last goes i.3 i.4 _ into.free,
    )

pub lower_expr-returns-clause-steps : goal.lower_expr-returns-clause-steps
lower_expr-returns-clause-steps t c =
    let a = c.args in
    let i = c.operations.invariant in
    let none = c.in_default.ensures.0 in
    let whole = all_done _ i.0 a.expr.now none i.1 in
    i.2
    ∙ ap (λ os. a.steps.now ++ steps_at a.apart (target_before os a.target) i.0 a.free) none
    ∙ ap (λ e. a.steps.now ++ steps_at a.apart a.target e a.free) whole
