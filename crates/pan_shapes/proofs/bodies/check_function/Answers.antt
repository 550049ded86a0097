use Rattle.std.proofs.Common.{◌≡◌, ◌∷◌, ◌++◌, ◌-◌, ◌^◌, [], min, not, List, arith, refl, sym, ap, ◌∙◌}
use Rattle.pan_tree.specs.declared.rule.Rule.TheVariants.{NoReturn}
use Rattle.pan_tree.specs.declared.program.Param.{Param}
use Rattle.pan_tree.specs.Check.{body, broken, closes, parameter_words}
use Rattle.pan_shapes.proofs.Answering.{refused}
use Rattle.pan_shapes.proofs.Inducting.{body_weight}
use Rattle.pan_shapes.proofs.bodies.check_function.Goals as goal

pub returns-in_err-body : goal.returns-in_err-body
returns-in_err-body c =
    refused _ c.from_residual.result (body c.args.heads.now c.args.function.now (c.args.walk.now).names).breaks _ c.in_err-body.field-0.0 refl c.from_residual.ensures.1 c.in_err-body.ensures

pub returns : goal.returns
returns c =
    let p = c.args.heads.now in
    let f = c.args.function.now in
    let names = (c.args.walk.now).names in
    let start = (f.span).start in
    let params : c.words_of_params.result ≡ min (parameter_words f.params) (2 ^ 64 - 1) = c.words_of_params.ensures ∙ ap (λ (ps : List Param). min (parameter_words ps) (2 ^ 64 - 1)) c.as_slice.ensures in
    let same = body_weight p f names in
    let inside : c.in_ok-body.body ≡ min (body p f []).weight (2 ^ 64 - 1) = c.in_ok-body.ensures.1.0 ∙ ap (λ n. min n (2 ^ 64 - 1)) same in (
      ap (λ bs. bs ++ broken start ((NoReturn, not (closes f.body)) ∷ [])) c.in_ok-body.ensures.0 ∙ ap (λ b. broken start ((NoReturn, not b) ∷ [])) (sym c.closes-falls_off.ensures) ∙ c.in_ok-refuse.ensures.0,
      (omega arith, c.in_ok-body.ensures.1.1),
    )
