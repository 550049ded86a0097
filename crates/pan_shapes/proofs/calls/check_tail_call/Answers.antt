use Rattle.std.proofs.Common.{◌≡◌, ◌-◌, ◌^◌, min, sum, [], refl, map, option_map, arith, ◌∙◌, ap}
use Rattle.std.specs.Option.{option_copied}
use Rattle.pan_tree.specs.declared.program.Function.{Function}
use Rattle.pan_tree.specs.Shapes.{words_of}
use Rattle.pan_tree.specs.Check.{breaks_of, weights, function_of, result_of, or_word}
use Rattle.pan_shapes.specs.declared.judging.Judged.{Judged}
use Rattle.pan_shapes.specs.Judging.{TellsAll}
use Rattle.pan_shapes.specs.Arguments.{tail_breaks}
use Rattle.pan_shapes.specs.Doings.{context, state}
use Rattle.pan_shapes.proofs.Answering.{refused, refused_alone}
use Rattle.pan_shapes.proofs.ArgumentLemmas.{arguments, shapes_of, told_shapes, tail_call_breaks, result_known, weights_told}
use Rattle.pan_shapes.proofs.calls.check_tail_call.Goals as goal

pub returns-in_err-args : goal.returns-in_err-args
returns-in_err-args c =
    let js = arguments c.args.args.now (c.args.walk.now).scopes in
    refused _ c.from_residual.result (breaks_of js) _ c.in_err-args.field-0.0 refl c.from_residual.ensures.1 c.in_err-args.ensures

pub returns-in_err-refuse_tail_call : goal.returns-in_err-refuse_tail_call
returns-in_err-refuse_tail_call c =
    let v = (c.args.walk.now).scopes in
    let js = arguments (c.args.args.now) v in
    let p = (c.args.around.now).heads.now in
    let told : (breaks_of js ≡ []) × TellsAll js c.in_ok-args.args = c.in_ok-args.ensures in
    let ss : told_shapes c.as_slice-args.result.now ≡ shapes_of js = ap told_shapes c.as_slice-args.ensures ∙ told.1.0 in
    let f : option_copied c.function-function.result ≡ function_of (c.args.name.now) p = c.function-function.ensures ∙ ap (λ q. function_of q p) c.as_bytes.ensures in
    refused_alone _ c.from_residual-in_err-refuse_tail_call.result (tail_breaks c.args.place (option_copied c.function-function.result) (told_shapes c.as_slice-args.result.now) (c.args.around.now).result.now)
    c.in_err-refuse_tail_call.field-0.0 (tail_call_breaks c.args.name.now c.args.args.now (context c.args.around.now) c.args.place (state c.args.walk.now) _ _ told.0 ss f) c.from_residual-in_err-refuse_tail_call.ensures.1 c.in_err-refuse_tail_call.ensures

pub returns : goal.returns
returns c =
    let v = (c.args.walk.now).scopes in
    let js = arguments (c.args.args.now) v in
    let p = (c.args.around.now).heads.now in
    let told : (breaks_of js ≡ []) × TellsAll js c.in_ok-args.args = c.in_ok-args.ensures in
    let ss : told_shapes c.as_slice-args.result.now ≡ shapes_of js = ap told_shapes c.as_slice-args.ensures ∙ told.1.0 in
    let f : option_copied c.function-function.result ≡ function_of (c.args.name.now) p = c.function-function.ensures ∙ ap (λ q. function_of q p) c.as_bytes.ensures in
    let weight : c.weight_of_all.result ≡ min (weights js) (2 ^ 64 - 1) =
    c.weight_of_all.ensures ∙ ap (λ ks. min (sum (map (λ (k : Judged). k.weight) ks)) (2 ^ 64 - 1)) c.as_slice-args.ensures ∙ weights_told js c.in_ok-args.args (2 ^ 64 - 1) told.1.1 in
    let known : c.words_of_known.result ≡ min (words_of (result_of (function_of c.args.name.now p))) (2 ^ 64 - 1) =
    c.words_of_known.ensures ∙ ap (λ o. min (words_of (or_word o)) (2 ^ 64 - 1)) (c.shape_of_result.ensures ∙ ap (option_map (λ (g : Function). g.result)) f) ∙ ap (λ s. min (words_of s) (2 ^ 64 - 1)) (result_known (function_of c.args.name.now p)) in
    (tail_call_breaks c.args.name.now c.args.args.now (context c.args.around.now) c.args.place (state c.args.walk.now) _ _ told.0 ss f ∙ c.in_ok-refuse_tail_call.ensures.0, (omega arith, refl))
