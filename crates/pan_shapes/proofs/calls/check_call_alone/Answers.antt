use Rattle.std.proofs.Common.{◌≡◌, ◌-◌, ◌^◌, min, sum, [], List, refl, map, option_map, arith, ◌∙◌, ap, subst}
use Rattle.std.specs.Option.{option_copied}
use Rattle.pan_tree.specs.declared.spanned.Spanned.{Spanned}
use Rattle.pan_tree.specs.declared.syntax.ExprKind.{ExprKind}
use Rattle.pan_tree.specs.declared.program.Function.{Function}
use Rattle.pan_tree.specs.Shapes.{words_of}
use Rattle.pan_tree.specs.Check.{breaks_of, weights, function_of, result_of, or_word, target_words, after_target}
use Rattle.pan_shapes.specs.declared.judging.Judged.{Judged}
use Rattle.pan_shapes.specs.Judging.{TellsAll}
use Rattle.pan_shapes.specs.Arguments.{call_breaks}
use Rattle.pan_shapes.specs.Doings.{context, state}
use Rattle.pan_shapes.proofs.Answering.{Refuses, refused, refused_alone}
use Rattle.pan_shapes.proofs.ArgumentLemmas.{arguments, shapes_of, told_shapes, alone_breaks, result_known, weights_told}
use Rattle.pan_shapes.proofs.calls.check_call_alone.Goals as goal

pub returns-in_err-args : goal.returns-in_err-args
returns-in_err-args c =
    let v = (c.args.walk.now).scopes in
    let e = c.in_err-args.field-0.0 in
    let bs = breaks_of (arguments (c.args.call.now).args v) in
    let first : Refuses bs e = subst (λ (xs : List (Spanned ExprKind)). Refuses (breaks_of (arguments xs v)) e) c.as_slice.ensures c.in_err-args.ensures in
    refused _ c.from_residual.result bs _ e refl c.from_residual.ensures.1 first

pub returns-in_err-refuse_call : goal.returns-in_err-refuse_call
returns-in_err-refuse_call c =
    let v = (c.args.walk.now).scopes in
    let js = arguments (c.args.call.now.args) v in
    let p = (c.args.around.now).heads.now in
    let told : (breaks_of js ≡ []) × TellsAll js c.in_ok-args.args =
    subst (λ (xs : List (Spanned ExprKind)). (breaks_of (arguments xs v) ≡ []) × TellsAll (arguments xs v) c.in_ok-args.args) c.as_slice.ensures c.in_ok-args.ensures in
    let ss : told_shapes c.as_slice-args.result.now ≡ shapes_of js = ap told_shapes c.as_slice-args.ensures ∙ told.1.0 in
    let f : option_copied c.function-function.result ≡ function_of (c.args.call.now.function) p = c.function-function.ensures ∙ ap (λ q. function_of q p) c.as_bytes.ensures in
    let call = c.args.call.now in
    refused_alone _ c.from_residual-in_err-refuse_call.result (call_breaks c.args.place call.into (option_copied c.function-function.result) (told_shapes c.as_slice-args.result.now) c.args.no_exception v)
    c.in_err-refuse_call.field-0.0 (alone_breaks call.into call.function call.args c.args.no_exception (context c.args.around.now) c.args.place (state c.args.walk.now) _ _ told.0 ss f) c.from_residual-in_err-refuse_call.ensures.1 c.in_err-refuse_call.ensures

pub returns : goal.returns
returns c =
    let v = (c.args.walk.now).scopes in
    let js = arguments (c.args.call.now.args) v in
    let p = (c.args.around.now).heads.now in
    let told : (breaks_of js ≡ []) × TellsAll js c.in_ok-args.args =
    subst (λ (xs : List (Spanned ExprKind)). (breaks_of (arguments xs v) ≡ []) × TellsAll (arguments xs v) c.in_ok-args.args) c.as_slice.ensures c.in_ok-args.ensures in
    let ss : told_shapes c.as_slice-args.result.now ≡ shapes_of js = ap told_shapes c.as_slice-args.ensures ∙ told.1.0 in
    let f : option_copied c.function-function.result ≡ function_of (c.args.call.now.function) p = c.function-function.ensures ∙ ap (λ q. function_of q p) c.as_bytes.ensures in
    let weight : c.weight_of_all.result ≡ min (weights js) (2 ^ 64 - 1) =
    c.weight_of_all.ensures ∙ ap (λ ks. min (sum (map (λ (k : Judged). k.weight) ks)) (2 ^ 64 - 1)) c.as_slice-args.ensures ∙ weights_told js c.in_ok-args.args (2 ^ 64 - 1) told.1.1 in
    let call = c.args.call.now in
    let g = function_of call.function p in
    let shape : or_word (option_copied c.shape_of_result-shape.result) ≡ result_of g = ap or_word (c.shape_of_result-shape.ensures ∙ ap (option_map (λ (h : Function). h.result)) f) ∙ result_known g in
    let known : c.words_of_known.result ≡ min (words_of (result_of g)) (2 ^ 64 - 1) = c.words_of_known.ensures ∙ ap (λ s. min (words_of s) (2 ^ 64 - 1)) shape in
    let taken : c.words_of_target.result ≡ min (target_words call.into (result_of g) v) (2 ^ 64 - 1) = c.words_of_target.ensures ∙ ap (λ s. min (target_words call.into s v) (2 ^ 64 - 1)) shape in
    let after : c.declare_target.new.scopes ≡ after_target call.into (result_of g) v = c.in_ok-declare_target.ensures ∙ ap (λ s. after_target call.into s v) shape in (
      alone_breaks call.into call.function call.args c.args.no_exception (context c.args.around.now) c.args.place (state c.args.walk.now) _ _ told.0 ss f ∙ c.in_ok-refuse_call.ensures.0,
      (omega arith, ap (λ scopes. record { scopes = scopes; names = (c.args.walk.now).names }) after),
    )
