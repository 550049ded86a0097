use Rattle.std.proofs.Common.{◌≡◌, ◌++◌, [], ap, ◌∙◌, drop, take, ◌+◌}
use Rattle.std.specs.List.{list_any}
use Rattle.std.specs.Str.{bytes_eq}
use Rattle.pan_tree.specs.declared.program.Function.{Function}
use Rattle.pan_tree.specs.Check.{function_heads, with_name}
use Rattle.pan_shapes.specs.HeadRules.{function_head, head_repeats}
use Rattle.pan_shapes.proofs.Answering.{refused}
use Rattle.pan_shapes.proofs.HeadLemmas.{function_step, names_more, first_holds, known_holds}
use Rattle.pan_shapes.proofs.heads.function_names.Goals as goal

pub returns-in_err-refuse_head : goal.returns-in_err-refuse_head
returns-in_err-refuse_head c =
    let xs = c.args.functions.now in
    let i = c.loop-function.function-index in
    let step = function_step xs i c.function-item.result c.loop-function.names c.loop-function-test.true c.function-item.is c.loop-function.invariant.names in
    refused _ c.from_residual.result (function_head c.loop-function.names c.function-item.result) (function_heads (take (i + 1) xs) (drop (i + 1) xs)) c.in_err-refuse_head.field-0.0 (c.loop-function.invariant.left ∙ step)
    c.from_residual.ensures.1 c.in_err-refuse_head.ensures

pub loop-function-preserved : goal.loop-function-preserved
loop-function-preserved c =
    let xs = c.args.functions.now in
    let i = c.loop-function.function-index in
    let f = c.function-item.result in
    let names = c.loop-function.names in
    let holds : function_head names f ≡ [] = c.in_ok-refuse_head.ensures.0 in
    let unknown = known_holds (list_any (λ y. bytes_eq y f.name) names) _ (first_holds (f.span).start (head_repeats names f) _ holds) in
    let added : c.add.new.self ≡ with_name f.name names = c.in_ok-add.ensures ∙ ap (λ q. with_name q names) c.as_bytes.ensures in
    let step = function_step xs i f names c.loop-function-test.true c.function-item.is c.loop-function.invariant.names in
    record {
      names = names_more (λ (y : Function). y.name) xs i f names c.add.new.self c.loop-function-test.true c.function-item.is c.loop-function.invariant.names added unknown;
      left = c.loop-function.invariant.left ∙ step ∙ ap (λ bs. bs ++ function_heads (take (i + 1) xs) (drop (i + 1) xs)) holds;
    }
