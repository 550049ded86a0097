use Rattle.std.proofs.Common.{◌≡◌, ◌++◌, [], ap, ◌∙◌, drop, take, ◌+◌}
use Rattle.std.specs.List.{list_any}
use Rattle.std.specs.Str.{bytes_eq}
use Rattle.pan_tree.specs.declared.program.Exception.{Exception}
use Rattle.pan_tree.specs.Check.{exception_heads, with_name}
use Rattle.pan_shapes.specs.HeadRules.{exception_head}
use Rattle.pan_shapes.proofs.Answering.{refused}
use Rattle.pan_shapes.proofs.HeadLemmas.{exception_step, names_more, first_holds}
use Rattle.pan_shapes.proofs.heads.exception_names.Goals as goal

pub returns-in_err-refuse_exception : goal.returns-in_err-refuse_exception
returns-in_err-refuse_exception c =
    let xs = c.args.exceptions.now in
    let i = c.loop-exception.exception-index in
    let step = exception_step xs i c.exception-item.result c.loop-exception.names c.loop-exception-test.true c.exception-item.is c.loop-exception.invariant.names in
    refused _ c.from_residual.result (exception_head c.loop-exception.names c.exception-item.result) (exception_heads (take (i + 1) xs) (drop (i + 1) xs)) c.in_err-refuse_exception.field-0.0 (c.loop-exception.invariant.left ∙ step)
    c.from_residual.ensures.1 c.in_err-refuse_exception.ensures

pub loop-exception-preserved : goal.loop-exception-preserved
loop-exception-preserved c =
    let xs = c.args.exceptions.now in
    let i = c.loop-exception.exception-index in
    let x = c.exception-item.result in
    let names = c.loop-exception.names in
    let holds : exception_head names x ≡ [] = c.in_ok-refuse_exception.ensures.0 in
    let unknown = first_holds (x.span).start (list_any (λ y. bytes_eq y x.name) names) _ holds in
    let added : c.add.new.self ≡ with_name x.name names = c.in_ok-add.ensures ∙ ap (λ q. with_name q names) c.as_bytes.ensures in
    let step = exception_step xs i x names c.loop-exception-test.true c.exception-item.is c.loop-exception.invariant.names in
    record {
      names = names_more (λ (y : Exception). y.name) xs i x names c.add.new.self c.loop-exception-test.true c.exception-item.is c.loop-exception.invariant.names added unknown;
      left = c.loop-exception.invariant.left ∙ step ∙ ap (λ bs. bs ++ exception_heads (take (i + 1) xs) (drop (i + 1) xs)) holds;
    }
