use Rattle.std.proofs.Common.{◌≡◌, List, [], codes, sym, ap, subst, ◌∙◌}
use Rattle.pan_tree.specs.declared.program.Function.{Function}
use Rattle.pan_tree.specs.declared.program.Program.{Program}
use Rattle.pan_tree.specs.Check.{exception_heads, function_heads, main_breaks, function_of, bodies, names_after}
use Rattle.pan_shapes.specs.HeadRules.{heads}
use Rattle.pan_shapes.specs.Kept.{IsMainAt}
use Rattle.pan_shapes.specs.Weights.{are_weights}
use Rattle.pan_shapes.proofs.Answering.{Refuses, refused}
use Rattle.pan_shapes.proofs.BodyLemmas.{no_back}
use Rattle.pan_shapes.proofs.Keeping.{heads_first, main_first, bodies_first, is_kept}
use Rattle.pan_shapes.proofs.checking.examine.Goals as goal

pub returns-in_err-heads : goal.returns-in_err-heads
returns-in_err-heads c =
    let p = c.args.program.now in
    refused _ c.from_residual.result (heads p) _ c.in_err-heads.field-0.0 (heads_first p) c.from_residual.ensures.1 c.in_err-heads.ensures

pub returns-in_err-main : goal.returns-in_err-main
returns-in_err-main c =
    let p = c.args.program.now in
    let e = c.in_err-main.field-0.0 in
    let wrong : Refuses (main_breaks (function_of (codes "main") p)) e = subst (λ (q : Program). Refuses (main_breaks (function_of (codes "main") q)) e) c.in_ok-heads.ensures.1 c.in_err-main.ensures in
    refused _ c.from_residual-in_err-main.result (main_breaks (function_of (codes "main") p)) _ e (main_first p c.in_ok-heads.ensures.0) c.from_residual-in_err-main.ensures.1 wrong

pub check_bodies-requires : goal.check_bodies-requires
check_bodies-requires c =
    let p = c.args.program.now in
    ap (function_heads []) c.as_slice.ensures ∙ no_back (exception_heads [] p.exceptions) (function_heads [] p.functions) c.in_ok-heads.ensures.0

pub returns-in_err-told : goal.returns-in_err-told
returns-in_err-told c =
    let p = c.args.program.now in
    let e = c.in_err-told.field-0.0 in
    let h = c.in_ok-heads.heads in
    let no_main : main_breaks (function_of (codes "main") p) ≡ [] = ap (λ (q : Program). main_breaks (function_of (codes "main") q)) (sym c.in_ok-heads.ensures.1) ∙ c.in_ok-main.ensures.0 in
    let here : Refuses (bodies h p.functions []) e = subst (λ (fs : List Function). Refuses (bodies h fs []) e) c.as_slice.ensures c.in_err-told.ensures in
    let wrong : Refuses (bodies p p.functions []) e = subst (λ (q : Program). Refuses (bodies q p.functions []) e) c.in_ok-heads.ensures.1 here in
    refused _ c.from_residual-in_err-told.result (bodies p p.functions []) _ e (bodies_first p c.in_ok-heads.ensures.0 no_main) c.from_residual-in_err-told.ensures.1 wrong

pub returns : goal.returns
returns c =
    let p = c.args.program.now in
    let h = c.in_ok-heads.heads in
    let same : h ≡ p = c.in_ok-heads.ensures.1 in
    let i = c.in_ok-main.main in
    let t = c.in_ok-told.told in
    let main : (main_breaks (function_of (codes "main") p) ≡ []) × IsMainAt p i = subst (λ (q : Program). (main_breaks (function_of (codes "main") q) ≡ []) × IsMainAt q i) same c.in_ok-main.ensures in
    let here : (bodies h p.functions [] ≡ []) × ((t.weights ≡ are_weights h p.functions) × (t.names ≡ names_after h p.functions [])) =
    subst (λ (fs : List Function). (bodies h fs [] ≡ []) × ((t.weights ≡ are_weights h fs) × (t.names ≡ names_after h fs []))) c.as_slice.ensures c.in_ok-told.ensures in
    let told : (bodies p p.functions [] ≡ []) × ((t.weights ≡ are_weights p p.functions) × (t.names ≡ names_after p p.functions [])) =
    subst (λ (q : Program). (bodies q p.functions [] ≡ []) × ((t.weights ≡ are_weights q p.functions) × (t.names ≡ names_after q p.functions []))) same here in
    is_kept p i t.weights c.in_ok-weight.weight c.in_ok-names.names c.requires c.in_ok-heads.ensures.0 main.0 main.1 told.0 told.1.0 (c.in_ok-names.ensures ∙ told.1.1) c.in_ok-weight.ensures.0 c.in_ok-weight.ensures.1
