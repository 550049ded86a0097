-- Arguments of calls, by their shapes and weights.
use Rattle.std.proofs.Common.{◌≡◌, ℕ, ◌+◌, ◌<◌, min, length, get_or, drop, map, sum, Bool, ◌&&◌, ◌||◌, not, nat_eq, List, [], ◌∷◌, ◌++◌, Option, Some, None, option_map, refl, sym, ap, ◌∙◌}
use Rattle.std.proofs.lemmas.List.{length-map}
use Rattle.pan_tree.specs.declared.shape.Shape.{Shape}
use Rattle.pan_tree.specs.declared.spanned.Spanned.{Spanned}
use Rattle.pan_tree.specs.declared.syntax.ExprKind.{ExprKind}
use Rattle.pan_tree.specs.declared.syntax.StmtKind.TheOpen as stmt
use Rattle.pan_tree.specs.declared.syntax.Target.{Target}
use Rattle.pan_tree.specs.declared.program.Param.{Param}
use Rattle.pan_tree.specs.declared.program.Function.{Function}
use Rattle.pan_tree.specs.Shapes.{same}
use Rattle.pan_tree.specs.Check as check
use Rattle.pan_tree.specs.Check.{Break, broken}
use Rattle.pan_tree.specs.declared.rule.Rule.TheVariants.{TwoNames, UnknownName, UnknownFunction, UnknownException, WrongShape, WrongCount}
use Rattle.pan_shapes.specs.declared.judging.Judged.{Judged}
use Rattle.pan_shapes.specs.Arguments.{differing, counted, misshapen, call_breaks, tail_breaks}
use Rattle.pan_shapes.specs.Doings.{call_alone}
use Rattle.pan_shapes.proofs.HeadLemmas.{next}
use Rattle.pan_shapes.proofs.Sums.{cut_sum}

-- ---- shapes

abbrev pub shapes_of : List check.Judged → List Shape
shapes_of js = map (λ (j : check.Judged). j.shape) js

abbrev pub told_shapes : List Judged → List Shape
told_shapes ks = map (λ (k : Judged). k.shape) ks

pub differing_step : (ps : List Param) (ks : List Judged) (i : ℕ) (p : Param) (k : Judged) → i < length ps → i < length ks → p ≡ get_or ps i p → k ≡ get_or ks i k
    → differing (drop i ps) (told_shapes (drop i ks)) ≡ (not (same p.shape k.shape) || differing (drop (i + 1) ps) (told_shapes (drop (i + 1) ks)))
differing_step ps ks i p k lt lt2 is is2 = rw (next ps i p lt is, next ks i k lt2 is2) refl

differ_shapes : (ps : List Param) (js : List check.Judged) → check.differ ps js ≡ differing ps (shapes_of js)
differ_shapes [] [] = refl
differ_shapes [] (j ∷ js) = refl
differ_shapes (p ∷ ps) [] = refl
differ_shapes (p ∷ ps) (j ∷ js) = ap (λ b. not (same p.shape j.shape) || b) (differ_shapes ps js)

count_shapes : (f : Option Function) (js : List check.Judged) → check.wrong_count f js ≡ counted f (shapes_of js)
count_shapes None js = refl
count_shapes (Some f) js = ap (λ n. not (nat_eq (length f.params) n)) (sym (length-map js (λ (j : check.Judged). j.shape)))

wrong_shapes : (f : Option Function) (js : List check.Judged) → check.wrong_shape f js ≡ misshapen f (shapes_of js)
wrong_shapes None js = refl
wrong_shapes (Some f) js =
    ap (λ n. nat_eq (length f.params) n && check.differ f.params js) (sym (length-map js (λ (j : check.Judged). j.shape)))
    ∙ ap (λ b. nat_eq (length f.params) (length (shapes_of js)) && b) (differ_shapes f.params js)

pub call_by_shapes : (place : ℕ) (into : Target) (f : Option Function) (js : List check.Judged) (ss : List Shape) (no_exception : Bool) (v : check.Scopes) → ss ≡ shapes_of js
    → broken place
    ((TwoNames, check.is_new_twice into v) ∷ (UnknownName, check.is_old_unknown into v) ∷ (UnknownFunction, check.no_value f)
    ∷ (UnknownException, no_exception) ∷ (WrongShape, check.wrong_shape f js || check.is_old_other into f v) ∷ (WrongCount, check.wrong_count f js) ∷ [])
    ≡ call_breaks place into f ss no_exception v
call_by_shapes place into f js ss no_exception v e =
    let rules = λ (shape count : Bool).
    broken place
    ((TwoNames, check.is_new_twice into v) ∷ (UnknownName, check.is_old_unknown into v) ∷ (UnknownFunction, check.no_value f)
    ∷ (UnknownException, no_exception) ∷ (WrongShape, shape || check.is_old_other into f v) ∷ (WrongCount, count) ∷ []) in
    ap (λ b. rules b (check.wrong_count f js)) (wrong_shapes f js) ∙ ap (rules (misshapen f (shapes_of js))) (count_shapes f js) ∙ ap (λ xs. call_breaks place into f xs no_exception v) (sym e)

pub tail_by_shapes : (place : ℕ) (f : Option Function) (js : List check.Judged) (ss : List Shape) (result : Shape) → ss ≡ shapes_of js
    → broken place
    ((UnknownFunction, check.no_value f) ∷ (WrongShape, check.wrong_shape f js || check.is_other (option_map (λ (g : Function). g.result) f) result) ∷ (WrongCount, check.wrong_count f js) ∷ [])
    ≡ tail_breaks place f ss result
tail_by_shapes place f js ss result e =
    let rules = λ (shape count : Bool).
    broken place ((UnknownFunction, check.no_value f) ∷ (WrongShape, shape || check.is_other (option_map (λ (g : Function). g.result) f) result) ∷ (WrongCount, count) ∷ []) in
    ap (λ b. rules b (check.wrong_count f js)) (wrong_shapes f js) ∙ ap (rules (misshapen f (shapes_of js))) (count_shapes f js) ∙ ap (λ xs. tail_breaks place f xs result) (sym e)

-- ---- the result

pub result_known : (f : Option Function) → check.or_word (option_map (λ (g : Function). g.result) f) ≡ check.result_of f
result_known None = refl
result_known (Some f) = refl

-- ---- weights

pub weights_told : (js : List check.Judged) (ks : List Judged) (m : ℕ) → map (λ (k : Judged). k.weight) ks ≡ map (λ (j : check.Judged). min j.weight m) js → min (sum (map (λ (k : Judged). k.weight) ks)) m ≡ min (check.weights js) m
weights_told js ks m e = ap (λ ws. min (sum ws) m) e ∙ cut_sum (λ (j : check.Judged). j.weight) js m

-- ---- whole calls

-- the arguments of a call
abbrev pub arguments : List (Spanned ExprKind) → check.Scopes → List check.Judged
arguments xs v = map (λ x. check.judged x v) xs

pub alone_breaks : (into : Target) (name : List ℕ) (xs : List (Spanned ExprKind)) (no_exception : Bool) (c : check.Context) (place : ℕ) (s : check.State) (g : Option Function) (ss : List Shape)
    → check.breaks_of (arguments xs s.scopes) ≡ [] → ss ≡ shapes_of (arguments xs s.scopes) → g ≡ check.function_of name c.program
    → (call_alone into name xs no_exception c place s).breaks ≡ call_breaks place into g ss no_exception s.scopes
alone_breaks into name xs no_exception c place s g ss none e is =
    let js = arguments xs s.scopes in
    let f = check.function_of name c.program in
    ap (λ bs. bs ++ broken place
    ((TwoNames, check.is_new_twice into s.scopes) ∷ (UnknownName, check.is_old_unknown into s.scopes) ∷ (UnknownFunction, check.no_value f)
    ∷ (UnknownException, no_exception) ∷ (WrongShape, check.wrong_shape f js || check.is_old_other into f s.scopes) ∷ (WrongCount, check.wrong_count f js) ∷ [])) none
    ∙ call_by_shapes place into f js ss no_exception s.scopes e ∙ ap (λ h. call_breaks place into h ss no_exception s.scopes) (sym is)

pub tail_call_breaks : (name : List ℕ) (xs : List (Spanned ExprKind)) (c : check.Context) (place : ℕ) (s : check.State) (g : Option Function) (ss : List Shape)
    → check.breaks_of (arguments xs s.scopes) ≡ [] → ss ≡ shapes_of (arguments xs s.scopes) → g ≡ check.function_of name c.program
    → (check.do_layer (stmt.TailCall name xs) c place s).breaks ≡ tail_breaks place g ss c.result
tail_call_breaks name xs c place s g ss none e is =
    let js = arguments xs s.scopes in
    let f = check.function_of name c.program in
    ap (λ bs. bs ++ broken place
    ((UnknownFunction, check.no_value f) ∷ (WrongShape, check.wrong_shape f js || check.is_other (option_map (λ (g : Function). g.result) f) c.result) ∷ (WrongCount, check.wrong_count f js) ∷ [])) none
    ∙ tail_by_shapes place f js ss c.result e ∙ ap (λ h. tail_breaks place h ss c.result) (sym is)
