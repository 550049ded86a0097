-- The numbers of a program in words are lawful, and its frames and code have room.
use Rattle.std.proofs.Common.{◌≡◌, ℕ, suc, ◌+◌, ◌≤◌, ◌<◌, ◌^◌, ◌&&◌, ◌||◌, not, true, false, List, [], ◌∷◌, ◌++◌, map, sum, length, length-append, Option, Some, None, slice_get, arith, refl, sym, ap, subst, ◌∙◌}
use Rattle.std.specs.Prelude.{nat_lt, ◌==◌, flat_map, codes, option_map}
use Rattle.std.specs.List.{All, list_any}
use Rattle.std.specs.Str.{bytes_eq}
use Rattle.std.proofs.lemmas.Bool.Decides.{nat_tests}
use Rattle.std.proofs.lemmas.Option.{slice_get-map}
use Rattle.std.proofs.lemmas.List.Elements.{All-nil, All-cons}
use Rattle.pan_stage.specs.Mentions.{is_some_and}
use Rattle.pan_stage.specs.Room.{weight_of, weight_of_all, IsCost, HasRoom}
use Rattle.pan_stage.specs.WellFormed.{IsArity, AreCounts}
use Rattle.pan_tree.specs.Shapes.{words_of}
use Rattle.pan_tree.specs.Check as check
use Rattle.pan_tree.specs.Check.{Break, State, Doing, broken, doing, in_order, do_layer, do_kind, body, bodies, breaks_of, with_name, is_too_many, is_wide, max_words, cost, function_weight, program_weight, parameter_words, foreign_names, names_after, exception_heads, function_heads, main_breaks, weight_breaks, function_of, repeats, IsWellShaped}
use Rattle.pan_tree.specs.declared.rule.Rule.TheVariants.{TwoNames, ShapeTooWide, TooMany, NoReturn, NotWord, FunctionTooHeavy, ProgramTooHeavy}
use Rattle.pan_tree.specs.declared.spanned.Spanned.{Spanned}
use Rattle.pan_tree.specs.declared.syntax.HandlerOf.{HandlerOf}
use Rattle.pan_tree.specs.declared.syntax.StmtKind.{StmtKind, StmtKind-F, map-StmtKind}
use Rattle.pan_tree.specs.declared.syntax.StmtKind.TheOpen as stmt
use Rattle.pan_tree.specs.declared.program.Param.{Param}
use Rattle.pan_tree.specs.declared.program.Exception.{Exception}
use Rattle.pan_tree.specs.declared.program.Function.{Function}
use Rattle.pan_tree.specs.declared.program.Program.{Program as Source}
use Rattle.pan_tree.proofs.CheckLayers.{do_roll}
use Rattle.pan_tree.proofs.MeaningLayers.{by_layers}
use Rattle.pan_tree.proofs.ShapeLayers.{words_word}
use Rattle.check_soundness.proofs.SpreadShapes.{word_spread}
use Rattle.check_soundness.proofs.Alike.{spread_size, sum_more}
use Rattle.check_soundness.proofs.Rules.{unbroken, append_none, neither, not_false}
use Rattle.crep_lang.specs.Needs.{needs}
use Rattle.crep_lang.specs.Text.{arity}
use Rattle.crep_lang.specs.declared.syntax.CrepFun.{CrepFun}
use Rattle.crep_flatten.specs.Flattened.{numbered, flat_function, flattened}
use Rattle.crep_flatten.proofs.Programs.{main_of}
use Rattle.crep_flatten.proofs.Kept.{needs_no_more}

not_less : (n m : ℕ) → nat_lt n m ≡ false → m ≤ n
not_less n m h = grind (arith, nat_tests)

is_less : (n m : ℕ) → not (nat_lt n m) ≡ false → n < m
is_less n m h = let k = not_false (nat_lt n m) h in grind (arith, nat_tests)

-- ---- what the heads ask

pub record Heads (p : Source) : Type 0 where
  pub exceptions : exception_heads [] p.exceptions ≡ []
  pub functions : function_heads [] p.functions ≡ []
  pub bodies : bodies p p.functions [] ≡ []
  pub weights : weight_breaks p ≡ []

pub heads_of : (p : Source) → IsWellShaped p → Heads p
heads_of p well =
    let es = exception_heads [] p.exceptions in
    let fs = function_heads [] p.functions in
    let main_rules = main_breaks (function_of (codes "main") p) in
    let light = append_none (es ++ fs ++ main_rules ++ bodies p p.functions []) (weight_breaks p) well in
    let rest = append_none (es ++ fs ++ main_rules) (bodies p p.functions []) light.0 in
    let main = append_none (es ++ fs) main_rules rest.0 in
    let both = append_none es fs main.0 in
    record { exceptions = both.0; functions = both.1; bodies = rest.1; weights = light.1 }

exceptions_fit : (before es : List Exception) → exception_heads before es ≡ [] → length before ≤ 1024 → (length before + length es ≤ 1024) × All (λ n. n ≤ 64) (map (λ (x : Exception). words_of x.shape) es)
exceptions_fit before [] h few = (omega (arith, few), All-nil (λ n. n ≤ 64))
exceptions_fit before (x ∷ xs) h few =
    let twice = list_any (λ (y : Exception). bytes_eq y.name x.name) before in
    let split = append_none (broken x.span.start ((TwoNames, twice) ∷ (ShapeTooWide, is_wide x.shape) ∷ (TooMany, not (nat_lt (length before) 1024)) ∷ [])) (exception_heads (before ++ x ∷ []) xs) h in
    let a = unbroken x.span.start TwoNames twice ((ShapeTooWide, is_wide x.shape) ∷ (TooMany, not (nat_lt (length before) 1024)) ∷ []) split.0 in
    let b = unbroken x.span.start ShapeTooWide (is_wide x.shape) ((TooMany, not (nat_lt (length before) 1024)) ∷ []) a.1 in
    let c = unbroken x.span.start TooMany (not (nat_lt (length before) 1024)) [] b.1 in
    let l = length-append before (x ∷ []) in
    let m = is_less (length before) 1024 c.0 in
    let r = exceptions_fit (before ++ x ∷ []) xs split.1 (omega (arith, l, m)) in
    let n = r.0 in
    (omega (arith, l, n), All-cons (λ n. n ≤ 64) (words_of x.shape) (map (λ (x : Exception). words_of x.shape) xs) (not_less max_words (words_of x.shape) b.0) r.1)

functions_fit : (p : Source) (before fs : List Function) → function_heads before fs ≡ [] → length before ≤ 4096 → (length before + length fs ≤ 4096) × All (λ (f : CrepFun). IsArity (arity f)) (map (flat_function p) fs)
functions_fit p before [] h few = (omega (arith, few), All-nil (λ (f : CrepFun). IsArity (arity f)))
functions_fit p before (f ∷ fs) h few =
    let twice = list_any (λ (g : Function). bytes_eq g.name f.name) before || repeats (map (λ (p : Param). p.name) f.params) in
    let wide = is_wide f.result || nat_lt max_words (parameter_words f.params) in
    let split = append_none (broken f.span.start ((TwoNames, twice) ∷ (ShapeTooWide, wide) ∷ (TooMany, not (nat_lt (length before) 4096)) ∷ [])) (function_heads (before ++ f ∷ []) fs) h in
    let a = unbroken f.span.start TwoNames twice ((ShapeTooWide, wide) ∷ (TooMany, not (nat_lt (length before) 4096)) ∷ []) split.0 in
    let b = unbroken f.span.start ShapeTooWide wide ((TooMany, not (nat_lt (length before) 4096)) ∷ []) a.1 in
    let c = unbroken f.span.start TooMany (not (nat_lt (length before) 4096)) [] b.1 in
    let both = neither (is_wide f.result) (nat_lt max_words (parameter_words f.params)) b.0 in
    let l = length-append before (f ∷ []) in
    let m = is_less (length before) 4096 c.0 in
    let r = functions_fit p (before ++ f ∷ []) fs split.1 (omega (arith, l, m)) in
    let n = r.0 in
    (omega (arith, l, n), All-cons (λ (f : CrepFun). IsArity (arity f)) (flat_function p f) (map (flat_function p) fs) (record { parameters = not_less max_words (parameter_words f.params) both.1; results = not_less max_words (words_of f.result) both.0 }) r.1)

weights_fit : (p : Source) (fs : List Function) → flat_map (λ f. broken f.span.start ((FunctionTooHeavy, nat_lt 16384 (function_weight p f)) ∷ [])) fs ≡ [] → All IsCost (map (cost p) fs)
weights_fit p [] h = All-nil IsCost
weights_fit p (f ∷ fs) h =
    let split = append_none (broken f.span.start ((FunctionTooHeavy, nat_lt 16384 (function_weight p f)) ∷ [])) (flat_map (λ f. broken f.span.start ((FunctionTooHeavy, nat_lt 16384 (function_weight p f)) ∷ [])) fs) h in
    let a = unbroken f.span.start FunctionTooHeavy (nat_lt 16384 (function_weight p f)) [] split.0 in
    let n = not_less 16384 (function_weight p f) a.0 in
    let w : weight_of (cost p f) ≡ function_weight p f = omega arith in
    All-cons IsCost (cost p f) (map (cost p) fs) (record { whole = omega (arith, w); light = omega (arith, w, n) }) (weights_fit p fs split.1)

all_weights : (p : Source) (fs : List Function) → weight_of_all (map (cost p) fs) ≡ sum (map (function_weight p) fs)
all_weights p [] = refl
all_weights p (f ∷ fs) =
    let w : weight_of (cost p f) ≡ function_weight p f = omega arith in
    let r = all_weights p fs in
    let s = sum_more (function_weight p f) (map (function_weight p) fs) in
    omega (arith, w, r, s)

same_length : {A B : Type 0} (f : A → B) (xs : List A) → length (map f xs) ≡ length xs
same_length f [] = refl
same_length f (x ∷ xs) = ap suc (same_length f xs)

map_map : {A B C : Type 0} (f : B → C) (g : A → B) (xs : List A) → map f (map g xs) ≡ map (λ x. f (g x)) xs
map_map f g [] = refl
map_map f g (x ∷ xs) = ap (λ ys. f (g x) ∷ ys) (map_map f g xs)

pub room : (p : Source) → IsWellShaped p → HasRoom (map (λ (f : CrepFun). f.cost) (flattened p).functions) (needs (flattened p))
room p well =
    let h = heads_of p well in
    let few = (functions_fit p [] p.functions h.functions (omega arith)).0 in
    let l = same_length (cost p) p.functions in
    let split = append_none (flat_map (λ f. broken f.span.start ((FunctionTooHeavy, nat_lt 16384 (function_weight p f)) ∷ [])) p.functions) (broken 0 ((ProgramTooHeavy, nat_lt 262144 (program_weight p)) ∷ [])) h.weights in
    let a = not_less 262144 (program_weight p) (unbroken 0 ProgramTooHeavy (nat_lt 262144 (program_weight p)) [] split.1).0 in
    let w = all_weights p p.functions in
    subst (λ cs. HasRoom cs (needs (flattened p))) (sym (map_map (λ (f : CrepFun). f.cost) (flat_function p) p.functions))
    (record { priced = record { few = omega (arith, few, l); each = weights_fit p p.functions split.0; light = omega (arith, a, w) }; within = needs_no_more p })

-- ---- foreign names

-- statements that break nothing keep the number of foreign names lawful
abbrev FewNames : StmtKind → Type 0
FewNames k = (c : check.Context) (place : ℕ) (s : State) → (do_kind k c place s).breaks ≡ [] → length s.names ≤ 1024 → length ((do_kind k c place s).state).names ≤ 1024

abbrev Known : Type 0
Known = (k : StmtKind) × FewNames k

abbrev plain : Spanned Known → Spanned StmtKind
plain x = record { kind = x.kind.0; span = x.span }

order_names : (ss : List (Spanned Known)) (c : check.Context) (s : State) → (in_order (map doing (map plain ss)) c s).breaks ≡ [] → length s.names ≤ 1024 → length ((in_order (map doing (map plain ss)) c s).state).names ≤ 1024
order_names [] c s none few = few
order_names (x ∷ xs) c s none few =
    let one = do_kind x.kind.0 c x.span.start s in
    let both = append_none one.breaks (in_order (map doing (map plain xs)) c one.state).breaks none in
    order_names xs c one.state both.1 (x.kind.1 c x.span.start s both.0 few)

layer_names : (y : StmtKind-F Known) (c : check.Context) (place : ℕ) (s : State) → let z = map-StmtKind Known StmtKind (λ c. c.0) y in
    (do_layer (map-StmtKind StmtKind Doing do_kind z) c place s).breaks ≡ [] → length s.names ≤ 1024 → length ((do_layer (map-StmtKind StmtKind Doing do_kind z) c place s).state).names ≤ 1024
layer_names stmt.Skip c place s none few = few
layer_names (stmt.Decl x e) c place s none few = few
layer_names (stmt.Assign x e) c place s none few = few
layer_names (stmt.StoreWords a e) c place s none few = few
layer_names (stmt.StoreByte a e) c place s none few = few
layer_names (stmt.If e a b) c place s none few =
    let one = in_order (map doing (map plain a.stmts)) c (record s { scopes = [] ∷ s.scopes }) in
    let s' : State = record { scopes = [] ∷ s.scopes; names = (one.state).names } in
    let two = in_order (map doing (map plain b.stmts)) c s' in
    let both = append_none _ two.breaks none in
    let parts = append_none _ one.breaks both.0 in
    order_names b.stmts c s' both.1 (order_names a.stmts c (record s { scopes = [] ∷ s.scopes }) parts.1 few)
layer_names (stmt.While e b) c place s none few =
    let inner = in_order (map doing (map plain b.stmts)) (record c { in_loop = true }) (record s { scopes = [] ∷ s.scopes }) in
    let both = append_none _ inner.breaks none in
    order_names b.stmts (record c { in_loop = true }) (record s { scopes = [] ∷ s.scopes }) both.1 few
layer_names stmt.Break c place s none few = few
layer_names stmt.Continue c place s none few = few
layer_names (stmt.Call k) c place s none few = handled k.handler none
  where
    handled : (h : Option (HandlerOf (Spanned Known))) → let y : StmtKind-F Known = stmt.Call (record { into = k.into; function = k.function; args = k.args; handler = h }) in let z = map-StmtKind Known StmtKind (λ c. c.0) y in
        (do_layer (map-StmtKind StmtKind Doing do_kind z) c place s).breaks ≡ [] → length ((do_layer (map-StmtKind StmtKind Doing do_kind z) c place s).state).names ≤ 1024
    handled None none = few
    handled (Some h) none = order_names (h.body).stmts c _ (append_none _ _ none).1 few
layer_names (stmt.Return e) c place s none few = few
layer_names (stmt.TailCall f es) c place s none few = few
layer_names (stmt.Raise i e) c place s none few = few
layer_names (stmt.SharedLoad z x a) c place s none few = few
layer_names (stmt.SharedStore z a e) c place s none few = few
layer_names (stmt.Foreign x a b e f) c place s none few =
    let js = map (λ y. check.judged y s.scopes) (a ∷ b ∷ e ∷ f ∷ []) in
    let parts = append_none (breaks_of js) _ none in
    let one = unbroken place NotWord (check.has_no_word js) ((TooMany, is_too_many x s.names) ∷ []) parts.1 in
    let two = unbroken place TooMany (is_too_many x s.names) [] one.1 in
    not_less 1024 (length (with_name x s.names)) (neither (nat_lt 64 (length x)) (nat_lt 1024 (length (with_name x s.names))) two.0).1

few_names : (k : StmtKind) → FewNames k
few_names = by_layers FewNames (λ y c place s none few.
    let z = map-StmtKind Known StmtKind (λ c. c.0) y in
    subst (λ (d : Doing). length ((d c place s).state).names ≤ 1024) (sym (do_roll z)) (layer_names y c place s (sym (ap (λ (d : Doing). (d c place s).breaks) (do_roll z)) ∙ none) few))

all_names : (ss : List (Spanned StmtKind)) (c : check.Context) (s : State) → (in_order (map doing ss) c s).breaks ≡ [] → length s.names ≤ 1024 → length ((in_order (map doing ss) c s).state).names ≤ 1024
all_names [] c s none few = few
all_names (x ∷ xs) c s none few =
    let one = do_kind x.kind c x.span.start s in
    let both = append_none one.breaks (in_order (map doing xs) c one.state).breaks none in
    all_names xs c one.state both.1 (few_names x.kind c x.span.start s both.0 few)

names_few : (p : Source) (fs : List Function) (names : List (List ℕ)) → bodies p fs names ≡ [] → length names ≤ 1024 → length (names_after p fs names) ≤ 1024
names_few p [] names none few = few
names_few p (f ∷ fs) names none few =
    let one = body p f names in
    let rule = broken f.span.start ((NoReturn, not (check.closes f.body)) ∷ []) in
    let rest = bodies p fs (one.state).names in
    let all = append_none (one.breaks ++ rule) rest none in
    let both = append_none one.breaks rule all.0 in
    names_few p fs (one.state).names all.1 (all_names (f.body).stmts _ _ both.0 few)

-- ---- counts

pub counts : (p : Source) → IsWellShaped p → AreCounts arity (flattened p)
counts p well =
    let h = heads_of p well in
    let es = exceptions_fit [] p.exceptions h.exceptions (omega arith) in
    let fs = functions_fit p [] p.functions h.functions (omega arith) in
    let main = main_of p well in
    let few = es.0 in
    let l = same_length (λ (x : Exception). words_of x.shape) p.exceptions in
    let g = main.function in
    let there : slice_get (flattened p).functions (flattened p).main ≡ Some (flat_function p g) =
    ap (λ o. slice_get (flattened p).functions (numbered o)) main.is ∙ slice_get-map (flat_function p) p.functions main.number ∙ ap (option_map (flat_function p)) main.stands in
    record {
      numbers = record { exceptions = omega (arith, few, l); names = names_few p p.functions [] h.bodies (omega arith); globals = omega arith; words = All-nil (λ n. n < 2 ^ 64) };
      main = ap (is_some_and (λ f. (arity f).parameters == 0 && (arity f).results == 1)) there ∙ ap (λ n. n == 0 && words_of g.result == 1) (ap parameter_words main.nothing) ∙ ap (λ n. n == 1) (sym (spread_size g.result) ∙ ap words_of (word_spread g.result main.word) ∙ words_word);
      arities = fs.1;
      widths = es.1;
    }
