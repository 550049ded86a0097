-- Calls, raises and requests in words do what the source's do.
use Rattle.std.proofs.Common.{◌≡◌, ℕ, ◌+◌, ◌-◌, ◌*◌, ◌≤◌, ◌&&◌, ◌||◌, true, false, nat_eq, List, [], ◌∷◌, map, length, Option, Some, None, slice_get, arith, refl, sym, ap, subst, ◌∙◌}
use Rattle.std.specs.Prelude.{option_map}
use Rattle.std.specs.Str.{bytes_eq}
use Rattle.std.proofs.lemmas.Slice.Eq.{bytes_eq-Decides}
use Rattle.pan_base.specs.Events as events
use Rattle.pan_base.specs.declared.text.Text.{Text}
use Rattle.pan_control.specs.World.{tolled}
use Rattle.pan_control.specs.Memory.{bytes_at}
use Rattle.pan_control.specs.Control.{Normal, Raised, with_value, tail_call}
use Rattle.pan_control.specs.Runs.{with_reply, foreign}
use Rattle.pan_stage.specs.Locals.{Locals}
use Rattle.pan_stage.specs.Data.{Callee as WordCallee, Outcome as WordOutcome}
use Rattle.pan_stage.proofs.Follows.{Same, normal, raised, same_as, with_same, value_same, ask_same, tail_same}
use Rattle.pan_stage.proofs.Paid.{Within, no_cuts, left_paid, results_less}
use Rattle.pan_tree.specs.Running.{Callee, World}
use Rattle.pan_tree.specs.Value.{Value, values_of, words_in, words_in_all}
use Rattle.pan_tree.specs.Shapes.{same}
use Rattle.pan_tree.specs.Check as check
use Rattle.pan_tree.specs.Check.{Judged, breaks_of, no_value, is_other, wrong_count, wrong_shape, differ, function_of, exception_of, result_of, foreign_names}
use Rattle.pan_tree.specs.Meaning as source
use Rattle.pan_tree.specs.Meaning.{Does, Scope, Scopes, shapes, own_weight, run_layer, all_given, function_index, exception_index, foreign_index}
use Rattle.pan_tree.specs.declared.rule.Rule.TheVariants.{UnknownFunction, UnknownException, WrongShape, WrongCount}
use Rattle.pan_tree.specs.declared.shape.Shape.{Shape}
use Rattle.pan_tree.specs.declared.spanned.Spanned.{Spanned}
use Rattle.pan_tree.specs.declared.syntax.ExprKind.{ExprKind}
use Rattle.pan_tree.specs.declared.syntax.StmtKind.TheOpen as source_stmt
use Rattle.pan_tree.specs.declared.program.Exception.{Exception}
use Rattle.pan_tree.specs.declared.program.Function.{Function}
use Rattle.pan_tree.specs.declared.program.Program.{Program as Source}
use Rattle.check_soundness.specs.Spread.{spread}
use Rattle.check_soundness.proofs.SpreadShapes.{same_spread}
use Rattle.check_soundness.proofs.Rules.{unbroken, append_none, neither, not_false}
use Rattle.check_soundness.proofs.Fitting.{Fits, value_fits, values_fit, ArgumentsFit, differ_none}
use Rattle.check_soundness.proofs.Named.{position_is}
use Rattle.check_soundness.proofs.SoundStmts.{Thrown}
use Rattle.crep_lang.specs.Steps.{expr_steps, passed}
use Rattle.crep_lang.specs.declared.syntax.Stmt.TheVariants as stmt
use Rattle.crep_lang.proofs.Runs.{run_raise, run_tail_call, run_foreign}
use Rattle.crep_flatten.specs.Rows.{settle}
use Rattle.crep_flatten.specs.Flat.{Places, count, Flat, flat, word_in}
use Rattle.crep_flatten.specs.Flattened.{rows_of, numbered, flat_layer}
use Rattle.crep_flatten.proofs.Holding.{placed, Holds}
use Rattle.crep_flatten.proofs.WordLemmas.{map_some}
use Rattle.crep_flatten.proofs.FlatExprs.{all_code, after, GivesAll, gives_none, gives_more, kind_means}
use Rattle.crep_flatten.proofs.Costs.{Static, AllAreCheap, rows_well, weights_more, settled_well}
use Rattle.crep_flatten.proofs.Places.{static_fits, numbered_at}
use Rattle.crep_flatten.proofs.Worth.{row_worth}
use Rattle.crep_flatten.proofs.Statements.{Inside, Behind, Around, IsReturned, IsRaised, cheap_here, word_worth, word_same, run', ends, last_runs}
use Rattle.crep_flatten.proofs.Beside.{no_globals, with_toll, word}

-- ---- names

pub text_same : (x y : List ℕ) → bytes_eq x y ≡ true → x ≡ y
text_same x y h = (bytes_eq-Decides x y).0 h

pub known_is : {X : Type 0} (o : Option X) → no_value o ≡ false → (x : X) × (o ≡ Some x)
known_is None h = absurd cc
known_is (Some x) h = (x, refl)

-- ---- arguments

abbrev pub flats : List (Spanned ExprKind) → Places → List Flat
flats es here = map (λ e. flat e here) es

pub arguments_give : (es : List (Spanned ExprKind)) (v : Scopes) (m : List ℕ) (u : Locals) (xs : List Value) → Holds v u → source.values es v m ≡ Some xs → GivesAll v m (flats es (placed v)) xs
arguments_give [] v m u xs holds h = let e : [] ≡ xs = cc in subst (GivesAll v m []) e (gives_none v m)
arguments_give (e ∷ es) v m u xs holds h = by (source.value e v m) refl h (λ xs h. arguments_give es v m u xs holds h)
  where
    by : (o : Option Value) → source.value e v m ≡ o → all_given (o ∷ map (λ e. source.value e v m) es) ≡ Some xs → ((xs : List Value) → source.values es v m ≡ Some xs → GivesAll v m (flats es (placed v)) xs)
        → GivesAll v m (flats (e ∷ es) (placed v)) xs
    by None is h go = absurd cc
    by (Some x) is h go =
        let s = map_some (λ others. x ∷ others) (all_given (map (λ e. source.value e v m) es)) xs h in
        subst (GivesAll v m (flats (e ∷ es) (placed v))) s.2
        (gives_more v m (flat e (placed v)) (flats es (placed v)) x s.0 (kind_means e.kind v m u x holds is) (go s.0 s.1))

all_cheap : (v : Scopes) (es : List (Spanned ExprKind)) → AllAreCheap (flats es (placed v)) (map (λ x. check.judged x (shapes v)) es)
all_cheap v [] = tt
all_cheap v (e ∷ es) = (cheap_here v e, all_cheap v es)

-- what is passed to another function, from a free variable on: at most five steps for a unit of weight, beside eight
pub arguments_worth : (v : Scopes) (es : List (Spanned ExprKind)) (t : ℕ) → let q = settle (rows_of (flats es (placed v))) t in all_code q.before + passed q.words ≤ 8 + 5 * check.weights (map (λ x. check.judged x (shapes v)) es)
arguments_worth v es t =
    let rs = rows_of (flats es (placed v)) in
    let q = settle rs t in
    let r = rows_well (flats es (placed v)) (map (λ x. check.judged x (shapes v)) es) (all_cheap v es) in
    let s = settled_well rs t in
    let a = r.wide in
    let b = r.sum in
    let c = s.worth in
    let d = s.size in
    let e = row_worth q.words in
    omega (arith, a, b, c, d, e)

counted : (g : Function) (o : Option Function) (js : List Judged) → o ≡ Some g → wrong_count o js ≡ false → nat_eq (length g.params) (length js) ≡ true
counted g o js e h = not_false (nat_eq (length g.params) (length js)) (sym (ap (λ o. wrong_count o js) e) ∙ h)

-- the arguments of a call that breaks no rule have the shapes of the parameters
pub arguments_fit : (g : Function) (o : Option Function) (es : List (Spanned ExprKind)) (s : check.Scopes) (v : Scopes) (m : List ℕ) (xs : List Value) → let js = map (λ x. check.judged x s) es in
    o ≡ Some g → wrong_count o js ≡ false → wrong_shape o js ≡ false → Fits s v → source.values es v m ≡ Some xs → ArgumentsFit g.params xs
arguments_fit g o es s v m xs e h k fits vs =
    let js = map (λ x. check.judged x s) es in
    let n = counted g o js e h in
    values_fit es s v m xs fits vs ∙ differ_none g.params js n (sym (ap (λ b. b && differ g.params js) n) ∙ sym (ap (λ o. wrong_shape o js) e) ∙ k)

-- functions in words do what the source's do, from the words of arguments that fit
pub record Callees (p : Source) (callee : Callee (List Value) Value) (callee' : WordCallee (List ℕ) (List ℕ)) : Type 0 where
  pub at : (kept f : ℕ) (g : Function) (xs : List Value) (w : World) (ns : List ℕ) (t : ℕ) → slice_get p.functions f ≡ Some g → ArgumentsFit g.params xs → ns ≡ words_in_all (values_of xs) → Within 1024 kept t w
      → Same (left_paid no_globals no_cuts 1024 kept (IsReturned g.result) (IsRaised p)) (callee f xs w) (callee' f ns (with_toll t w))

module _ (p : Source) (result : Shape) (d : ℕ) (callee : Callee (List Value) Value) (callee' : WordCallee (List ℕ) (List ℕ)) (kept : ℕ) where
  module _ (outer : Places) (v : Scopes) (u : Locals) (t : ℕ) (w : World) (inside : Inside outer v) (holds : Holds v u) (within : Within 1024 kept t w) where
    abbrev N : Places → Scopes → World → Locals → Type 0
    N = Behind outer

    abbrev B : Scopes → World → Locals → Type 0
    B = Around outer

    abbrev names : List (List ℕ)
    names = foreign_names p

    pub raise_same : (x : Text) (e : Spanned ExprKind) (c : check.Context) (place : ℕ) (s : check.State) → c.program ≡ p → Static (placed v) s.scopes → (check.do_layer (source_stmt.Raise x e) c place s).breaks ≡ []
        → Same (ends p result d callee callee' kept (N (placed v)) B) (run_layer p d callee (source_stmt.Raise x e) v w) (run' p result d callee callee' kept (flat_layer (source_stmt.Raise x e) p (placed v)).0 u (with_toll t w))
    raise_same x e c place s cp st none =
        let W = tolled (own_weight {A = Does} p (source_stmt.Raise x e) v) w in
        let here = placed v in
        let f = flat e here in
        let r = ends p result d callee callee' kept (N here) B in
        let q = settle f.rows (count here) in
        let j = check.judged e s.scopes in
        let known = exception_of x c.program in
        let parts = append_none (breaks_of (j ∷ [])) _ none in
        let one = unbroken place UnknownException (no_value known) _ parts.1 in
        let two = unbroken place WrongShape (is_other (option_map (λ (x : Exception). x.shape) known) j.shape) [] one.1 in
        let there = known_is known one.0 in
        let fits = static_fits v s.scopes st in
        with_same r (exception_index x p) W _ _ (λ i ii.
        with_same r (source.value e v w.memory) W _ _ (λ a is.
        let g = kind_means e.kind v w.memory u a holds is in
        let last = stmt.Raise (numbered (exception_index x p)) q.words in
        let l = last_runs p result d callee callee' kept f.rows (count here) (words_in a) last v u t W g.words holds (omega arith) in
        let t' = after t (all_code q.before) in
        let t'' = after t' (passed q.words) in
        let k = cheap_here v e in
        let sw = settled_well f.rows (count here) in
        let worth = sw.worth in
        let many = sw.size in
        let rw_ = row_worth q.words in
        let weighs = weights_more (check.judged e (shapes v)) [] in
        let kw = k.wide in
        let ks = k.sum in
        let kz = k.size in
        let stands : slice_get p.exceptions i ≡ Some there.0 = position_is (λ (y : Exception). bytes_eq y.name x) p.exceptions i ii ∙ ap (exception_of x) (sym cp) ∙ there.1 in
        let other = not_false (same (there.0).shape j.shape) (ap (λ o. is_other (option_map (λ (x : Exception). x.shape) o) j.shape) (sym there.1) ∙ two.0) in
        let thrown : Thrown p i a = (there.0, stands, value_fits e s.scopes v w.memory a fits is ∙ sym (same_spread (there.0).shape j.shape other)) in
        same_as r _ _ _ (l.is ∙ run_raise names d callee' (numbered (exception_index x p)) q.words l.behind (with_toll t' W) ∙ ap (λ o. with_value o (with_toll t'' W) (λ ns. Raised (numbered (exception_index x p)) ns (with_toll t'' W))) l.words
        ∙ ap (λ o. Raised (numbered o) (words_in a) (with_toll t'' W)) ii)
        (raised r i a W (words_in a) t'' ((refl, thrown), omega (arith, within, worth, many, rw_, weighs, kw, ks, kz)))))

    pub foreign_same : (x : Text) (a b e f : Spanned ExprKind)
        → Same (ends p result d callee callee' kept (N (placed v)) B) (run_layer p d callee (source_stmt.Foreign x a b e f) v w) (run' p result d callee callee' kept (flat_layer (source_stmt.Foreign x a b e f) p (placed v)).0 u (with_toll t w))
    foreign_same x a b e f =
        let W = tolled (own_weight {A = Does} p (source_stmt.Foreign x a b e f) v) w in
        let here = placed v in
        let i1 = word_in (flat a here) in
        let i2 = word_in (flat b here) in
        let i3 = word_in (flat e here) in
        let i4 = word_in (flat f here) in
        let t' = after t (4 + expr_steps i1 + expr_steps i2 + expr_steps i3 + expr_steps i4) in
        let r = ends p result d callee callee' kept (N here) B in
        let j = λ (y : Spanned ExprKind). check.judged y (shapes v) in
        let w1 = word_worth v a in
        let w2 = word_worth v b in
        let w3 = word_worth v e in
        let w4 = word_worth v f in
        let m1 = weights_more (j a) (j b ∷ j e ∷ j f ∷ []) in
        let m2 = weights_more (j b) (j e ∷ j f ∷ []) in
        let m3 = weights_more (j e) (j f ∷ []) in
        let m4 = weights_more (j f) [] in
        let paid : Within 1024 kept t' W = omega (arith, within, w1, w2, w3, w4, m1, m2, m3, m4) in
        with_same r (foreign_index x p) W _ _ (λ i ii.
        let found = numbered_at (λ (y : List ℕ). bytes_eq y x) names i ii in
        let named : slice_get names (numbered (foreign_index x p)) ≡ Some x = ap (λ o. slice_get names (numbered o)) ii ∙ found.stands ∙ ap Some (text_same found.at x found.passes) in
        let on = λ (k : ℕ) (n : List ℕ) (c l q m : ℕ). let o : WordOutcome Locals (List ℕ) = foreign k n c l q m u (with_toll t' W) in o in
        let k = numbered (foreign_index x p) in
        let to : k ≡ i = ap numbered ii in
        same_as r _ _ _ (run_foreign names d callee' k i1 i2 i3 i4 u (with_toll t W) ∙ ap (λ o. with_value o (with_toll t' W) (λ n. with_value (word i1 u w.memory) (with_toll t' W) (λ c. with_value (word i2 u w.memory) (with_toll t' W) (λ l. with_value (word i3 u w.memory) (with_toll t' W) (λ q. with_value (word i4 u w.memory) (with_toll t' W) (λ m. on k n c l q m)))))) named
        ∙ ap (λ k. with_value (word i1 u w.memory) (with_toll t' W) (λ c. with_value (word i2 u w.memory) (with_toll t' W) (λ l. with_value (word i3 u w.memory) (with_toll t' W) (λ q. with_value (word i4 u w.memory) (with_toll t' W) (λ m. on k x c l q m))))) to)
        (word_same r a v u t' W _ _ holds (λ c _.
        word_same r b v u t' W _ _ holds (λ l _.
        word_same r e v u t' W _ _ holds (λ q _.
        word_same r f v u t' W _ (λ m. on i x c l q m) holds (λ m _.
        value_same r (bytes_at w.memory c l) W (with_toll t' W) _ _ (λ conf _.
        value_same r (bytes_at w.memory q m) W (with_toll t' W) _ _ (λ array _.
        ask_same r (events.Foreign i x conf array) W t' (λ a w. Normal v (record w { memory = with_reply w.memory q a })) (λ a w. Normal u (record w { memory = with_reply w.memory q a })) (omega (arith, paid)) (λ a rs es.
        normal r v (record W { replies = rs; trace = es; memory = with_reply w.memory q a }) u t' ((inside, refl, holds), omega (arith, paid)))))))))))

    pub tail_call_same : (x : Text) (es : List (Spanned ExprKind)) (c : check.Context) (place : ℕ) (s : check.State) → c.program ≡ p → c.result ≡ result → Callees p callee callee' → Static (placed v) s.scopes → (check.do_layer (source_stmt.TailCall x es) c place s).breaks ≡ []
        → Same (ends p result d callee callee' kept (N (placed v)) B) (run_layer p d callee (source_stmt.TailCall x es) v w) (run' p result d callee callee' kept (flat_layer (source_stmt.TailCall x es) p (placed v)).0 u (with_toll t w))
    tail_call_same x es c place s cp cr callees st none =
        let W = tolled (own_weight {A = Does} p (source_stmt.TailCall x es) v) w in
        let here = placed v in
        let rs = rows_of (flats es here) in
        let r = ends p result d callee callee' kept (N here) B in
        let q = settle rs (count here) in
        let js = map (λ y. check.judged y s.scopes) es in
        let known = function_of x c.program in
        let parts = append_none (breaks_of js) _ none in
        let one = unbroken place UnknownFunction (no_value known) _ parts.1 in
        let two = unbroken place WrongShape (wrong_shape known js || is_other (option_map (λ (g : Function). g.result) known) c.result) _ one.1 in
        let three = unbroken place WrongCount (wrong_count known js) [] two.1 in
        let both = neither (wrong_shape known js) (is_other (option_map (λ (g : Function). g.result) known) c.result) two.0 in
        let there = known_is known one.0 in
        let g = there.0 in
        let alike = not_false (same g.result c.result) (ap (λ o. is_other (option_map (λ (g : Function). g.result) o) c.result) (sym there.1) ∙ both.1) in
        let shape_is : spread g.result ≡ spread result = same_spread g.result c.result alike ∙ ap spread cr in
        let fits = static_fits v s.scopes st in
        with_same r (function_index x p) W _ _ (λ f fi.
        with_same r (source.values es v w.memory) W _ _ (λ xs is.
        let gs = arguments_give es v w.memory u xs holds is in
        let n = numbered (function_index x p) in
        let last = stmt.TailCall n q.words in
        let ns = words_in_all (values_of xs) in
        let l = last_runs p result d callee callee' kept rs (count here) ns last v u t W gs.words holds (omega arith) in
        let t' = after t (all_code q.before) in
        let t'' = after t' (passed q.words) in
        let worth = arguments_worth v es (count here) in
        let paid : Within 1024 kept t'' W = omega (arith, within, worth) in
        let stands : slice_get p.functions f ≡ Some g = position_is (λ (y : Function). bytes_eq y.name x) p.functions f fi ∙ ap (function_of x) (sym cp) ∙ there.1 in
        let fit = arguments_fit g known es s.scopes v w.memory xs there.1 three.0 both.0 fits is in
        same_as r _ _ _ (l.is ∙ run_tail_call names d callee' n q.words l.behind (with_toll t' W) ∙ ap (λ o. tail_call callee' n o (with_toll t'' W)) l.words ∙ ap (λ o. tail_call callee' (numbered o) (Some ns) (with_toll t'' W)) fi)
        (tail_same r callee callee' f xs ns W t'' (omega (arith, paid)) (λ k.
        results_less no_globals no_cuts 1024 kept (IsReturned g.result) (IsReturned result) (IsRaised p) (IsRaised p) _ _ (λ a w y h. (h.0, h.1 ∙ shape_is)) (λ i a w y h. h)
        (callees.at kept f g xs (record W { fuel = k; active = W.active - W.own }) ns t'' stands fit refl paid)))))
