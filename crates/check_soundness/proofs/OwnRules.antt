-- What a statement weighs and breaks without its blocks is the same from the shapes that its variables have when it is reached.
use Rattle.std.proofs.Common.{◌≡◌, ℕ, suc, ◌+◌, Bool, true, false, ◌&&◌, ◌||◌, not, List, [], ◌∷◌, map, length, Option, Some, None, nat_eq, nat_lt, refl, sym, ap, ◌∙◌}
use Rattle.std.specs.Prelude.{option_map}
use Rattle.std.specs.Option.{option_map_or}
use Rattle.pan_tree.specs.Nodes.{Expr}
use Rattle.pan_tree.specs.Scopes.{innermost}
use Rattle.pan_tree.specs.Shapes.{words_of, is_word, same}
use Rattle.pan_tree.specs.Check as check
use Rattle.pan_tree.specs.Check.{Judged, Context, State, Doing, Done, broken, breaks_of, weights, has_no_word, judged, or_word, no_value, is_other, wrong_count, wrong_shape, differ, function_of, exception_of, result_of, is_new_twice, is_old_unknown, is_old_other, target_words, after_target, handler_unknown, is_too_many, in_order, do_layer, do_kind}
use Rattle.pan_tree.specs.Meaning.{weightless}
use Rattle.pan_tree.specs.declared.rule.Rule.{Rule}
use Rattle.pan_tree.specs.declared.rule.Rule.TheVariants.{TwoNames, UnknownName, UnknownFunction, UnknownException, WrongShape, WrongCount, NotWord, TooMany}
use Rattle.pan_tree.specs.declared.shape.Shape.{Shape}
use Rattle.pan_tree.specs.declared.shape.Shape.TheVariants as shape
use Rattle.pan_tree.specs.declared.spanned.Spanned.{Spanned}
use Rattle.pan_tree.specs.declared.syntax.HandlerOf.{HandlerOf}
use Rattle.pan_tree.specs.declared.syntax.Target.{Target}
use Rattle.pan_tree.specs.declared.syntax.Target.TheVariants as target
use Rattle.pan_tree.specs.declared.syntax.StmtKind.{StmtKind-F, map-StmtKind}
use Rattle.pan_tree.specs.declared.syntax.StmtKind.TheOpen as stmt
use Rattle.pan_tree.specs.declared.program.Param.{Param}
use Rattle.pan_tree.specs.declared.program.Exception.{Exception}
use Rattle.pan_tree.specs.declared.program.Function.{Function}
use Rattle.pan_tree.specs.declared.program.Program.{Program}
use Rattle.check_soundness.specs.Spread.{spread}
use Rattle.check_soundness.specs.Guarded.{own_done}
use Rattle.check_soundness.proofs.Alike.{same_size, same_is_word, same_alike}
use Rattle.check_soundness.proofs.AlikeScopes.{AlikeScopes, alike_innermost, alike_declared}
use Rattle.check_soundness.proofs.AlikeExprs.{AllAlike, AlikeJudged, alike_weights, alike_breaks, alike_no_word, expr_alike, exprs_alike}
use Rattle.check_soundness.proofs.Rules.{append_none, none_append, anywhere, unbroken, neither}

-- ---- variables

alike_no_value : (o q : Option Shape) → option_map spread o ≡ option_map spread q → no_value o ≡ no_value q
alike_no_value None None e = refl
alike_no_value None (Some b) e = absurd cc
alike_no_value (Some a) None e = absurd cc
alike_no_value (Some a) (Some b) e = refl

alike_other : (o q : Option Shape) (s t : Shape) → option_map spread o ≡ option_map spread q → spread s ≡ spread t → is_other o s ≡ is_other q t
alike_other None None s t e f = refl
alike_other None (Some b) s t e f = absurd cc
alike_other (Some a) None s t e f = absurd cc
alike_other (Some a) (Some b) s t e f = let inner : spread a ≡ spread b = cc in ap not (same_alike a s b t inner f)

alike_or_word : (o q : Option Shape) → option_map spread o ≡ option_map spread q → spread (or_word o) ≡ spread (or_word q)
alike_or_word None None e = refl
alike_or_word None (Some b) e = absurd cc
alike_or_word (Some a) None e = absurd cc
alike_or_word (Some a) (Some b) e = cc

-- ---- arguments

alike_length : (is js : List Judged) → AllAlike is js → length is ≡ length js
alike_length [] [] h = refl
alike_length [] (j ∷ js) h = absurd h
alike_length (i ∷ is) [] h = absurd h
alike_length (i ∷ is) (j ∷ js) h = ap (λ n. suc n) (alike_length is js h.1)

alike_differ : (ps : List Param) (is js : List Judged) → AllAlike is js → differ ps is ≡ differ ps js
alike_differ ps [] [] h = refl
alike_differ ps [] (j ∷ js) h = absurd h
alike_differ ps (i ∷ is) [] h = absurd h
alike_differ [] (i ∷ is) (j ∷ js) h = refl
alike_differ (p ∷ ps) (i ∷ is) (j ∷ js) h = ap (λ b. not b || differ ps is) (same_alike p.shape i.shape p.shape j.shape refl h.0.shape) ∙ ap (λ b. not (same p.shape j.shape) || b) (alike_differ ps is js h.1)

alike_wrong_count : (f : Option Function) (is js : List Judged) → AllAlike is js → wrong_count f is ≡ wrong_count f js
alike_wrong_count None is js h = refl
alike_wrong_count (Some f) is js h = ap (λ n. not (nat_eq (length f.params) n)) (alike_length is js h)

alike_wrong_shape : (f : Option Function) (is js : List Judged) → AllAlike is js → wrong_shape f is ≡ wrong_shape f js
alike_wrong_shape None is js h = refl
alike_wrong_shape (Some f) is js h = ap (λ n. nat_eq (length f.params) n && differ f.params is) (alike_length is js h) ∙ ap (λ b. nat_eq (length f.params) (length js) && b) (alike_differ f.params is js h)

-- ---- statements without blocks

module _ {A : Type 0} where
  -- the statements of a block, as ones that weigh nothing
  abbrev pub nothings : List (Spanned A) → List (Spanned Doing)
  nothings xs = map (λ (x : Spanned A). record { kind = weightless; span = x.span }) xs

  pub nothings_break : (xs : List (Spanned A)) (c : Context) (s : State) → (in_order (nothings xs) c s).breaks ≡ []
  nothings_break [] c s = refl
  nothings_break (x ∷ xs) c s = nothings_break xs c s

  nothings_weigh : (xs : List (Spanned A)) (c : Context) (s : State) → (in_order (nothings xs) c s).weight ≡ 0
  nothings_weigh [] c s = refl
  nothings_weigh (x ∷ xs) c s = ap (λ n. 0 + n) (nothings_weigh xs c s)

-- as much, and nothing is broken where nothing was, if this holds
pub record OwnAlike (R : Type 0) (a b : Done) : Type 0 where
  pub weight : a.weight ≡ b.weight
  pub breaks : R → a.breaks ≡ [] → b.breaks ≡ []

module _ (R : Type 0) where
  own_plain : (place other : ℕ) (n k : ℕ) (is js : List Judged) (rs qs : List (Rule × Bool)) (s t : State) → n ≡ k → AllAlike is js → (R → broken place rs ≡ [] → broken other qs ≡ []) → OwnAlike R (check.plain place n is rs s) (check.plain other k js qs t)
  own_plain place other n k is js rs qs s t e h r = record {
    weight = ap (λ m. 4 + m + n) (alike_weights is js h) ∙ ap (λ m. 4 + weights js + m) e;
    breaks = λ holds b.
        let both = append_none (breaks_of is) (broken place rs) b in
        none_append (breaks_of js) (broken other qs) (sym (alike_breaks is js h) ∙ both.0) (r holds both.1);
  }

  -- rules that are equal are kept anywhere
  alike_rules : (place other : ℕ) (rs qs : List (Rule × Bool)) → rs ≡ qs → broken place rs ≡ [] → broken other qs ≡ []
  alike_rules place other rs qs e h = anywhere place other qs (sym (ap (broken place) e) ∙ h)

  own_same : (place other : ℕ) (n k : ℕ) (is js : List Judged) {rs qs : List (Rule × Bool)} (s t : State) → n ≡ k → AllAlike is js → (R → rs ≡ qs) → OwnAlike R (check.plain place n is rs s) (check.plain other k js qs t)
  own_same place other n k is js {rs} {qs} s t e h r = own_plain place other n k is js rs qs s t e h (λ holds. alike_rules place other rs qs (r holds))

  -- with blocks that break nothing
  own_and : (a b : Done) (f g : State → Done) → OwnAlike R a b → (f a.state).weight ≡ (g b.state).weight → (g b.state).breaks ≡ [] → OwnAlike R (check.and_block a f) (check.and_block b g)
  own_and a b f g h w n = record {
    weight = ap (λ m. m + (f a.state).weight) h.weight ∙ ap (λ m. b.weight + m) w;
    breaks = λ holds e. none_append b.breaks (g b.state).breaks (h.breaks holds (append_none a.breaks (f a.state).breaks e).0) n;
  }

-- the loop's rule, and that of many names, where they are tried afresh
fresh_name : (x : List ℕ) (names : List (List ℕ)) → is_too_many x names ≡ false → is_too_many x [] ≡ false
fresh_name x names h = ap (λ b. b || false) (neither (nat_lt 64 (length x)) (nat_lt 1024 (length (check.with_name x names))) h).0

abbrev mapped : {A B : Type 0} → (A → B) → List (Spanned A) → List (Spanned B)
mapped f xs = map (λ x. record { kind = f x.kind; span = x.span }) xs

module _ {A B : Type 0} (f : A → B) (p : Program) (r r' : Shape) (l : Bool) (place : ℕ) (s : State) (v : check.Scopes) (h : AlikeScopes s.scopes v) where
  abbrev here : Context
  here = record { program = p; result = r; in_loop = l }

  abbrev afresh : Context
  afresh = record { program = p; result = r'; in_loop = true }

  abbrev new_state : State
  new_state = record { scopes = v; names = [] }

  one : (e : Expr) → AlikeJudged (judged e s.scopes) (judged e v)
  one e = expr_alike e s.scopes v h

  new_twice : (t : Target) → is_new_twice t s.scopes ≡ is_new_twice t v
  new_twice target.Nothing = refl
  new_twice (target.Old x) = refl
  new_twice (target.New x) = alike_declared s.scopes v h x

  old_unknown : (t : Target) → is_old_unknown t s.scopes ≡ is_old_unknown t v
  old_unknown target.Nothing = refl
  old_unknown (target.Old x) = alike_no_value (innermost x s.scopes) (innermost x v) (alike_innermost s.scopes v h x)
  old_unknown (target.New x) = refl

  old_other : (t : Target) (g : Option Function) → is_old_other t g s.scopes ≡ is_old_other t g v
  old_other target.Nothing g = refl
  old_other (target.Old x) None = refl
  old_other (target.Old x) (Some g) = alike_other (innermost x s.scopes) (innermost x v) g.result g.result (alike_innermost s.scopes v h x) refl
  old_other (target.New x) g = refl

  words_alike : (t : Target) (z : Shape) → target_words t z s.scopes ≡ target_words t z v
  words_alike target.Nothing z = refl
  words_alike (target.Old x) z = same_size (or_word (innermost x s.scopes)) (or_word (innermost x v)) (alike_or_word (innermost x s.scopes) (innermost x v) (alike_innermost s.scopes v h x))
  words_alike (target.New x) z = refl

  abbrev calls_of : List Expr → check.Scopes → List Judged
  calls_of es v = map (λ x. judged x v) es

  abbrev call_rules : Target → Option Function → Bool → List Judged → check.Scopes → List (Rule × Bool)
  call_rules t g handler js v = (TwoNames, is_new_twice t v) ∷ (UnknownName, is_old_unknown t v) ∷ (UnknownFunction, no_value g) ∷ (UnknownException, handler) ∷ (WrongShape, wrong_shape g js || is_old_other t g v) ∷ (WrongCount, wrong_count g js) ∷ []

  call_alike : (t : Target) (g : Option Function) (handler : Bool) (es : List Expr) → call_rules t g handler (calls_of es s.scopes) s.scopes ≡ call_rules t g handler (calls_of es v) v
  call_alike t g handler es =
      let all = exprs_alike es s.scopes v h in
      let a : is_new_twice t s.scopes ≡ is_new_twice t v = new_twice t in
      let b : is_old_unknown t s.scopes ≡ is_old_unknown t v = old_unknown t in
      let c : wrong_shape g (calls_of es s.scopes) ≡ wrong_shape g (calls_of es v) = alike_wrong_shape g (calls_of es s.scopes) (calls_of es v) all in
      let d : is_old_other t g s.scopes ≡ is_old_other t g v = old_other t g in
      let e : wrong_count g (calls_of es s.scopes) ≡ wrong_count g (calls_of es v) = alike_wrong_count g (calls_of es s.scopes) (calls_of es v) all in
      ap (λ x. (TwoNames, x) ∷ (UnknownName, is_old_unknown t s.scopes) ∷ (UnknownFunction, no_value g) ∷ (UnknownException, handler) ∷ (WrongShape, wrong_shape g (calls_of es s.scopes) || is_old_other t g s.scopes) ∷ (WrongCount, wrong_count g (calls_of es s.scopes)) ∷ []) a
      ∙ ap (λ x. (TwoNames, is_new_twice t v) ∷ (UnknownName, x) ∷ (UnknownFunction, no_value g) ∷ (UnknownException, handler) ∷ (WrongShape, wrong_shape g (calls_of es s.scopes) || is_old_other t g s.scopes) ∷ (WrongCount, wrong_count g (calls_of es s.scopes)) ∷ []) b
      ∙ ap (λ x. (TwoNames, is_new_twice t v) ∷ (UnknownName, is_old_unknown t v) ∷ (UnknownFunction, no_value g) ∷ (UnknownException, handler) ∷ (WrongShape, x || is_old_other t g s.scopes) ∷ (WrongCount, wrong_count g (calls_of es s.scopes)) ∷ []) c
      ∙ ap (λ x. (TwoNames, is_new_twice t v) ∷ (UnknownName, is_old_unknown t v) ∷ (UnknownFunction, no_value g) ∷ (UnknownException, handler) ∷ (WrongShape, wrong_shape g (calls_of es v) || x) ∷ (WrongCount, wrong_count g (calls_of es s.scopes)) ∷ []) d
      ∙ ap (λ x. (TwoNames, is_new_twice t v) ∷ (UnknownName, is_old_unknown t v) ∷ (UnknownFunction, no_value g) ∷ (UnknownException, handler) ∷ (WrongShape, wrong_shape g (calls_of es v) || is_old_other t g v) ∷ (WrongCount, x) ∷ []) e

  abbrev R : Type 0
  R = r ≡ r'

  call_plain : (t : Target) (g : Option Function) (handler : Bool) (es : List Expr)
      → OwnAlike R (check.plain place (target_words t (result_of g) s.scopes + words_of (result_of g)) (calls_of es s.scopes) (call_rules t g handler (calls_of es s.scopes) s.scopes) (record s { scopes = after_target t (result_of g) s.scopes }))
      (check.plain 0 (target_words t (result_of g) v + words_of (result_of g)) (calls_of es v) (call_rules t g handler (calls_of es v) v) (record { scopes = after_target t (result_of g) v; names = [] }))
  call_plain t g handler es =
      own_same R place 0 _ _ (calls_of es s.scopes) (calls_of es v) _ _ (ap (λ n. n + words_of (result_of g)) (words_alike t (result_of g))) (exprs_alike es s.scopes v h) (λ _. call_alike t g handler es)

  no_words : (is js : List Judged) → AllAlike is js → let rs : List (Rule × Bool) = (NotWord, has_no_word is) ∷ [] in let qs : List (Rule × Bool) = (NotWord, has_no_word js) ∷ [] in rs ≡ qs
  no_words is js all = ap (λ b. (NotWord, b) ∷ []) (alike_no_word is js all)

  inner_weighs : (scope : check.Scope) (xs : List (Spanned A)) (ys : List (Spanned B)) (a b : State) → (check.block scope (record { stmts = nothings xs }) here a).weight ≡ (check.block scope (record { stmts = nothings ys }) afresh b).weight
  inner_weighs scope xs ys a b = nothings_weigh xs here (record a { scopes = scope ∷ a.scopes }) ∙ sym (nothings_weigh ys afresh (record b { scopes = scope ∷ b.scopes }))

  -- a call without its handler
  abbrev call_own : ℕ → State → Target → Option Function → Bool → List Expr → Done
  call_own place s t g handler es = check.plain place (target_words t (result_of g) s.scopes + words_of (result_of g)) (calls_of es s.scopes) (call_rules t g handler (calls_of es s.scopes) s.scopes) (record s { scopes = after_target t (result_of g) s.scopes })

  -- a handler whose block weighs nothing
  abbrev own_handler : {D : Type 0} → HandlerOf (Spanned D) → Context → State → Done
  own_handler c = check.handle (Some (record { exception = c.exception; name = c.name; body = record { stmts = nothings (c.body).stmts } }))

  own_call : (t : Target) (name : List ℕ) (es : List Expr) (c : Option (HandlerOf (Spanned A)))
      → let y : StmtKind-F A = stmt.Call (record { into = t; function = name; args = es; handler = c }) in OwnAlike R (own_done y here place s) (own_done (map-StmtKind A B f y) afresh 0 new_state)
  own_call t name es None = own_and R (call_own place s t (function_of name p) false es) (call_own 0 new_state t (function_of name p) false es) (check.handle None here) (check.handle None afresh) (call_plain t (function_of name p) false es) refl refl
  own_call t name es (Some c) =
      let value = option_map_or (λ (x : Exception). x.shape) (exception_of c.exception p) shape.Word in
      let g = function_of name p in
      let unknown = no_value (exception_of c.exception p) in
      let c' : HandlerOf (Spanned B) = record { exception = c.exception; name = c.name; body = record { stmts = mapped f (c.body).stmts } } in
      let z = (call_own place s t g unknown es).state in
      let z' = (call_own 0 new_state t g unknown es).state in
      own_and R (call_own place s t g unknown es) (call_own 0 new_state t g unknown es) (own_handler c here) (own_handler c' afresh) (call_plain t g unknown es)
      (ap (λ n. 4 + words_of value + n) (inner_weighs ((c.name, value) ∷ []) (c.body).stmts (mapped f (c.body).stmts) z z')) (nothings_break (mapped f (c.body).stmts) afresh (record z' { scopes = ((c.name, value) ∷ []) ∷ z'.scopes }))

  -- a condition, and blocks that weigh nothing
  abbrev test_own : Expr → ℕ → State → Done
  test_own e place s = check.plain place 0 (judged e s.scopes ∷ []) ((NotWord, has_no_word (judged e s.scopes ∷ [])) ∷ []) s

  abbrev own_block : {D : Type 0} → Context → List (Spanned D) → State → Done
  own_block c xs = check.block [] (record { stmts = nothings xs }) c

  abbrev and_own : {D : Type 0} → Context → Done → List (Spanned D) → Done
  and_own c d xs = check.and_block d (own_block c xs)

  test_alike : (e : Expr) → OwnAlike R (test_own e place s) (test_own e 0 new_state)
  test_alike e = own_same R place 0 0 0 (judged e s.scopes ∷ []) (judged e v ∷ []) s new_state refl (one e, tt) (λ _. no_words (judged e s.scopes ∷ []) (judged e v ∷ []) (one e, tt))

  -- a statement of a function with this result from the variables of the check, and from others that are alike
  pub own_alike : (y : StmtKind-F A) → OwnAlike R (own_done y here place s) (own_done (map-StmtKind A B f y) afresh 0 new_state)
  own_alike stmt.Skip = own_plain R place 0 0 0 [] [] [] [] _ _ refl tt (λ _ b. refl)
  own_alike (stmt.Decl x e) =
      let j = one e in
      own_same R place 0 _ _ (judged e s.scopes ∷ []) (judged e v ∷ []) _ _ (same_size (judged e s.scopes).shape (judged e v).shape j.shape) (j, tt) (λ _. ap (λ b. (TwoNames, b) ∷ []) (alike_declared s.scopes v h x))
  own_alike (stmt.Assign x e) =
      let j = one e in
      let i = alike_innermost s.scopes v h x in
      let rs = λ (b c : Bool). let z : List (Rule × Bool) = (UnknownName, b) ∷ (WrongShape, c) ∷ [] in z in
      own_same R place 0 _ _ (judged e s.scopes ∷ []) (judged e v ∷ []) _ _ (same_size (or_word (innermost x s.scopes)) (or_word (innermost x v)) (alike_or_word (innermost x s.scopes) (innermost x v) i)) (j, tt)
      (λ _. (ap (λ b. rs b (is_other (innermost x s.scopes) (judged e s.scopes).shape)) (alike_no_value (innermost x s.scopes) (innermost x v) i)
      ∙ ap (rs (no_value (innermost x v))) (alike_other (innermost x s.scopes) (innermost x v) (judged e s.scopes).shape (judged e v).shape i j.shape)))
  own_alike (stmt.StoreWords a e) =
      let j = one a in
      own_same R place 0 0 0 (judged a s.scopes ∷ judged e s.scopes ∷ []) (judged a v ∷ judged e v ∷ []) _ _ refl (j, (one e, tt))
      (λ _. (ap (λ b. (NotWord, not b) ∷ []) (same_is_word (judged a s.scopes).shape (judged a v).shape j.shape)))
  own_alike (stmt.StoreByte a e) = own_same R place 0 0 0 (judged a s.scopes ∷ judged e s.scopes ∷ []) (judged a v ∷ judged e v ∷ []) _ _ refl (one a, (one e, tt)) (λ _. no_words (judged a s.scopes ∷ judged e s.scopes ∷ []) (judged a v ∷ judged e v ∷ []) (one a, (one e, tt)))
  own_alike (stmt.If e a b) =
      let d = test_own e place s in
      let d' = test_own e 0 new_state in
      let one_of = and_own here d a.stmts in
      let one_of' = and_own afresh d' (mapped f a.stmts) in
      own_and R one_of one_of' (own_block here b.stmts) (own_block afresh (mapped f b.stmts))
      (own_and R d d' (own_block here a.stmts) (own_block afresh (mapped f a.stmts)) (test_alike e) (inner_weighs [] a.stmts (mapped f a.stmts) s new_state) (nothings_break (mapped f a.stmts) afresh (record new_state { scopes = [] ∷ v })))
      (inner_weighs [] b.stmts (mapped f b.stmts) one_of.state one_of'.state) (nothings_break (mapped f b.stmts) afresh (record one_of'.state { scopes = [] ∷ v }))
  own_alike (stmt.While e b) =
      let inner : Context = record here { in_loop = true } in
      own_and R (test_own e place s) (test_own e 0 new_state) (own_block inner b.stmts) (own_block afresh (mapped f b.stmts)) (test_alike e)
      (nothings_weigh b.stmts inner (record s { scopes = [] ∷ s.scopes }) ∙ sym (nothings_weigh (mapped f b.stmts) afresh (record new_state { scopes = [] ∷ v }))) (nothings_break (mapped f b.stmts) afresh (record new_state { scopes = [] ∷ v }))
  own_alike stmt.Break = record { weight = refl; breaks = λ _ b. refl }
  own_alike stmt.Continue = record { weight = refl; breaks = λ _ b. refl }
  own_alike (stmt.Call k) = own_call k.into k.function k.args k.handler
  own_alike (stmt.Return e) =
      let j = one e in
      own_same R place 0 0 0 (judged e s.scopes ∷ []) (judged e v ∷ []) _ _ refl (j, tt)
      (λ is. (ap (λ b. (WrongShape, not b) ∷ []) (same_alike r (judged e s.scopes).shape r' (judged e v).shape (ap spread is) j.shape)))
  own_alike (stmt.TailCall name es) =
      let g = function_of name p in
      let all = exprs_alike es s.scopes v h in
      let rs = λ (a b c : Bool). let z : List (Rule × Bool) = (UnknownFunction, no_value g) ∷ (WrongShape, a || b) ∷ (WrongCount, c) ∷ [] in z in
      let other = λ (z : Shape). is_other (option_map (λ (g : Function). g.result) g) z in
      own_same R place 0 _ _ (calls_of es s.scopes) (calls_of es v) _ _ refl all
      (λ is. (ap (λ b. rs b (other r) (wrong_count g (calls_of es s.scopes))) (alike_wrong_shape g (calls_of es s.scopes) (calls_of es v) all)
      ∙ ap (λ z. rs (wrong_shape g (calls_of es v)) (other z) (wrong_count g (calls_of es s.scopes))) is ∙ ap (rs (wrong_shape g (calls_of es v)) (other r')) (alike_wrong_count g (calls_of es s.scopes) (calls_of es v) all)))
  own_alike (stmt.Raise i e) =
      let j = one e in
      let known = exception_of i p in
      own_same R place 0 0 0 (judged e s.scopes ∷ []) (judged e v ∷ []) _ _ refl (j, tt)
      (λ _. (ap (λ b. (UnknownException, no_value known) ∷ (WrongShape, b) ∷ []) (alike_other (option_map (λ (x : Exception). x.shape) known) (option_map (λ (x : Exception). x.shape) known) (judged e s.scopes).shape (judged e v).shape refl j.shape)))
  own_alike (stmt.SharedLoad size x a) =
      let j = one a in
      let i = alike_innermost s.scopes v h x in
      let o = innermost x s.scopes in
      let q = innermost x v in
      let w = alike_or_word o q i in
      let rs = λ (b c d : Bool). let z : List (Rule × Bool) = (UnknownName, b) ∷ (WrongShape, not c) ∷ (NotWord, d) ∷ [] in z in
      own_same R place 0 _ _ (judged a s.scopes ∷ []) (judged a v ∷ []) _ _ (same_size (or_word o) (or_word q) w) (j, tt)
      (λ _. (ap (λ b. rs b (is_word (or_word o)) (has_no_word (judged a s.scopes ∷ []))) (alike_no_value o q i)
      ∙ ap (λ b. rs (no_value q) b (has_no_word (judged a s.scopes ∷ []))) (same_is_word (or_word o) (or_word q) w) ∙ ap (rs (no_value q) (is_word (or_word q))) (alike_no_word (judged a s.scopes ∷ []) (judged a v ∷ []) (j, tt))))
  own_alike (stmt.SharedStore size a e) = own_same R place 0 0 0 (judged a s.scopes ∷ judged e s.scopes ∷ []) (judged a v ∷ judged e v ∷ []) _ _ refl (one a, (one e, tt)) (λ _. no_words (judged a s.scopes ∷ judged e s.scopes ∷ []) (judged a v ∷ judged e v ∷ []) (one a, (one e, tt)))
  own_alike (stmt.Foreign x a b d e) =
      let es = a ∷ b ∷ d ∷ e ∷ [] in
      let all = exprs_alike es s.scopes v h in
      own_plain R place 0 0 0 (calls_of es s.scopes) (calls_of es v) ((NotWord, has_no_word (calls_of es s.scopes)) ∷ (TooMany, is_too_many x s.names) ∷ []) ((NotWord, has_no_word (calls_of es v)) ∷ (TooMany, is_too_many x []) ∷ []) _ _ refl all
      (λ _ b.
      let first = unbroken place NotWord (has_no_word (calls_of es s.scopes)) ((TooMany, is_too_many x s.names) ∷ []) b in
      let second = unbroken place TooMany (is_too_many x s.names) [] first.1 in
      ap (λ c. broken 0 ((NotWord, c) ∷ (TooMany, is_too_many x []) ∷ [])) (sym (alike_no_word (calls_of es s.scopes) (calls_of es v) all) ∙ first.0) ∙ ap (λ c. broken 0 ((TooMany, c) ∷ [])) (fresh_name x s.names second.0))
