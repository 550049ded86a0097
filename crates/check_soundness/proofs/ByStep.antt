-- A statement that breaks nothing when it is reached fails by itself only where it makes a failing step.
use Rattle.std.proofs.Common.{◌≡◌, ℕ, zero, suc, ◌%◌, ◌^◌, ◌*◌, Bool, true, false, ◌&&◌, ◌||◌, not, List, [], ◌∷◌, ◌++◌, map, Option, Some, None, slice_get, refl, sym, ap, subst, ◌∙◌}
use Rattle.std.specs.Prelude.{option_map}
use Rattle.std.specs.Str.{bytes_eq}
use Rattle.pan_base.specs.Events.{Asked, Replied, Fails, Spent, Load, Store, Foreign, fits, byte_count}
use Rattle.pan_control.specs.Memory.{is_shared, bytes_at, with_byte, with_words}
use Rattle.pan_control.specs.Control.{Normal, Returned, Raised, Over, with_value, where_true, ask, ask_of, ask_fit, if_not_zero, spend}
use Rattle.pan_control.specs.World.{leaving}
use Rattle.pan_tree.specs.Running.{World, Outcome}
use Rattle.pan_tree.specs.Nodes.{Expr}
use Rattle.pan_tree.specs.Scopes.{innermost, declare, assign, is_declared}
use Rattle.pan_tree.specs.Value.{Value, Word, Struct, words_in}
use Rattle.pan_tree.specs.Shapes.{is_word}
use Rattle.pan_tree.specs.Check.{Judged, broken, breaks_of, has_no_word, judged, no_value, is_other, or_word, wrong_count, wrong_shape, function_of, exception_of, is_new_twice, is_old_unknown, is_old_other, is_too_many}
use Rattle.pan_tree.specs.Meaning as source
use Rattle.pan_tree.specs.Meaning.{Scopes, shapes, value, values, word, as_word, into, into_nothing, caught, function_index, exception_index, foreign_index}
use Rattle.pan_tree.specs.declared.rule.Rule.{Rule}
use Rattle.pan_tree.specs.declared.rule.Rule.TheVariants.{TwoNames, UnknownName, UnknownFunction, UnknownException, WrongShape, WrongCount, NotWord, TooMany}
use Rattle.pan_tree.specs.declared.shape.Shape.{Shape}
use Rattle.pan_tree.specs.declared.spanned.Spanned.{Spanned}
use Rattle.pan_tree.specs.declared.syntax.HandlerOf.{HandlerOf}
use Rattle.pan_tree.specs.declared.syntax.Target.{Target}
use Rattle.pan_tree.specs.declared.syntax.StmtKind.{StmtKind-F}
use Rattle.pan_tree.specs.declared.syntax.StmtKind.TheOpen as stmt
use Rattle.pan_tree.specs.declared.program.Exception.{Exception}
use Rattle.pan_tree.specs.declared.program.Function.{Function}
use Rattle.pan_tree.specs.declared.program.Program.{Program}
use Rattle.check_soundness.specs.FailingSteps.{exprs, MakesFailingStep, FailsByStep, in_expression, writes_words, writes_byte, reads_outside, writes_outside, hands_configuration, hands_array}
use Rattle.check_soundness.specs.Guarded.{own_breaks, is_empty, has_number, breaks_nothing, alone, unless_failed}
use Rattle.check_soundness.proofs.Rules.{unbroken, append_none, head_breaks, head_word, not_false}
use Rattle.check_soundness.proofs.ShapedExprs.{ComesTo, AllComeTo, all_come, word_or_struct, expr_shaped}
use Rattle.check_soundness.proofs.Named.{found_at, some_of}
use Rattle.check_soundness.proofs.Keeping.{spend_sure}
use Rattle.check_soundness.proofs.Alone.{without_fuel, sure_choice, turned, sure_turn}

known_is : {X : Type 0} (o : Option X) → no_value o ≡ false → (x : X) × (o ≡ Some x)
known_is None h = absurd cc
known_is (Some x) h = (x, refl)

empty_none : {X : Type 0} (xs : List X) (b : Bool) → (is_empty xs && b) ≡ true → (xs ≡ []) × (b ≡ true)
empty_none [] b h = (refl, h)
empty_none (x ∷ xs) b h = absurd cc

-- what goes on whatever comes before it hasn't failed
sure_no : (o : Outcome Scopes Value) (w : World) → ((r : Outcome Scopes Value) → unless_failed Spent Spent o r ≡ r) → o ≡ Over Fails w → ⊥
sure_no o w h e = let no : Over Spent w ≡ Normal [] w = sym (ap (λ x. unless_failed Spent Spent x (Normal [] w)) e) ∙ h (Normal [] w) in absurd cc

module _ (A : Type 0) (v : Scopes) (w end : World) where
  abbrev FailsSo : Outcome Scopes Value → Type 0
  FailsSo o = o ≡ Over Fails end

  abbrev judge : Expr → Judged
  judge e = judged e (shapes v)

  -- where this fails there is no value, or what follows fails
  value_fails : {X : Type 0} (G : Type 0) (o : Option X) (go : X → Outcome Scopes Value) → (o ≡ None → G) → ((x : X) → o ≡ Some x → FailsSo (go x) → G) → FailsSo (with_value o w go) → G
  value_fails G None go none some h = none refl
  value_fails G (Some x) go none some h = some x refl h

  where_fails : (G : Type 0) (b : Bool) (o : Outcome Scopes Value) → (b ≡ false → G) → (FailsSo o → G) → FailsSo (where_true b w o) → G
  where_fails G false o outside inside h = outside refl
  where_fails G true o outside inside h = inside h

  -- a request doesn't fail where what follows doesn't
  ask_fails : (q : Asked) (go : Replied → World → Outcome Scopes Value) → ((r : Replied) (z : World) → FailsSo (go r z) → ⊥) → FailsSo (ask q w go) → ⊥
  ask_fails q go never h = of w.replies h
    where
      fit : (b : Bool) (r : Replied) (rs : List Replied) → FailsSo (ask_fit b q r w rs go) → ⊥
      fit false r rs h = absurd cc
      fit true r rs h = never r _ h

      of : (rs : List Replied) → FailsSo (ask_of rs q w go) → ⊥
      of [] h = absurd cc
      of (r ∷ rs) h = fit (fits q r) r rs h

  expr_step : (y : StmtKind-F A) (i : ℕ) (e : Expr) → slice_get (exprs y) i ≡ Some e → (judge e).breaks ≡ [] → value e v w.memory ≡ None → FailsByStep v w.memory y
  expr_step y i e h b none = in_expression y i e h (subst (λ o. ComesTo o (judge e) (MakesFailingStep v w.memory e.kind)) none (expr_shaped e v w.memory) b)

  word_step : (y : StmtKind-F A) (i : ℕ) (e : Expr) → slice_get (exprs y) i ≡ Some e → (judge e).breaks ≡ [] → is_word (judge e).shape ≡ true → word e v w.memory ≡ None → FailsByStep v w.memory y
  word_step y i e h b is none = by (value e v w.memory) refl none
    where
      by : (o : Option Value) → value e v w.memory ≡ o → as_word o ≡ None → FailsByStep v w.memory y
      by None given none = expr_step y i e h b given
      by (Some (Word n)) given none = absurd cc
      by (Some (Struct vs)) given none = absurd (word_or_struct vs (judge e).shape is (subst (λ o. ComesTo o (judge e) (MakesFailingStep v w.memory e.kind)) given (expr_shaped e v w.memory)))

  abbrev judge_all : List Expr → List Judged
  judge_all es = map (λ x. judged x (shapes v)) es

  values_step : (y : StmtKind-F A) (es : List Expr) → ((i : ℕ) (e : Expr) → slice_get es i ≡ Some e → MakesFailingStep v w.memory e.kind → FailsByStep v w.memory y) → AllComeTo (values es v w.memory) (judge_all es) (FailsByStep v w.memory y)
  values_step y [] up = refl
  values_step y (e ∷ es) up =
      all_come (value e v w.memory) (map (λ x. value x v w.memory) es) (judge e) (judge_all es) (FailsByStep v w.memory y) (one (value e v w.memory) (expr_shaped e v w.memory)) (values_step y es (λ i a h. up (suc i) a h))
    where
      one : (o : Option Value) → ComesTo o (judge e) (MakesFailingStep v w.memory e.kind) → ComesTo o (judge e) (FailsByStep v w.memory y)
      one None c = λ b. up 0 e refl (c b)
      one (Some a) c = c

  none_step : (y : StmtKind-F A) (es : List Expr) → exprs y ≡ es → breaks_of (judge_all es) ≡ [] → values es v w.memory ≡ None → FailsByStep v w.memory y
  none_step y es is b none =
      subst (λ o. AllComeTo o (judge_all es) (FailsByStep v w.memory y)) none (values_step y es (λ i e h f. in_expression y i e (ap (λ xs. slice_get xs i) is ∙ h) f)) b

  -- an expression alone that must be a word
  alone_word : (place : ℕ) (e : Expr) (rules : List (Rule × Bool)) → breaks_of (judge e ∷ []) ++ broken place ((NotWord, has_no_word (judge e ∷ [])) ∷ rules) ≡ [] → ((judge e).breaks ≡ []) × (is_word (judge e).shape ≡ true)
  alone_word place e rules b =
      let both = append_none (breaks_of (judge e ∷ [])) (broken place ((NotWord, has_no_word (judge e ∷ [])) ∷ rules)) b in
      ((head_breaks (judge e) [] both.0).0, (head_word (judge e) [] (unbroken place NotWord (has_no_word (judge e ∷ [])) rules both.1).0).0)

  -- two that must be words
  two_words : (a e : Expr) → breaks_of (judge a ∷ judge e ∷ []) ++ broken 0 ((NotWord, has_no_word (judge a ∷ judge e ∷ [])) ∷ []) ≡ [] → ((judge a).breaks ≡ []) × (is_word (judge a).shape ≡ true) × ((judge e).breaks ≡ []) × (is_word (judge e).shape ≡ true)
  two_words a e b =
      let js = judge a ∷ judge e ∷ [] in
      let both = append_none (breaks_of js) (broken 0 ((NotWord, has_no_word js) ∷ [])) b in
      let rule = (unbroken 0 NotWord (has_no_word js) [] both.1).0 in
      let first = head_breaks (judge a) (judge e ∷ []) both.0 in
      let words = head_word (judge a) (judge e ∷ []) rule in
      (first.0, words.0, (head_breaks (judge e) [] first.1).0, (head_word (judge e) [] words.1).0)

  module _ (p : Program) (result : Shape) where
    abbrev Steps : StmtKind-F A → Type 0
    Steps y = own_breaks p result y v ≡ [] → has_number p y ≡ true → FailsSo (alone p y v w) → FailsByStep v w.memory y

    -- a call that breaks no rule has a function
    call_known : (t : Target) (name : List ℕ) (es : List Expr) (unknown : Bool) → let f = function_of name p in let js = judge_all es in
        broken 0 ((TwoNames, is_new_twice t (shapes v)) ∷ (UnknownName, is_old_unknown t (shapes v)) ∷ (UnknownFunction, no_value f) ∷ (UnknownException, unknown)
        ∷ (WrongShape, wrong_shape f js || is_old_other t f (shapes v)) ∷ (WrongCount, wrong_count f js) ∷ []) ≡ [] → no_value f ≡ false
    call_known t name es unknown b =
        let f = function_of name p in
        let js = judge_all es in
        let r3 : List (Rule × Bool) = (UnknownException, unknown) ∷ (WrongShape, wrong_shape f js || is_old_other t f (shapes v)) ∷ (WrongCount, wrong_count f js) ∷ [] in
        let r2 : List (Rule × Bool) = (UnknownFunction, no_value f) ∷ r3 in
        let r1 : List (Rule × Bool) = (UnknownName, is_old_unknown t (shapes v)) ∷ r2 in
        (unbroken 0 UnknownFunction (no_value f) r3 (unbroken 0 UnknownName (is_old_unknown t (shapes v)) r2 (unbroken 0 TwoNames (is_new_twice t (shapes v)) r1 b).1).1).0

    function_there : (name : List ℕ) → no_value (function_of name p) ≡ false → function_index name p ≡ None → ⊥
    function_there name b none =
        let f = known_is (function_of name p) b in
        let at = found_at (λ (g : Function). bytes_eq g.name name) p.functions f.0 f.1 in
        let wrong : None ≡ Some at.number = sym none ∙ at.is in absurd cc

    exception_there : (name : List ℕ) → no_value (exception_of name p) ≡ false → exception_index name p ≡ None → ⊥
    exception_there name b none =
        let f = known_is (exception_of name p) b in
        let at = found_at (λ (g : Exception). bytes_eq g.name name) p.exceptions f.0 f.1 in
        let wrong : None ≡ Some at.number = sym none ∙ at.is in absurd cc

    -- a call by itself, once its function is known
    call_alone : (y : StmtKind-F A) (es : List Expr) (f : World → World) → exprs y ≡ es → breaks_of (judge_all es) ≡ [] → FailsSo (with_value (values es v w.memory) w (λ xs. spend w (λ inner. Over Spent (f inner)))) → FailsByStep v w.memory y
    call_alone y es f is b h =
        let go = λ (inner : World). let o : Outcome Scopes Value = Over Spent (f inner) in o in
        value_fails (FailsByStep v w.memory y) (values es v w.memory) (λ xs. spend w go) (none_step y es is b)
        (λ xs given h. absurd (sure_no (spend w go) end (spend_sure Spent Spent (λ x. ⊥) (λ i x. ⊥) (λ v. ⊥) (λ v. ⊥) w go (λ inner r. refl)) h)) h

    call_steps : (t : Target) (name : List ℕ) (es : List Expr) (c : Option (HandlerOf (Spanned A))) → Steps (stmt.Call (record { into = t; function = name; args = es; handler = c }))
    call_steps t name es None b n h =
        let y : StmtKind-F A = stmt.Call (record { into = t; function = name; args = es; handler = None }) in
        let both = append_none (breaks_of (judge_all es)) _ (append_none _ _ b).0 in
        value_fails (FailsByStep v w.memory y) (function_index name p) _ (λ none. absurd (function_there name (call_known t name es false both.1) none)) (λ i is h. call_alone y es (λ inner. inner) refl both.0 h) h
    call_steps t name es (Some c) b n h =
        let y : StmtKind-F A = stmt.Call (record { into = t; function = name; args = es; handler = Some c }) in
        let both = append_none (breaks_of (judge_all es)) _ (append_none _ _ b).0 in
        value_fails (FailsByStep v w.memory y) (function_index name p) _ (λ none. absurd (function_there name (call_known t name es (no_value (exception_of c.exception p)) both.1) none)) (λ i is h. call_alone y es (λ inner. inner) refl both.0 h) h

    layer_steps : (y : StmtKind-F A) → Steps y
    layer_steps stmt.Skip b n h = absurd cc
    layer_steps (stmt.Decl x e) b n h =
        let both = append_none (breaks_of (judge e ∷ [])) (broken 0 ((TwoNames, is_declared x (shapes v)) ∷ [])) b in
        value_fails (FailsByStep v w.memory (stmt.Decl x e)) (value e v w.memory) (λ a. Normal (declare x a v) w) (expr_step (stmt.Decl x e) 0 e refl (head_breaks (judge e) [] both.0).0) (λ a is h. absurd cc) h
    layer_steps (stmt.Assign x e) b n h =
        let both = append_none (breaks_of (judge e ∷ [])) _ b in
        value_fails (FailsByStep v w.memory (stmt.Assign x e)) (value e v w.memory) (λ a. Normal (assign x a v) w) (expr_step (stmt.Assign x e) 0 e refl (head_breaks (judge e) [] both.0).0) (λ a is h. absurd cc) h
    layer_steps (stmt.StoreWords a e) b n h =
        let y : StmtKind-F A = stmt.StoreWords a e in
        let both = append_none (breaks_of (judge a ∷ judge e ∷ [])) (broken 0 ((NotWord, not (is_word (judge a).shape)) ∷ [])) b in
        let first = head_breaks (judge a) (judge e ∷ []) both.0 in
        let wordy = not_false (is_word (judge a).shape) (unbroken 0 NotWord (not (is_word (judge a).shape)) [] both.1).0 in
        value_fails (FailsByStep v w.memory y) (word a v w.memory) _ (word_step y 0 a refl first.0 wordy) (λ addr at h.
        value_fails (FailsByStep v w.memory y) (value e v w.memory) _ (expr_step y 1 e refl (head_breaks (judge e) [] first.1).0) (λ x is h.
        value_fails (FailsByStep v w.memory y) (with_words w.memory addr (words_in x)) (λ m. Normal v (record w { memory = m })) (writes_words a e addr x at is) (λ m is h. absurd cc) h) h) h
    layer_steps (stmt.StoreByte a e) b n h =
        let y : StmtKind-F A = stmt.StoreByte a e in
        let both = two_words a e b in
        value_fails (FailsByStep v w.memory y) (word a v w.memory) _ (word_step y 0 a refl both.0 both.1) (λ addr at h.
        value_fails (FailsByStep v w.memory y) (word e v w.memory) _ (word_step y 1 e refl both.2 both.3) (λ k is h.
        value_fails (FailsByStep v w.memory y) (with_byte w.memory addr (k % 256)) (λ m. Normal v (record w { memory = m })) (writes_byte a e addr k at is) (λ m is h. absurd cc) h) h) h
    layer_steps (stmt.If e x z) b n h =
        let y : StmtKind-F A = stmt.If e x z in
        let test = alone_word 0 e [] (append_none _ _ (append_none _ _ b).0).0 in
        value_fails (FailsByStep v w.memory y) (word e v w.memory) (λ k. if_not_zero k (source.scoped [] (without_fuel x.stmts) v w) (source.scoped [] (without_fuel z.stmts) v w)) (word_step y 0 e refl test.0 test.1)
        (λ k is h. absurd (sure_no _ end (sure_choice Spent Spent k x.stmts z.stmts v w) h)) h
    layer_steps (stmt.While e x) b n h =
        let y : StmtKind-F A = stmt.While e x in
        let test = alone_word 0 e [] (append_none _ _ b).0 in
        value_fails (FailsByStep v w.memory y) (word e v w.memory) (λ k. if_not_zero k (spend w (turned Spent Spent e x.stmts v)) (Normal v w)) (word_step y 0 e refl test.0 test.1) (λ k is h. absurd (turns k h)) h
      where
        turns : (k : ℕ) → FailsSo (if_not_zero k (spend w (turned Spent Spent e x.stmts v)) (Normal v w)) → ⊥
        turns zero h = absurd cc
        turns (suc k) h = sure_no _ end (spend_sure Spent Spent (λ x. ⊥) (λ i x. ⊥) (λ v. ⊥) (λ v. ⊥) w (turned Spent Spent e x.stmts v) (sure_turn Spent Spent e x.stmts v)) h
    layer_steps stmt.Break b n h = absurd cc
    layer_steps stmt.Continue b n h = absurd cc
    layer_steps (stmt.Call k) b n h = call_steps k.into k.function k.args k.handler b n h
    layer_steps (stmt.Return e) b n h =
        let both = append_none (breaks_of (judge e ∷ [])) _ b in
        value_fails (FailsByStep v w.memory (stmt.Return e)) (value e v w.memory) (λ a. Returned a w) (expr_step (stmt.Return e) 0 e refl (head_breaks (judge e) [] both.0).0) (λ a is h. absurd cc) h
    layer_steps (stmt.TailCall name es) b n h =
        let y : StmtKind-F A = stmt.TailCall name es in
        let f = function_of name p in
        let rules : List (Rule × Bool) = (WrongShape, wrong_shape f (judge_all es) || is_other (option_map (λ (g : Function). g.result) f) result) ∷ (WrongCount, wrong_count f (judge_all es)) ∷ [] in
        let both = append_none (breaks_of (judge_all es)) (broken 0 ((UnknownFunction, no_value f) ∷ rules)) b in
        value_fails (FailsByStep v w.memory y) (function_index name p) _ (λ none. absurd (function_there name (unbroken 0 UnknownFunction (no_value f) rules both.1).0 none)) (λ i is h. call_alone y es leaving refl both.0 h) h
    layer_steps (stmt.Raise i e) b n h =
        let y : StmtKind-F A = stmt.Raise i e in
        let known = exception_of i p in
        let rules : List (Rule × Bool) = (WrongShape, is_other (option_map (λ (x : Exception). x.shape) known) (judge e).shape) ∷ [] in
        let both = append_none (breaks_of (judge e ∷ [])) (broken 0 ((UnknownException, no_value known) ∷ rules)) b in
        value_fails (FailsByStep v w.memory y) (exception_index i p) _ (λ none. absurd (exception_there i (unbroken 0 UnknownException (no_value known) rules both.1).0 none)) (λ k is h.
        value_fails (FailsByStep v w.memory y) (value e v w.memory) (λ a. Raised k a w) (expr_step y 0 e refl (head_breaks (judge e) [] both.0).0) (λ a is h. absurd cc) h) h
    layer_steps (stmt.SharedLoad size x a) b n h =
        let y : StmtKind-F A = stmt.SharedLoad size x a in
        let known = innermost x (shapes v) in
        let js = judge a ∷ [] in
        let r3 : List (Rule × Bool) = (NotWord, has_no_word js) ∷ [] in
        let r2 : List (Rule × Bool) = (WrongShape, not (is_word (or_word known))) ∷ r3 in
        let both = append_none (breaks_of js) (broken 0 ((UnknownName, no_value known) ∷ r2)) b in
        let third = (unbroken 0 WrongShape (not (is_word (or_word known))) r3 (unbroken 0 UnknownName (no_value known) r2 both.1).1).1 in
        let wordy = (head_word (judge a) [] (unbroken 0 NotWord (has_no_word js) [] third).0).0 in
        value_fails (FailsByStep v w.memory y) (word a v w.memory) _ (word_step y 0 a refl (head_breaks (judge a) [] both.0).0 wordy) (λ addr at h.
        where_fails (FailsByStep v w.memory y) (is_shared size addr) _ (reads_outside size x a addr at) (λ h. absurd (ask_fails (Load size addr) _ (λ r z h. absurd cc) h)) h) h
    layer_steps (stmt.SharedStore size a e) b n h =
        let y : StmtKind-F A = stmt.SharedStore size a e in
        let both = two_words a e b in
        value_fails (FailsByStep v w.memory y) (word a v w.memory) _ (word_step y 0 a refl both.0 both.1) (λ addr at h.
        value_fails (FailsByStep v w.memory y) (word e v w.memory) _ (word_step y 1 e refl both.2 both.3) (λ k is h.
        where_fails (FailsByStep v w.memory y) (is_shared size addr) _ (writes_outside size a e addr at) (λ h. absurd (ask_fails (Store size addr (k % 2 ^ (8 * byte_count size))) _ (λ r z h. absurd cc) h)) h) h) h
    layer_steps (stmt.Foreign x c l a k) b n h =
        let y : StmtKind-F A = stmt.Foreign x c l a k in
        let js = judge_all (c ∷ l ∷ a ∷ k ∷ []) in
        let both = append_none (breaks_of js) (broken 0 ((NotWord, has_no_word js) ∷ (TooMany, is_too_many x []) ∷ [])) b in
        let words = (unbroken 0 NotWord (has_no_word js) ((TooMany, is_too_many x []) ∷ []) both.1).0 in
        let b1 = head_breaks (judge c) (judge_all (l ∷ a ∷ k ∷ [])) both.0 in
        let b2 = head_breaks (judge l) (judge_all (a ∷ k ∷ [])) b1.1 in
        let b3 = head_breaks (judge a) (judge_all (k ∷ [])) b2.1 in
        let b4 = head_breaks (judge k) [] b3.1 in
        let w1 = head_word (judge c) (judge_all (l ∷ a ∷ k ∷ [])) words in
        let w2 = head_word (judge l) (judge_all (a ∷ k ∷ [])) w1.1 in
        let w3 = head_word (judge a) (judge_all (k ∷ [])) w2.1 in
        let w4 = head_word (judge k) [] w3.1 in
        let G = FailsByStep v w.memory y in
        value_fails G (foreign_index x p) _ (λ none. let found = some_of (foreign_index x p) n in let wrong : None ≡ Some found.0 = sym none ∙ found.1 in absurd cc) (λ i is h.
        value_fails G (word c v w.memory) _ (word_step y 0 c refl b1.0 w1.0) (λ conf c_is h. value_fails G (word l v w.memory) _ (word_step y 1 l refl b2.0 w2.0) (λ conf_len l_is h.
        value_fails G (word a v w.memory) _ (word_step y 2 a refl b3.0 w3.0) (λ array a_is h. value_fails G (word k v w.memory) _ (word_step y 3 k refl b4.0 w4.0) (λ array_len k_is h.
        value_fails G (bytes_at w.memory conf conf_len) _ (hands_configuration x c l a k conf conf_len c_is l_is) (λ first is h. value_fails G (bytes_at w.memory array array_len) _ (hands_array x c l a k array array_len a_is k_is) (λ second is h.
        absurd (ask_fails (Foreign i x first second) _ (λ r z h. absurd cc) h)) h) h) h) h) h) h) h

-- a statement that breaks nothing fails by itself only by a failing step
pub fails_by_step : (A : Type 0) (p : Program) (result : Shape) (y : StmtKind-F A) (v : Scopes) (w end : World) → breaks_nothing p result y v ≡ true → alone p y v w ≡ Over Fails end → FailsByStep v w.memory y
fails_by_step A p result y v w end b h = let both = empty_none (own_breaks p result y v) (has_number p y) b in layer_steps A v w end p result y both.0 both.1 h
