-- A statement that makes a failing step fails by itself.
use Rattle.std.proofs.Common.{◌≡◌, ℕ, zero, suc, ◌%◌, Bool, false, List, [], ◌∷◌, map, Option, Some, None, slice_get, refl, sym, ap, subst, ◌∙◌}
use Rattle.std.specs.Prelude.{option_map}
use Rattle.pan_base.specs.Events.{Fails}
use Rattle.pan_control.specs.Memory.{is_shared, bytes_at, with_byte, with_words}
use Rattle.pan_control.specs.Control.{Over, with_value, where_true}
use Rattle.pan_tree.specs.Running.{World, Outcome}
use Rattle.pan_tree.specs.Nodes.{Expr}
use Rattle.pan_tree.specs.Value.{Value, words_in}
use Rattle.pan_tree.specs.Meaning.{Scopes, value, values, word, as_word, all_given, function_index, exception_index, foreign_index}
use Rattle.pan_tree.specs.declared.syntax.StmtKind.{StmtKind-F}
use Rattle.pan_tree.specs.declared.syntax.StmtKind.TheOpen as stmt
use Rattle.pan_tree.specs.declared.program.Program.{Program}
use Rattle.check_soundness.specs.FailingSteps.{exprs, MakesFailingStep, FailsByStep, in_expression, writes_words, writes_byte, reads_outside, writes_outside, hands_configuration, hands_array}
use Rattle.check_soundness.specs.Guarded.{alone}
use Rattle.check_soundness.proofs.FailsNothing.{fails_nothing}

module _ (A : Type 0) (p : Program) (v : Scopes) (w : World) where
  abbrev FailsHere : Outcome Scopes Value → Type 0
  FailsHere o = o ≡ Over Fails w

  -- no value, so a failure
  at_none : {X : Type 0} (o : Option X) (go : X → Outcome Scopes Value) → o ≡ None → FailsHere (with_value o w go)
  at_none o go none = ap (λ o. with_value o w go) none

  -- a failure whatever the value
  later : {X : Type 0} (o : Option X) (go : X → Outcome Scopes Value) → ((x : X) → FailsHere (go x)) → FailsHere (with_value o w go)
  later None go fails = refl
  later (Some x) go fails = fails x

  -- a failure with this value
  at_value : {X : Type 0} (o : Option X) (go : X → Outcome Scopes Value) (x : X) → o ≡ Some x → FailsHere (go x) → FailsHere (with_value o w go)
  at_value o go x is fails = ap (λ o. with_value o w go) is ∙ fails

  at_false : (b : Bool) (o : Outcome Scopes Value) → b ≡ false → FailsHere (where_true b w o)
  at_false b o is = ap (λ b. where_true b w o) is

  abbrev Stops : Expr → Type 0
  Stops e = MakesFailingStep v w.memory e.kind

  no_value : (e : Expr) → Stops e → value e v w.memory ≡ None
  no_value e step = fails_nothing v w.memory e.kind step

  no_word : (e : Expr) → Stops e → word e v w.memory ≡ None
  no_word e step = ap as_word (no_value e step)

  -- the first of these expressions
  first : (e a : Expr) (es : List Expr) → slice_get (e ∷ es) 0 ≡ Some a → Stops a → Stops e
  first e a es h step = let is : e ≡ a = cc in subst Stops (sym is) step

  only : (e a : Expr) (i : ℕ) → slice_get (e ∷ []) i ≡ Some a → Stops a → Stops e
  only e a zero h step = first e a [] h step
  only e a (suc i) h step = absurd cc

  no_values : (es : List Expr) (i : ℕ) (a : Expr) → slice_get es i ≡ Some a → Stops a → values es v w.memory ≡ None
  no_values [] i a h step = absurd cc
  no_values (e ∷ es) zero a h step = ap (λ o. all_given (o ∷ map (λ e. value e v w.memory) es)) (no_value e (first e a es h step))
  no_values (e ∷ es) (suc i) a h step = by (value e v w.memory) (no_values es i a h step)
    where
      by : (o : Option Value) → values es v w.memory ≡ None → all_given (o ∷ map (λ e. value e v w.memory) es) ≡ None
      by None rest = refl
      by (Some x) rest = ap (option_map (λ others. x ∷ others)) rest

  abbrev Alone : StmtKind-F A → Type 0
  Alone y = FailsHere (alone p y v w)

  -- an expression of a foreign call
  foreign_step : (x : List ℕ) (c l a n e : Expr) (i : ℕ) → slice_get (c ∷ l ∷ a ∷ n ∷ []) i ≡ Some e → Stops e → Alone (stmt.Foreign x c l a n)
  foreign_step x c l a n e zero h step = later (foreign_index x p) _ (λ k. at_none (word c v w.memory) _ (no_word c (first c e (l ∷ a ∷ n ∷ []) h step)))
  foreign_step x c l a n e (suc zero) h step =
      later (foreign_index x p) _ (λ k. later (word c v w.memory) _ (λ conf. at_none (word l v w.memory) _ (no_word l (first l e (a ∷ n ∷ []) h step))))
  foreign_step x c l a n e (suc (suc zero)) h step =
      later (foreign_index x p) _ (λ k. later (word c v w.memory) _ (λ conf. later (word l v w.memory) _ (λ conf_len. at_none (word a v w.memory) _ (no_word a (first a e (n ∷ []) h step)))))
  foreign_step x c l a n e (suc (suc (suc i))) h step =
      later (foreign_index x p) _ (λ k. later (word c v w.memory) _ (λ conf. later (word l v w.memory) _ (λ conf_len. later (word a v w.memory) _ (λ array.
      at_none (word n v w.memory) _ (no_word n (only n e i h step))))))

  -- one of a statement's expressions
  expr_step : (y : StmtKind-F A) (i : ℕ) (e : Expr) → slice_get (exprs y) i ≡ Some e → Stops e → Alone y
  expr_step stmt.Skip i e h step = absurd cc
  expr_step (stmt.Decl x a) i e h step = at_none (value a v w.memory) _ (no_value a (only a e i h step))
  expr_step (stmt.Assign x a) i e h step = at_none (value a v w.memory) _ (no_value a (only a e i h step))
  expr_step (stmt.StoreWords a b) zero e h step = at_none (word a v w.memory) _ (no_word a (first a e (b ∷ []) h step))
  expr_step (stmt.StoreWords a b) (suc i) e h step = later (word a v w.memory) _ (λ addr. at_none (value b v w.memory) _ (no_value b (only b e i h step)))
  expr_step (stmt.StoreByte a b) zero e h step = at_none (word a v w.memory) _ (no_word a (first a e (b ∷ []) h step))
  expr_step (stmt.StoreByte a b) (suc i) e h step = later (word a v w.memory) _ (λ addr. at_none (word b v w.memory) _ (no_word b (only b e i h step)))
  expr_step (stmt.If a xs ys) i e h step = at_none (word a v w.memory) _ (no_word a (only a e i h step))
  expr_step (stmt.While a xs) i e h step = at_none (word a v w.memory) _ (no_word a (only a e i h step))
  expr_step stmt.Break i e h step = absurd cc
  expr_step stmt.Continue i e h step = absurd cc
  expr_step (stmt.Call k) i e h step = later (function_index k.function p) _ (λ f. at_none (values k.args v w.memory) _ (no_values k.args i e h step))
  expr_step (stmt.Return a) i e h step = at_none (value a v w.memory) _ (no_value a (only a e i h step))
  expr_step (stmt.TailCall name es) i e h step = later (function_index name p) _ (λ f. at_none (values es v w.memory) _ (no_values es i e h step))
  expr_step (stmt.Raise name a) i e h step = later (exception_index name p) _ (λ k. at_none (value a v w.memory) _ (no_value a (only a e i h step)))
  expr_step (stmt.SharedLoad size x a) i e h step = at_none (word a v w.memory) _ (no_word a (only a e i h step))
  expr_step (stmt.SharedStore size a b) zero e h step = at_none (word a v w.memory) _ (no_word a (first a e (b ∷ []) h step))
  expr_step (stmt.SharedStore size a b) (suc i) e h step = later (word a v w.memory) _ (λ addr. at_none (word b v w.memory) _ (no_word b (only b e i h step)))
  expr_step (stmt.Foreign x c l a n) i e h step = foreign_step x c l a n e i h step

  -- a statement that makes a failing step fails by itself
  pub step_fails : (y : StmtKind-F A) → FailsByStep v w.memory y → Alone y
  step_fails y (in_expression s i e h step) = expr_step s i e h step
  step_fails y (writes_words a e addr x at is none) =
      at_value (word a v w.memory) _ addr at (at_value (value e v w.memory) _ x is (at_none (with_words w.memory addr (words_in x)) _ none))
  step_fails y (writes_byte a e addr n at is none) =
      at_value (word a v w.memory) _ addr at (at_value (word e v w.memory) _ n is (at_none (with_byte w.memory addr (n % 256)) _ none))
  step_fails y (reads_outside size x a addr at outside) = at_value (word a v w.memory) _ addr at (at_false (is_shared size addr) _ outside)
  step_fails y (writes_outside size a e addr at outside) = at_value (word a v w.memory) _ addr at (later (word e v w.memory) _ (λ n. at_false (is_shared size addr) _ outside))
  step_fails y (hands_configuration x c l a n addr len at is none) =
      later (foreign_index x p) _ (λ k. at_value (word c v w.memory) _ addr at (at_value (word l v w.memory) _ len is (later (word a v w.memory) _ (λ array. later (word n v w.memory) _ (λ array_len.
      at_none (bytes_at w.memory addr len) _ none)))))
  step_fails y (hands_array x c l a n addr len at is none) =
      later (foreign_index x p) _ (λ k. later (word c v w.memory) _ (λ conf. later (word l v w.memory) _ (λ conf_len. at_value (word a v w.memory) _ addr at (at_value (word n v w.memory) _ len is
      (later (bytes_at w.memory conf conf_len) _ (λ first. at_none (bytes_at w.memory addr len) _ none))))))
