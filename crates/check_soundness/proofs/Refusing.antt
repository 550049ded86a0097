-- What ends ill, what fails by itself, and what makes no failing step.
use Rattle.std.proofs.Common.{◌≡◌, ℕ, suc, ◌%◌, true, false, ◌&&◌, List, [], ◌∷◌, ◌++◌, map, Option, Some, None, slice_get, refl, sym, ap, ◌∙◌}
use Rattle.std.specs.Prelude.{codes}
use Rattle.pan_base.specs.Events.{Ending, Replied, Fails}
use Rattle.pan_base.specs.declared.text.Text.{Text}
use Rattle.pan_control.specs.World.{entered, tolled}
use Rattle.pan_control.specs.Memory.{with_byte}
use Rattle.pan_control.specs.Control.{Normal, Over, in_turn, with_value}
use Rattle.pan_tree.specs.Running.{World, Outcome}
use Rattle.pan_tree.specs.Nodes.{Expr}
use Rattle.pan_tree.specs.Scopes.{innermost}
use Rattle.pan_tree.specs.Value.{Value}
use Rattle.pan_tree.specs.Shapes.{shape_in}
use Rattle.pan_tree.specs.Check.{broken, breaks_of, no_value, is_other, judged, cost}
use Rattle.pan_tree.specs.Meaning.{Does, Scopes, shapes, word, function_index, parameters, entry_weight, seen, start}
use Rattle.pan_tree.specs.declared.rule.Rule.TheVariants.{UnknownName, WrongShape}
use Rattle.pan_tree.specs.declared.shape.Shape.{Shape}
use Rattle.pan_tree.specs.declared.spanned.Spanned.{Spanned}
use Rattle.pan_tree.specs.declared.syntax.ExprKind.{ExprKind, out-roll-ExprKind}
use Rattle.pan_tree.specs.declared.syntax.ExprKind.TheOpen as open_expr
use Rattle.pan_tree.specs.declared.syntax.ExprKind.TheVariants as expr
use Rattle.pan_tree.specs.declared.syntax.StmtKind.{StmtKind, StmtKind-F}
use Rattle.pan_tree.specs.declared.syntax.StmtKind.TheOpen as stmt
use Rattle.pan_tree.specs.declared.program.Function.{Function}
use Rattle.pan_tree.specs.declared.program.Program.{Program}
use Rattle.check_soundness.specs.FailingSteps.{parts_layer, parts, exprs, MakesFailingStep, reads_words, reads_byte, in_part, FailsByStep, in_expression, writes_words, writes_byte, reads_outside, writes_outside, hands_configuration, hands_array}
use Rattle.check_soundness.specs.Guarded.{is_empty, breaks_nothing, alone, with_sound, soundly_left, guarded_kind, guarded_body, guarded_calls, word_left, guarded}
use Rattle.check_soundness.proofs.AlikeScopes.{innermost_shapes}

not_empty : {X : Type 0} (xs ys : List X) (y : X) → is_empty (xs ++ y ∷ ys) ≡ false
not_empty [] ys y = refl
not_empty (x ∷ xs) ys y = refl

-- an unknown variable gets no value
pub unknown_variable : (p : Program) (result : Shape) (x : Text) (e : Expr) (v : Scopes) → innermost x v ≡ None → breaks_nothing {A = Does} p result (stmt.Assign x e) v ≡ false
unknown_variable p result x e v none =
    let j = judged e (shapes v) in
    let known : innermost x (shapes v) ≡ None = innermost_shapes shape_in x v ∙ ap (λ o. by o) none in
    ap (λ o. is_empty (breaks_of (j ∷ []) ++ broken 0 ((UnknownName, no_value o) ∷ (WrongShape, is_other o j.shape) ∷ [])) && true) known
    ∙ ap (λ b. b && true) (not_empty (breaks_of (j ∷ [])) [] (record { rule = UnknownName; place = 0 }))
  where
    by : Option Value → Option Shape
    by None = None
    by (Some a) = Some (shape_in a)

-- a main whose body is empty falls off
pub falls_off : (ill halt : Ending) (p : Program) (i : ℕ) (f : Function) (m : List ℕ) (r : List Replied) (n : ℕ) → function_index (codes "main") p ≡ Some i → slice_get p.functions i ≡ Some f → f.params ≡ [] → (f.body).stmts ≡ []
    → ((guarded ill halt p m r n).behaviour).ending ≡ ill
falls_off ill halt p i f m r n at is no_params no_body =
    let begun = start m r n in
    let inside = entered (cost p f) (tolled (entry_weight f) begun) in
    let each = λ (s : Spanned StmtKind). guarded_kind ill halt p f.result n (guarded_calls ill halt p n) s.kind in
    let ends = λ (o : Outcome (Unit {0}) Value). ((seen (word_left ill halt o)).behaviour).ending in
    ap (λ o. ends (with_sound ill halt o begun (λ j. guarded_calls ill halt p (suc n) j [] begun))) at
    ∙ ap (λ o. ends (with_sound ill halt o begun (λ g. guarded_body ill halt p n (guarded_calls ill halt p n) g [] begun))) is
    ∙ ap (λ ps. ends (with_sound ill halt (parameters ps []) begun (λ scope. soundly_left ill halt f.result (in_turn (map each (f.body).stmts) (scope ∷ []) inside)))) no_params
    ∙ ap (λ ss. ends (soundly_left ill halt f.result (in_turn (map each ss) ([] ∷ []) inside))) no_body

-- a byte store outside local memory fails
pub stores_outside : (p : Program) (a e : Expr) (v : Scopes) (w : World) (addr n : ℕ) → word a v w.memory ≡ Some addr → word e v w.memory ≡ Some n → with_byte w.memory addr (n % 256) ≡ None → alone {A = Does} p (stmt.StoreByte a e) v w ≡ Over Fails w
stores_outside p a e v w addr n at is none =
    let stored = λ (m : List ℕ). let o : Outcome Scopes Value = Normal v (record w { memory = m }) in o in
    ap (λ o. with_value o w (λ addr. with_value (word e v w.memory) w (λ n. with_value (with_byte w.memory addr (n % 256)) w stored))) at
    ∙ ap (λ o. with_value o w (λ n. with_value (with_byte w.memory addr (n % 256)) w stored)) is ∙ ap (λ o. with_value o w stored) none

-- ---- what makes no failing step

skip_alone : (v : Scopes) (m : List ℕ) (y : StmtKind-F Does) → FailsByStep v m y → y ≡ stmt.Skip → ⊥
skip_alone v m y (in_expression s i e h step) same = let no : None ≡ Some e = sym (ap (λ z. slice_get (exprs z) i) same) ∙ h in absurd cc
skip_alone v m y (writes_words a e addr x at is none) same = absurd cc
skip_alone v m y (writes_byte a e addr n at is none) same = absurd cc
skip_alone v m y (reads_outside size x a addr at out) same = absurd cc
skip_alone v m y (writes_outside size a e addr at out) same = absurd cc
skip_alone v m y (hands_configuration x c l a n addr len at is none) same = absurd cc
skip_alone v m y (hands_array x c l a n addr len at is none) same = absurd cc

pub skip_never_fails : (v : Scopes) (m : List ℕ) → FailsByStep {A = Does} v m stmt.Skip → ⊥
skip_never_fails v m f = skip_alone v m stmt.Skip f refl

parts_of_variable : (x : Text) → parts (expr.Var x) ≡ []
parts_of_variable x = ap parts (sym (expr.rolls-Var x)) ∙ ap parts_layer (out-roll-ExprKind (open_expr.Var x))

variable_alone : (v : Scopes) (m : List ℕ) (x : Text) (k : ExprKind) → MakesFailingStep v m k → k ≡ expr.Var x → ⊥
variable_alone v m x k (reads_words s a addr at none) same =
    let no : a ∷ [] ≡ [] = sym (ap parts (sym (expr.rolls-Load s a)) ∙ ap parts_layer (out-roll-ExprKind (open_expr.Load s a))) ∙ ap parts same ∙ parts_of_variable x in absurd cc
variable_alone v m x k (reads_byte a addr at none) same =
    let no : a ∷ [] ≡ [] = sym (ap parts (sym (expr.rolls-LoadByte a)) ∙ ap parts_layer (out-roll-ExprKind (open_expr.LoadByte a))) ∙ ap parts same ∙ parts_of_variable x in absurd cc
variable_alone v m x k (in_part e i a h step) same = let no : None ≡ Some a = sym (ap (λ z. slice_get (parts z) i) same ∙ ap (λ ps. slice_get ps i) (parts_of_variable x)) ∙ h in absurd cc

-- an unknown variable is no failing step
pub variable_never_fails : (v : Scopes) (m : List ℕ) (x : Text) → MakesFailingStep v m (expr.Var x) → ⊥
variable_never_fails v m x f = variable_alone v m x (expr.Var x) f refl
