-- Variables that have the shapes of the check's, and values that fit where they go.
use Rattle.std.proofs.Common.{◌≡◌, ℕ, true, false, not, List, [], ◌∷◌, map, length, drop, Option, Some, None, nat_eq, refl, sym, ap, subst, ◌∙◌}
use Rattle.std.specs.Prelude.{option_map}
use Rattle.std.proofs.Math.Dec.{eqb-zero-suc, eqb-suc-zero, eqb-suc-suc}
use Rattle.pan_tree.specs.Nodes.{Expr}
use Rattle.pan_tree.specs.Scopes.{innermost, declare, assign}
use Rattle.pan_tree.specs.Value.{Value}
use Rattle.pan_tree.specs.Shapes.{shape_in, same}
use Rattle.pan_tree.specs.Check as check
use Rattle.pan_tree.specs.Check.{Judged, differ, is_other, no_value, or_word}
use Rattle.pan_tree.specs.Meaning.{Scope, Scopes, shapes, value, values, parameters}
use Rattle.pan_tree.specs.declared.shape.Shape.{Shape}
use Rattle.pan_tree.specs.declared.program.Param.{Param}
use Rattle.check_soundness.specs.Spread.{spread}
use Rattle.check_soundness.specs.FailingSteps.{MakesFailingStep}
use Rattle.check_soundness.proofs.SpreadShapes.{same_spread}
use Rattle.check_soundness.proofs.AlikeScopes.{at_shape, at_shapes, AlikeScopes, innermost_shapes, declare_shapes, drop_shapes, assign_same, spread_shapes}
use Rattle.check_soundness.proofs.AlikeExprs.{AlikeJudged, expr_alike}
use Rattle.check_soundness.proofs.Rules.{neither, not_false}
use Rattle.check_soundness.proofs.ShapedExprs.{ComesTo, AllComeTo, all_come, expr_shaped}

-- the variables have these names and these shapes
pub record Fits (s : check.Scopes) (v : Scopes) : Type 0 where
  pub same : shapes v ≡ at_shapes spread s

pub fits_alike : (s : check.Scopes) (v : Scopes) → Fits s v → AlikeScopes s (shapes v)
fits_alike s v f = record { same = sym f.same ∙ sym (spread_shapes v) }

pub fits_declare : (x : List ℕ) (t : Shape) (a : Value) (s : check.Scopes) (v : Scopes) → shape_in a ≡ spread t → Fits s v → Fits (declare x t s) (declare x a v)
fits_declare x t a s v e f = record { same = declare_shapes shape_in x a v ∙ ap (λ b. declare x b (shapes v)) e ∙ ap (declare x (spread t)) f.same ∙ sym (declare_shapes spread x t s) }

pub fits_assign : (x : List ℕ) (a b : Value) (s : check.Scopes) (v : Scopes) → innermost x v ≡ Some b → shape_in a ≡ shape_in b → Fits s v → Fits s (assign x a v)
fits_assign x a b s v h e f = record { same = assign_same x a b v h e ∙ f.same }

pub fits_drop : (s : check.Scopes) (v : Scopes) → Fits s v → Fits (drop 1 s) (drop 1 v)
fits_drop s v f = record { same = drop_shapes shape_in v ∙ ap (drop 1) f.same ∙ sym (drop_shapes spread s) }

pub fits_more : (scope : check.Scope) (first : Scope) (s : check.Scopes) (v : Scopes) → at_shape shape_in first ≡ at_shape spread scope → Fits s v → Fits (scope ∷ s) (first ∷ v)
fits_more scope first s v e f = record { same = ap (λ x. x ∷ shapes v) e ∙ ap (λ xs. at_shape spread scope ∷ xs) f.same }

pub fits_innermost : (x : List ℕ) (s : check.Scopes) (v : Scopes) → Fits s v → option_map shape_in (innermost x v) ≡ option_map spread (innermost x s)
fits_innermost x s v f = sym (innermost_shapes shape_in x v) ∙ ap (innermost x) f.same ∙ innermost_shapes spread x s

-- ---- expressions

-- an expression comes to a value of the shape that the check gives it, or makes a failing step
pub expr_fits : (e : Expr) (s : check.Scopes) (v : Scopes) (m : List ℕ) → Fits s v → ComesTo (value e v m) (check.judged e s) (MakesFailingStep v m e.kind)
expr_fits e s v m f = by (value e v m) (expr_shaped e v m) (expr_alike e s (shapes v) (fits_alike s v f))
  where
    by : (o : Option Value) → ComesTo o (check.judged e (shapes v)) (MakesFailingStep v m e.kind) → AlikeJudged (check.judged e s) (check.judged e (shapes v)) → ComesTo o (check.judged e s) (MakesFailingStep v m e.kind)
    by None c a = λ b. c (sym a.breaks ∙ b)
    by (Some x) c a = c ∙ sym a.shape

-- the value that an expression gives has its shape
pub value_fits : (e : Expr) (s : check.Scopes) (v : Scopes) (m : List ℕ) (a : Value) → Fits s v → value e v m ≡ Some a → shape_in a ≡ spread (check.judged e s).shape
value_fits e s v m a f h = subst (λ o. ComesTo o (check.judged e s) (MakesFailingStep v m e.kind)) h (expr_fits e s v m f)

-- where the values of several are there, they have their shapes
pub values_fit : (es : List Expr) (s : check.Scopes) (v : Scopes) (m : List ℕ) (xs : List Value) → Fits s v → values es v m ≡ Some xs → map shape_in xs ≡ map spread (map (λ (j : Judged). j.shape) (map (λ x. check.judged x s) es))
values_fit es s v m xs f h = subst (λ o. AllComeTo o (map (λ x. check.judged x s) es) (Unit {0})) h (all es)
  where
    weaken : (o : Option Value) (j : Judged) (F : Type 0) → ComesTo o j F → ComesTo o j (Unit {0})
    weaken None j F c = λ b. tt
    weaken (Some x) j F c = c

    all : (es : List Expr) → AllComeTo (values es v m) (map (λ x. check.judged x s) es) (Unit {0})
    all [] = refl
    all (e ∷ es) = all_come (value e v m) (map (λ x. value x v m) es) (check.judged e s) (map (λ x. check.judged x s) es) (Unit {0}) (weaken (value e v m) (check.judged e s) (MakesFailingStep v m e.kind) (expr_fits e s v m f)) (all es)

-- ---- values that go to variables

-- a known variable whose shape isn't another than this has a value of the same shape
pub variable_fits : (x : List ℕ) (t : Shape) (a : Value) (s : check.Scopes) (v : Scopes) → Fits s v → no_value (innermost x s) ≡ false → is_other (innermost x s) t ≡ false → shape_in a ≡ spread t → (b : Value) × (innermost x v ≡ Some b) × (shape_in a ≡ shape_in b)
variable_fits x t a s v f known other e = by (innermost x s) (innermost x v) known other (fits_innermost x s v f)
  where
    by : (c : Option Shape) (o : Option Value) → no_value c ≡ false → is_other c t ≡ false → option_map shape_in o ≡ option_map spread c → (b : Value) × (o ≡ Some b) × (shape_in a ≡ shape_in b)
    by None o known other h = absurd cc
    by (Some r) None known other h = absurd cc
    by (Some r) (Some b) known other h =
        let is : shape_in b ≡ spread r = cc in
        (b, refl, e ∙ sym (same_spread r t (not_false (same r t) other)) ∙ sym is)

-- ---- arguments

-- the arguments have the shapes of the parameters
abbrev pub ArgumentsFit : List Param → List Value → Type 0
ArgumentsFit ps xs = map shape_in xs ≡ map (λ (p : Param). spread p.shape) ps

pub differ_none : (ps : List Param) (js : List Judged) → nat_eq (length ps) (length js) ≡ true → differ ps js ≡ false → map spread (map (λ (j : Judged). j.shape) js) ≡ map (λ (p : Param). spread p.shape) ps
differ_none [] [] n d = refl
differ_none [] (j ∷ js) n d = let no : true ≡ false = sym n ∙ eqb-zero-suc (length js) in absurd cc
differ_none (p ∷ ps) [] n d = let no : true ≡ false = sym n ∙ eqb-suc-zero (length ps) in absurd cc
differ_none (p ∷ ps) (j ∷ js) n d =
    let both = neither (not (same p.shape j.shape)) (differ ps js) d in
    ap (λ s. s ∷ map spread (map (λ (j : Judged). j.shape) js)) (sym (same_spread p.shape j.shape (not_false (same p.shape j.shape) both.0)))
    ∙ ap (λ ss. spread p.shape ∷ ss) (differ_none ps js (sym (eqb-suc-suc (length ps) (length js)) ∙ n) both.1)

-- what parameters and arguments make of a body's variables
pub record Bound (ps : List Param) (xs : List Value) : Type 0 where
  pub scope : Scope
  pub is : parameters ps xs ≡ Some scope
  pub shapes : at_shape shape_in scope ≡ at_shape spread (check.parameters ps)

pub bound : (ps : List Param) (xs : List Value) → ArgumentsFit ps xs → Bound ps xs
bound [] [] h = record { scope = []; is = refl; shapes = refl }
bound [] (x ∷ xs) h = absurd cc
bound (p ∷ ps) [] h = absurd cc
bound (p ∷ ps) (x ∷ xs) h =
    let head : shape_in x ≡ spread p.shape = cc in
    let tail : map shape_in xs ≡ map (λ (p : Param). spread p.shape) ps = cc in
    let rest = bound ps xs tail in
    record {
      scope = (p.name, x) ∷ rest.scope;
      is = ap (option_map (λ others. (p.name, x) ∷ others)) rest.is;
      shapes = ap (λ s. (p.name, s) ∷ at_shape shape_in rest.scope) head ∙ ap (λ ss. (p.name, spread p.shape) ∷ ss) rest.shapes;
    }
