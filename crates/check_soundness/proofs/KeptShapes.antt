-- Statements and functions that the check lets pass leave variables and values of the check's shapes.
use Rattle.std.proofs.Common.{◌≡◌, ℕ, Bool, true, false, List, [], Option, Some, None, slice_get, drop, refl, sym, ◌∙◌}
use Rattle.pan_base.specs.Events.{Exit, Uncaught, Stopped, Asks, Spent, Stack, Fault, Fails}
use Rattle.pan_control.specs.Control.{Normal, Broken, Continued, Returned, Raised, Over}
use Rattle.pan_tree.specs.Running.{World, Outcome, Callee}
use Rattle.pan_tree.specs.Nodes.{Expr}
use Rattle.pan_tree.specs.Value.{Value}
use Rattle.pan_tree.specs.Check as check
use Rattle.pan_tree.specs.Check.{State, do_kind, closes_kind, foreign_names, IsWellShaped}
use Rattle.pan_tree.specs.Meaning.{Scopes, value, expr_weight, own_weight, run_kind, calls}
use Rattle.pan_tree.specs.declared.shape.Shape.{Shape}
use Rattle.pan_tree.specs.declared.shape.Shape.TheVariants as shape
use Rattle.pan_tree.specs.declared.syntax.StmtKind.{StmtKind, StmtKind-F}
use Rattle.pan_tree.specs.declared.program.Function.{Function}
use Rattle.pan_tree.specs.declared.program.Program.{Program}
use Rattle.pan_tree.proofs.OwnWeights.{own_weight_same}
use Rattle.check_soundness.specs.FailingSteps.{MakesFailingStep, ShapedOr}
use Rattle.check_soundness.specs.Guarded.{own_done}
use Rattle.check_soundness.proofs.AlikeExprs.{expr_alike}
use Rattle.check_soundness.proofs.ShapedExprs.{ComesTo}
use Rattle.check_soundness.proofs.ShapedValues.{shaped_value}
use Rattle.check_soundness.proofs.Fitting.{Fits, fits_alike, expr_fits, ArgumentsFit}
use Rattle.check_soundness.proofs.CheckedStmts.{Among}
use Rattle.check_soundness.proofs.OwnRules.{own_alike}
use Rattle.check_soundness.proofs.Keeping.{Leaves, instead}
use Rattle.check_soundness.proofs.SoundStmts.{Thrown, HasShape, SoundCallee, kind_sound}
use Rattle.check_soundness.proofs.SoundPrograms.{well_kept, calls_sound}

-- on arguments of its parameters' shapes a callee returns a value of its result's shape, or leaves an exception with a value of its shape, or ends the run
pub record ShapedCallee (p : Program) (callee : Callee (List Value) Value) : Type 0 where
  pub at : (f : ℕ) (g : Function) (xs : List Value) (w : World) → slice_get p.functions f ≡ Some g → ArgumentsFit g.params xs → Leaves {V = Unit {0}} (λ u. ⊥) (λ u. ⊥) (HasShape g.result) (Thrown p) (callee f xs w)

pub calls_keep_shapes : (p : Program) → IsWellShaped p → (d : ℕ) → ShapedCallee p (calls p d)
calls_keep_shapes p well d = record { at = λ f g xs w is fit. ((calls_sound Spent Fails p (well_kept p well) d).at f g xs w is fit).so }

-- a failure in the place of a failure
unchanged : (o : Outcome (Unit {0}) Value) → o ≡ instead Fails o
unchanged (Normal v w) = refl
unchanged (Broken v w) = refl
unchanged (Continued v w) = refl
unchanged (Returned x w) = refl
unchanged (Raised i x w) = refl
unchanged (Over (Exit n) w) = refl
unchanged (Over (Uncaught i) w) = refl
unchanged (Over (Stopped q) w) = refl
unchanged (Over (Asks q) w) = refl
unchanged (Over Spent w) = refl
unchanged (Over Stack w) = refl
unchanged (Over Fault w) = refl
unchanged (Over Fails w) = refl

-- From variables of the check's shapes a statement that breaks nothing goes on, where it doesn't close, with variables of the shapes that the check
-- then gives them; it leaves a loop only in one, with the outer variables so; it returns a value of the function's shape, and raises one of the exception's.
pub statement_keeps_shapes : (p : Program) (result : Shape) (d : ℕ) (callee : Callee (List Value) Value) → ShapedCallee p callee → (k : StmtKind) (l : Bool) (place : ℕ) (s : State) (v : Scopes) (w : World)
    → let done = do_kind k (record { program = p; result = result; in_loop = l }) place s in
    Fits s.scopes v → done.breaks ≡ [] → Among (done.state).names (foreign_names p)
    → Leaves (λ (u : Scopes). Fits (done.state).scopes u × (closes_kind k ≡ false)) (λ (u : Scopes). (l ≡ true) × Fits (drop 1 s.scopes) (drop 1 u)) (HasShape result) (Thrown p) (run_kind p d callee k v w)
statement_keeps_shapes p result d callee shaped k l place s v w f b a =
    let sound : SoundCallee Fails p callee callee = record { at = λ f g xs w is fit. record { same = unchanged (callee f xs w); so = shaped.at f g xs w is fit } } in
    (kind_sound Spent Fails p result d callee callee sound k l place s v w f b a).so

-- what a statement weighs without its blocks when it is reached is what it weighs so by the check
pub statement_weighs : (c : check.Context) (place : ℕ) (s : State) (y : StmtKind-F StmtKind) (v : Scopes) → Fits s.scopes v → own_weight c.program y v ≡ (own_done y c place s).weight
statement_weighs c place s y v f =
    sym (own_weight_same {A = StmtKind} {B = StmtKind} (λ k. k) c.program y v) ∙ sym (own_alike {A = StmtKind} {B = StmtKind} (λ k. k) c.program c.result shape.Word c.in_loop place s _ (fits_alike s.scopes v f) y).weight

-- so is what a condition weighs when a loop is tested again
pub test_weighs : (e : Expr) (s : check.Scopes) (v : Scopes) → Fits s v → expr_weight e v ≡ (check.judged e s).weight
test_weighs e s v f = sym (expr_alike e s _ (fits_alike s v f)).weight

-- an expression that breaks no rule gives a value that passes the test of its shape, or makes a failing step
pub expression_shaped : (e : Expr) (s : check.Scopes) (v : Scopes) (m : List ℕ) → Fits s v → (check.judged e s).breaks ≡ [] → ShapedOr (MakesFailingStep v m e.kind) (check.judged e s).shape (value e v m)
expression_shaped e s v m f b = by (value e v m) (expr_fits e s v m f)
  where
    by : (o : Option Value) → ComesTo o (check.judged e s) (MakesFailingStep v m e.kind) → ShapedOr (MakesFailingStep v m e.kind) (check.judged e s).shape o
    by None c = c b
    by (Some a) c = shaped_value (check.judged e s).shape a c
