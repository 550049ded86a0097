-- Operands one after another, and the step behind them.
use Rattle.std.proofs.Common.{◌≡◌, ℕ, suc, ◌+◌, ◌≤◌, ◌<◌, Bool, List, [], ◌∷◌, ◌++◌, map, length, Some, arith, refl, ap, ◌∙◌}
use Rattle.pan_control.specs.Control.{Normal}
use Rattle.pan_flow.specs.Functions.{above}
use Rattle.pan_stage.specs.Data.{World, Callee}
use Rattle.pan_stage.specs.Locals.{Locals}
use Rattle.pan_stage.proofs.Agreeing.{Agree}
use Rattle.pan_stage.proofs.Rows.{then_normal}
use Rattle.pan_stage.proofs.Words.{done}
use Rattle.crep_lang.specs.Meaning as crep
use Rattle.crep_lang.specs.Steps.{expr_steps, row_steps}
use Rattle.crep_lang.specs.Text.{variables_read, all_read}
use Rattle.crep_lang.specs.declared.syntax.Expr.{Expr}
use Rattle.loop_lang.specs.Meaning.{run}
use Rattle.loop_lang.specs.declared.syntax.Stmt.{Stmt}
use Rattle.loop_lang.proofs.Equations.{run_seq}
use Rattle.loop_lower.specs.Lowered.{Lowered, before, operand, next, before_all, operands, lower, planned, row_before, row_operands, behind}
use Rattle.loop_lower.proofs.Layers.{map_length, words_first, above_append}
use Rattle.loop_lower.proofs.Plans.{plan_fits}
use Rattle.loop_lower.proofs.Exprs.{after, runs, runs_on, stands, means}

-- ---- steps

abbrev pub all_steps : List Expr → ℕ
all_steps [] = 0
all_steps (e ∷ es) = expr_steps e + all_steps es

pub row_is : (es : List Expr) → row_steps es ≡ length es + all_steps es
row_is [] = refl
row_is (e ∷ es) = ap (λ n. 1 + expr_steps e + n) (row_is es) ∙ omega arith

operands_length : (fs : List Lowered) (t : ℕ) → length (operands fs t) ≡ length fs
operands_length [] t = refl
operands_length (f ∷ fs) t = ap suc (operands_length fs (next f t))

pub operands_count : (limit base : ℕ) (es : List Expr) (t : ℕ) → length (row_operands limit base es t) ≡ length es
operands_count limit base es t = let p = planned limit base es t in operands_length (map (lower p.apart) es) p.start ∙ map_length (lower p.apart) es

module _ (names : List (List ℕ)) (d : ℕ) (callee : Callee (List ℕ) (List ℕ)) (base : ℕ) where
  -- so the operands stand, from temporary t on
  pub record StandsAll (fs : List Lowered) (steps t : ℕ) (ns : List ℕ) (u : Locals) (did : ℕ) (w : World) : Type 0 where
    pub after_them : Locals
    pub now : ℕ
    pub within : now ≤ after did steps
    pub is : runs names d callee base (before_all fs t) u (done did w) ≡ Normal after_them (done now w)
    pub gives : map after_them (operands fs t) ≡ ns
    pub rest : (y : ℕ) → y < t → after_them y ≡ u y

  pub all_stand : (apart : Bool) (es : List Expr) (v : Locals) (ns : List ℕ) (t : ℕ) (u : Locals) (did : ℕ) (w : World) → above (all_read es) ≤ base → crep.words es v w ≡ Some ns → base ≤ t → Agree base v u
      → StandsAll (map (lower apart) es) (all_steps es) t ns u did w
  all_stand apart [] v ns t u did w r h le a = record { after_them = u; now = did; within = omega arith; is = refl; gives = cc; rest = λ y l. refl }
  all_stand apart (e ∷ es) v ns t u did w r h le a =
      let p = words_first v w.globals w.memory e es ns h in
      let k = above_append (variables_read e) (all_read es) in
      let f = lower apart e in
      let one = stands names d callee base f (expr_steps e) v w.globals w.memory p.0 t u did w (means names d callee base apart e v w.globals w.memory p.0 (omega (arith, r, k)) p.2) le refl refl a in
      let up = one.grows in
      let others = all_stand apart es v p.1 (next f t) one.behind one.now w (omega (arith, r, k)) p.3 (omega (arith, le, up)) (record { at = λ y l. one.rest y (omega (arith, l, le)) ∙ a.at y l }) in
      record {
        after_them = others.after_them;
        now = others.now;
        within = let l = one.within in let k = others.within in omega (arith, l, k);
        is = runs_on names d callee base (before f t) (before_all (map (lower apart) es) (next f t)) u one.behind (done did w) (done one.now w) one.is ∙ others.is;
        gives = ap (λ n. n ∷ map others.after_them (operands (map (lower apart) es) (next f t))) (others.rest (operand f t) one.below ∙ one.gives) ∙ ap (λ ns. p.0 ∷ ns) others.gives ∙ p.4;
        rest = λ y l. others.rest y (omega (arith, l, up)) ∙ one.rest y l;
      }

  -- ---- where a plan puts them

  pub record Ready (limit : ℕ) (es : List Expr) (s : ℕ) (v : Locals) (ns : List ℕ) (u : Locals) (did : ℕ) (w : World) : Type 0 where
    pub after_them : Locals
    pub now : ℕ
    pub within : now ≤ after did (all_steps es)
    pub gives : map after_them (row_operands limit base es s) ≡ ns
    pub agrees : Agree base v after_them
    pub is : runs names d callee base (row_before limit base es s) u (done did w) ≡ Normal after_them (done now w)

  pub are_ready : (limit : ℕ) (es : List Expr) (s : ℕ) (v : Locals) (ns : List ℕ) (u : Locals) (did : ℕ) (w : World) → base ≤ s → above (all_read es) ≤ base → crep.words es v w ≡ Some ns → Agree base v u → Ready limit es s v ns u did w
  are_ready limit es s v ns u did w l r h a =
      let p = planned limit base es s in
      let starts = (plan_fits limit base s _ _ l).starts in
      let g = all_stand p.apart es v ns p.start u did w r h starts a in
      record { after_them = g.after_them; now = g.now; within = g.within; gives = g.gives; is = g.is; agrees = record { at = λ y l. g.rest y (omega (arith, l, starts)) ∙ a.at y l } }

  -- A step behind its operands runs where they have their words.
  pub behind_is : (limit : ℕ) (es : List Expr) (s : ℕ) (v : Locals) (ns : List ℕ) (u : Locals) (did : ℕ) (w : World) (step : List ℕ → Stmt) → (g : Ready limit es s v ns u did w)
      → run names d callee (behind limit base es s step) u (done did w) ≡ run names d callee (step (row_operands limit base es s)) g.after_them (done g.now w)
  behind_is limit es s v ns u did w step g =
      let first = row_before limit base es s in
      let last = step (row_operands limit base es s) in
      run_seq names d callee (first ++ last ∷ []) u (done did w)
      ∙ ap (λ n. runs names d callee base (first ++ last ∷ []) u (done n w)) (omega arith)
      ∙ runs_on names d callee base first (last ∷ []) u g.after_them (done did w) (done g.now w) g.is
      ∙ then_normal (run names d callee last g.after_them (done g.now w))
