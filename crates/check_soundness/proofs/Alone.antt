-- What a statement does by itself, where its blocks and turns find no fuel, doesn't fail once its expressions are known.
use Rattle.std.proofs.Common.{◌≡◌, ℕ, zero, suc, List, [], ◌∷◌, map, Option, Some, None, refl}
use Rattle.pan_base.specs.Events.{Ending, Spent}
use Rattle.pan_control.specs.Control.{Normal, Over, with_value, if_not_zero, spend, after_body}
use Rattle.pan_control.specs.Runs.{tested_again}
use Rattle.pan_tree.specs.Running.{World, Outcome}
use Rattle.pan_tree.specs.Nodes.{Expr}
use Rattle.pan_tree.specs.Value.{Value}
use Rattle.pan_tree.specs.Meaning.{Does, Scopes, scoped, expr_weight, word}
use Rattle.pan_tree.specs.declared.spanned.Spanned.{Spanned}
use Rattle.pan_tree.specs.declared.syntax.BlockOf.{BlockOf}
use Rattle.pan_tree.specs.declared.syntax.StmtKind.TheOpen as stmt
use Rattle.pan_tree.specs.declared.program.Program.{Program}
use Rattle.check_soundness.specs.Guarded.{alone, unless_failed}
use Rattle.check_soundness.proofs.Keeping.{spend_sure, Tried}

-- a block whose statements find no fuel
abbrev pub without_fuel : {A : Type 0} → List (Spanned A) → BlockOf (Spanned Does)
without_fuel {A} ss = record { stmts = map (λ (s : Spanned A). record { kind = λ v w. Over Spent w; span = s.span }) ss }

module _ (ill halt : Ending) {A : Type 0} where
  sure_block : (ss : List (Spanned A)) (v : Scopes) (w : World) (r : Outcome Scopes Value) → unless_failed ill halt (scoped [] (without_fuel ss) v w) r ≡ r
  sure_block [] v w r = refl
  sure_block (x ∷ xs) v w r = refl

  pub sure_choice : (n : ℕ) (xs ys : List (Spanned A)) (v : Scopes) (w : World) (r : Outcome Scopes Value) → unless_failed ill halt (if_not_zero n (scoped [] (without_fuel xs) v w) (scoped [] (without_fuel ys) v w)) r ≡ r
  sure_choice zero xs ys v w r = sure_block ys v w r
  sure_choice (suc n) xs ys v w r = sure_block xs v w r

  -- a turn of a loop
  abbrev pub turned : Expr → List (Spanned A) → Scopes → World → Outcome Scopes Value
  turned e ss v w = after_body (tested_again (expr_weight e) (scoped [] (without_fuel ss) v w)) (λ v w. Over Spent w)

  pub sure_turn : (e : Expr) (ss : List (Spanned A)) (v : Scopes) (w : World) (r : Outcome Scopes Value) → unless_failed ill halt (turned e ss v w) r ≡ r
  sure_turn e [] v w r = refl
  sure_turn e (x ∷ xs) v w r = refl

  -- a test
  pub tested_alone : (p : Program) (e : Expr) (ss : List (Spanned A)) (Q : Value → Type 0) (E : ℕ → Value → Type 0) (v : Scopes) (w : World)
      → Tried ill halt Q E (word e v w.memory) (unless_failed ill halt (alone p (stmt.While e (record { stmts = ss })) v w) (Normal v w)) v w
  tested_alone p e ss Q E v w = by (word e v w.memory)
    where
      by : (o : Option ℕ) → Tried ill halt Q E o (unless_failed ill halt (with_value o w (λ n. if_not_zero n (spend w (turned e ss v)) (Normal v w))) (Normal v w)) v w
      by None = refl
      by (Some zero) = refl
      by (Some (suc n)) = spend_sure ill halt Q E (λ v. ⊥) (λ v. ⊥) w (turned e ss v) (sure_turn e ss v) (Normal v w)
