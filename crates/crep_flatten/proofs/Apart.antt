-- A word that doesn't read some variables is the same where only these differ.
use Rattle.std.proofs.Common.{◌≡◌, ℕ, ◌+◌, ◌<◌, ◌≤◌, Bool, true, false, ◌||◌, List, [], ◌++◌, Some, arith, refl, sym, ap, subst, ◌∙◌}
use Rattle.std.specs.Prelude.{nat_lt, nat_le, option_map, option_and_then}
use Rattle.std.specs.List.{list_all}
use Rattle.std.proofs.lemmas.List.Folds.{list_all-append}
use Rattle.std.proofs.lemmas.Bool.Decides.{nat_tests}
use Rattle.pan_base.specs.Words.{operate, shift, truth}
use Rattle.pan_base.specs.declared.events.Size.TheVariants.{B1, B8}
use Rattle.pan_stage.specs.Data.{read}
use Rattle.pan_stage.specs.Locals.{Locals}
use Rattle.check_soundness.proofs.SpreadShapes.{both_true}
use Rattle.crep_lang.specs.Text.{variables_read}
use Rattle.crep_lang.specs.declared.syntax.Expr.{Expr, Expr-F, roll-Expr, map-Expr}
use Rattle.crep_lang.specs.declared.syntax.Expr.TheOpen as open_expr
use Rattle.crep_lang.specs.declared.syntax.Expr.TheVariants as expr
use Rattle.crep_lang.proofs.Exprs.{read_var, read_load_word, read_load_byte, read_bin, read_shift, read_compare}
use Rattle.crep_lang.proofs.Induction.{expr_induct}
use Rattle.crep_flatten.specs.Reads.{reads_none}
use Rattle.crep_flatten.proofs.Beside.{word, word_num, word_var, word_load, word_byte, word_bin, word_shift, word_compare}
use Rattle.crep_flatten.proofs.RowRuns.{Outside}

-- of the variables that pass a test both have the same words
module _ (passes : ℕ → Bool) (u u' : Locals) (m : List ℕ) (same : (y : ℕ) → passes y ≡ true → u' y ≡ u y) where
  abbrev IsSame : Expr → Type 0
  IsSame e = list_all passes (variables_read e) ≡ true → word e u' m ≡ word e u m

  abbrev Known : Type 0
  Known = (e : Expr) × IsSame e

  both_pass : (xs ys : List ℕ) → list_all passes (xs ++ ys) ≡ true → (list_all passes xs ≡ true) × (list_all passes ys ≡ true)
  both_pass xs ys h = both_true (list_all passes xs) (list_all passes ys) (sym (list_all-append passes xs ys) ∙ h)

  layer_same : (y : Expr-F Known) → IsSame (roll-Expr (map-Expr Known Expr (λ c. c.0) y))
  layer_same (open_expr.Num n) = subst IsSame (sym (expr.rolls-Num n)) (λ h. word_num n u' m ∙ sym (word_num n u m))
  layer_same (open_expr.Var x) = subst IsSame (sym (expr.rolls-Var x)) (λ h.
      let one = both_true (passes x) true (sym (ap (list_all passes) (read_var x)) ∙ h) in
      word_var x u' m ∙ ap Some (same x one.0) ∙ sym (word_var x u m))
  layer_same (open_expr.LoadWord a) = subst IsSame (sym (expr.rolls-LoadWord a.0)) (λ h.
      word_load a.0 u' m ∙ ap (option_and_then (read B8 [] m)) (a.1 (ap (list_all passes) (sym (read_load_word a.0)) ∙ h)) ∙ sym (word_load a.0 u m))
  layer_same (open_expr.LoadByte a) = subst IsSame (sym (expr.rolls-LoadByte a.0)) (λ h.
      word_byte a.0 u' m ∙ ap (option_and_then (read B1 [] m)) (a.1 (ap (list_all passes) (sym (read_load_byte a.0)) ∙ h)) ∙ sym (word_byte a.0 u m))
  layer_same (open_expr.Bin o a b) = subst IsSame (sym (expr.rolls-Bin o a.0 b.0)) (λ h.
      let both = both_pass (variables_read a.0) (variables_read b.0) (ap (list_all passes) (sym (read_bin o a.0 b.0)) ∙ h) in
      word_bin o a.0 b.0 u' m ∙ ap (λ p. option_and_then (λ x. option_map (operate o x) p) (word a.0 u' m)) (b.1 both.1) ∙ ap (option_and_then (λ x. option_map (operate o x) (word b.0 u m))) (a.1 both.0) ∙ sym (word_bin o a.0 b.0 u m))
  layer_same (open_expr.Shift o a n) = subst IsSame (sym (expr.rolls-Shift o a.0 n)) (λ h.
      word_shift o a.0 n u' m ∙ ap (option_map (λ x. shift o x n)) (a.1 (ap (list_all passes) (sym (read_shift o a.0 n)) ∙ h)) ∙ sym (word_shift o a.0 n u m))
  layer_same (open_expr.Compare c a b) = subst IsSame (sym (expr.rolls-Compare c a.0 b.0)) (λ h.
      let both = both_pass (variables_read a.0) (variables_read b.0) (ap (list_all passes) (sym (read_compare c a.0 b.0)) ∙ h) in
      word_compare c a.0 b.0 u' m ∙ ap (λ p. option_and_then (λ x. option_map (truth c x) p) (word a.0 u' m)) (b.1 both.1) ∙ ap (option_and_then (λ x. option_map (truth c x) (word b.0 u m))) (a.1 both.0) ∙ sym (word_compare c a.0 b.0 u m))

  word_same : (e : Expr) → IsSame e
  word_same = expr_induct IsSame layer_same

pub word_apart : (x n : ℕ) (w : Expr) (u u' : Locals) (m : List ℕ) → reads_none x n w ≡ true → Outside x (x + n) u u' → word w u' m ≡ word w u m
word_apart x n w u u' m h o = word_same (λ y. nat_lt y x || nat_le (x + n) y) u u' m (λ y p. by y (nat_lt y x) (nat_le (x + n) y) (λ b. grind (arith, nat_tests, b)) (λ b. grind (arith, nat_tests, b)) p) w h
  where
    by : (y : ℕ) (a b : Bool) → (a ≡ true → y < x) → (b ≡ true → x + n ≤ y) → (a || b) ≡ true → u' y ≡ u y
    by y true b f g p = o.below y (f refl)
    by y false true f g p = o.behind y (g refl)
    by y false false f g p = absurd cc
