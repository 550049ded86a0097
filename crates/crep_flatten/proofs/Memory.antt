-- Whether words read data memory. Those that don't are the same whatever is in it.
use Rattle.std.proofs.Common.{◌≡◌, ℕ, ◌||◌, Bool, true, false, List, [], ◌∷◌, map, Option, Some, None, refl, sym, ap, subst, ◌∙◌}
use Rattle.std.specs.Prelude.{option_map, option_and_then}
use Rattle.std.specs.List.{list_any}
use Rattle.pan_base.specs.Words.{operate, shift, truth}
use Rattle.pan_base.specs.declared.operators.BinOp.{BinOp}
use Rattle.pan_base.specs.declared.operators.ShOp.{ShOp}
use Rattle.pan_base.specs.declared.operators.Cmp.{Cmp}
use Rattle.pan_stage.specs.Locals.{Locals, all_words}
use Rattle.check_soundness.proofs.Rules.{neither}
use Rattle.crep_lang.specs.declared.syntax.Expr.{Expr, Expr-F, roll-Expr, map-Expr, fold-roll-Expr}
use Rattle.crep_lang.specs.declared.syntax.Expr.TheOpen as open_expr
use Rattle.crep_lang.specs.declared.syntax.Expr.TheVariants as expr
use Rattle.crep_lang.proofs.Induction.{expr_induct}
use Rattle.crep_flatten.specs.Reads.{memory_layer, reads_memory}
use Rattle.crep_flatten.proofs.Beside.{word, word_num, word_var, word_bin, word_shift, word_compare, words}

-- ---- at each variant

memory_roll : (y : Expr-F Expr) → reads_memory (roll-Expr y) ≡ memory_layer (map-Expr Expr Bool reads_memory y)
unfolding reads_memory
memory_roll y = fold-roll-Expr Bool memory_layer y

memory_as : (y : Expr-F Expr) (x : Expr) → roll-Expr y ≡ x → reads_memory x ≡ memory_layer (map-Expr Expr Bool reads_memory y)
memory_as y x is = ap reads_memory (sym is) ∙ memory_roll y

pub memory_num : (n : ℕ) → reads_memory (expr.Num n) ≡ false
memory_num n = memory_as (open_expr.Num n) _ (expr.rolls-Num n)

pub memory_var : (x : ℕ) → reads_memory (expr.Var x) ≡ false
memory_var x = memory_as (open_expr.Var x) _ (expr.rolls-Var x)

pub memory_load_word : (a : Expr) → reads_memory (expr.LoadWord a) ≡ true
memory_load_word a = memory_as (open_expr.LoadWord a) _ (expr.rolls-LoadWord a)

pub memory_load_byte : (a : Expr) → reads_memory (expr.LoadByte a) ≡ true
memory_load_byte a = memory_as (open_expr.LoadByte a) _ (expr.rolls-LoadByte a)

pub memory_bin : (o : BinOp) (a b : Expr) → reads_memory (expr.Bin o a b) ≡ (reads_memory a || reads_memory b)
memory_bin o a b = memory_as (open_expr.Bin o a b) _ (expr.rolls-Bin o a b)

pub memory_shift : (o : ShOp) (a : Expr) (n : ℕ) → reads_memory (expr.Shift o a n) ≡ reads_memory a
memory_shift o a n = memory_as (open_expr.Shift o a n) _ (expr.rolls-Shift o a n)

pub memory_compare : (c : Cmp) (a b : Expr) → reads_memory (expr.Compare c a b) ≡ (reads_memory a || reads_memory b)
memory_compare c a b = memory_as (open_expr.Compare c a b) _ (expr.rolls-Compare c a b)

pub ruleset memory_rules = (memory_num, memory_var, memory_load_word, memory_load_byte, memory_bin, memory_shift, memory_compare)

-- ---- the same words

module _ (u : Locals) (m m' : List ℕ) where
  abbrev IsSame : Expr → Type 0
  IsSame w = reads_memory w ≡ false → word w u m' ≡ word w u m

  abbrev Known : Type 0
  Known = (w : Expr) × IsSame w

  layer_same : (y : Expr-F Known) → IsSame (roll-Expr (map-Expr Known Expr (λ c. c.0) y))
  layer_same (open_expr.Num n) = subst IsSame (sym (expr.rolls-Num n)) (λ h. word_num n u m' ∙ sym (word_num n u m))
  layer_same (open_expr.Var x) = subst IsSame (sym (expr.rolls-Var x)) (λ h. word_var x u m' ∙ sym (word_var x u m))
  layer_same (open_expr.LoadWord a) = subst IsSame (sym (expr.rolls-LoadWord a.0)) (λ h. let e : true ≡ false = sym (memory_load_word a.0) ∙ h in absurd cc)
  layer_same (open_expr.LoadByte a) = subst IsSame (sym (expr.rolls-LoadByte a.0)) (λ h. let e : true ≡ false = sym (memory_load_byte a.0) ∙ h in absurd cc)
  layer_same (open_expr.Bin o a b) = subst IsSame (sym (expr.rolls-Bin o a.0 b.0)) (λ h.
      let both = neither (reads_memory a.0) (reads_memory b.0) (sym (memory_bin o a.0 b.0) ∙ h) in
      word_bin o a.0 b.0 u m' ∙ ap (λ p. option_and_then (λ x. option_map (operate o x) p) (word a.0 u m')) (b.1 both.1) ∙ ap (option_and_then (λ x. option_map (operate o x) (word b.0 u m))) (a.1 both.0) ∙ sym (word_bin o a.0 b.0 u m))
  layer_same (open_expr.Shift o a n) = subst IsSame (sym (expr.rolls-Shift o a.0 n)) (λ h.
      word_shift o a.0 n u m' ∙ ap (option_map (λ x. shift o x n)) (a.1 (sym (memory_shift o a.0 n) ∙ h)) ∙ sym (word_shift o a.0 n u m))
  layer_same (open_expr.Compare c a b) = subst IsSame (sym (expr.rolls-Compare c a.0 b.0)) (λ h.
      let both = neither (reads_memory a.0) (reads_memory b.0) (sym (memory_compare c a.0 b.0) ∙ h) in
      word_compare c a.0 b.0 u m' ∙ ap (λ p. option_and_then (λ x. option_map (truth c x) p) (word a.0 u m')) (b.1 both.1) ∙ ap (option_and_then (λ x. option_map (truth c x) (word b.0 u m))) (a.1 both.0) ∙ sym (word_compare c a.0 b.0 u m))

  word_same : (w : Expr) → IsSame w
  word_same = expr_induct IsSame layer_same

  pub words_same : (ws : List Expr) → list_any reads_memory ws ≡ false → words ws u m' ≡ words ws u m
  words_same [] h = refl
  words_same (w ∷ ws) h =
      let both = neither (reads_memory w) (list_any reads_memory ws) h in
      ap (λ o. all_words (o ∷ map (λ e. word e u m') ws)) (word_same w both.0) ∙ more (word w u m) (words_same ws both.1)
    where
      more : (o : Option ℕ) → words ws u m' ≡ words ws u m → all_words (o ∷ map (λ e. word e u m') ws) ≡ all_words (o ∷ map (λ e. word e u m) ws)
      more None h = refl
      more (Some n) h = ap (option_map (λ ns. n ∷ ns)) h
