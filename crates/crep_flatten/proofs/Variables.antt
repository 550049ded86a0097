-- Words that are a variable.
use Rattle.std.proofs.Common.{◌≡◌, ℕ, Bool, true, false, arith, sym, ap, subst, ◌∙◌}
use Rattle.std.specs.Prelude.{◌==◌}
use Rattle.std.proofs.lemmas.Bool.Decides.{nat_tests}
use Rattle.pan_base.specs.declared.operators.BinOp.{BinOp}
use Rattle.pan_base.specs.declared.operators.ShOp.{ShOp}
use Rattle.pan_base.specs.declared.operators.Cmp.{Cmp}
use Rattle.crep_lang.specs.declared.syntax.Expr.{Expr, Expr-F, roll-Expr, map-Expr, fold-roll-Expr}
use Rattle.crep_lang.specs.declared.syntax.Expr.TheOpen as open_expr
use Rattle.crep_lang.specs.declared.syntax.Expr.TheVariants as expr
use Rattle.crep_lang.proofs.Induction.{expr_induct}
use Rattle.crep_flatten.specs.Reads.{variable_layer, is_variable}

variable_roll : (y : Expr-F Expr) → is_variable (roll-Expr y) ≡ variable_layer (map-Expr Expr (ℕ → Bool) is_variable y)
unfolding is_variable
variable_roll y = fold-roll-Expr (ℕ → Bool) variable_layer y

variable_as : (y : Expr-F Expr) (w : Expr) → roll-Expr y ≡ w → (x : ℕ) → is_variable w x ≡ variable_layer (map-Expr Expr (ℕ → Bool) is_variable y) x
variable_as y w is x = ap (λ w. is_variable w x) (sym is) ∙ ap (λ (f : ℕ → Bool). f x) (variable_roll y)

-- ---- at each variant

pub variable_num : (n x : ℕ) → is_variable (expr.Num n) x ≡ false
variable_num n x = variable_as (open_expr.Num n) _ (expr.rolls-Num n) x

pub variable_var : (y x : ℕ) → is_variable (expr.Var y) x ≡ (y == x)
variable_var y x = variable_as (open_expr.Var y) _ (expr.rolls-Var y) x

pub variable_load_word : (a : Expr) (x : ℕ) → is_variable (expr.LoadWord a) x ≡ false
variable_load_word a x = variable_as (open_expr.LoadWord a) _ (expr.rolls-LoadWord a) x

pub variable_load_byte : (a : Expr) (x : ℕ) → is_variable (expr.LoadByte a) x ≡ false
variable_load_byte a x = variable_as (open_expr.LoadByte a) _ (expr.rolls-LoadByte a) x

pub variable_bin : (o : BinOp) (a b : Expr) (x : ℕ) → is_variable (expr.Bin o a b) x ≡ false
variable_bin o a b x = variable_as (open_expr.Bin o a b) _ (expr.rolls-Bin o a b) x

pub variable_shift : (o : ShOp) (a : Expr) (n x : ℕ) → is_variable (expr.Shift o a n) x ≡ false
variable_shift o a n x = variable_as (open_expr.Shift o a n) _ (expr.rolls-Shift o a n) x

pub variable_compare : (c : Cmp) (a b : Expr) (x : ℕ) → is_variable (expr.Compare c a b) x ≡ false
variable_compare c a b x = variable_as (open_expr.Compare c a b) _ (expr.rolls-Compare c a b) x

pub ruleset variable_rules = (variable_num, variable_var, variable_load_word, variable_load_byte, variable_bin, variable_shift, variable_compare)

-- ---- the variable

abbrev IsThat : Expr → Type 0
IsThat w = (x : ℕ) → is_variable w x ≡ true → w ≡ expr.Var x

same_number : (y x : ℕ) → (y == x) ≡ true → y ≡ x
same_number y x h = grind (arith, nat_tests)

other : (w : Expr) → ((x : ℕ) → is_variable w x ≡ false) → IsThat w
other w f x h = let e : false ≡ true = sym (f x) ∙ h in absurd cc

pub the_variable : (w : Expr) → IsThat w
the_variable = expr_induct IsThat layer
  where
    layer : (y : Expr-F ((w : Expr) × IsThat w)) → IsThat (roll-Expr (map-Expr ((w : Expr) × IsThat w) Expr (λ c. c.0) y))
    layer (open_expr.Num n) = subst IsThat (sym (expr.rolls-Num n)) (other (expr.Num n) (variable_num n))
    layer (open_expr.Var y) = subst IsThat (sym (expr.rolls-Var y)) (λ x h. ap expr.Var (same_number y x (sym (variable_var y x) ∙ h)))
    layer (open_expr.LoadWord a) = subst IsThat (sym (expr.rolls-LoadWord a.0)) (other (expr.LoadWord a.0) (variable_load_word a.0))
    layer (open_expr.LoadByte a) = subst IsThat (sym (expr.rolls-LoadByte a.0)) (other (expr.LoadByte a.0) (variable_load_byte a.0))
    layer (open_expr.Bin o a b) = subst IsThat (sym (expr.rolls-Bin o a.0 b.0)) (other (expr.Bin o a.0 b.0) (variable_bin o a.0 b.0))
    layer (open_expr.Shift o a n) = subst IsThat (sym (expr.rolls-Shift o a.0 n)) (other (expr.Shift o a.0 n) (variable_shift o a.0 n))
    layer (open_expr.Compare c a b) = subst IsThat (sym (expr.rolls-Compare c a.0 b.0)) (other (expr.Compare c a.0 b.0) (variable_compare c a.0 b.0))
