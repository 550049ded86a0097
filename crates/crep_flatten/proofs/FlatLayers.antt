-- The words of an expression and whether its numbers are words, at each variant.
use Rattle.std.proofs.Common.{◌≡◌, ℕ, ◌^◌, ◌<◌, ◌&&◌, Bool, true, List, [], ◌∷◌, map, refl, sym, ap, arith, ◌∙◌}
use Rattle.std.specs.Prelude.{nat_lt}
use Rattle.std.specs.List.{list_all}
use Rattle.std.proofs.lemmas.Bool.Decides.{nat_tests}
use Rattle.std.proofs.lemmas.Simd.{map-map}
use Rattle.pan_base.specs.Words.{base_address, bytes_in_word}
use Rattle.pan_base.specs.declared.operators.BinOp.{BinOp}
use Rattle.pan_base.specs.declared.operators.BinOp.TheVariants as bin_op
use Rattle.pan_base.specs.declared.operators.ShOp.{ShOp}
use Rattle.pan_base.specs.declared.operators.Cmp.{Cmp}
use Rattle.pan_tree.specs.Scopes.{innermost}
use Rattle.pan_tree.specs.declared.shape.Shape.{Shape}
use Rattle.pan_tree.specs.declared.spanned.Spanned.{Spanned}
use Rattle.pan_tree.specs.declared.syntax.ExprKind.{ExprKind, ExprKind-F, roll-ExprKind, map-ExprKind, fold-roll-ExprKind}
use Rattle.pan_tree.specs.declared.syntax.ExprKind.TheOpen as open_expr
use Rattle.pan_tree.specs.declared.syntax.ExprKind.TheVariants as source
use Rattle.crep_lang.specs.declared.syntax.Expr.{Expr}
use Rattle.crep_lang.specs.declared.syntax.Expr.TheVariants as e
use Rattle.crep_flatten.specs.Flat.{Places, Flat, one, word_in, struct_of, parts_at, chain, shifts, variable_at, loaded, flat_layer, flat_kind, flat}
use Rattle.crep_flatten.specs.Literals.{expr_layer, expr_fits, fits}
use Rattle.crep_flatten.proofs.FlatExprs.{flat_roll}

-- ---- words

module _ (here : Places) where
  at : (y : ExprKind-F ExprKind) (k : ExprKind) → roll-ExprKind y ≡ k → flat_kind k here ≡ flat_layer (map-ExprKind ExprKind (Places → Flat) flat_kind y) here
  at y k is = ap (λ k. flat_kind k here) (sym is) ∙ ap (λ (f : Places → Flat). f here) (flat_roll y)

  pub flat_number : (n : ℕ) → flat_kind (source.Number n) here ≡ one (e.Num n)
  flat_number n = at (open_expr.Number n) _ (source.rolls-Number n)

  pub flat_variable : (x : List ℕ) → flat_kind (source.Var x) here ≡ variable_at (innermost x here)
  flat_variable x = at (open_expr.Var x) _ (source.rolls-Var x)

  pub flat_base : flat_kind source.Base here ≡ one (e.Num base_address)
  flat_base = at open_expr.Base _ source.rolls-Base

  pub flat_biw : flat_kind source.Biw here ≡ one (e.Num bytes_in_word)
  flat_biw = at open_expr.Biw _ source.rolls-Biw

  pub flat_struct : (xs : List (Spanned ExprKind)) → flat_kind (source.Struct xs) here ≡ struct_of (map (λ x. flat x here) xs)
  flat_struct xs = at (open_expr.Struct xs) _ (source.rolls-Struct xs) ∙ ap struct_of (map-map _ _ xs)

  pub flat_field : (x : Spanned ExprKind) (is : List ℕ) → flat_kind (source.Field x is) here ≡ parts_at is (flat x here)
  flat_field x is = at (open_expr.Field x is) _ (source.rolls-Field x is)

  pub flat_load : (s : Shape) (a : Spanned ExprKind) → flat_kind (source.Load s a) here ≡ loaded s (word_in (flat a here))
  flat_load s a = at (open_expr.Load s a) _ (source.rolls-Load s a)

  pub flat_load_byte : (a : Spanned ExprKind) → flat_kind (source.LoadByte a) here ≡ one (e.LoadByte (word_in (flat a here)))
  flat_load_byte a = at (open_expr.LoadByte a) _ (source.rolls-LoadByte a)

  pub flat_neg : (x : Spanned ExprKind) → flat_kind (source.Neg x) here ≡ one (e.Bin bin_op.Sub (e.Num 0) (word_in (flat x here)))
  flat_neg x = at (open_expr.Neg x) _ (source.rolls-Neg x)

  pub flat_chain : (x : Spanned ExprKind) (ys : List (BinOp × Spanned ExprKind)) → flat_kind (source.Chain x ys) here ≡ one (chain (word_in (flat x here)) (map (λ y. (y.0, word_in (flat y.1 here))) ys))
  flat_chain x ys = at (open_expr.Chain x ys) _ (source.rolls-Chain x ys) ∙ ap (λ ws. one (chain (word_in (flat x here)) ws)) (map-map _ _ ys)

  pub flat_shift : (x : Spanned ExprKind) (ns : List (ShOp × ℕ)) → flat_kind (source.Shift x ns) here ≡ one (shifts (word_in (flat x here)) ns)
  flat_shift x ns = at (open_expr.Shift x ns) _ (source.rolls-Shift x ns)

  pub flat_compare : (c : Cmp) (a b : Spanned ExprKind) → flat_kind (source.Compare c a b) here ≡ one (e.Compare c (word_in (flat a here)) (word_in (flat b here)))
  flat_compare c a b = at (open_expr.Compare c a b) _ (source.rolls-Compare c a b)

  -- the kinds that are a word
  alone : (k : ExprKind) (w : Expr) → flat_kind k here ≡ one w → word_in (flat_kind k here) ≡ w
  alone k w is = ap word_in is

  pub word_number : (n : ℕ) → word_in (flat_kind (source.Number n) here) ≡ e.Num n
  word_number n = alone _ _ (flat_number n)

  pub word_base : word_in (flat_kind source.Base here) ≡ e.Num base_address
  word_base = alone _ _ flat_base

  pub word_biw : word_in (flat_kind source.Biw here) ≡ e.Num bytes_in_word
  word_biw = alone _ _ flat_biw

  pub word_load_byte : (a : Spanned ExprKind) → word_in (flat_kind (source.LoadByte a) here) ≡ e.LoadByte (word_in (flat a here))
  word_load_byte a = alone _ _ (flat_load_byte a)

  pub word_neg : (x : Spanned ExprKind) → word_in (flat_kind (source.Neg x) here) ≡ e.Bin bin_op.Sub (e.Num 0) (word_in (flat x here))
  word_neg x = alone _ _ (flat_neg x)

  pub word_chain : (x : Spanned ExprKind) (ys : List (BinOp × Spanned ExprKind)) → word_in (flat_kind (source.Chain x ys) here) ≡ chain (word_in (flat x here)) (map (λ y. (y.0, word_in (flat y.1 here))) ys)
  word_chain x ys = alone _ _ (flat_chain x ys)

  pub word_shift : (x : Spanned ExprKind) (ns : List (ShOp × ℕ)) → word_in (flat_kind (source.Shift x ns) here) ≡ shifts (word_in (flat x here)) ns
  word_shift x ns = alone _ _ (flat_shift x ns)

  pub word_compare : (c : Cmp) (a b : Spanned ExprKind) → word_in (flat_kind (source.Compare c a b) here) ≡ e.Compare c (word_in (flat a here)) (word_in (flat b here))
  word_compare c a b = alone _ _ (flat_compare c a b)

  -- and the others
  pub word_variable : (x : List ℕ) → word_in (flat_kind (source.Var x) here) ≡ word_in (variable_at (innermost x here))
  word_variable x = ap word_in (flat_variable x)

  pub word_struct : (xs : List (Spanned ExprKind)) → word_in (flat_kind (source.Struct xs) here) ≡ word_in (struct_of (map (λ x. flat x here) xs))
  word_struct xs = ap word_in (flat_struct xs)

  pub word_field : (x : Spanned ExprKind) (is : List ℕ) → word_in (flat_kind (source.Field x is) here) ≡ word_in (parts_at is (flat x here))
  word_field x is = ap word_in (flat_field x is)

  pub word_load : (s : Shape) (a : Spanned ExprKind) → word_in (flat_kind (source.Load s a) here) ≡ word_in (loaded s (word_in (flat a here)))
  word_load s a = ap word_in (flat_load s a)

-- ---- numbers that are words

fits_roll : (y : ExprKind-F ExprKind) → expr_fits (roll-ExprKind y) ≡ expr_layer (map-ExprKind ExprKind Bool expr_fits y)
unfolding expr_fits
fits_roll y = fold-roll-ExprKind Bool expr_layer y

fits_at : (y : ExprKind-F ExprKind) (k : ExprKind) → roll-ExprKind y ≡ k → expr_fits k ≡ expr_layer (map-ExprKind ExprKind Bool expr_fits y)
fits_at y k is = ap expr_fits (sym is) ∙ fits_roll y

abbrev fitting : Spanned ExprKind → Spanned Bool
fitting x = record { kind = expr_fits x.kind; span = x.span }

all_fit : (xs : List (Spanned ExprKind)) → list_all (λ (x : Spanned Bool). x.kind) (map fitting xs) ≡ list_all fits xs
all_fit [] = refl
all_fit (x ∷ xs) = ap (λ b. fits x && b) (all_fit xs)

terms_fit : (ys : List (BinOp × Spanned ExprKind)) → list_all (λ (y : BinOp × Spanned Bool). (y.1).kind) (map (λ (y : BinOp × Spanned ExprKind). (y.0, fitting y.1)) ys) ≡ list_all (λ (y : BinOp × Spanned ExprKind). fits y.1) ys
terms_fit [] = refl
terms_fit (y ∷ ys) = ap (λ b. fits y.1 && b) (terms_fit ys)

is_word : (n : ℕ) → n < 2 ^ 64 → nat_lt n (2 ^ 64) ≡ true
is_word n h = grind (arith, nat_tests)

pub fits_number : (n : ℕ) → n < 2 ^ 64 → expr_fits (source.Number n) ≡ true
fits_number n h = fits_at (open_expr.Number n) _ (source.rolls-Number n) ∙ is_word n h

pub fits_variable : (x : List ℕ) → expr_fits (source.Var x) ≡ true
fits_variable x = fits_at (open_expr.Var x) _ (source.rolls-Var x)

pub fits_base : expr_fits source.Base ≡ true
fits_base = fits_at open_expr.Base _ source.rolls-Base

pub fits_biw : expr_fits source.Biw ≡ true
fits_biw = fits_at open_expr.Biw _ source.rolls-Biw

pub fits_struct : (xs : List (Spanned ExprKind)) → expr_fits (source.Struct xs) ≡ list_all fits xs
fits_struct xs = fits_at (open_expr.Struct xs) _ (source.rolls-Struct xs) ∙ all_fit xs

pub fits_field : (x : Spanned ExprKind) (is : List ℕ) → expr_fits (source.Field x is) ≡ expr_fits x.kind
fits_field x is = fits_at (open_expr.Field x is) _ (source.rolls-Field x is)

pub fits_load : (s : Shape) (a : Spanned ExprKind) → expr_fits (source.Load s a) ≡ expr_fits a.kind
fits_load s a = fits_at (open_expr.Load s a) _ (source.rolls-Load s a)

pub fits_load_byte : (a : Spanned ExprKind) → expr_fits (source.LoadByte a) ≡ expr_fits a.kind
fits_load_byte a = fits_at (open_expr.LoadByte a) _ (source.rolls-LoadByte a)

pub fits_neg : (x : Spanned ExprKind) → expr_fits (source.Neg x) ≡ expr_fits x.kind
fits_neg x = fits_at (open_expr.Neg x) _ (source.rolls-Neg x)

pub fits_chain : (x : Spanned ExprKind) (ys : List (BinOp × Spanned ExprKind)) → expr_fits x.kind ≡ true → list_all (λ (y : BinOp × Spanned ExprKind). fits y.1) ys ≡ true → expr_fits (source.Chain x ys) ≡ true
fits_chain x ys h g = fits_at (open_expr.Chain x ys) _ (source.rolls-Chain x ys) ∙ ap (λ b. b && list_all (λ (y : BinOp × Spanned Bool). (y.1).kind) (map (λ (y : BinOp × Spanned ExprKind). (y.0, fitting y.1)) ys)) h ∙ terms_fit ys ∙ g

pub fits_shift : (x : Spanned ExprKind) (ns : List (ShOp × ℕ)) → expr_fits (source.Shift x ns) ≡ expr_fits x.kind
fits_shift x ns = fits_at (open_expr.Shift x ns) _ (source.rolls-Shift x ns)

pub fits_compare : (c : Cmp) (a b : Spanned ExprKind) → expr_fits a.kind ≡ true → expr_fits b.kind ≡ true → expr_fits (source.Compare c a b) ≡ true
fits_compare c a b h g = fits_at (open_expr.Compare c a b) _ (source.rolls-Compare c a b) ∙ ap (λ x. x && expr_fits b.kind) h ∙ g

-- ---- for the code

pub ruleset expr_rules = (
  flat_number,
  flat_variable,
  flat_base,
  flat_biw,
  flat_struct,
  flat_field,
  flat_load,
  flat_load_byte,
  flat_neg,
  flat_chain,
  flat_shift,
  flat_compare,
  word_number,
  word_base,
  word_biw,
  word_load_byte,
  word_neg,
  word_chain,
  word_shift,
  word_compare,
  fits_variable,
  fits_struct,
  fits_field,
  fits_load,
)

pub ruleset word_rules = (
  word_number,
  word_base,
  word_biw,
  word_load_byte,
  word_neg,
  word_chain,
  word_shift,
  word_compare,
  word_variable,
  word_struct,
  word_field,
  word_load,
  fits_number,
  fits_variable,
  fits_base,
  fits_biw,
  fits_struct,
  fits_field,
  fits_load,
  fits_load_byte,
  fits_neg,
  fits_chain,
  fits_shift,
  fits_compare,
)
