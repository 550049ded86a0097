-- What an expression is resolved to, at each variant.
use Rattle.std.proofs.Common.{◌≡◌, ℕ, List, map, sym, ap, ◌∙◌}
use Rattle.std.proofs.lemmas.Simd.{map-map}
use Rattle.pan_base.specs.declared.operators.BinOp.{BinOp}
use Rattle.pan_base.specs.declared.operators.ShOp.{ShOp}
use Rattle.pan_base.specs.declared.operators.Cmp.{Cmp}
use Rattle.pan_tree.specs.Scopes.{innermost}
use Rattle.pan_tree.specs.declared.shape.Shape.{Shape}
use Rattle.pan_tree.specs.declared.spanned.Spanned.{Spanned}
use Rattle.pan_tree.specs.declared.syntax.ExprKind.{ExprKind, ExprKind-F, roll-ExprKind, map-ExprKind}
use Rattle.pan_tree.specs.declared.syntax.ExprKind.TheOpen as open_expr
use Rattle.pan_tree.specs.declared.syntax.ExprKind.TheVariants as source
use Rattle.source_resolver.specs.declared.resolved.Expr.{Expr}
use Rattle.source_resolver.specs.declared.resolved.Expr.TheVariants as expr
use Rattle.source_resolver.specs.Resolving.{Places, resolved_expr_layer, resolved_expr_kind, resolved_expr, resolved_exprs}
use Rattle.source_resolver.proofs.ResolvedExprs.{resolved_expr_roll}
use Rattle.pan_base.specs.Words.{base_address, bytes_in_word}

module _ (v : Places) where
  at : (y : ExprKind-F ExprKind) (k : ExprKind) → roll-ExprKind y ≡ k → resolved_expr_kind k v ≡ resolved_expr_layer (map-ExprKind ExprKind (Places → Expr) resolved_expr_kind y) v
  at y k is = ap (λ k. resolved_expr_kind k v) (sym is) ∙ ap (λ (f : Places → Expr). f v) (resolved_expr_roll y)

  pub resolved_number : (n : ℕ) → resolved_expr_kind (source.Number n) v ≡ expr.Number n
  resolved_number n = at (open_expr.Number n) _ (source.rolls-Number n)

  pub resolved_variable : (x : List ℕ) → resolved_expr_kind (source.Var x) v ≡ expr.Variable (innermost x v)
  resolved_variable x = at (open_expr.Var x) _ (source.rolls-Var x)

  pub resolved_base : resolved_expr_kind source.Base v ≡ expr.Number base_address
  resolved_base = at open_expr.Base _ source.rolls-Base

  pub resolved_biw : resolved_expr_kind source.Biw v ≡ expr.Number bytes_in_word
  resolved_biw = at open_expr.Biw _ source.rolls-Biw

  pub resolved_struct : (es : List (Spanned ExprKind)) → resolved_expr_kind (source.Struct es) v ≡ expr.Struct (resolved_exprs es v)
  resolved_struct es = at (open_expr.Struct es) _ (source.rolls-Struct es) ∙ ap expr.Struct (map-map _ _ es)

  pub resolved_field : (e : Spanned ExprKind) (is : List ℕ) → resolved_expr_kind (source.Field e is) v ≡ expr.Field (resolved_expr e v) is
  resolved_field e is = at (open_expr.Field e is) _ (source.rolls-Field e is)

  pub resolved_load : (s : Shape) (a : Spanned ExprKind) → resolved_expr_kind (source.Load s a) v ≡ expr.Load s (resolved_expr a v)
  resolved_load s a = at (open_expr.Load s a) _ (source.rolls-Load s a)

  pub resolved_load_byte : (a : Spanned ExprKind) → resolved_expr_kind (source.LoadByte a) v ≡ expr.LoadByte (resolved_expr a v)
  resolved_load_byte a = at (open_expr.LoadByte a) _ (source.rolls-LoadByte a)

  pub resolved_neg : (e : Spanned ExprKind) → resolved_expr_kind (source.Neg e) v ≡ expr.Neg (resolved_expr e v)
  resolved_neg e = at (open_expr.Neg e) _ (source.rolls-Neg e)

  pub resolved_chain : (e : Spanned ExprKind) (es : List (BinOp × Spanned ExprKind)) → resolved_expr_kind (source.Chain e es) v ≡ expr.Chain (resolved_expr e v) (map (λ t. (t.0, resolved_expr t.1 v)) es)
  resolved_chain e es = at (open_expr.Chain e es) _ (source.rolls-Chain e es) ∙ ap (expr.Chain (resolved_expr e v)) (map-map _ _ es)

  pub resolved_shift : (e : Spanned ExprKind) (shifts : List (ShOp × ℕ)) → resolved_expr_kind (source.Shift e shifts) v ≡ expr.Shift (resolved_expr e v) shifts
  resolved_shift e shifts = at (open_expr.Shift e shifts) _ (source.rolls-Shift e shifts)

  pub resolved_compare : (c : Cmp) (a b : Spanned ExprKind) → resolved_expr_kind (source.Compare c a b) v ≡ expr.Compare c (resolved_expr a v) (resolved_expr b v)
  resolved_compare c a b = at (open_expr.Compare c a b) _ (source.rolls-Compare c a b)

pub ruleset resolved_expr_rules = (
  resolved_number,
  resolved_variable,
  resolved_base,
  resolved_biw,
  resolved_struct,
  resolved_field,
  resolved_load,
  resolved_load_byte,
  resolved_neg,
  resolved_chain,
  resolved_shift,
  resolved_compare,
)
