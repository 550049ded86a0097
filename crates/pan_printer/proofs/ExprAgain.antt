-- What the grammar derives as an expression is printed so that it is read as it.
use Rattle.std.proofs.Common.{◌≡◌, ℕ, ◌+◌, List, [], ◌∷◌, refl, sym, subst}
use Rattle.pan_base.specs.declared.operators.BinOp.{BinOp}
use Rattle.pan_base.specs.declared.operators.ShOp.{ShOp}
use Rattle.pan_base.specs.Tokens.{Placed}
use Rattle.pan_tree.specs.declared.level.Level.{Level}
use Rattle.pan_tree.specs.declared.level.Level.TheVariants as level
use Rattle.pan_tree.specs.declared.syntax.ExprKind.TheVariants as e
use Rattle.pan_tree.specs.Nodes.{Expr, chain, shifted, field}
use Rattle.pan_tree.specs.Grammar.{Shifts, no_shift, next_shift, Fields, no_field, next_field, AnExpr, no_comparison, one_comparison, Chain, chained, Operand, of_or, of_xor, of_and, of_sum, of_product, Terms, no_term, next_term, AShift, shift, Unary, negation, load_words, load_byte, postfix, Primary, number, variable, base, biw, parentheses, struct, MoreExprs, no_expr, next_expr}
use Rattle.pan_printer.proofs.TokenTexts.{IsPrintable, Printable}
use Rattle.pan_printer.proofs.Layers.{kind_number, kind_var, kind_base, kind_biw, kind_struct, kind_field, kind_load, kind_load_byte, kind_neg, kind_chain, kind_shift, kind_compare}
use Rattle.pan_printer.proofs.ShapeReading.{May, shape_again}
use Rattle.pan_printer.proofs.Places.{ReadsExpr}
use Rattle.pan_printer.proofs.ExprReading.{Again, number_again, var_again, base_again, biw_again, MoreAgain, none_again, more_again, struct_again, neg_again, load_byte_again, load_again, FieldsAgain, no_fields_again, fields_again, field_again, ShiftsAgain, no_shifts_again, shifts_again, shift_again, compare_again}
use Rattle.pan_printer.proofs.ChainReading.{IsOf, operator_is_of, TermsAgain, no_terms_again, terms_again, chain_again}

-- the expression is read as printed, and the tokens behind it can be printed
pub record ExprAgain (x : Expr) (b : List Placed) : Type 0 where
  pub expr : Again x.kind
  pub behind : Printable b

pub record ExprsAgain (xs : List Expr) (b : List Placed) : Type 0 where
  pub exprs : MoreAgain xs
  pub behind : Printable b

record OperatorsAgain (l : Level) (ys : List (BinOp × Expr)) (b : List Placed) : Type 0 where
  terms : TermsAgain l ys
  first_of_level : (y : BinOp × Expr) (more : List (BinOp × Expr)) → ys ≡ y ∷ more → IsOf l y.0
  behind : Printable b

record AmountsAgain (ns : List (ShOp × ℕ)) (b : List Placed) : Type 0 where
  shifts : ShiftsAgain ns
  behind : Printable b

record PathAgain (is : List ℕ) (b : List Placed) : Type 0 where
  fields : FieldsAgain is
  behind : Printable b

amounts : (a b : List Placed) (ns : List (ShOp × ℕ)) → Shifts a b ns → Printable a → AmountsAgain ns b
amounts _ b _ (no_shift _) h = record { shifts = no_shifts_again; behind = h }
amounts _ b _ (next_shift t u a _ o n ns by at more) h =
    let s = amounts a b ns more (h.1).1 in
    record { shifts = shifts_again o n ns (subst IsPrintable at (h.1).0) s.shifts; behind = s.behind }

path : (a b : List Placed) (is : List ℕ) → Fields a b is → Printable a → PathAgain is b
path _ b _ (no_field _) h = record { fields = no_fields_again; behind = h }
path _ b _ (next_field t u a _ i is dot at more) h =
    let s = path a b is more (h.1).1 in
    record { fields = fields_again i is (subst IsPrintable at (h.1).0) s.fields; behind = s.behind }

-- a part and what stands behind it, if anything does
with_shifts : (a c : List Placed) (x : Expr) (ns : List (ShOp × ℕ)) → Again x.kind → ShiftsAgain ns → Again (shifted a c x ns).kind
with_shifts a c x [] r by = r
with_shifts a c x (n ∷ ns) r by = subst (λ w. ReadsExpr w (e.Shift x (n ∷ ns))) (sym (kind_shift x (n ∷ ns))) (shift_again x n ns r by)

with_fields : (a c : List Placed) (x : Expr) (is : List ℕ) → Again x.kind → FieldsAgain is → Again (field a c x is).kind
with_fields a c x [] r by = r
with_fields a c x (i ∷ is) r by = subst (λ w. ReadsExpr w (e.Field x (i ∷ is))) (sym (kind_field x (i ∷ is))) (field_again x i is r by)

with_terms : (l : Level) (a c : List Placed) (x : Expr) (ys : List (BinOp × Expr)) → Again x.kind → TermsAgain l ys → ((y : BinOp × Expr) (more : List (BinOp × Expr)) → ys ≡ y ∷ more → IsOf l y.0) → Again (chain a c x ys).kind
with_terms l a c x [] r others of_level = r
with_terms l a c x (y ∷ ys) r others of_level = subst (λ w. ReadsExpr w (e.Chain x (y ∷ ys))) (sym (kind_chain x (y ∷ ys))) (chain_again l x y ys (of_level y ys refl) r others)

first_is : (l : Level) (o : BinOp) (z : Expr) (zs : List (BinOp × Expr)) → IsOf l o → (y : BinOp × Expr) (more : List (BinOp × Expr)) → (o, z) ∷ zs ≡ y ∷ more → IsOf l y.0
first_is l o z zs of_level y more same = let e : o ≡ y.0 = cc in subst (IsOf l) e of_level

mutual
  pub expr_again : (k : ℕ) (a b : List Placed) (x : Expr) → AnExpr May k a b x → Printable a → ExprAgain x b
  expr_again k a b x (no_comparison _ _ _ _ d) h = of_chain level.Or k a b x d h
  expr_again k a c _ (one_comparison _ t _ b _ o x y left is right) h =
      let first = of_chain level.Or k a (t ∷ b) x left h in
      let second = of_chain level.Or k b c y right (first.behind).1 in
      record { expr = subst (λ w. ReadsExpr w (e.Compare o x y)) (sym (kind_compare o x y)) (compare_again o x y first.expr second.expr); behind = second.behind }

  of_chain : (l : Level) (k : ℕ) (a b : List Placed) (x : Expr) → Chain May l k a b x → Printable a → ExprAgain x b
  of_chain l k a c _ (chained _ _ _ b _ x ys first others) h =
      let r = of_operand l k a b x first h in
      let rs = of_terms l k b c ys others r.behind in
      record { expr = with_terms l a c x ys r.expr rs.terms rs.first_of_level; behind = rs.behind }

  of_operand : (l : Level) (k : ℕ) (a b : List Placed) (x : Expr) → Operand May l k a b x → Printable a → ExprAgain x b
  of_operand _ k a b x (of_or _ _ _ _ d) h = of_chain level.Xor k a b x d h
  of_operand _ k a b x (of_xor _ _ _ _ d) h = of_chain level.And k a b x d h
  of_operand _ k a b x (of_and _ _ _ _ d) h = of_shift k a b x d h
  of_operand _ k a b x (of_sum _ _ _ _ d) h = of_chain level.Product k a b x d h
  of_operand _ k a b x (of_product _ _ _ _ d) h = of_unary k a b x d h

  of_terms : (l : Level) (k : ℕ) (a b : List Placed) (ys : List (BinOp × Expr)) → Terms May l k a b ys → Printable a → OperatorsAgain l ys b
  of_terms l k _ b _ (no_term _ _ _) h = record { terms = no_terms_again l; first_of_level = λ y more same. absurd (cc); behind = h }
  of_terms l k _ c _ (next_term _ _ t a b _ o y ys is first others) h =
      let of_level = operator_is_of l t.kind o is in
      let r = of_operand l k a b y first h.1 in
      let rs = of_terms l k b c ys others r.behind in
      record { terms = terms_again l o y ys of_level r.expr rs.terms; first_of_level = first_is l o y ys of_level; behind = rs.behind }

  of_shift : (k : ℕ) (a b : List Placed) (x : Expr) → AShift May k a b x → Printable a → ExprAgain x b
  of_shift k a c _ (shift _ _ b _ x ns first by) h =
      let r = of_chain level.Sum k a b x first h in
      let s = amounts b c ns by r.behind in
      record { expr = with_shifts a c x ns r.expr s.shifts; behind = s.behind }

  of_unary : (k : ℕ) (a b : List Placed) (x : Expr) → Unary May k a b x → Printable a → ExprAgain x b
  of_unary k _ b _ (negation _ t a _ x is may d) h =
      let r = of_unary (k + 1) a b x d h.1 in
      record { expr = subst (λ w. ReadsExpr w (e.Neg x)) (sym (kind_neg x)) (neg_again x r.expr); behind = r.behind }
  of_unary k _ c _ (load_words _ t a b _ z x is may shaped d) h =
      let s = shape_again (k + 1) a b z shaped h.1 in
      let r = of_unary (k + 1) b c x d s.behind in
      record { expr = subst (λ w. ReadsExpr w (e.Load z x)) (sym (kind_load z x)) (load_again z x s.shape r.expr); behind = r.behind }
  of_unary k _ b _ (load_byte _ t a _ x is may d) h =
      let r = of_unary (k + 1) a b x d h.1 in
      record { expr = subst (λ w. ReadsExpr w (e.LoadByte x)) (sym (kind_load_byte x)) (load_byte_again x r.expr); behind = r.behind }
  of_unary k a c _ (postfix _ _ b _ x is d more) h =
      let r = of_primary k a b x d h in
      let p = path b c is more r.behind in
      record { expr = with_fields a c x is r.expr p.fields; behind = p.behind }

  of_primary : (k : ℕ) (a b : List Placed) (x : Expr) → Primary May k a b x → Printable a → ExprAgain x b
  of_primary k _ b _ (number _ t _ n is) h =
      record { expr = subst (λ w. ReadsExpr w (e.Number n)) (sym (kind_number n)) (number_again n (subst IsPrintable is h.0)); behind = h.1 }
  of_primary k _ b _ (variable _ t _ x is) h =
      record { expr = subst (λ w. ReadsExpr w (e.Var x)) (sym (kind_var x)) (var_again x (subst IsPrintable is h.0)); behind = h.1 }
  of_primary k _ b _ (base _ t _ is) h = record { expr = subst (λ w. ReadsExpr w e.Base) (sym kind_base) base_again; behind = h.1 }
  of_primary k _ b _ (biw _ t _ is) h = record { expr = subst (λ w. ReadsExpr w e.Biw) (sym kind_biw) biw_again; behind = h.1 }
  of_primary k _ b x (parentheses _ t u a _ _ opens may d closes) h =
      let r = expr_again (k + 1) a (u ∷ b) x d h.1 in
      record { expr = r.expr; behind = (r.behind).1 }
  of_primary k _ c _ (struct _ t u a b _ x xs opens may first others closes) h =
      let r = expr_again (k + 1) a b x first h.1 in
      let rs = exprs_again (k + 1) b (u ∷ c) xs others r.behind in
      record { expr = subst (λ w. ReadsExpr w (e.Struct (x ∷ xs))) (sym (kind_struct (x ∷ xs))) (struct_again x xs r.expr rs.exprs); behind = (rs.behind).1 }

  pub exprs_again : (k : ℕ) (a b : List Placed) (xs : List Expr) → MoreExprs May k a b xs → Printable a → ExprsAgain xs b
  exprs_again k _ b _ (no_expr _ _) h = record { exprs = none_again; behind = h }
  exprs_again k _ c _ (next_expr _ t a b _ x xs is first others) h =
      let r = expr_again k a b x first h.1 in
      let rs = exprs_again k b c xs others r.behind in
      record { exprs = more_again x xs r.expr rs.exprs; behind = rs.behind }
