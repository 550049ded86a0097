-- What holds of each token that a part begins with holds of each token behind it.
use Rattle.std.proofs.Common.{ℕ, List}
use Rattle.std.specs.List.{AllByRecursion}
use Rattle.pan_base.specs.declared.operators.BinOp.{BinOp}
use Rattle.pan_base.specs.declared.operators.ShOp.{ShOp}
use Rattle.pan_base.specs.Tokens.{Placed}
use Rattle.pan_tree.specs.declared.level.Level.{Level}
use Rattle.pan_tree.specs.declared.shape.Shape.{Shape}
use Rattle.pan_tree.specs.declared.program.Param.{Param}
use Rattle.pan_tree.specs.declared.program.Exception.{Exception}
use Rattle.pan_tree.specs.Nodes.{Expr}
use Rattle.pan_tree.specs.Grammar.{Shifts, no_shift, next_shift, Fields, no_field, next_field, AShape, one_word, many_words, group, MoreShapes, no_shape, next_shape, AnExpr, no_comparison, one_comparison, Chain, chained, Operand, of_or, of_xor, of_and, of_sum, of_product, Terms, no_term, next_term, AShift, shift, Unary, negation, load_words, load_byte, postfix, Primary, number, variable, base, biw, parentheses, struct, MoreExprs, no_expr, next_expr, Arguments, no_argument, arguments, Plain, plain, ExprEnd, expr_end, TwoExprs, two_exprs, AParam, param, MoreParams, no_param, next_param, Params, no_params, params, Result, no_result, result, AnException, exception}

module _ (May : ℕ → List Placed → Type 0) (P : Placed → Type 0) where
  abbrev Each : List Placed → Type 0
  Each = AllByRecursion P

  -- ---- shapes

  mutual
    pub after_shape : {k : ℕ} {a b : List Placed} {z : Shape} → AShape May k a b z → Each a → Each b
    after_shape (one_word k t a e) h = h.1
    after_shape (many_words k t a n e l) h = h.1
    after_shape (group k t u a b c x xs e m p q f) h = (after_shapes q (after_shape p h.1)).1

    after_shapes : {k : ℕ} {a b : List Placed} {zs : List Shape} → MoreShapes May k a b zs → Each a → Each b
    after_shapes (no_shape k a) h = h
    after_shapes (next_shape k t a b c x xs e p q) h = after_shapes q (after_shape p h.1)

  -- ---- expressions

  after_shifts : {a b : List Placed} {ns : List (ShOp × ℕ)} → Shifts a b ns → Each a → Each b
  after_shifts (no_shift a) h = h
  after_shifts (next_shift t u a b o n ns e f p) h = after_shifts p (h.1).1

  after_fields : {a b : List Placed} {is : List ℕ} → Fields a b is → Each a → Each b
  after_fields (no_field a) h = h
  after_fields (next_field t u a b i is e f p) h = after_fields p (h.1).1

  mutual
    pub after_expr : {k : ℕ} {a b : List Placed} {x : Expr} → AnExpr May k a b x → Each a → Each b
    after_expr (no_comparison k a b x p) h = after_chain p h
    after_expr (one_comparison k t a b c o x y p e q) h = after_chain q (after_chain p h).1

    after_chain : {l : Level} {k : ℕ} {a b : List Placed} {x : Expr} → Chain May l k a b x → Each a → Each b
    after_chain (chained l k a b c x ys p q) h = after_terms q (after_operand p h)

    after_operand : {l : Level} {k : ℕ} {a b : List Placed} {x : Expr} → Operand May l k a b x → Each a → Each b
    after_operand (of_or k a b x p) h = after_chain p h
    after_operand (of_xor k a b x p) h = after_chain p h
    after_operand (of_and k a b x p) h = after_shift p h
    after_operand (of_sum k a b x p) h = after_chain p h
    after_operand (of_product k a b x p) h = after_unary p h

    after_terms : {l : Level} {k : ℕ} {a b : List Placed} {xs : List (BinOp × Expr)} → Terms May l k a b xs → Each a → Each b
    after_terms (no_term l k a) h = h
    after_terms (next_term l k t a b c o y ys e p q) h = after_terms q (after_operand p h.1)

    after_shift : {k : ℕ} {a b : List Placed} {x : Expr} → AShift May k a b x → Each a → Each b
    after_shift (shift k a b c x ns p q) h = after_shifts q (after_chain p h)

    after_unary : {k : ℕ} {a b : List Placed} {x : Expr} → Unary May k a b x → Each a → Each b
    after_unary (negation k t a b x e m p) h = after_unary p h.1
    after_unary (load_words k t a b c z x e m p q) h = after_unary q (after_shape p h.1)
    after_unary (load_byte k t a b x e m p) h = after_unary p h.1
    after_unary (postfix k a b c x is p q) h = after_fields q (after_primary p h)

    after_primary : {k : ℕ} {a b : List Placed} {x : Expr} → Primary May k a b x → Each a → Each b
    after_primary (number k t a n e) h = h.1
    after_primary (variable k t a x e) h = h.1
    after_primary (base k t a e) h = h.1
    after_primary (biw k t a e) h = h.1
    after_primary (parentheses k t u a b x e m p f) h = (after_expr p h.1).1
    after_primary (struct k t u a b c x xs e m p q f) h = (after_exprs q (after_expr p h.1)).1

    after_exprs : {k : ℕ} {a b : List Placed} {xs : List Expr} → MoreExprs May k a b xs → Each a → Each b
    after_exprs (no_expr k a) h = h
    after_exprs (next_expr k t a b c x xs e p q) h = after_exprs q (after_expr p h.1)

  -- ---- parts of statements

  after_arguments : {k : ℕ} {a b : List Placed} {xs : List Expr} → Arguments May k a b xs → Each a → Each b
  after_arguments (no_argument k a) h = h
  after_arguments (arguments k a b c x xs p q) h = after_exprs q (after_expr p h)

  pub after_plain : {k : ℕ} {a b : List Placed} {f : List ℕ} {xs : List Expr} → Plain May k a b f xs → Each a → Each b
  after_plain (plain k t u v a b f xs e m p n) h = (after_arguments p (h.1).1).1

  pub after_end : {k : ℕ} {a b : List Placed} {x : Expr} → ExprEnd May k a b x → Each a → Each b
  after_end (expr_end k t a b x p e) h = (after_expr p h).1

  pub after_two : {k : ℕ} {a b : List Placed} {x y : Expr} → TwoExprs May k a b x y → Each a → Each b
  after_two (two_exprs k t a b c x y p e q) h = after_end q (after_expr p h).1

  -- ---- parts of programs

  after_param : {k : ℕ} {a b : List Placed} {x : Param} → AParam May k a b x → Each a → Each b
  after_param (param k t a b z x p e) h = (after_shape p h).1

  after_more_params : {k : ℕ} {a b : List Placed} {xs : List Param} → MoreParams May k a b xs → Each a → Each b
  after_more_params (no_param k a) h = h
  after_more_params (next_param k t a b c x xs e p q) h = after_more_params q (after_param p h.1)

  pub after_params : {k : ℕ} {a b : List Placed} {xs : List Param} → Params May k a b xs → Each a → Each b
  after_params (no_params k a) h = h
  after_params (params k a b c x xs p q) h = after_more_params q (after_param p h)

  pub after_result : {k : ℕ} {a b : List Placed} {z : Shape} → Result May k a b z → Each a → Each b
  after_result (no_result k a) h = h
  after_result (result k a b z p) h = after_shape p h

  pub after_exception : {a b : List Placed} {x : Exception} → AnException May a b x → Each a → Each b
  after_exception (exception t u v a b x z e f p g) h = (after_shape p (h.1).1).1
