-- What spells a program where tokens may nest only so deep spells it however deep they nest: each checked program is the reading of some text.
use Rattle.std.proofs.Common.{ℕ, List, refl}
use Rattle.std.specs.Prelude.{Option}
use Rattle.pan_base.specs.declared.operators.BinOp.{BinOp}
use Rattle.pan_base.specs.Tokens.{Placed}
use Rattle.pan_tree.specs.declared.level.Level.{Level}
use Rattle.pan_tree.specs.declared.shape.Shape.{Shape}
use Rattle.pan_tree.specs.declared.program.Param.{Param}
use Rattle.pan_tree.specs.declared.program.Exception.{Exception}
use Rattle.pan_tree.specs.declared.program.Function.{Function}
use Rattle.pan_tree.specs.declared.program.Program.{Program}
use Rattle.pan_tree.specs.Nodes.{Expr}
use Rattle.pan_tree.specs.Grammar.{Stmt, Block, Handler, Derives, Tree, Within, AShape, one_word, many_words, group, MoreShapes, no_shape, next_shape, AnExpr, no_comparison, one_comparison, Chain, chained, Operand, of_or, of_xor, of_and, of_sum, of_product, Terms, no_term, next_term, AShift, shift, Unary, negation, load_words, load_byte, postfix, Primary, number, variable, base, biw, parentheses, struct, MoreExprs, no_expr, next_expr, Arguments, no_argument, arguments, Plain, plain, ExprEnd, expr_end, TwoExprs, two_exprs, AStmt, skip, declaration, declaration_call, assignment, assignment_call, shared_load, call, store_words, store_byte, branch, loop, break, continue, return, tail_call, raise, shared_store, foreign, CallEnd, call_end, MayHandle, no_handler, handler, ABlock, block, Stmts, no_stmt, next_stmt, AParam, param, MoreParams, no_param, next_param, Params, no_params, params, Result, no_result, result, AnException, exception, AFunction, function, Items, no_item, next_exception, next_function}
use Rattle.front_end.specs.Sources.{IsChecked}
use Rattle.pan_printer.specs.ReadsBack.{Spellable}

module _ (May Wide : ℕ → List Placed → Type 0) (wide : (j : ℕ) (rest : List Placed) → May j rest → Wide j rest) where
  mutual
    pub wider_a_shape : {i0 : ℕ} {i1 : List Placed} {i2 : List Placed} {i3 : Shape} → AShape May i0 i1 i2 i3 → AShape Wide i0 i1 i2 i3
    wider_a_shape (one_word k t a p1) = one_word k t a p1
    wider_a_shape (many_words k t a n p1 p2) = many_words k t a n p1 p2
    wider_a_shape (group k t u a b c x xs p1 p2 p3 p4 p5) = group k t u a b c x xs p1 (wide _ _ p2) (wider_a_shape p3) (wider_more_shapes p4) p5

    pub wider_more_shapes : {i0 : ℕ} {i1 : List Placed} {i2 : List Placed} {i3 : List Shape} → MoreShapes May i0 i1 i2 i3 → MoreShapes Wide i0 i1 i2 i3
    wider_more_shapes (no_shape k a) = no_shape k a
    wider_more_shapes (next_shape k t a b c x xs p1 p2 p3) = next_shape k t a b c x xs p1 (wider_a_shape p2) (wider_more_shapes p3)

  mutual
    pub wider_an_expr : {i0 : ℕ} {i1 : List Placed} {i2 : List Placed} {i3 : Expr} → AnExpr May i0 i1 i2 i3 → AnExpr Wide i0 i1 i2 i3
    wider_an_expr (no_comparison k a b x p1) = no_comparison k a b x (wider_chain p1)
    wider_an_expr (one_comparison k t a b c o x y p1 p2 p3) = one_comparison k t a b c o x y (wider_chain p1) p2 (wider_chain p3)

    pub wider_chain : {i0 : Level} {i1 : ℕ} {i2 : List Placed} {i3 : List Placed} {i4 : Expr} → Chain May i0 i1 i2 i3 i4 → Chain Wide i0 i1 i2 i3 i4
    wider_chain (chained l k a b c x ys p1 p2) = chained l k a b c x ys (wider_operand p1) (wider_terms p2)

    pub wider_operand : {i0 : Level} {i1 : ℕ} {i2 : List Placed} {i3 : List Placed} {i4 : Expr} → Operand May i0 i1 i2 i3 i4 → Operand Wide i0 i1 i2 i3 i4
    wider_operand (of_or k a b x p1) = of_or k a b x (wider_chain p1)
    wider_operand (of_xor k a b x p1) = of_xor k a b x (wider_chain p1)
    wider_operand (of_and k a b x p1) = of_and k a b x (wider_a_shift p1)
    wider_operand (of_sum k a b x p1) = of_sum k a b x (wider_chain p1)
    wider_operand (of_product k a b x p1) = of_product k a b x (wider_unary p1)

    pub wider_terms : {i0 : Level} {i1 : ℕ} {i2 : List Placed} {i3 : List Placed} {i4 : List (BinOp × Expr)} → Terms May i0 i1 i2 i3 i4 → Terms Wide i0 i1 i2 i3 i4
    wider_terms (no_term l k a) = no_term l k a
    wider_terms (next_term l k t a b c o y ys p1 p2 p3) = next_term l k t a b c o y ys p1 (wider_operand p2) (wider_terms p3)

    pub wider_a_shift : {i0 : ℕ} {i1 : List Placed} {i2 : List Placed} {i3 : Expr} → AShift May i0 i1 i2 i3 → AShift Wide i0 i1 i2 i3
    wider_a_shift (shift k a b c x ns p1 p2) = shift k a b c x ns (wider_chain p1) p2

    pub wider_unary : {i0 : ℕ} {i1 : List Placed} {i2 : List Placed} {i3 : Expr} → Unary May i0 i1 i2 i3 → Unary Wide i0 i1 i2 i3
    wider_unary (negation k t a b x p1 p2 p3) = negation k t a b x p1 (wide _ _ p2) (wider_unary p3)
    wider_unary (load_words k t a b c z x p1 p2 p3 p4) = load_words k t a b c z x p1 (wide _ _ p2) (wider_a_shape p3) (wider_unary p4)
    wider_unary (load_byte k t a b x p1 p2 p3) = load_byte k t a b x p1 (wide _ _ p2) (wider_unary p3)
    wider_unary (postfix k a b c x is p1 p2) = postfix k a b c x is (wider_primary p1) p2

    pub wider_primary : {i0 : ℕ} {i1 : List Placed} {i2 : List Placed} {i3 : Expr} → Primary May i0 i1 i2 i3 → Primary Wide i0 i1 i2 i3
    wider_primary (number k t a n p1) = number k t a n p1
    wider_primary (variable k t a x p1) = variable k t a x p1
    wider_primary (base k t a p1) = base k t a p1
    wider_primary (biw k t a p1) = biw k t a p1
    wider_primary (parentheses k t u a b x p1 p2 p3 p4) = parentheses k t u a b x p1 (wide _ _ p2) (wider_an_expr p3) p4
    wider_primary (struct k t u a b c x xs p1 p2 p3 p4 p5) = struct k t u a b c x xs p1 (wide _ _ p2) (wider_an_expr p3) (wider_more_exprs p4) p5

    pub wider_more_exprs : {i0 : ℕ} {i1 : List Placed} {i2 : List Placed} {i3 : List Expr} → MoreExprs May i0 i1 i2 i3 → MoreExprs Wide i0 i1 i2 i3
    wider_more_exprs (no_expr k a) = no_expr k a
    wider_more_exprs (next_expr k t a b c x xs p1 p2 p3) = next_expr k t a b c x xs p1 (wider_an_expr p2) (wider_more_exprs p3)

  pub wider_arguments : {i0 : ℕ} {i1 : List Placed} {i2 : List Placed} {i3 : List Expr} → Arguments May i0 i1 i2 i3 → Arguments Wide i0 i1 i2 i3
  wider_arguments (no_argument k a) = no_argument k a
  wider_arguments (arguments k a b c x xs p1 p2) = arguments k a b c x xs (wider_an_expr p1) (wider_more_exprs p2)

  pub wider_plain : {i0 : ℕ} {i1 : List Placed} {i2 : List Placed} {i3 : List ℕ} {i4 : List Expr} → Plain May i0 i1 i2 i3 i4 → Plain Wide i0 i1 i2 i3 i4
  wider_plain (plain k t u v a b f xs p1 p2 p3 p4) = plain k t u v a b f xs p1 p2 (wider_arguments p3) p4

  pub wider_expr_end : {i0 : ℕ} {i1 : List Placed} {i2 : List Placed} {i3 : Expr} → ExprEnd May i0 i1 i2 i3 → ExprEnd Wide i0 i1 i2 i3
  wider_expr_end (expr_end k t a b x p1 p2) = expr_end k t a b x (wider_an_expr p1) p2

  pub wider_two_exprs : {i0 : ℕ} {i1 : List Placed} {i2 : List Placed} {i3 : Expr} {i4 : Expr} → TwoExprs May i0 i1 i2 i3 i4 → TwoExprs Wide i0 i1 i2 i3 i4
  wider_two_exprs (two_exprs k t a b c x y p1 p2 p3) = two_exprs k t a b c x y (wider_an_expr p1) p2 (wider_expr_end p3)

  mutual
    pub wider_a_stmt : {i0 : ℕ} {i1 : List Placed} {i2 : List Placed} {i3 : Stmt} → AStmt May i0 i1 i2 i3 → AStmt Wide i0 i1 i2 i3
    wider_a_stmt (skip k t u a p1 p2) = skip k t u a p1 p2
    wider_a_stmt (declaration k t u v a b x y p1 p2 p3 p4) = declaration k t u v a b x y p1 p2 p3 (wider_expr_end p4)
    wider_a_stmt (declaration_call k t u v a b x f ys h p1 p2 p3 p4) = declaration_call k t u v a b x f ys h p1 p2 p3 (wider_call_end p4)
    wider_a_stmt (assignment k t u a b x y p1 p2 p3) = assignment k t u a b x y p1 p2 (wider_expr_end p3)
    wider_a_stmt (assignment_call k t u a b x f ys h p1 p2 p3) = assignment_call k t u a b x f ys h p1 p2 (wider_call_end p3)
    wider_a_stmt (shared_load k t u v a b x n y p1 p2 p3 p4) = shared_load k t u v a b x n y p1 p2 p3 (wider_expr_end p4)
    wider_a_stmt (call k a b f ys h p1) = call k a b f ys h (wider_call_end p1)
    wider_a_stmt (store_words k t a b x y p1 p2) = store_words k t a b x y p1 (wider_two_exprs p2)
    wider_a_stmt (store_byte k t a b x y p1 p2) = store_byte k t a b x y p1 (wider_two_exprs p2)
    wider_a_stmt (branch k t u a b c d x y z p1 p2 p3 p4 p5) = branch k t u a b c d x y z p1 (wider_an_expr p2) (wider_a_block p3) p4 (wider_a_block p5)
    wider_a_stmt (loop k t a b c x y p1 p2 p3) = loop k t a b c x y p1 (wider_an_expr p2) (wider_a_block p3)
    wider_a_stmt (break k t u a p1 p2) = break k t u a p1 p2
    wider_a_stmt (continue k t u a p1 p2) = continue k t u a p1 p2
    wider_a_stmt (return k t a b x p1 p2) = return k t a b x p1 (wider_expr_end p2)
    wider_a_stmt (tail_call k t u a b f xs p1 p2 p3) = tail_call k t u a b f xs p1 (wider_plain p2) p3
    wider_a_stmt (raise k t u a b x y p1 p2 p3) = raise k t u a b x y p1 p2 (wider_expr_end p3)
    wider_a_stmt (shared_store k t a b n x y p1 p2) = shared_store k t a b n x y p1 (wider_two_exprs p2)
    wider_a_stmt (foreign k t u v w m n o a b c d f x p q r z p1 p2 p3 p4 p5 p6 p7 p8 p9 p10 p11) = foreign k t u v w m n o a b c d f x p q r z p1 p2 (wider_an_expr p3) p4 (wider_an_expr p5) p6 (wider_an_expr p7) p8 (wider_an_expr p9) p10 p11

    pub wider_call_end : {i0 : ℕ} {i1 : List Placed} {i2 : List Placed} {i3 : List ℕ} {i4 : List Expr} {i5 : Option Handler} → CallEnd May i0 i1 i2 i3 i4 i5 → CallEnd Wide i0 i1 i2 i3 i4 i5
    wider_call_end (call_end k t a b c f xs h p1 p2 p3) = call_end k t a b c f xs h (wider_plain p1) (wider_may_handle p2) p3

    pub wider_may_handle : {i0 : ℕ} {i1 : List Placed} {i2 : List Placed} {i3 : Option Handler} → MayHandle May i0 i1 i2 i3 → MayHandle Wide i0 i1 i2 i3
    wider_may_handle (no_handler k a) = no_handler k a
    wider_may_handle (handler k t u v a b i x y p1 p2 p3 p4) = handler k t u v a b i x y p1 p2 p3 (wider_a_block p4)

    pub wider_a_block : {i0 : ℕ} {i1 : List Placed} {i2 : List Placed} {i3 : Block} → ABlock May i0 i1 i2 i3 → ABlock Wide i0 i1 i2 i3
    wider_a_block (block k t u a b xs p1 p2 p3 p4) = block k t u a b xs p1 (wide _ _ p2) (wider_stmts p3) p4

    pub wider_stmts : {i0 : ℕ} {i1 : List Placed} {i2 : List Placed} {i3 : List Stmt} → Stmts May i0 i1 i2 i3 → Stmts Wide i0 i1 i2 i3
    wider_stmts (no_stmt k a) = no_stmt k a
    wider_stmts (next_stmt k a b c x xs p1 p2) = next_stmt k a b c x xs (wider_a_stmt p1) (wider_stmts p2)

  pub wider_a_param : {i0 : ℕ} {i1 : List Placed} {i2 : List Placed} {i3 : Param} → AParam May i0 i1 i2 i3 → AParam Wide i0 i1 i2 i3
  wider_a_param (param k t a b z x p1 p2) = param k t a b z x (wider_a_shape p1) p2

  pub wider_more_params : {i0 : ℕ} {i1 : List Placed} {i2 : List Placed} {i3 : List Param} → MoreParams May i0 i1 i2 i3 → MoreParams Wide i0 i1 i2 i3
  wider_more_params (no_param k a) = no_param k a
  wider_more_params (next_param k t a b c x xs p1 p2 p3) = next_param k t a b c x xs p1 (wider_a_param p2) (wider_more_params p3)

  pub wider_params : {i0 : ℕ} {i1 : List Placed} {i2 : List Placed} {i3 : List Param} → Params May i0 i1 i2 i3 → Params Wide i0 i1 i2 i3
  wider_params (no_params k a) = no_params k a
  wider_params (params k a b c x xs p1 p2) = params k a b c x xs (wider_a_param p1) (wider_more_params p2)

  pub wider_result : {i0 : ℕ} {i1 : List Placed} {i2 : List Placed} {i3 : Shape} → Result May i0 i1 i2 i3 → Result Wide i0 i1 i2 i3
  wider_result (no_result k a) = no_result k a
  wider_result (result k a b z p1) = result k a b z (wider_a_shape p1)

  pub wider_an_exception : {i0 : List Placed} {i1 : List Placed} {i2 : Exception} → AnException May i0 i1 i2 → AnException Wide i0 i1 i2
  wider_an_exception (exception t u v a b x z p1 p2 p3 p4) = exception t u v a b x z p1 p2 (wider_a_shape p3) p4

  pub wider_a_function : {i0 : List Placed} {i1 : List Placed} {i2 : Function} → AFunction May i0 i1 i2 → AFunction Wide i0 i1 i2
  wider_a_function (function t u v w a b c d z f xs y p1 p2 p3 p4 p5 p6 p7) = function t u v w a b c d z f xs y p1 (wider_result p2) p3 p4 (wider_params p5) p6 (wider_a_block p7)

  pub wider_items : {i0 : List Placed} {i1 : List Exception} {i2 : List Function} → Items May i0 i1 i2 → Items Wide i0 i1 i2
  wider_items no_item = no_item
  wider_items (next_exception a b x xs fs p1 p2) = next_exception a b x xs fs (wider_an_exception p1) (wider_items p2)
  wider_items (next_function a b f xs fs p1 p2) = next_function a b f xs fs (wider_a_function p1) (wider_items p2)

derives : (tokens : List Placed) (p : Program) → Tree tokens p → Derives tokens p
derives tokens p d = wider_items Within (λ j rest. Unit {0}) (λ j rest m. tt) d

-- a program that keeps every rule is the reading of its source
pub spellable : (bytes : List ℕ) (p : Program) → IsChecked bytes p → Spellable p
spellable bytes p h = (bytes, (h.tokens, p, h.lexed, derives h.tokens p h.tree, refl))
