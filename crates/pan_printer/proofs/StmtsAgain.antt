-- What the grammar derives as a statement is printed so that it is read as it.
use Rattle.std.proofs.Common.{ℕ, ◌+◌, List, [], ◌∷◌, Option, sym, subst}
use Rattle.pan_base.specs.Tokens.{Placed}
use Rattle.pan_tree.specs.declared.syntax.Target.{Target}
use Rattle.pan_tree.specs.declared.syntax.Target.TheVariants as target
use Rattle.pan_tree.specs.declared.syntax.StmtKind.TheVariants as s
use Rattle.pan_tree.specs.Nodes.{Expr}
use Rattle.pan_tree.specs.Grammar.{Stmt, Block, Handler, Arguments, no_argument, arguments, Plain, plain, ExprEnd, expr_end, TwoExprs, two_exprs, AStmt, skip, declaration, declaration_call, assignment, assignment_call, shared_load, call, store_words, store_byte, branch, loop, break, continue, return, tail_call, raise, shared_store, foreign, CallEnd, call_end, MayHandle, no_handler, handler, ABlock, block, Stmts, no_stmt, next_stmt}
use Rattle.pan_printer.specs.Canonical.{stmt_pieces}
use Rattle.pan_printer.proofs.TokenTexts.{IsPrintable, Printable}
use Rattle.pan_printer.proofs.StmtLayers.{stmt_skip, stmt_decl, stmt_assign, stmt_store_words, stmt_store_byte, stmt_if, stmt_while, stmt_break, stmt_continue, stmt_call, stmt_return, stmt_tail_call, stmt_raise, stmt_shared_load, stmt_shared_store, stmt_foreign}
use Rattle.pan_printer.proofs.StmtSpans.{call_of}
use Rattle.pan_printer.proofs.ShapeReading.{May}
use Rattle.pan_printer.proofs.ExprReading.{Again, none_again, more_again}
use Rattle.pan_printer.proofs.ExprAgain.{ExprAgain, expr_again, exprs_again}
use Rattle.pan_printer.proofs.PartReading.{ArgsAgain, no_args_again, args_again, PlainAgain, plain_again, StmtAgain, StmtsAgain, no_stmts_again, stmts_again, BlockAgain, block_again, HandlerAgain, no_handler_again, handler_again}
use Rattle.pan_printer.proofs.StmtReading.{skip_again, break_again, continue_again, decl_again, assign_again, shared_load_again, return_again, raise_again, store_words_again, store_byte_again, shared_store_again, while_again, if_again, tail_again, GoodTarget, call_again, foreign_again}

-- ---- parts

record TwoAgain (x y : Expr) (b : List Placed) : Type 0 where
  left : Again x.kind
  right : Again y.kind
  behind : Printable b

record ArgumentsAgain (xs : List Expr) (b : List Placed) : Type 0 where
  args : ArgsAgain xs
  behind : Printable b

record PlainCallAgain (f : List ℕ) (xs : List Expr) (b : List Placed) : Type 0 where
  called : PlainAgain f xs
  behind : Printable b

end_again : (k : ℕ) (a b : List Placed) (x : Expr) → ExprEnd May k a b x → Printable a → ExprAgain x b
end_again k a b x (expr_end _ t _ _ _ d ends) h =
    let r = expr_again k a (t ∷ b) x d h in
    record { expr = r.expr; behind = (r.behind).1 }

two_again : (k : ℕ) (a b : List Placed) (x y : Expr) → TwoExprs May k a b x y → Printable a → TwoAgain x y b
two_again k a c x y (two_exprs _ t _ b _ _ _ d is ends) h =
    let first = expr_again k a (t ∷ b) x d h in
    let second = end_again k b c y ends (first.behind).1 in
    record { left = first.expr; right = second.expr; behind = second.behind }

arguments_again : (k : ℕ) (a b : List Placed) (xs : List Expr) → Arguments May k a b xs → Printable a → ArgumentsAgain xs b
arguments_again k _ b _ (no_argument _ _) h = record { args = no_args_again; behind = h }
arguments_again k a c _ (arguments _ _ b _ x xs first others) h =
    let r = expr_again k a b x first h in
    let rs = exprs_again k b c xs others r.behind in
    record { args = args_again x xs r.expr rs.exprs; behind = rs.behind }

plain_call_again : (k : ℕ) (a b : List Placed) (f : List ℕ) (xs : List Expr) → Plain May k a b f xs → Printable a → PlainCallAgain f xs b
plain_call_again k _ b f xs (plain _ t u v a _ _ _ named opens inside closes) h =
    let r = arguments_again k a (v ∷ b) xs inside (h.1).1 in
    record { called = plain_again f xs (subst IsPrintable named h.0) r.args; behind = (r.behind).1 }

-- ---- statements

-- the statement is read as printed, and the tokens behind it can be printed
pub record StatementAgain (x : Stmt) (b : List Placed) : Type 0 where
  pub stmt : StmtAgain (stmt_pieces x) x.kind
  pub behind : Printable b

record CallAgain (f : List ℕ) (xs : List Expr) (h : Option Handler) (b : List Placed) : Type 0 where
  called : PlainAgain f xs
  caught : HandlerAgain h
  behind : Printable b

record CaughtAgain (h : Option Handler) (b : List Placed) : Type 0 where
  caught : HandlerAgain h
  behind : Printable b

pub record BracedAgain (x : Block) (b : List Placed) : Type 0 where
  pub inside : BlockAgain x
  pub behind : Printable b

record StatementsAgain (xs : List Stmt) (b : List Placed) : Type 0 where
  stmts : StmtsAgain xs
  behind : Printable b

with_call : (into : Target) (f : List ℕ) (xs : List Expr) (h : Option Handler) (b : List Placed) → GoodTarget into → CallAgain f xs h b → StmtAgain (stmt_pieces (record { kind = s.Call (call_of into f xs h); span = record { start = 0; end = 0 } })) (s.Call (call_of into f xs h))
with_call into f xs h b g r = subst (λ ps. StmtAgain ps (s.Call (call_of into f xs h))) (sym (stmt_call (call_of into f xs h))) (call_again into f xs h g r.called r.caught)

mutual
  pub stmt_again : (k : ℕ) (a b : List Placed) (x : Stmt) → AStmt May k a b x → Printable a → StatementAgain x b
  stmt_again k _ b _ (skip _ t u _ is ends) h = record { stmt = subst (λ ps. StmtAgain ps s.Skip) (sym stmt_skip) skip_again; behind = (h.1).1 }
  stmt_again k _ b _ (declaration _ t u v a _ x y is named assigns ends) h =
      let r = end_again k a b y ends ((h.1).1).1 in
      record { stmt = subst (λ ps. StmtAgain ps (s.Decl x y)) (sym (stmt_decl x y)) (decl_again x y (subst IsPrintable named (h.1).0) r.expr); behind = r.behind }
  stmt_again k _ b _ (declaration_call _ t u v a _ x f ys c is named assigns d) h =
      let r = call_end_again k a b f ys c d ((h.1).1).1 in
      record { stmt = with_call (target.New x) f ys c b (subst IsPrintable named (h.1).0) r; behind = r.behind }
  stmt_again k _ b _ (assignment _ t u a _ x y named assigns ends) h =
      let r = end_again k a b y ends (h.1).1 in
      record { stmt = subst (λ ps. StmtAgain ps (s.Assign x y)) (sym (stmt_assign x y)) (assign_again x y (subst IsPrintable named h.0) r.expr); behind = r.behind }
  stmt_again k _ b _ (assignment_call _ t u a _ x f ys c named assigns d) h =
      let r = call_end_again k a b f ys c d (h.1).1 in
      record { stmt = with_call (target.Old x) f ys c b (subst IsPrintable named h.0) r; behind = r.behind }
  stmt_again k _ b _ (shared_load _ t u v a _ x n y named assigns loads ends) h =
      let r = end_again k a b y ends ((h.1).1).1 in
      record { stmt = subst (λ ps. StmtAgain ps (s.SharedLoad n x y)) (sym (stmt_shared_load n x y)) (shared_load_again n x y (subst IsPrintable named h.0) r.expr); behind = r.behind }
  stmt_again k a b _ (call _ _ _ f ys c d) h =
      let r = call_end_again k a b f ys c d h in
      record { stmt = with_call target.Nothing f ys c b tt r; behind = r.behind }
  stmt_again k _ b _ (store_words _ t a _ x y is d) h =
      let r = two_again k a b x y d h.1 in
      record { stmt = subst (λ ps. StmtAgain ps (s.StoreWords x y)) (sym (stmt_store_words x y)) (store_words_again x y r.left r.right); behind = r.behind }
  stmt_again k _ b _ (store_byte _ t a _ x y is d) h =
      let r = two_again k a b x y d h.1 in
      record { stmt = subst (λ ps. StmtAgain ps (s.StoreByte x y)) (sym (stmt_store_byte x y)) (store_byte_again x y r.left r.right); behind = r.behind }
  stmt_again k _ d _ (branch _ t u a b c _ x y z is first then_do elses else_do) h =
      let r = expr_again k a b x first h.1 in
      let one = block_stmts_again k b (u ∷ c) y then_do r.behind in
      let other = block_stmts_again k c d z else_do (one.behind).1 in
      record { stmt = subst (λ ps. StmtAgain ps (s.If x y z)) (sym (stmt_if x y z)) (if_again x y z r.expr one.inside other.inside); behind = other.behind }
  stmt_again k _ c _ (loop _ t a b _ x y is first body) h =
      let r = expr_again k a b x first h.1 in
      let inside = block_stmts_again k b c y body r.behind in
      record { stmt = subst (λ ps. StmtAgain ps (s.While x y)) (sym (stmt_while x y)) (while_again x y r.expr inside.inside); behind = inside.behind }
  stmt_again k _ b _ (break _ t u _ is ends) h = record { stmt = subst (λ ps. StmtAgain ps s.Break) (sym stmt_break) break_again; behind = (h.1).1 }
  stmt_again k _ b _ (continue _ t u _ is ends) h = record { stmt = subst (λ ps. StmtAgain ps s.Continue) (sym stmt_continue) continue_again; behind = (h.1).1 }
  stmt_again k _ b _ (return _ t a _ x is ends) h =
      let r = end_again k a b x ends h.1 in
      record { stmt = subst (λ ps. StmtAgain ps (s.Return x)) (sym (stmt_return x)) (return_again x r.expr); behind = r.behind }
  stmt_again k _ b _ (tail_call _ t u a _ f xs is d ends) h =
      let r = plain_call_again k a (u ∷ b) f xs d h.1 in
      record { stmt = subst (λ ps. StmtAgain ps (s.TailCall f xs)) (sym (stmt_tail_call f xs)) (tail_again f xs r.called); behind = (r.behind).1 }
  stmt_again k _ b _ (raise _ t u a _ x y is named ends) h =
      let r = end_again k a b y ends (h.1).1 in
      record { stmt = subst (λ ps. StmtAgain ps (s.Raise x y)) (sym (stmt_raise x y)) (raise_again x y (subst IsPrintable named (h.1).0) r.expr); behind = r.behind }
  stmt_again k _ b _ (shared_store _ t a _ n x y is d) h =
      let r = two_again k a b x y d h.1 in
      record { stmt = subst (λ ps. StmtAgain ps (s.SharedStore n x y)) (sym (stmt_shared_store n x y)) (shared_store_again n x y r.left r.right); behind = r.behind }
  stmt_again k _ e _ (foreign _ t u v w m n o a b c d _ f p q r z is opens d1 v_is d2 w_is d3 m_is d4 closes ends) h =
      let r1 = expr_again k a (v ∷ b) p d1 (h.1).1 in
      let r2 = expr_again k b (w ∷ c) q d2 (r1.behind).1 in
      let r3 = expr_again k c (m ∷ d) r d3 (r2.behind).1 in
      let r4 = expr_again k d (n ∷ o ∷ e) z d4 (r3.behind).1 in
      record {
        stmt = subst (λ ps. StmtAgain ps (s.Foreign f p q r z)) (sym (stmt_foreign f p q r z)) (foreign_again f p q r z (subst IsPrintable is h.0) r1.expr (more_again q (r ∷ z ∷ []) r2.expr (more_again r (z ∷ []) r3.expr (more_again z [] r4.expr none_again))));
        behind = ((r4.behind).1).1;
      }

  call_end_again : (k : ℕ) (a b : List Placed) (f : List ℕ) (xs : List Expr) (c : Option Handler) → CallEnd May k a b f xs c → Printable a → CallAgain f xs c b
  call_end_again k a c f xs i (call_end _ t _ b _ _ _ _ d may ends) h =
      let r = plain_call_again k a b f xs d h in
      let caught = handle_again k b (t ∷ c) i may r.behind in
      record { called = r.called; caught = caught.caught; behind = (caught.behind).1 }

  handle_again : (k : ℕ) (a b : List Placed) (c : Option Handler) → MayHandle May k a b c → Printable a → CaughtAgain c b
  handle_again k _ b _ (no_handler _ _) h = record { caught = no_handler_again; behind = h }
  handle_again k _ b _ (handler _ t u v a _ i x y handles named bound body) h =
      let inside = block_stmts_again k a b y body ((h.1).1).1 in
      record { caught = handler_again i x y (subst IsPrintable named (h.1).0) (subst IsPrintable bound ((h.1).1).0) inside.inside; behind = inside.behind }

  pub block_stmts_again : (k : ℕ) (a b : List Placed) (x : Block) → ABlock May k a b x → Printable a → BracedAgain x b
  block_stmts_again k _ b _ (block _ t u a _ xs opens may inside closes) h =
      let r = all_again (k + 1) a (u ∷ b) xs inside h.1 in
      record { inside = block_again xs r.stmts; behind = (r.behind).1 }

  all_again : (k : ℕ) (a b : List Placed) (xs : List Stmt) → Stmts May k a b xs → Printable a → StatementsAgain xs b
  all_again k _ b _ (no_stmt _ _) h = record { stmts = no_stmts_again; behind = h }
  all_again k a c _ (next_stmt _ _ b _ x xs first others) h =
      let r = stmt_again k a b x first h in
      let rs = all_again k b c xs others r.behind in
      record { stmts = stmts_again x xs r.stmt rs.stmts; behind = rs.behind }
