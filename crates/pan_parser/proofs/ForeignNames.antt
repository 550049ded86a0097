-- The foreign names of a tree are those of its tokens: where each token is spelled, they are lawful.
use Rattle.std.proofs.Common.{◌≡◌, ℕ, Bool, true, ◌&&◌, List, map, Option, Some, None, refl, sym, ap, ap₂, subst, ◌∙◌, IsTrue}
use Rattle.std.specs.List.{All, AllByRecursion, list_all}
use Rattle.std.proofs.lemmas.Bool.{and_from}
use Rattle.std.proofs.lemmas.List.Elements.{recursion_from_All}
use Rattle.std.proofs.lemmas.List.Folds.{list_all-map}
use Rattle.pan_base.specs.Tokens.{Placed, Foreign}
use Rattle.pan_base.specs.Names.{is_foreign_name}
use Rattle.pan_lexer.specs.TokenRow.{IsSpelled}
use Rattle.pan_tree.specs.declared.spanned.Spanned.{Spanned}
use Rattle.pan_tree.specs.declared.syntax.Target.{Target}
use Rattle.pan_tree.specs.declared.syntax.Target.TheVariants as target
use Rattle.pan_tree.specs.declared.syntax.StmtKind.{StmtKind, StmtKind-F, fold-roll-StmtKind, roll-StmtKind, map-StmtKind}
use Rattle.pan_tree.specs.declared.syntax.StmtKind.TheOpen as open_stmt
use Rattle.pan_tree.specs.declared.syntax.StmtKind.TheVariants as s
use Rattle.pan_tree.specs.declared.program.Exception.{Exception}
use Rattle.pan_tree.specs.declared.program.Function.{Function}
use Rattle.pan_tree.specs.declared.program.Program.{Program}
use Rattle.pan_tree.specs.Check.{lawful_layer, lawful_kind, HasLawfulNames}
use Rattle.pan_tree.specs.Nodes.{Expr}
use Rattle.pan_tree.specs.Grammar.{Stmt, Block, Handler, AnExpr, ExprEnd, TwoExprs, AStmt, skip, declaration, declaration_call, assignment, assignment_call, shared_load, call, store_words, store_byte, branch, loop, break, continue, return, tail_call, raise, shared_store, foreign, CallEnd, call_end, MayHandle, no_handler, handler, ABlock, block, Stmts, no_stmt, next_stmt, AFunction, function, Items, no_item, next_exception, next_function, Within, Tree}
use Rattle.pan_tree.proofs.CheckLayers.{lawful_at}
use Rattle.pan_parser.proofs.Tails.{after_expr, after_plain, after_end, after_two, after_params, after_result, after_exception}

-- ---- at each variant

abbrev lawful_block : Block → Bool
lawful_block b = list_all (λ (x : Stmt). lawful_kind x.kind) b.stmts

abbrev lawful_handler : Option Handler → Bool
lawful_handler None = true
lawful_handler (Some h) = lawful_block h.body

abbrev lawful_stmt : Stmt → Spanned Bool
lawful_stmt x = record { kind = lawful_kind x.kind; span = x.span }

block_same : (b : Block) → list_all (λ (x : Spanned Bool). x.kind) (map lawful_stmt b.stmts) ≡ lawful_block b
block_same b = list_all-map (λ (x : Spanned Bool). x.kind) lawful_stmt b.stmts

lawful_if : (x : Expr) (y z : Block) → lawful_kind (s.If x y z) ≡ (lawful_block y && lawful_block z)
lawful_if x y z = lawful_at (open_stmt.If x y z) (s.If x y z) (s.rolls-If x y z) ∙ ap₂ ◌&&◌ (block_same y) (block_same z)

lawful_while : (x : Expr) (y : Block) → lawful_kind (s.While x y) ≡ lawful_block y
lawful_while x y = lawful_at (open_stmt.While x y) (s.While x y) (s.rolls-While x y) ∙ block_same y

lawful_call : (into : Target) (f : List ℕ) (xs : List Expr) (h : Option Handler) → lawful_kind (s.Call (record { into = into; function = f; args = xs; handler = h })) ≡ lawful_handler h
lawful_call into f xs None =
    lawful_at (open_stmt.Call (record { into = into; function = f; args = xs; handler = None })) _ (s.rolls-Call (record { into = into; function = f; args = xs; handler = None }))
lawful_call into f xs (Some h) =
    lawful_at (open_stmt.Call (record { into = into; function = f; args = xs; handler = Some h })) _ (s.rolls-Call (record { into = into; function = f; args = xs; handler = Some h })) ∙ block_same h.body

lawful_foreign : (f : List ℕ) (x y z w : Expr) → lawful_kind (s.Foreign f x y z w) ≡ is_foreign_name f
lawful_foreign f x y z w = lawful_at (open_stmt.Foreign f x y z w) (s.Foreign f x y z w) (s.rolls-Foreign f x y z w)

-- ---- tokens

abbrev HasSpelling : Placed → Type 0
HasSpelling t = IsSpelled t.kind

abbrev Spelled : List Placed → Type 0
Spelled = AllByRecursion HasSpelling

name_lawful : (x : List ℕ) → IsSpelled (Foreign x) → IsTrue (is_foreign_name x)
name_lawful x h = and_from _ _ (and_from _ _ h.1.1 h.1.2) h.1.3

called : (into : Target) (f : List ℕ) (xs : List Expr) (i : Option Handler) (b : List Placed) → IsTrue (lawful_handler i) × Spelled b
    → IsTrue (lawful_kind (s.Call (record { into = into; function = f; args = xs; handler = i }))) × Spelled b
called into f xs i b h = (lawful_call into f xs i ∙ h.0, h.1)

module _ (May : ℕ → List Placed → Type 0) where
  after : {k : ℕ} {a b : List Placed} {x : Expr} → AnExpr May k a b x → Spelled a → Spelled b
  after p h = after_expr May HasSpelling p h

  ended : {k : ℕ} {a b : List Placed} {x : Expr} → ExprEnd May k a b x → Spelled a → Spelled b
  ended p h = after_end May HasSpelling p h

  two_ended : {k : ℕ} {a b : List Placed} {x y : Expr} → TwoExprs May k a b x y → Spelled a → Spelled b
  two_ended p h = after_two May HasSpelling p h

  -- ---- the foreign names of a part are lawful, and the tokens behind it are spelled

  mutual
    stmt_lawful : {k : ℕ} {a b : List Placed} {x : Stmt} → AStmt May k a b x → Spelled a → IsTrue (lawful_kind x.kind) × Spelled b
    stmt_lawful (skip k t u a m n) h = (lawful_at open_stmt.Skip s.Skip s.rolls-Skip, (h.1).1)
    stmt_lawful (declaration k t u v a b x y m n o p) h = (lawful_at (open_stmt.Decl x y) (s.Decl x y) (s.rolls-Decl x y), ended p ((h.1).1).1)
    stmt_lawful (declaration_call k t u v a b x f ys i m n o p) h = called (target.New x) f ys i b (call_lawful p ((h.1).1).1)
    stmt_lawful (assignment k t u a b x y m n p) h = (lawful_at (open_stmt.Assign x y) (s.Assign x y) (s.rolls-Assign x y), ended p (h.1).1)
    stmt_lawful (assignment_call k t u a b x f ys i m n p) h = called (target.Old x) f ys i b (call_lawful p (h.1).1)
    stmt_lawful (shared_load k t u v a b x n y m o l p) h = (lawful_at (open_stmt.SharedLoad n x y) (s.SharedLoad n x y) (s.rolls-SharedLoad n x y), ended p ((h.1).1).1)
    stmt_lawful (call k a b f ys i p) h = called target.Nothing f ys i b (call_lawful p h)
    stmt_lawful (store_words k t a b x y m p) h = (lawful_at (open_stmt.StoreWords x y) (s.StoreWords x y) (s.rolls-StoreWords x y), two_ended p h.1)
    stmt_lawful (store_byte k t a b x y m p) h = (lawful_at (open_stmt.StoreByte x y) (s.StoreByte x y) (s.rolls-StoreByte x y), two_ended p h.1)
    stmt_lawful (branch k t u a b c d x y z m p q n r) h =
        let first = block_lawful q (after p h.1) in
        let second = block_lawful r (first.1).1 in
        (lawful_if x y z ∙ and_from (lawful_block y) (lawful_block z) first.0 second.0, second.1)
    stmt_lawful (loop k t a b c x y m p q) h = let body = block_lawful q (after p h.1) in (lawful_while x y ∙ body.0, body.1)
    stmt_lawful (break k t u a m n) h = (lawful_at open_stmt.Break s.Break s.rolls-Break, (h.1).1)
    stmt_lawful (continue k t u a m n) h = (lawful_at open_stmt.Continue s.Continue s.rolls-Continue, (h.1).1)
    stmt_lawful (return k t a b x m p) h = (lawful_at (open_stmt.Return x) (s.Return x) (s.rolls-Return x), ended p h.1)
    stmt_lawful (tail_call k t u a b f xs m p n) h =
        (lawful_at (open_stmt.TailCall f xs) (s.TailCall f xs) (s.rolls-TailCall f xs), (after_plain May HasSpelling p h.1).1)
    stmt_lawful (raise k t u a b x y m n p) h = (lawful_at (open_stmt.Raise x y) (s.Raise x y) (s.rolls-Raise x y), ended p (h.1).1)
    stmt_lawful (shared_store k t a b n x y m p) h = (lawful_at (open_stmt.SharedStore n x y) (s.SharedStore n x y) (s.rolls-SharedStore n x y), two_ended p h.1)
    stmt_lawful (foreign k t u v w l n o a b c d f x p q r z m i p1 i1 p2 i2 p3 i3 p4 i4 i5) h =
        let fourth = after p3 (after p2 (after p1 (h.1).1).1).1 in
        (lawful_foreign x p q r z ∙ name_lawful x (subst IsSpelled m h.0), ((after p4 fourth.1).1).1)

    call_lawful : {k : ℕ} {a b : List Placed} {f : List ℕ} {xs : List Expr} {i : Option Handler} → CallEnd May k a b f xs i → Spelled a → IsTrue (lawful_handler i) × Spelled b
    call_lawful (call_end k t a b c f xs i p q m) h =
        let caught = handler_lawful q (after_plain May HasSpelling p h) in
        (caught.0, (caught.1).1)

    handler_lawful : {k : ℕ} {a b : List Placed} {i : Option Handler} → MayHandle May k a b i → Spelled a → IsTrue (lawful_handler i) × Spelled b
    handler_lawful (no_handler k a) h = (refl, h)
    handler_lawful (handler k t u v a b i x y m n o p) h = block_lawful p ((h.1).1).1

    block_lawful : {k : ℕ} {a b : List Placed} {y : Block} → ABlock May k a b y → Spelled a → IsTrue (lawful_block y) × Spelled b
    block_lawful (block k t u a b xs m o p n) h = let inner = stmts_lawful p h.1 in (inner.0, (inner.1).1)

    stmts_lawful : {k : ℕ} {a b : List Placed} {xs : List Stmt} → Stmts May k a b xs → Spelled a → IsTrue (list_all (λ (x : Stmt). lawful_kind x.kind) xs) × Spelled b
    stmts_lawful (no_stmt k a) h = (refl, h)
    stmts_lawful (next_stmt k a b c x xs p q) h =
        let one = stmt_lawful p h in
        let others = stmts_lawful q one.1 in
        (and_from (lawful_kind x.kind) (list_all (λ (x : Stmt). lawful_kind x.kind) xs) one.0 others.0, others.1)

  -- ---- programs

  function_lawful : {a b : List Placed} {f : Function} → AFunction May a b f → Spelled a → IsTrue (lawful_block f.body) × Spelled b
  function_lawful (function t u v w a b c d z f xs y m p n o q r body) h =
      let named = after_result May HasSpelling p h.1 in
      block_lawful body (after_params May HasSpelling q (named.1).1).1

  items_lawful : {a : List Placed} {xs : List Exception} {fs : List Function} → Items May a xs fs → Spelled a → IsTrue (list_all (λ (f : Function). lawful_block f.body) fs)
  items_lawful no_item h = refl
  items_lawful (next_exception a b x xs fs p q) h = items_lawful q (after_exception May HasSpelling p h)
  items_lawful (next_function a b f xs fs p q) h =
      let one = function_lawful p h in
      and_from (lawful_block f.body) (list_all (λ (f : Function). lawful_block f.body) fs) one.0 (items_lawful q one.1)

-- Each foreign name of the tree is lawful, where each token is spelled.
pub lawful_tree : (tokens : List Placed) (p : Program) → Tree tokens p → All (λ t. IsSpelled t.kind) tokens → HasLawfulNames p
lawful_tree tokens p tree spelled = items_lawful Within tree (recursion_from_All HasSpelling tokens spelled)
