-- Statements without their spans, at each variant: they are printed alike.
use Rattle.std.proofs.Common.{◌≡◌, ℕ, List, map, Option, Some, None, sym, ap, ◌∙◌}
use Rattle.std.proofs.lemmas.Simd.{map-map}
use Rattle.pan_base.specs.declared.events.Size.{Size}
use Rattle.pan_tree.specs.declared.syntax.Target.{Target}
use Rattle.pan_tree.specs.declared.syntax.CallOf.{CallOf}
use Rattle.pan_tree.specs.declared.syntax.StmtKind.{StmtKind, StmtKind-F, fold-roll-StmtKind, roll-StmtKind, map-StmtKind}
use Rattle.pan_tree.specs.declared.syntax.StmtKind.TheOpen as open_stmt
use Rattle.pan_tree.specs.declared.syntax.StmtKind.TheVariants as s
use Rattle.pan_tree.specs.Nodes.{Expr}
use Rattle.pan_tree.specs.Grammar.{Stmt, Block, Handler}
use Rattle.pan_printer.specs.Unspanned.{bare, unspanned_expr, unspanned_stmt_layer, unspanned_stmt_kind, unspanned_stmt, unspanned_block}

-- ---- the equations

unspanned_roll : (x : StmtKind-F StmtKind) → unspanned_stmt_kind (roll-StmtKind x) ≡ unspanned_stmt_layer (map-StmtKind StmtKind StmtKind unspanned_stmt_kind x)
unfolding unspanned_stmt_kind
unspanned_roll x = fold-roll-StmtKind StmtKind unspanned_stmt_layer x

at_variant : (y : StmtKind-F StmtKind) (x : StmtKind) → roll-StmtKind y ≡ x → unspanned_stmt_kind x ≡ unspanned_stmt_layer (map-StmtKind StmtKind StmtKind unspanned_stmt_kind y)
at_variant y x is = ap unspanned_stmt_kind (sym is) ∙ unspanned_roll y

pub bare_skip : unspanned_stmt_kind s.Skip ≡ s.Skip
bare_skip = at_variant open_stmt.Skip _ s.rolls-Skip

pub bare_decl : (x : List ℕ) (e : Expr) → unspanned_stmt_kind (s.Decl x e) ≡ s.Decl x (unspanned_expr e)
bare_decl x e = at_variant (open_stmt.Decl x e) _ (s.rolls-Decl x e)

pub bare_assign : (x : List ℕ) (e : Expr) → unspanned_stmt_kind (s.Assign x e) ≡ s.Assign x (unspanned_expr e)
bare_assign x e = at_variant (open_stmt.Assign x e) _ (s.rolls-Assign x e)

pub bare_store_words : (a e : Expr) → unspanned_stmt_kind (s.StoreWords a e) ≡ s.StoreWords (unspanned_expr a) (unspanned_expr e)
bare_store_words a e = at_variant (open_stmt.StoreWords a e) _ (s.rolls-StoreWords a e)

pub bare_store_byte : (a e : Expr) → unspanned_stmt_kind (s.StoreByte a e) ≡ s.StoreByte (unspanned_expr a) (unspanned_expr e)
bare_store_byte a e = at_variant (open_stmt.StoreByte a e) _ (s.rolls-StoreByte a e)

-- the statements of a block
abbrev of_stmts : List Stmt → Block
of_stmts ss = record { stmts = ss }

abbrev part : Stmt → Stmt
part s = record { kind = unspanned_stmt_kind s.kind; span = s.span }

stmts_bare : (ss : List Stmt) → map bare (map part ss) ≡ map unspanned_stmt ss
stmts_bare ss = map-map bare part ss

pub bare_if : (e : Expr) (a b : Block) → unspanned_stmt_kind (s.If e a b) ≡ s.If (unspanned_expr e) (unspanned_block a) (unspanned_block b)
bare_if e a b =
    at_variant (open_stmt.If e a b) _ (s.rolls-If e a b)
    ∙ ap (λ ss. s.If (unspanned_expr e) (of_stmts ss) (of_stmts (map bare (map part b.stmts)))) (stmts_bare a.stmts)
    ∙ ap (λ ss. s.If (unspanned_expr e) (unspanned_block a) (of_stmts ss)) (stmts_bare b.stmts)

pub bare_while : (e : Expr) (b : Block) → unspanned_stmt_kind (s.While e b) ≡ s.While (unspanned_expr e) (unspanned_block b)
bare_while e b = at_variant (open_stmt.While e b) _ (s.rolls-While e b) ∙ ap (λ ss. s.While (unspanned_expr e) (of_stmts ss)) (stmts_bare b.stmts)

pub bare_break : unspanned_stmt_kind s.Break ≡ s.Break
bare_break = at_variant open_stmt.Break _ s.rolls-Break

pub bare_continue : unspanned_stmt_kind s.Continue ≡ s.Continue
bare_continue = at_variant open_stmt.Continue _ s.rolls-Continue

abbrev pub unspanned_handler : Option Handler → Option Handler
unspanned_handler None = None
unspanned_handler (Some h) = Some (record { exception = h.exception; name = h.name; body = unspanned_block h.body })

abbrev pub call_of : Target → List ℕ → List Expr → Option Handler → CallOf Stmt
call_of into f args h = record { into = into; function = f; args = args; handler = h }

bare_call_by : (into : Target) (f : List ℕ) (args : List Expr) (h : Option Handler) → unspanned_stmt_kind (s.Call (call_of into f args h)) ≡ s.Call (call_of into f (map unspanned_expr args) (unspanned_handler h))
bare_call_by into f args None = at_variant (open_stmt.Call (call_of into f args None)) _ (s.rolls-Call (call_of into f args None))
bare_call_by into f args (Some h) =
    at_variant (open_stmt.Call (call_of into f args (Some h))) _ (s.rolls-Call (call_of into f args (Some h)))
    ∙ ap (λ ss. s.Call (call_of into f (map unspanned_expr args) (Some (record { exception = h.exception; name = h.name; body = of_stmts ss })))) (stmts_bare (h.body).stmts)

pub bare_call_at : (c : CallOf Stmt) → unspanned_stmt_kind (s.Call c) ≡ s.Call (call_of c.into c.function (map unspanned_expr c.args) (unspanned_handler c.handler))
bare_call_at c = bare_call_by c.into c.function c.args c.handler

pub bare_return : (e : Expr) → unspanned_stmt_kind (s.Return e) ≡ s.Return (unspanned_expr e)
bare_return e = at_variant (open_stmt.Return e) _ (s.rolls-Return e)

pub bare_tail_call : (f : List ℕ) (args : List Expr) → unspanned_stmt_kind (s.TailCall f args) ≡ s.TailCall f (map unspanned_expr args)
bare_tail_call f args = at_variant (open_stmt.TailCall f args) _ (s.rolls-TailCall f args)

pub bare_raise : (x : List ℕ) (e : Expr) → unspanned_stmt_kind (s.Raise x e) ≡ s.Raise x (unspanned_expr e)
bare_raise x e = at_variant (open_stmt.Raise x e) _ (s.rolls-Raise x e)

pub bare_shared_load : (n : Size) (x : List ℕ) (a : Expr) → unspanned_stmt_kind (s.SharedLoad n x a) ≡ s.SharedLoad n x (unspanned_expr a)
bare_shared_load n x a = at_variant (open_stmt.SharedLoad n x a) _ (s.rolls-SharedLoad n x a)

pub bare_shared_store : (n : Size) (a e : Expr) → unspanned_stmt_kind (s.SharedStore n a e) ≡ s.SharedStore n (unspanned_expr a) (unspanned_expr e)
bare_shared_store n a e = at_variant (open_stmt.SharedStore n a e) _ (s.rolls-SharedStore n a e)

pub bare_foreign : (f : List ℕ) (a b c d : Expr) → unspanned_stmt_kind (s.Foreign f a b c d) ≡ s.Foreign f (unspanned_expr a) (unspanned_expr b) (unspanned_expr c) (unspanned_expr d)
bare_foreign f a b c d = at_variant (open_stmt.Foreign f a b c d) _ (s.rolls-Foreign f a b c d)
