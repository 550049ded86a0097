-- Trees without regard to where their parts stand.
use Rattle.std.specs.Prelude.{◌≡◌, map, Option, Some, None}
use Rattle.pan_base.specs.declared.span.Span.{Span}
use Rattle.pan_tree.specs.declared.spanned.Spanned.{Spanned}
use Rattle.pan_tree.specs.declared.syntax.ExprKind.{ExprKind, ExprKind-F, fold-ExprKind}
use Rattle.pan_tree.specs.declared.syntax.ExprKind.TheOpen as expr
use Rattle.pan_tree.specs.declared.syntax.ExprKind.TheVariants as e
use Rattle.pan_tree.specs.declared.syntax.BlockOf.{BlockOf}
use Rattle.pan_tree.specs.declared.syntax.CallOf.{CallOf}
use Rattle.pan_tree.specs.declared.syntax.HandlerOf.{HandlerOf}
use Rattle.pan_tree.specs.declared.syntax.StmtKind.{StmtKind, StmtKind-F, fold-StmtKind}
use Rattle.pan_tree.specs.declared.syntax.StmtKind.TheOpen as stmt
use Rattle.pan_tree.specs.declared.syntax.StmtKind.TheVariants as s
use Rattle.pan_tree.specs.declared.program.Exception.{Exception}
use Rattle.pan_tree.specs.declared.program.Function.{Function}
use Rattle.pan_tree.specs.declared.program.Program.{Program}

abbrev pub no_span : Span
no_span = record { start = 0; end = 0 }

-- the span of the node itself put to 0
abbrev pub bare : {K : Type 0} → Spanned K → Spanned K
bare x = record { kind = x.kind; span = no_span }

-- the spans of an expression's parts put to 0, where those in the parts are 0 already
abbrev pub unspanned_expr_layer : ExprKind-F ExprKind → ExprKind
unspanned_expr_layer (expr.Number n) = e.Number n
unspanned_expr_layer (expr.Var x) = e.Var x
unspanned_expr_layer expr.Base = e.Base
unspanned_expr_layer expr.Biw = e.Biw
unspanned_expr_layer (expr.Struct xs) = e.Struct (map bare xs)
unspanned_expr_layer (expr.Field x is) = e.Field (bare x) is
unspanned_expr_layer (expr.Load z x) = e.Load z (bare x)
unspanned_expr_layer (expr.LoadByte x) = e.LoadByte (bare x)
unspanned_expr_layer (expr.Neg x) = e.Neg (bare x)
unspanned_expr_layer (expr.Chain x ys) = e.Chain (bare x) (map (λ y. (y.0, bare y.1)) ys)
unspanned_expr_layer (expr.Shift x ns) = e.Shift (bare x) ns
unspanned_expr_layer (expr.Compare o x y) = e.Compare o (bare x) (bare y)

unfoldable pub unspanned_kind : ExprKind → ExprKind
unspanned_kind = fold-ExprKind ExprKind unspanned_expr_layer

abbrev pub unspanned_expr : Spanned ExprKind → Spanned ExprKind
unspanned_expr x = record { kind = unspanned_kind x.kind; span = no_span }

abbrev pub bare_block : BlockOf (Spanned StmtKind) → BlockOf (Spanned StmtKind)
bare_block b = record { stmts = map bare b.stmts }

abbrev pub bare_handler : Option (HandlerOf (Spanned StmtKind)) → Option (HandlerOf (Spanned StmtKind))
bare_handler None = None
bare_handler (Some h) = Some (record { exception = h.exception; name = h.name; body = bare_block h.body })

abbrev pub bare_call : CallOf (Spanned StmtKind) → CallOf (Spanned StmtKind)
bare_call c = record { into = c.into; function = c.function; args = map unspanned_expr c.args; handler = bare_handler c.handler }

abbrev pub unspanned_stmt_layer : StmtKind-F StmtKind → StmtKind
unspanned_stmt_layer stmt.Skip = s.Skip
unspanned_stmt_layer (stmt.Decl x e) = s.Decl x (unspanned_expr e)
unspanned_stmt_layer (stmt.Assign x e) = s.Assign x (unspanned_expr e)
unspanned_stmt_layer (stmt.StoreWords a e) = s.StoreWords (unspanned_expr a) (unspanned_expr e)
unspanned_stmt_layer (stmt.StoreByte a e) = s.StoreByte (unspanned_expr a) (unspanned_expr e)
unspanned_stmt_layer (stmt.If e then_do else_do) = s.If (unspanned_expr e) (bare_block then_do) (bare_block else_do)
unspanned_stmt_layer (stmt.While e body) = s.While (unspanned_expr e) (bare_block body)
unspanned_stmt_layer stmt.Break = s.Break
unspanned_stmt_layer stmt.Continue = s.Continue
unspanned_stmt_layer (stmt.Call c) = s.Call (bare_call c)
unspanned_stmt_layer (stmt.Return e) = s.Return (unspanned_expr e)
unspanned_stmt_layer (stmt.TailCall f args) = s.TailCall f (map unspanned_expr args)
unspanned_stmt_layer (stmt.Raise x e) = s.Raise x (unspanned_expr e)
unspanned_stmt_layer (stmt.SharedLoad n x a) = s.SharedLoad n x (unspanned_expr a)
unspanned_stmt_layer (stmt.SharedStore n a e) = s.SharedStore n (unspanned_expr a) (unspanned_expr e)
unspanned_stmt_layer (stmt.Foreign f a b c d) = s.Foreign f (unspanned_expr a) (unspanned_expr b) (unspanned_expr c) (unspanned_expr d)

unfoldable pub unspanned_stmt_kind : StmtKind → StmtKind
unspanned_stmt_kind = fold-StmtKind StmtKind unspanned_stmt_layer

abbrev pub unspanned_stmt : Spanned StmtKind → Spanned StmtKind
unspanned_stmt s = record { kind = unspanned_stmt_kind s.kind; span = no_span }

abbrev pub unspanned_block : BlockOf (Spanned StmtKind) → BlockOf (Spanned StmtKind)
unspanned_block b = record { stmts = map unspanned_stmt b.stmts }

abbrev pub unspanned_exception : Exception → Exception
unspanned_exception x = record { name = x.name; shape = x.shape; span = no_span }

abbrev pub unspanned_function : Function → Function
unspanned_function f = record { name = f.name; params = f.params; result = f.result; body = unspanned_block f.body; span = no_span }

abbrev pub unspanned : Program → Program
unspanned p = record { exceptions = map unspanned_exception p.exceptions; functions = map unspanned_function p.functions }

-- the same tree, but for where its parts stand
abbrev pub SameButSpans : Program → Program → Type 0
SameButSpans p q = unspanned p ≡ unspanned q
