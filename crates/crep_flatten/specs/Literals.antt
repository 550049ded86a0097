-- The numbers of a source's text are words.
use Rattle.std.specs.Prelude.{nat_lt, ◌^◌, ◌&&◌, Bool, true, List, Option, Some, None}
use Rattle.std.specs.List.{list_all}
use Rattle.pan_tree.specs.Nodes.{Expr}
use Rattle.pan_tree.specs.declared.spanned.Spanned.{Spanned}
use Rattle.pan_tree.specs.declared.syntax.ExprKind.{ExprKind, ExprKind-F, fold-ExprKind}
use Rattle.pan_tree.specs.declared.syntax.ExprKind.TheOpen as expr
use Rattle.pan_tree.specs.declared.syntax.StmtKind.{StmtKind, StmtKind-F, fold-StmtKind}
use Rattle.pan_tree.specs.declared.syntax.StmtKind.TheOpen as stmt
use Rattle.pan_tree.specs.declared.syntax.BlockOf.{BlockOf}
use Rattle.pan_tree.specs.declared.syntax.HandlerOf.{HandlerOf}
use Rattle.pan_tree.specs.declared.program.Function.{Function}
use Rattle.pan_tree.specs.declared.program.Program.{Program}

abbrev pub expr_layer : ExprKind-F Bool → Bool
expr_layer (expr.Number n) = nat_lt n (2 ^ 64)
expr_layer (expr.Struct xs) = list_all (λ (x : Spanned Bool). x.kind) xs
expr_layer (expr.Field x is) = x.kind
expr_layer (expr.Load s a) = a.kind
expr_layer (expr.LoadByte a) = a.kind
expr_layer (expr.Neg x) = x.kind
expr_layer (expr.Chain x ys) = x.kind && list_all (λ y. (y.1).kind) ys
expr_layer (expr.Shift x ns) = x.kind
expr_layer (expr.Compare c x y) = x.kind && y.kind
expr_layer _ = true

-- each number of an expression is a word
unfoldable pub expr_fits : ExprKind → Bool
expr_fits = fold-ExprKind Bool expr_layer

abbrev pub fits : Expr → Bool
fits x = expr_fits x.kind

abbrev pub block_fits : BlockOf (Spanned Bool) → Bool
block_fits b = list_all (λ (x : Spanned Bool). x.kind) b.stmts

abbrev pub handler_fits : Option (HandlerOf (Spanned Bool)) → Bool
handler_fits None = true
handler_fits (Some h) = block_fits h.body

abbrev pub stmt_layer : StmtKind-F Bool → Bool
stmt_layer (stmt.Decl x v) = fits v
stmt_layer (stmt.Assign x v) = fits v
stmt_layer (stmt.StoreWords a v) = fits a && fits v
stmt_layer (stmt.StoreByte a v) = fits a && fits v
stmt_layer (stmt.If v a b) = fits v && (block_fits a && block_fits b)
stmt_layer (stmt.While v b) = fits v && block_fits b
stmt_layer (stmt.Call k) = list_all fits k.args && handler_fits k.handler
stmt_layer (stmt.Return v) = fits v
stmt_layer (stmt.TailCall f es) = list_all fits es
stmt_layer (stmt.Raise i v) = fits v
stmt_layer (stmt.SharedLoad size x a) = fits a
stmt_layer (stmt.SharedStore size a v) = fits a && fits v
stmt_layer (stmt.Foreign x a b c d) = fits a && (fits b && (fits c && fits d))
stmt_layer _ = true

-- each number of a statement is a word
unfoldable pub stmt_fits : StmtKind → Bool
stmt_fits = fold-StmtKind Bool stmt_layer

abbrev pub stmts_fit : List (Spanned StmtKind) → Bool
stmts_fit ss = list_all (λ (x : Spanned StmtKind). stmt_fits x.kind) ss

-- each number of what catches an exception is a word
abbrev pub caught_fits : Option (HandlerOf (Spanned StmtKind)) → Bool
caught_fits None = true
caught_fits (Some h) = stmts_fit (h.body).stmts

abbrev pub function_fits : Function → Bool
function_fits f = stmts_fit (f.body).stmts

abbrev pub program_fits : Program → Bool
program_fits p = list_all function_fits p.functions
