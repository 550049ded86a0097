-- Programs with their names resolved: a variable is its place, the number of variables that are declared before it and aren't gone yet.
-- A function, an exception and a foreign name are their numbers.
use Rattle.std.specs.Prelude.{ℕ, ◌+◌, List, [], ◌∷◌, map, length, Option, Some, None, codes}
use Rattle.pan_base.specs.Words.{base_address, bytes_in_word}
use Rattle.pan_tree.specs.Scopes.{ScopeOf, ScopesOf, innermost, declare}
use Rattle.pan_tree.specs.Check.{function_of, result_of}
use Rattle.pan_tree.specs.Meaning.{function_index, exception_index, foreign_index}
use Rattle.pan_tree.specs.declared.shape.Shape.{Shape}
use Rattle.pan_tree.specs.declared.spanned.Spanned.{Spanned}
use Rattle.pan_tree.specs.declared.syntax.ExprKind.{ExprKind, ExprKind-F, fold-ExprKind}
use Rattle.pan_tree.specs.declared.syntax.ExprKind.TheOpen as source_expr
use Rattle.pan_tree.specs.declared.syntax.StmtKind.{StmtKind, StmtKind-F, fold-StmtKind}
use Rattle.pan_tree.specs.declared.syntax.StmtKind.TheOpen as source_stmt
use Rattle.pan_tree.specs.declared.syntax.Target.{Target as SourceTarget}
use Rattle.pan_tree.specs.declared.syntax.Target.TheVariants as source_target
use Rattle.pan_tree.specs.declared.syntax.BlockOf.{BlockOf}
use Rattle.pan_tree.specs.declared.syntax.HandlerOf.{HandlerOf as SourceHandler}
use Rattle.pan_tree.specs.declared.syntax.CallOf.{CallOf as SourceCall}
use Rattle.pan_tree.specs.declared.program.Param.{Param}
use Rattle.pan_tree.specs.declared.program.Function.{Function as SourceFunction}
use Rattle.pan_tree.specs.declared.program.Program.{Program as Source}
use Rattle.source_resolver.specs.declared.resolved.Expr.{Expr}
use Rattle.source_resolver.specs.declared.resolved.Expr.TheVariants as expr
use Rattle.source_resolver.specs.declared.resolved.Stmt.{Stmt}
use Rattle.source_resolver.specs.declared.resolved.Stmt.TheVariants as stmt
use Rattle.source_resolver.specs.declared.resolved.Target.{Target}
use Rattle.source_resolver.specs.declared.resolved.Target.TheVariants as target
use Rattle.source_resolver.specs.declared.resolved.CallOf.{CallOf}
use Rattle.source_resolver.specs.declared.resolved.HandlerOf.{HandlerOf}
use Rattle.source_resolver.specs.declared.resolved.Function.{Function}
use Rattle.source_resolver.specs.declared.resolved.Program.{Program}

-- the variables of the blocks that are open, with their places
abbrev pub Places : Type 0
Places = ScopesOf ℕ

-- how many variables the blocks have
abbrev pub count : {A : Type 0} → ScopesOf A → ℕ
count [] = 0
count (scope ∷ scopes) = count scopes + length scope

-- the innermost block has the variable besides
abbrev pub with_variable : List ℕ → Places → Places
with_variable x v = declare x (count v) v

-- ---- expressions

abbrev pub resolved_expr_layer : ExprKind-F (Places → Expr) → Places → Expr
resolved_expr_layer (source_expr.Number n) v = expr.Number n
resolved_expr_layer (source_expr.Var x) v = expr.Variable (innermost x v)
resolved_expr_layer source_expr.Base v = expr.Number base_address
resolved_expr_layer source_expr.Biw v = expr.Number bytes_in_word
resolved_expr_layer (source_expr.Struct parts) v = expr.Struct (map (λ e. e.kind v) parts)
resolved_expr_layer (source_expr.Field e is) v = expr.Field (e.kind v) is
resolved_expr_layer (source_expr.Load s a) v = expr.Load s (a.kind v)
resolved_expr_layer (source_expr.LoadByte a) v = expr.LoadByte (a.kind v)
resolved_expr_layer (source_expr.Neg e) v = expr.Neg (e.kind v)
resolved_expr_layer (source_expr.Chain first rest) v = expr.Chain (first.kind v) (map (λ e. (e.0, (e.1).kind v)) rest)
resolved_expr_layer (source_expr.Shift e shifts) v = expr.Shift (e.kind v) shifts
resolved_expr_layer (source_expr.Compare c a b) v = expr.Compare c (a.kind v) (b.kind v)

unfoldable pub resolved_expr_kind : ExprKind → Places → Expr
resolved_expr_kind = fold-ExprKind (Places → Expr) resolved_expr_layer

abbrev pub resolved_expr : Spanned ExprKind → Places → Expr
resolved_expr e v = resolved_expr_kind e.kind v

abbrev pub resolved_exprs : List (Spanned ExprKind) → Places → List Expr
resolved_exprs es v = map (λ e. resolved_expr e v) es

-- ---- statements

-- a statement that stands where these variables are known, and the variables that are known behind it
abbrev pub Resolving : Type 0
Resolving = Source → Places → Stmt × Places

-- one after another
abbrev pub in_order : List (Spanned Resolving) → Source → Places → List Stmt × Places
in_order [] p v = ([], v)
in_order (s ∷ ss) p v = let one = s.kind p v in let others = in_order ss p one.1 in (one.0 ∷ others.0, others.1)

-- a block, which begins with these variables
abbrev pub block : ScopeOf ℕ → BlockOf (Spanned Resolving) → Source → Places → List Stmt
block first b p v = (in_order b.stmts p (first ∷ v)).0

-- where the result of a call goes, which has this shape
abbrev pub resolved_target : SourceTarget → Shape → Places → Target
resolved_target source_target.Nothing s v = target.Nothing
resolved_target (source_target.Old x) s v = target.Old (innermost x v)
resolved_target (source_target.New x) s v = target.New s

-- the variables that are known behind the call
abbrev pub after_target : SourceTarget → Places → Places
after_target source_target.Nothing v = v
after_target (source_target.Old x) v = v
after_target (source_target.New x) v = with_variable x v

abbrev pub resolved_handler : Option (SourceHandler (Spanned Resolving)) → Source → Places → Option (HandlerOf (List Stmt))
resolved_handler None p v = None
resolved_handler (Some h) p v = Some (record { exception = exception_index h.exception p; body = block ((h.name, count v) ∷ []) h.body p v })

abbrev pub resolved_call : SourceCall (Spanned Resolving) → Source → Places → CallOf (List Stmt)
resolved_call c p v = record {
  into = resolved_target c.into (result_of (function_of c.function p)) v;
  function = function_index c.function p;
  args = resolved_exprs c.args v;
  handler = resolved_handler c.handler p (after_target c.into v);
}

abbrev pub resolved_layer : StmtKind-F Resolving → Resolving
resolved_layer source_stmt.Skip p v = (stmt.Skip, v)
resolved_layer (source_stmt.Decl x e) p v = (stmt.Declare (resolved_expr e v), with_variable x v)
resolved_layer (source_stmt.Assign x e) p v = (stmt.Assign (innermost x v) (resolved_expr e v), v)
resolved_layer (source_stmt.StoreWords a e) p v = (stmt.StoreWords (resolved_expr a v) (resolved_expr e v), v)
resolved_layer (source_stmt.StoreByte a e) p v = (stmt.StoreByte (resolved_expr a v) (resolved_expr e v), v)
resolved_layer (source_stmt.If e first second) p v = (stmt.If (resolved_expr e v) (block [] first p v) (block [] second p v), v)
resolved_layer (source_stmt.While e body) p v = (stmt.While (resolved_expr e v) (block [] body p v), v)
resolved_layer source_stmt.Break p v = (stmt.Break, v)
resolved_layer source_stmt.Continue p v = (stmt.Continue, v)
resolved_layer (source_stmt.Call c) p v = (stmt.Call (resolved_call c p v), after_target c.into v)
resolved_layer (source_stmt.Return e) p v = (stmt.Return (resolved_expr e v), v)
resolved_layer (source_stmt.TailCall name args) p v = (stmt.TailCall (function_index name p) (resolved_exprs args v), v)
resolved_layer (source_stmt.Raise name e) p v = (stmt.Raise (exception_index name p) (resolved_expr e v), v)
resolved_layer (source_stmt.SharedLoad size x a) p v = (stmt.SharedLoad size (innermost x v) (resolved_expr a v), v)
resolved_layer (source_stmt.SharedStore size a e) p v = (stmt.SharedStore size (resolved_expr a v) (resolved_expr e v), v)
resolved_layer (source_stmt.Foreign name conf conf_len array array_len) p v = (
  stmt.Foreign (foreign_index name p) (resolved_expr conf v) (resolved_expr conf_len v) (resolved_expr array v) (resolved_expr array_len v),
  v,
)

unfoldable pub resolved_kind : StmtKind → Resolving
resolved_kind = fold-StmtKind Resolving resolved_layer

abbrev pub resolving : Spanned StmtKind → Spanned Resolving
resolving s = record { kind = resolved_kind s.kind; span = s.span }

-- what the parts of a statement are resolved to
abbrev pub block_resolving : BlockOf (Spanned StmtKind) → BlockOf (Spanned Resolving)
block_resolving b = record { stmts = map resolving b.stmts }

abbrev pub handler_resolving : Option (SourceHandler (Spanned StmtKind)) → Option (SourceHandler (Spanned Resolving))
handler_resolving None = None
handler_resolving (Some h) = Some (record { exception = h.exception; name = h.name; body = block_resolving h.body })

abbrev pub call_resolving : SourceCall (Spanned StmtKind) → SourceCall (Spanned Resolving)
call_resolving c = record { into = c.into; function = c.function; args = c.args; handler = handler_resolving c.handler }

-- statements one after another
abbrev pub resolved_stmts : List (Spanned StmtKind) → Source → Places → List Stmt × Places
resolved_stmts ss p v = in_order (map resolving ss) p v

-- ---- functions and programs

-- the innermost block has the parameters besides
abbrev pub with_parameters : List Param → Places → Places
with_parameters [] v = v
with_parameters (q ∷ qs) v = with_parameters qs (with_variable q.name v)

abbrev pub resolved_function : Source → SourceFunction → Function
resolved_function p f = record { params = length f.params; body = (resolved_stmts (f.body).stmts p (with_parameters f.params ([] ∷ []))).0 }

abbrev pub resolved : Source → Program
resolved p = record { functions = map (resolved_function p) p.functions; main = function_index (codes "main") p }
