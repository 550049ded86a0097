-- What a statement is resolved to, at each variant, and the variables behind it.
use Rattle.std.proofs.Common.{◌≡◌, ℕ, List, [], ◌∷◌, drop, Option, Some, None, refl, sym, ap, ◌∙◌}
use Rattle.pan_base.specs.declared.events.Size.{Size}
use Rattle.pan_tree.specs.Scopes.{innermost, declare}
use Rattle.pan_tree.specs.Meaning.{function_index, exception_index, foreign_index}
use Rattle.pan_tree.specs.declared.spanned.Spanned.{Spanned}
use Rattle.pan_tree.specs.declared.syntax.ExprKind.{ExprKind}
use Rattle.pan_tree.specs.declared.syntax.BlockOf.{BlockOf}
use Rattle.pan_tree.specs.declared.syntax.HandlerOf.{HandlerOf as SourceHandler}
use Rattle.pan_tree.specs.declared.syntax.CallOf.{CallOf as SourceCall}
use Rattle.pan_tree.specs.declared.syntax.Target.{Target as SourceTarget}
use Rattle.pan_tree.specs.declared.syntax.Target.TheVariants as source_target
use Rattle.pan_tree.specs.declared.syntax.StmtKind.{StmtKind, StmtKind-F, roll-StmtKind, out-StmtKind, roll-out-StmtKind, map-StmtKind}
use Rattle.pan_tree.specs.declared.syntax.StmtKind.TheOpen as open_stmt
use Rattle.pan_tree.specs.declared.syntax.StmtKind.TheVariants as source
use Rattle.pan_tree.specs.declared.program.Program.{Program as Source}
use Rattle.source_resolver.specs.declared.resolved.Stmt.TheVariants as stmt
use Rattle.source_resolver.specs.Resolving.{Places, Resolving, with_variable, resolved_expr, resolved_exprs, block, after_target, block_resolving, call_resolving, resolved_call, resolved_layer, resolved_kind, resolved_stmts}
use Rattle.source_resolver.proofs.ResolvedStmts.{resolved_roll}

module _ (p : Source) (v : Places) where
  at : (y : StmtKind-F StmtKind) (k : StmtKind) → roll-StmtKind y ≡ k → resolved_kind k p v ≡ resolved_layer (map-StmtKind StmtKind Resolving resolved_kind y) p v
  at y k is = ap (λ k. resolved_kind k p v) (sym is) ∙ ap (λ (f : Resolving). f p v) (resolved_roll y)

  pub resolved_skip : resolved_kind source.Skip p v ≡ (stmt.Skip, v)
  resolved_skip = at open_stmt.Skip _ source.rolls-Skip

  pub resolved_decl : (x : List ℕ) (e : Spanned ExprKind) → resolved_kind (source.Decl x e) p v ≡ (stmt.Declare (resolved_expr e v), with_variable x v)
  resolved_decl x e = at (open_stmt.Decl x e) _ (source.rolls-Decl x e)

  pub resolved_assign : (x : List ℕ) (e : Spanned ExprKind) → resolved_kind (source.Assign x e) p v ≡ (stmt.Assign (innermost x v) (resolved_expr e v), v)
  resolved_assign x e = at (open_stmt.Assign x e) _ (source.rolls-Assign x e)

  pub resolved_store_words : (a e : Spanned ExprKind) → resolved_kind (source.StoreWords a e) p v ≡ (stmt.StoreWords (resolved_expr a v) (resolved_expr e v), v)
  resolved_store_words a e = at (open_stmt.StoreWords a e) _ (source.rolls-StoreWords a e)

  pub resolved_store_byte : (a e : Spanned ExprKind) → resolved_kind (source.StoreByte a e) p v ≡ (stmt.StoreByte (resolved_expr a v) (resolved_expr e v), v)
  resolved_store_byte a e = at (open_stmt.StoreByte a e) _ (source.rolls-StoreByte a e)

  pub resolved_if : (e : Spanned ExprKind) (a b : BlockOf (Spanned StmtKind)) → resolved_kind (source.If e a b) p v ≡ (stmt.If (resolved_expr e v) (block [] (block_resolving a) p v) (block [] (block_resolving b) p v), v)
  resolved_if e a b = at (open_stmt.If e a b) _ (source.rolls-If e a b)

  pub resolved_while : (e : Spanned ExprKind) (b : BlockOf (Spanned StmtKind)) → resolved_kind (source.While e b) p v ≡ (stmt.While (resolved_expr e v) (block [] (block_resolving b) p v), v)
  resolved_while e b = at (open_stmt.While e b) _ (source.rolls-While e b)

  pub resolved_break : resolved_kind source.Break p v ≡ (stmt.Break, v)
  resolved_break = at open_stmt.Break _ source.rolls-Break

  pub resolved_continue : resolved_kind source.Continue p v ≡ (stmt.Continue, v)
  resolved_continue = at open_stmt.Continue _ source.rolls-Continue

  call_by : (into : SourceTarget) (f : List ℕ) (args : List (Spanned ExprKind)) (h : Option (SourceHandler (Spanned StmtKind)))
      → resolved_kind (source.Call (record { into = into; function = f; args = args; handler = h })) p v ≡ (stmt.Call (resolved_call (call_resolving (record { into = into; function = f; args = args; handler = h })) p v), after_target into v)
  call_by into f args None = at (open_stmt.Call (record { into = into; function = f; args = args; handler = None })) _ (source.rolls-Call (record { into = into; function = f; args = args; handler = None }))
  call_by into f args (Some h) = at (open_stmt.Call (record { into = into; function = f; args = args; handler = Some h })) _ (source.rolls-Call (record { into = into; function = f; args = args; handler = Some h }))

  pub resolved_calls : (c : SourceCall (Spanned StmtKind)) → resolved_kind (source.Call c) p v ≡ (stmt.Call (resolved_call (call_resolving c) p v), after_target c.into v)
  resolved_calls c = call_by c.into c.function c.args c.handler

  pub resolved_return : (e : Spanned ExprKind) → resolved_kind (source.Return e) p v ≡ (stmt.Return (resolved_expr e v), v)
  resolved_return e = at (open_stmt.Return e) _ (source.rolls-Return e)

  pub resolved_tail_call : (f : List ℕ) (args : List (Spanned ExprKind)) → resolved_kind (source.TailCall f args) p v ≡ (stmt.TailCall (function_index f p) (resolved_exprs args v), v)
  resolved_tail_call f args = at (open_stmt.TailCall f args) _ (source.rolls-TailCall f args)

  pub resolved_raise : (x : List ℕ) (e : Spanned ExprKind) → resolved_kind (source.Raise x e) p v ≡ (stmt.Raise (exception_index x p) (resolved_expr e v), v)
  resolved_raise x e = at (open_stmt.Raise x e) _ (source.rolls-Raise x e)

  pub resolved_shared_load : (n : Size) (x : List ℕ) (a : Spanned ExprKind) → resolved_kind (source.SharedLoad n x a) p v ≡ (stmt.SharedLoad n (innermost x v) (resolved_expr a v), v)
  resolved_shared_load n x a = at (open_stmt.SharedLoad n x a) _ (source.rolls-SharedLoad n x a)

  pub resolved_shared_store : (n : Size) (a e : Spanned ExprKind) → resolved_kind (source.SharedStore n a e) p v ≡ (stmt.SharedStore n (resolved_expr a v) (resolved_expr e v), v)
  resolved_shared_store n a e = at (open_stmt.SharedStore n a e) _ (source.rolls-SharedStore n a e)

  pub resolved_foreign : (x : List ℕ) (c l a m : Spanned ExprKind)
      → resolved_kind (source.Foreign x c l a m) p v ≡ (stmt.Foreign (foreign_index x p) (resolved_expr c v) (resolved_expr l v) (resolved_expr a v) (resolved_expr m v), v)
  resolved_foreign x c l a m = at (open_stmt.Foreign x c l a m) _ (source.rolls-Foreign x c l a m)

-- ---- a statement changes no block but the innermost

declare_keeps : (x : List ℕ) (n : ℕ) (v : Places) → drop 1 (declare x n v) ≡ drop 1 v
declare_keeps x n [] = refl
declare_keeps x n (scope ∷ scopes) = refl

target_keeps : (into : SourceTarget) (v : Places) → drop 1 (after_target into v) ≡ drop 1 v
target_keeps source_target.Nothing v = refl
target_keeps (source_target.Old x) v = refl
target_keeps (source_target.New x) v = declare_keeps x _ v

layer_keeps : (y : StmtKind-F Resolving) (p : Source) (v : Places) → drop 1 (resolved_layer y p v).1 ≡ drop 1 v
layer_keeps open_stmt.Skip p v = refl
layer_keeps (open_stmt.Decl x e) p v = declare_keeps x _ v
layer_keeps (open_stmt.Assign x e) p v = refl
layer_keeps (open_stmt.StoreWords a e) p v = refl
layer_keeps (open_stmt.StoreByte a e) p v = refl
layer_keeps (open_stmt.If e a b) p v = refl
layer_keeps (open_stmt.While e b) p v = refl
layer_keeps open_stmt.Break p v = refl
layer_keeps open_stmt.Continue p v = refl
layer_keeps (open_stmt.Call c) p v = target_keeps c.into v
layer_keeps (open_stmt.Return e) p v = refl
layer_keeps (open_stmt.TailCall f args) p v = refl
layer_keeps (open_stmt.Raise x e) p v = refl
layer_keeps (open_stmt.SharedLoad n x a) p v = refl
layer_keeps (open_stmt.SharedStore n a e) p v = refl
layer_keeps (open_stmt.Foreign x c l a m) p v = refl

kind_keeps : (k : StmtKind) (p : Source) (v : Places) → drop 1 (resolved_kind k p v).1 ≡ drop 1 v
kind_keeps k p v =
    ap (λ k. drop 1 (resolved_kind k p v).1) (sym (roll-out-StmtKind k)) ∙ ap (λ (r : Resolving). drop 1 (r p v).1) (resolved_roll (out-StmtKind k))
    ∙ layer_keeps (map-StmtKind StmtKind Resolving resolved_kind (out-StmtKind k)) p v

pub order_keeps : (ss : List (Spanned StmtKind)) (p : Source) (v : Places) → drop 1 (resolved_stmts ss p v).1 ≡ drop 1 v
order_keeps [] p v = refl
order_keeps (s ∷ ss) p v = order_keeps ss p (resolved_kind s.kind p v).1 ∙ kind_keeps s.kind p v

-- what a block leaves when it is closed
pub kept_behind : (ss : List (Spanned StmtKind)) (p : Source) (opened after closed v : Places) → drop 1 opened ≡ v → after ≡ (resolved_stmts ss p opened).1 → closed ≡ drop 1 after → closed ≡ v
kept_behind ss p opened after closed v is went left = left ∙ ap (drop 1) went ∙ order_keeps ss p opened ∙ is

pub variable_keeps : (x : List ℕ) (v : Places) → drop 1 (with_variable x v) ≡ drop 1 v
variable_keeps x v = declare_keeps x _ v

pub ruleset resolved_stmt_rules = (
  resolved_skip,
  resolved_decl,
  resolved_assign,
  resolved_store_words,
  resolved_store_byte,
  resolved_if,
  resolved_while,
  resolved_break,
  resolved_continue,
  resolved_calls,
  resolved_return,
  resolved_tail_call,
  resolved_raise,
  resolved_shared_load,
  resolved_shared_store,
  resolved_foreign,
)
