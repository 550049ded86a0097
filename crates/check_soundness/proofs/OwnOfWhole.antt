-- A statement that breaks nothing breaks nothing without its blocks.
use Rattle.std.proofs.Common.{◌≡◌, ℕ, true, List, [], ◌∷◌, Option, Some, None}
use Rattle.std.specs.Option.{option_map_or}
use Rattle.pan_tree.specs.Nodes.{Expr}
use Rattle.pan_tree.specs.Check as check
use Rattle.pan_tree.specs.Check.{Context, State, Doing, Done, doing, do_layer, do_kind, foreign_names, with_name}
use Rattle.pan_tree.specs.declared.shape.Shape.TheVariants as shape
use Rattle.pan_tree.specs.declared.spanned.Spanned.{Spanned}
use Rattle.pan_tree.specs.declared.syntax.HandlerOf.{HandlerOf}
use Rattle.pan_tree.specs.declared.syntax.Target.{Target}
use Rattle.pan_tree.specs.declared.syntax.StmtKind.{StmtKind, StmtKind-F, map-StmtKind}
use Rattle.pan_tree.specs.declared.syntax.StmtKind.TheOpen as stmt
use Rattle.pan_tree.specs.declared.program.Exception.{Exception}
use Rattle.check_soundness.specs.Guarded.{own_done}
use Rattle.check_soundness.proofs.Rules.{append_none, none_append}
use Rattle.check_soundness.proofs.OwnRules.{nothings_break}

-- a statement that goes on with a block breaks what comes before it, and what the block does
pub and_block_none : (d : Done) (b : State → Done) → (check.and_block d b).breaks ≡ [] → (d.breaks ≡ []) × ((b d.state).breaks ≡ [])
and_block_none d b h = append_none d.breaks (b d.state).breaks h

module _ (c : Context) (place : ℕ) (s : State) where
  -- the layer with what its parts do
  abbrev pub whole_done : StmtKind-F StmtKind → Done
  whole_done y = do_layer (map-StmtKind StmtKind Doing do_kind y) c place s

  own_handled : (t : Target) (name : List ℕ) (es : List Expr) (h : Option (HandlerOf (Spanned StmtKind)))
      → let y : StmtKind-F StmtKind = stmt.Call (record { into = t; function = name; args = es; handler = h }) in (whole_done y).breaks ≡ [] → (own_done y c place s).breaks ≡ []
  own_handled t name es None b = b
  own_handled t name es (Some h) b =
      let value = option_map_or (λ (x : Exception). x.shape) (check.exception_of h.exception c.program) shape.Word in
      let y : StmtKind-F StmtKind = stmt.Call (record { into = t; function = name; args = es; handler = Some h }) in
      none_append _ _ (append_none _ _ b).0 (nothings_break (h.body).stmts c (record { scopes = ((h.name, value) ∷ []) ∷ check.after_target t (check.result_of (check.function_of name c.program)) s.scopes; names = s.names }))

  pub own_of_whole : (y : StmtKind-F StmtKind) → (whole_done y).breaks ≡ [] → (own_done y c place s).breaks ≡ []
  own_of_whole stmt.Skip b = b
  own_of_whole (stmt.Decl x e) b = b
  own_of_whole (stmt.Assign x e) b = b
  own_of_whole (stmt.StoreWords a e) b = b
  own_of_whole (stmt.StoreByte a e) b = b
  own_of_whole (stmt.If e x y) b =
      let both = append_none _ _ (append_none _ _ b).0 in
      none_append _ _ (none_append _ _ both.0 (nothings_break x.stmts c (record s { scopes = [] ∷ s.scopes }))) (nothings_break y.stmts c _)
  own_of_whole (stmt.While e x) b = none_append _ _ (append_none _ _ b).0 (nothings_break x.stmts (record c { in_loop = true }) (record s { scopes = [] ∷ s.scopes }))
  own_of_whole stmt.Break b = b
  own_of_whole stmt.Continue b = b
  own_of_whole (stmt.Call k) b = own_handled k.into k.function k.args k.handler b
  own_of_whole (stmt.Return e) b = b
  own_of_whole (stmt.TailCall f es) b = b
  own_of_whole (stmt.Raise i e) b = b
  own_of_whole (stmt.SharedLoad size x a) b = b
  own_of_whole (stmt.SharedStore size a e) b = b
  own_of_whole (stmt.Foreign x a e f g) b = b
