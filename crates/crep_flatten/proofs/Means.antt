-- Every statement that breaks no rule, in words, does what the source's does.
use Rattle.std.proofs.Common.{◌≡◌, ℕ, Bool, List, [], Option, Some, None, refl, sym, ap, subst, ◌∙◌}
use Rattle.pan_stage.specs.Locals.{Locals}
use Rattle.pan_stage.specs.Data.{Callee as WordCallee}
use Rattle.pan_stage.proofs.Follows.{Same}
use Rattle.pan_stage.proofs.Paid.{Within}
use Rattle.pan_tree.specs.Running.{Callee, World}
use Rattle.pan_tree.specs.Value.{Value}
use Rattle.pan_tree.specs.Check.{State, Doing, do_layer, do_kind}
use Rattle.pan_tree.specs.Meaning.{Does, Scopes, run_layer, run_kind}
use Rattle.pan_tree.specs.declared.shape.Shape.{Shape}
use Rattle.pan_tree.specs.declared.spanned.Spanned.{Spanned}
use Rattle.pan_tree.specs.declared.syntax.HandlerOf.{HandlerOf}
use Rattle.pan_tree.specs.declared.syntax.StmtKind.{StmtKind, StmtKind-F, roll-StmtKind, map-StmtKind}
use Rattle.pan_tree.specs.declared.syntax.StmtKind.TheOpen as stmt
use Rattle.pan_tree.specs.declared.program.Program.{Program as Source}
use Rattle.pan_tree.proofs.CheckLayers.{do_roll}
use Rattle.pan_tree.proofs.MeaningLayers.{by_layers, run_roll}
use Rattle.crep_flatten.specs.Flat.{Places}
use Rattle.crep_flatten.specs.Flattened.{Flattening, flat_layer, flat_stmt}
use Rattle.crep_flatten.proofs.Holding.{placed, Holds}
use Rattle.crep_flatten.proofs.Costs.{Static}
use Rattle.crep_flatten.proofs.Places.{stmt_roll}
use Rattle.crep_flatten.proofs.Statements.{Inside, Behind, Around, skip_same, break_same, continue_same, assign_same, decl_same, store_same, store_byte_same, return_same, shared_store_same, shared_load_same}
use Rattle.crep_flatten.proofs.Calls.{Callees, raise_same, foreign_same, tail_call_same}
use Rattle.crep_flatten.proofs.Blocks.{context, Ends', does', Means, Known, if_means, while_means}
use Rattle.crep_flatten.proofs.Catching.{call_means, catch_means}
use Rattle.crep_flatten.proofs.Beside.{with_toll}

module _ (p : Source) (result : Shape) (d : ℕ) (callee : Callee (List Value) Value) (callee' : WordCallee (List ℕ) (List ℕ)) (callees : Callees p callee callee') where
  abbrev Spelled : Type 0
  Spelled = Known p result d callee callee'

  -- a statement by its parts
  abbrev LayerMeans : StmtKind-F StmtKind → Type 0
  LayerMeans y = (kept : ℕ) (l : Bool) (place : ℕ) (s : State) (outer : Places) (v : Scopes) (u : Locals) (t : ℕ) (w : World) → Static (placed v) s.scopes → Inside outer v → Holds v u
      → (do_layer (map-StmtKind StmtKind Doing do_kind y) (context p result d callee callee' l) place s).breaks ≡ [] → Within 1024 kept t w
      → Same (Ends' p result d callee callee' kept (Behind outer (flat_layer (map-StmtKind StmtKind Flattening flat_stmt y) p (placed v)).1) (Around outer)) (run_layer p d callee (map-StmtKind StmtKind Does (run_kind p d callee) y) v w)
      (does' p result d callee callee' (flat_layer (map-StmtKind StmtKind Flattening flat_stmt y) p (placed v)).0 u (with_toll t w))

  from_layer : (y : StmtKind-F StmtKind) → LayerMeans y → Means p result d callee callee' (roll-StmtKind y)
  from_layer y h kept l place s outer here st none v w u t q =
      let at = (q.0).1 in
      let f = flat_layer (map-StmtKind StmtKind Flattening flat_stmt y) in
      let m = run_layer p d callee (map-StmtKind StmtKind Does (run_kind p d callee) y) in
      subst (λ (f : Flattening). Same (Ends' p result d callee callee' kept (Behind outer (f p here).1) (Around outer)) (run_kind p d callee (roll-StmtKind y) v w) (does' p result d callee callee' (f p here).0 u (with_toll t w))) (sym (stmt_roll y))
      (subst (λ (m : Does). Same (Ends' p result d callee callee' kept (Behind outer (f p here).1) (Around outer)) (m v w) (does' p result d callee callee' (f p here).0 u (with_toll t w))) (sym (run_roll p d callee y))
      (subst (λ ps. Same (Ends' p result d callee callee' kept (Behind outer (f p ps).1) (Around outer)) (m v w) (does' p result d callee callee' (f p ps).0 u (with_toll t w))) at
      (h kept l place s outer v u t w (subst (λ ps. Static ps s.scopes) (sym at) st) (q.0).0 (q.0).2 (sym (ap (λ (g : Doing). (g (context p result d callee callee' l) place s).breaks) (do_roll y)) ∙ none) q.1)))

  layer_means : (y : StmtKind-F Spelled) → LayerMeans (map-StmtKind Spelled StmtKind (λ c. c.0) y)
  layer_means stmt.Skip kept l place s outer v u t w st i holds none within = skip_same p result d callee callee' kept outer v u t w i holds within
  layer_means (stmt.Decl x e) kept l place s outer v u t w st i holds none within = decl_same p result d callee callee' kept outer v u t w i holds within x e
  layer_means (stmt.Assign x e) kept l place s outer v u t w st i holds none within = assign_same p result d callee callee' kept outer v u t w i holds within x e (context p result d callee callee' l) place s st none
  layer_means (stmt.StoreWords a e) kept l place s outer v u t w st i holds none within = store_same p result d callee callee' kept outer v u t w i holds within a e
  layer_means (stmt.StoreByte a e) kept l place s outer v u t w st i holds none within = store_byte_same p result d callee callee' kept outer v u t w i holds within a e
  layer_means (stmt.If e a b) kept l place s outer v u t w st i holds none within = if_means p result d callee callee' kept l place s outer v u t w st i holds within e a.stmts b.stmts none
  layer_means (stmt.While e b) kept l place s outer v u t w st i holds none within = while_means p result d callee callee' kept l place s outer v u t w st i holds within e b.stmts none
  layer_means stmt.Break kept l place s outer v u t w st i holds none within = break_same p result d callee callee' kept outer v u t w i holds within
  layer_means stmt.Continue kept l place s outer v u t w st i holds none within = continue_same p result d callee callee' kept outer v u t w i holds within
  layer_means (stmt.Call k) kept l place s outer v u t w st i holds none within = handled k.handler none
    where
      handled : (h : Option (HandlerOf (Spanned Spelled))) → let y : StmtKind-F Spelled = stmt.Call (record { into = k.into; function = k.function; args = k.args; handler = h }) in let z = map-StmtKind Spelled StmtKind (λ c. c.0) y in
          (do_layer (map-StmtKind StmtKind Doing do_kind z) (context p result d callee callee' l) place s).breaks ≡ []
          → Same (Ends' p result d callee callee' kept (Behind outer (flat_layer (map-StmtKind StmtKind Flattening flat_stmt z) p (placed v)).1) (Around outer)) (run_layer p d callee (map-StmtKind StmtKind Does (run_kind p d callee) z) v w)
          (does' p result d callee callee' (flat_layer (map-StmtKind StmtKind Flattening flat_stmt z) p (placed v)).0 u (with_toll t w))
      handled None none = call_means p result d callee callee' callees kept l place s outer v u t w st i holds within k.into k.function k.args none
      handled (Some h) none = catch_means p result d callee callee' callees kept l place s outer v u t w st i holds within k.into k.function k.args h none
  layer_means (stmt.Return e) kept l place s outer v u t w st i holds none within = return_same p result d callee callee' kept outer v u t w i holds within e (context p result d callee callee' l) place s refl st none
  layer_means (stmt.TailCall x es) kept l place s outer v u t w st i holds none within = tail_call_same p result d callee callee' kept outer v u t w i holds within x es (context p result d callee callee' l) place s refl refl callees st none
  layer_means (stmt.Raise x e) kept l place s outer v u t w st i holds none within = raise_same p result d callee callee' kept outer v u t w i holds within x e (context p result d callee callee' l) place s refl st none
  layer_means (stmt.SharedLoad z x a) kept l place s outer v u t w st i holds none within = shared_load_same p result d callee callee' kept outer v u t w i holds within z x a (context p result d callee callee' l) place s st none
  layer_means (stmt.SharedStore z a e) kept l place s outer v u t w st i holds none within = shared_store_same p result d callee callee' kept outer v u t w i holds within z a e
  layer_means (stmt.Foreign x a b e f) kept l place s outer v u t w st i holds none within = foreign_same p result d callee callee' kept outer v u t w i holds within x a b e f

  pub kind_means : (k : StmtKind) → Means p result d callee callee' k
  kind_means = by_layers (Means p result d callee callee') (λ y. from_layer (map-StmtKind Spelled StmtKind (λ c. c.0) y) (layer_means y))
