-- What statements do, at each variant.
use Rattle.std.proofs.Common.{◌≡◌, ℕ, ◌+◌, List, map, Option, Some, None, sym, ap, ◌∙◌}
use Rattle.pan_base.specs.declared.events.Size.{Size}
use Rattle.pan_stage.specs.Data.{World, Callee}
use Rattle.pan_stage.specs.Locals.{Locals}
use Rattle.pan_stage.specs.Programs.{Does}
use Rattle.pan_stage.specs.Toll.{stepped}
use Rattle.pan_stage.specs.declared.program.Handler.{Handler}
use Rattle.crep_lang.specs.Steps.{expr_steps, passed}
use Rattle.crep_lang.specs.Meaning.{act_layer, run_layer, run}
use Rattle.crep_lang.specs.declared.syntax.Expr.{Expr}
use Rattle.crep_lang.specs.declared.syntax.Stmt.{Stmt, Stmt-F, roll-Stmt, map-Stmt, fold-roll-Stmt}
use Rattle.crep_lang.specs.declared.syntax.Stmt.TheOpen as open_stmt
use Rattle.crep_lang.specs.declared.syntax.Stmt.TheVariants as stmt
use Rattle.crep_lang.proofs.Handlers.{with_body}

module _ (names : List (List ℕ)) (d : ℕ) (callee : Callee (List ℕ) (List ℕ)) where
  run_roll : (y : Stmt-F Stmt) → run names d callee (roll-Stmt y) ≡ run_layer names d callee (map-Stmt Stmt Does (run names d callee) y)
  unfolding run
  run_roll y = fold-roll-Stmt Does (run_layer names d callee) y

  -- a statement at its layer
  pub run_as : (y : Stmt-F Stmt) (s : Stmt) → roll-Stmt y ≡ s → (u : Locals) (w : World) → run names d callee s u w ≡ run_layer names d callee (map-Stmt Stmt Does (run names d callee) y) u w
  run_as y s is u w = ap (λ s. run names d callee s u w) (sym is) ∙ ap (λ f. f u w) (run_roll y)

  pub run_skip : (u : Locals) (w : World) → run names d callee stmt.Skip u w ≡ act_layer names d callee open_stmt.Skip u (stepped 0 w)
  run_skip u w = run_as open_stmt.Skip _ stmt.rolls-Skip u w

  pub run_seq : (all : List Stmt) (u : Locals) (w : World) → run names d callee (stmt.Seq all) u w ≡ act_layer names d callee (open_stmt.Seq (map (run names d callee) all)) u (stepped 0 w)
  run_seq all u w = run_as (open_stmt.Seq all) _ (stmt.rolls-Seq all) u w

  pub run_assign : (x : ℕ) (e : Expr) (u : Locals) (w : World) → run names d callee (stmt.Assign x e) u w ≡ act_layer names d callee (open_stmt.Assign x e) u (stepped (1 + expr_steps e) w)
  run_assign x e u w = run_as (open_stmt.Assign x e) _ (stmt.rolls-Assign x e) u w

  pub run_store_word : (a e : Expr) (u : Locals) (w : World) → run names d callee (stmt.StoreWord a e) u w ≡ act_layer names d callee (open_stmt.StoreWord a e) u (stepped (1 + expr_steps a + expr_steps e) w)
  run_store_word a e u w = run_as (open_stmt.StoreWord a e) _ (stmt.rolls-StoreWord a e) u w

  pub run_store_byte : (a e : Expr) (u : Locals) (w : World) → run names d callee (stmt.StoreByte a e) u w ≡ act_layer names d callee (open_stmt.StoreByte a e) u (stepped (1 + expr_steps a + expr_steps e) w)
  run_store_byte a e u w = run_as (open_stmt.StoreByte a e) _ (stmt.rolls-StoreByte a e) u w

  pub run_if : (e : Expr) (first second : Stmt) (u : Locals) (w : World) → run names d callee (stmt.If e first second) u w ≡ act_layer names d callee (open_stmt.If e (run names d callee first) (run names d callee second)) u (stepped (2 + expr_steps e) w)
  run_if e first second u w = run_as (open_stmt.If e first second) _ (stmt.rolls-If e first second) u w

  pub run_while : (before : List Stmt) (e : Expr) (body : Stmt) (u : Locals) (w : World) → run names d callee (stmt.While before e body) u w ≡ act_layer names d callee (open_stmt.While (map (run names d callee) before) e (run names d callee body)) u (stepped 1 w)
  run_while before e body u w = run_as (open_stmt.While before e body) _ (stmt.rolls-While before e body) u w

  pub run_break : (u : Locals) (w : World) → run names d callee stmt.Break u w ≡ act_layer names d callee open_stmt.Break u (stepped 1 w)
  run_break u w = run_as open_stmt.Break _ stmt.rolls-Break u w

  pub run_continue : (u : Locals) (w : World) → run names d callee stmt.Continue u w ≡ act_layer names d callee open_stmt.Continue u (stepped 1 w)
  run_continue u w = run_as open_stmt.Continue _ stmt.rolls-Continue u w

  pub run_call : (results : List ℕ) (f : ℕ) (arguments : List Expr) (handler : Option (Handler Stmt)) (u : Locals) (w : World) → run names d callee (stmt.Call results f arguments handler) u w ≡ act_layer names d callee (open_stmt.Call results f arguments (with_body (run names d callee) handler)) u (stepped (passed arguments) w)
  run_call results f arguments None u w = run_as (open_stmt.Call results f arguments None) _ (stmt.rolls-Call results f arguments None) u w
  run_call results f arguments (Some h) u w = run_as (open_stmt.Call results f arguments (Some h)) _ (stmt.rolls-Call results f arguments (Some h)) u w

  pub run_tail_call : (f : ℕ) (arguments : List Expr) (u : Locals) (w : World) → run names d callee (stmt.TailCall f arguments) u w ≡ act_layer names d callee (open_stmt.TailCall f arguments) u (stepped (passed arguments) w)
  run_tail_call f arguments u w = run_as (open_stmt.TailCall f arguments) _ (stmt.rolls-TailCall f arguments) u w

  pub run_return : (es : List Expr) (u : Locals) (w : World) → run names d callee (stmt.Return es) u w ≡ act_layer names d callee (open_stmt.Return es) u (stepped (passed es) w)
  run_return es u w = run_as (open_stmt.Return es) _ (stmt.rolls-Return es) u w

  pub run_raise : (i : ℕ) (es : List Expr) (u : Locals) (w : World) → run names d callee (stmt.Raise i es) u w ≡ act_layer names d callee (open_stmt.Raise i es) u (stepped (passed es) w)
  run_raise i es u w = run_as (open_stmt.Raise i es) _ (stmt.rolls-Raise i es) u w

  pub run_shared_load : (size : Size) (x : ℕ) (a : Expr) (u : Locals) (w : World) → run names d callee (stmt.SharedLoad size x a) u w ≡ act_layer names d callee (open_stmt.SharedLoad size x a) u (stepped (1 + expr_steps a) w)
  run_shared_load size x a u w = run_as (open_stmt.SharedLoad size x a) _ (stmt.rolls-SharedLoad size x a) u w

  pub run_shared_store : (size : Size) (a e : Expr) (u : Locals) (w : World) → run names d callee (stmt.SharedStore size a e) u w ≡ act_layer names d callee (open_stmt.SharedStore size a e) u (stepped (1 + expr_steps a + expr_steps e) w)
  run_shared_store size a e u w = run_as (open_stmt.SharedStore size a e) _ (stmt.rolls-SharedStore size a e) u w

  pub run_foreign : (i : ℕ) (conf conf_len array array_len : Expr) (u : Locals) (w : World) → run names d callee (stmt.Foreign i conf conf_len array array_len) u w ≡ act_layer names d callee (open_stmt.Foreign i conf conf_len array array_len) u (stepped (4 + expr_steps conf + expr_steps conf_len + expr_steps array + expr_steps array_len) w)
  run_foreign i conf conf_len array array_len u w = run_as (open_stmt.Foreign i conf conf_len array array_len) _ (stmt.rolls-Foreign i conf conf_len array array_len) u w

pub ruleset run_rules = (run_skip, run_seq, run_assign, run_store_word, run_store_byte, run_if, run_while, run_break, run_continue, run_call, run_tail_call, run_return, run_raise, run_shared_load, run_shared_store, run_foreign)
