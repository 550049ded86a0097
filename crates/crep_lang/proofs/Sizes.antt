-- What statements need of frames and of code, at each variant.
use Rattle.std.proofs.Common.{◌≡◌, ℕ, ◌+◌, List, [], ◌∷◌, length, map, Option, Some, None, sym, ap, ◌∙◌}
use Rattle.std.specs.Prelude.{max}
use Rattle.pan_base.specs.declared.events.Size.{Size}
use Rattle.pan_stage.specs.Sums.{sum_of, most}
use Rattle.pan_stage.specs.declared.program.Handler.{Handler}
use Rattle.crep_lang.specs.Needs.{most_in_handler, temporaries, row_temporaries, between_layer, between, handler_code, code_layer, code}
use Rattle.crep_lang.specs.Steps.{expr_steps, passed, test_steps}
use Rattle.crep_lang.specs.declared.syntax.Expr.{Expr}
use Rattle.crep_lang.specs.declared.syntax.Stmt.{Stmt, Stmt-F, roll-Stmt, map-Stmt, fold-roll-Stmt}
use Rattle.crep_lang.specs.declared.syntax.Stmt.TheOpen as open_stmt
use Rattle.crep_lang.specs.declared.syntax.Stmt.TheVariants as stmt
use Rattle.crep_lang.proofs.Handlers.{with_body}

-- ---- frames

between_roll : (y : Stmt-F Stmt) → between (roll-Stmt y) ≡ between_layer (map-Stmt Stmt ℕ between y)
unfolding between
between_roll y = fold-roll-Stmt ℕ between_layer y

between_as : (y : Stmt-F Stmt) (x : Stmt) → roll-Stmt y ≡ x → between x ≡ between_layer (map-Stmt Stmt ℕ between y)
between_as y x is = ap between (sym is) ∙ between_roll y

pub between_skip : between stmt.Skip ≡ 0
between_skip = between_as open_stmt.Skip _ stmt.rolls-Skip

pub between_seq : (all : List Stmt) → between (stmt.Seq all) ≡ most (map between all)
between_seq all = between_as (open_stmt.Seq all) _ (stmt.rolls-Seq all)

pub between_assign : (x : ℕ) (e : Expr) → between (stmt.Assign x e) ≡ temporaries e
between_assign x e = between_as (open_stmt.Assign x e) _ (stmt.rolls-Assign x e)

pub between_store_word : (a e : Expr) → between (stmt.StoreWord a e) ≡ row_temporaries (a ∷ e ∷ [])
between_store_word a e = between_as (open_stmt.StoreWord a e) _ (stmt.rolls-StoreWord a e)

pub between_store_byte : (a e : Expr) → between (stmt.StoreByte a e) ≡ row_temporaries (a ∷ e ∷ [])
between_store_byte a e = between_as (open_stmt.StoreByte a e) _ (stmt.rolls-StoreByte a e)

pub between_if : (e : Expr) (first second : Stmt) → between (stmt.If e first second) ≡ max (temporaries e) (max (between first) (between second))
between_if e first second = between_as (open_stmt.If e first second) _ (stmt.rolls-If e first second)

pub between_while : (before : List Stmt) (e : Expr) (body : Stmt) → between (stmt.While before e body) ≡ max (most (map between before)) (max (temporaries e) (between body))
between_while before e body = between_as (open_stmt.While before e body) _ (stmt.rolls-While before e body)

pub between_break : between stmt.Break ≡ 0
between_break = between_as open_stmt.Break _ stmt.rolls-Break

pub between_continue : between stmt.Continue ≡ 0
between_continue = between_as open_stmt.Continue _ stmt.rolls-Continue

pub between_call : (results : List ℕ) (f : ℕ) (arguments : List Expr) (handler : Option (Handler Stmt)) → between (stmt.Call results f arguments handler) ≡ max (row_temporaries arguments) (most_in_handler (with_body between handler))
between_call results f arguments None = between_as (open_stmt.Call results f arguments None) _ (stmt.rolls-Call results f arguments None)
between_call results f arguments (Some h) = between_as (open_stmt.Call results f arguments (Some h)) _ (stmt.rolls-Call results f arguments (Some h))

pub between_tail_call : (f : ℕ) (arguments : List Expr) → between (stmt.TailCall f arguments) ≡ row_temporaries arguments
between_tail_call f arguments = between_as (open_stmt.TailCall f arguments) _ (stmt.rolls-TailCall f arguments)

pub between_return : (es : List Expr) → between (stmt.Return es) ≡ row_temporaries es
between_return es = between_as (open_stmt.Return es) _ (stmt.rolls-Return es)

pub between_raise : (i : ℕ) (es : List Expr) → between (stmt.Raise i es) ≡ row_temporaries es
between_raise i es = between_as (open_stmt.Raise i es) _ (stmt.rolls-Raise i es)

pub between_shared_load : (size : Size) (x : ℕ) (a : Expr) → between (stmt.SharedLoad size x a) ≡ temporaries a
between_shared_load size x a = between_as (open_stmt.SharedLoad size x a) _ (stmt.rolls-SharedLoad size x a)

pub between_shared_store : (size : Size) (a e : Expr) → between (stmt.SharedStore size a e) ≡ row_temporaries (a ∷ e ∷ [])
between_shared_store size a e = between_as (open_stmt.SharedStore size a e) _ (stmt.rolls-SharedStore size a e)

pub between_foreign : (i : ℕ) (conf conf_len array array_len : Expr) → between (stmt.Foreign i conf conf_len array array_len) ≡ row_temporaries (conf ∷ conf_len ∷ array ∷ array_len ∷ [])
between_foreign i conf conf_len array array_len = between_as (open_stmt.Foreign i conf conf_len array array_len) _ (stmt.rolls-Foreign i conf conf_len array array_len)

pub ruleset between_rules = (between_skip, between_seq, between_assign, between_store_word, between_store_byte, between_if, between_while, between_break, between_continue, between_call, between_tail_call, between_return, between_raise, between_shared_load, between_shared_store, between_foreign)

-- ---- code

code_roll : (y : Stmt-F Stmt) → code (roll-Stmt y) ≡ code_layer (map-Stmt Stmt ℕ code y)
unfolding code
code_roll y = fold-roll-Stmt ℕ code_layer y

code_as : (y : Stmt-F Stmt) (x : Stmt) → roll-Stmt y ≡ x → code x ≡ code_layer (map-Stmt Stmt ℕ code y)
code_as y x is = ap code (sym is) ∙ code_roll y

pub code_skip : code stmt.Skip ≡ 0
code_skip = code_as open_stmt.Skip _ stmt.rolls-Skip

pub code_seq : (all : List Stmt) → code (stmt.Seq all) ≡ sum_of (map code all)
code_seq all = code_as (open_stmt.Seq all) _ (stmt.rolls-Seq all)

pub code_assign : (x : ℕ) (e : Expr) → code (stmt.Assign x e) ≡ 1 + expr_steps e
code_assign x e = code_as (open_stmt.Assign x e) _ (stmt.rolls-Assign x e)

pub code_store_word : (a e : Expr) → code (stmt.StoreWord a e) ≡ 1 + expr_steps a + expr_steps e
code_store_word a e = code_as (open_stmt.StoreWord a e) _ (stmt.rolls-StoreWord a e)

pub code_store_byte : (a e : Expr) → code (stmt.StoreByte a e) ≡ 1 + expr_steps a + expr_steps e
code_store_byte a e = code_as (open_stmt.StoreByte a e) _ (stmt.rolls-StoreByte a e)

pub code_if : (e : Expr) (first second : Stmt) → code (stmt.If e first second) ≡ 2 + expr_steps e + code first + code second
code_if e first second = code_as (open_stmt.If e first second) _ (stmt.rolls-If e first second)

pub code_while : (before : List Stmt) (e : Expr) (body : Stmt) → code (stmt.While before e body) ≡ 1 + sum_of (map code before) + test_steps e + code body
code_while before e body = code_as (open_stmt.While before e body) _ (stmt.rolls-While before e body)

pub code_break : code stmt.Break ≡ 1
code_break = code_as open_stmt.Break _ stmt.rolls-Break

pub code_continue : code stmt.Continue ≡ 1
code_continue = code_as open_stmt.Continue _ stmt.rolls-Continue

pub code_call : (results : List ℕ) (f : ℕ) (arguments : List Expr) (handler : Option (Handler Stmt)) → code (stmt.Call results f arguments handler) ≡ passed arguments + length results + handler_code (with_body code handler)
code_call results f arguments None = code_as (open_stmt.Call results f arguments None) _ (stmt.rolls-Call results f arguments None)
code_call results f arguments (Some h) = code_as (open_stmt.Call results f arguments (Some h)) _ (stmt.rolls-Call results f arguments (Some h))

pub code_tail_call : (f : ℕ) (arguments : List Expr) → code (stmt.TailCall f arguments) ≡ passed arguments
code_tail_call f arguments = code_as (open_stmt.TailCall f arguments) _ (stmt.rolls-TailCall f arguments)

pub code_return : (es : List Expr) → code (stmt.Return es) ≡ passed es
code_return es = code_as (open_stmt.Return es) _ (stmt.rolls-Return es)

pub code_raise : (i : ℕ) (es : List Expr) → code (stmt.Raise i es) ≡ passed es
code_raise i es = code_as (open_stmt.Raise i es) _ (stmt.rolls-Raise i es)

pub code_shared_load : (size : Size) (x : ℕ) (a : Expr) → code (stmt.SharedLoad size x a) ≡ 1 + expr_steps a
code_shared_load size x a = code_as (open_stmt.SharedLoad size x a) _ (stmt.rolls-SharedLoad size x a)

pub code_shared_store : (size : Size) (a e : Expr) → code (stmt.SharedStore size a e) ≡ 1 + expr_steps a + expr_steps e
code_shared_store size a e = code_as (open_stmt.SharedStore size a e) _ (stmt.rolls-SharedStore size a e)

pub code_foreign : (i : ℕ) (conf conf_len array array_len : Expr) → code (stmt.Foreign i conf conf_len array array_len) ≡ 4 + expr_steps conf + expr_steps conf_len + expr_steps array + expr_steps array_len
code_foreign i conf conf_len array array_len = code_as (open_stmt.Foreign i conf conf_len array array_len) _ (stmt.rolls-Foreign i conf conf_len array array_len)

pub ruleset code_rules = (code_skip, code_seq, code_assign, code_store_word, code_store_byte, code_if, code_while, code_break, code_continue, code_call, code_tail_call, code_return, code_raise, code_shared_load, code_shared_store, code_foreign)
