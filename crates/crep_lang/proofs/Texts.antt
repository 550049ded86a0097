-- What stands in the text of a statement, at each variant.
use Rattle.std.proofs.Common.{◌≡◌, ℕ, List, [], ◌∷◌, ◌++◌, length, map, Option, Some, None, sym, ap, ◌∙◌}
use Rattle.std.specs.Prelude.{flat_map}
use Rattle.pan_base.specs.declared.events.Size.{Size}
use Rattle.pan_flow.specs.Flow.{AtEnd, AtBreak, AtContinue, Flow, Ends, Then, Either, Loop}
use Rattle.pan_flow.specs.Functions.{all_in_turn, reads, sets, leaves, calls, asks}
use Rattle.pan_stage.specs.Mentions.{Mention}
use Rattle.pan_stage.specs.Mentions as mention
use Rattle.pan_stage.specs.Stage.{Site}
use Rattle.pan_stage.specs.Stage as site
use Rattle.pan_stage.specs.declared.program.Handler.{Handler}
use Rattle.crep_lang.specs.Text.{in_handler, sites_layer, sites, mentioned, all_mentioned, handler_mentions, mentions_layer, mentions, variables_read, all_read, flow_layer, flow_of}
use Rattle.crep_lang.specs.declared.syntax.Expr.{Expr}
use Rattle.crep_lang.specs.declared.syntax.Stmt.{Stmt, Stmt-F, roll-Stmt, map-Stmt, fold-roll-Stmt}
use Rattle.crep_lang.specs.declared.syntax.Stmt.TheOpen as open_stmt
use Rattle.crep_lang.specs.declared.syntax.Stmt.TheVariants as stmt
use Rattle.crep_lang.proofs.Handlers.{with_body}

-- ---- sites

sites_roll : (y : Stmt-F Stmt) → sites (roll-Stmt y) ≡ sites_layer (map-Stmt Stmt (List Site) sites y)
unfolding sites
sites_roll y = fold-roll-Stmt (List Site) sites_layer y

sites_as : (y : Stmt-F Stmt) (x : Stmt) → roll-Stmt y ≡ x → sites x ≡ sites_layer (map-Stmt Stmt (List Site) sites y)
sites_as y x is = ap sites (sym is) ∙ sites_roll y

pub sites_skip : sites stmt.Skip ≡ []
sites_skip = sites_as open_stmt.Skip _ stmt.rolls-Skip

pub sites_seq : (all : List Stmt) → sites (stmt.Seq all) ≡ flat_map (λ s. s) (map sites all)
sites_seq all = sites_as (open_stmt.Seq all) _ (stmt.rolls-Seq all)

pub sites_assign : (x : ℕ) (e : Expr) → sites (stmt.Assign x e) ≡ []
sites_assign x e = sites_as (open_stmt.Assign x e) _ (stmt.rolls-Assign x e)

pub sites_store_word : (a e : Expr) → sites (stmt.StoreWord a e) ≡ []
sites_store_word a e = sites_as (open_stmt.StoreWord a e) _ (stmt.rolls-StoreWord a e)

pub sites_store_byte : (a e : Expr) → sites (stmt.StoreByte a e) ≡ []
sites_store_byte a e = sites_as (open_stmt.StoreByte a e) _ (stmt.rolls-StoreByte a e)

pub sites_if : (e : Expr) (first second : Stmt) → sites (stmt.If e first second) ≡ sites first ++ sites second
sites_if e first second = sites_as (open_stmt.If e first second) _ (stmt.rolls-If e first second)

pub sites_while : (before : List Stmt) (e : Expr) (body : Stmt) → sites (stmt.While before e body) ≡ flat_map (λ s. s) (map sites before) ++ sites body
sites_while before e body = sites_as (open_stmt.While before e body) _ (stmt.rolls-While before e body)

pub sites_break : sites stmt.Break ≡ []
sites_break = sites_as open_stmt.Break _ stmt.rolls-Break

pub sites_continue : sites stmt.Continue ≡ []
sites_continue = sites_as open_stmt.Continue _ stmt.rolls-Continue

pub sites_call : (results : List ℕ) (f : ℕ) (arguments : List Expr) (handler : Option (Handler Stmt)) → sites (stmt.Call results f arguments handler) ≡ site.Called f ∷ in_handler (with_body sites handler)
sites_call results f arguments None = sites_as (open_stmt.Call results f arguments None) _ (stmt.rolls-Call results f arguments None)
sites_call results f arguments (Some h) = sites_as (open_stmt.Call results f arguments (Some h)) _ (stmt.rolls-Call results f arguments (Some h))

pub sites_tail_call : (f : ℕ) (arguments : List Expr) → sites (stmt.TailCall f arguments) ≡ site.TailCalled f ∷ []
sites_tail_call f arguments = sites_as (open_stmt.TailCall f arguments) _ (stmt.rolls-TailCall f arguments)

pub sites_return : (es : List Expr) → sites (stmt.Return es) ≡ []
sites_return es = sites_as (open_stmt.Return es) _ (stmt.rolls-Return es)

pub sites_raise : (i : ℕ) (es : List Expr) → sites (stmt.Raise i es) ≡ []
sites_raise i es = sites_as (open_stmt.Raise i es) _ (stmt.rolls-Raise i es)

pub sites_shared_load : (size : Size) (x : ℕ) (a : Expr) → sites (stmt.SharedLoad size x a) ≡ site.Loaded size ∷ []
sites_shared_load size x a = sites_as (open_stmt.SharedLoad size x a) _ (stmt.rolls-SharedLoad size x a)

pub sites_shared_store : (size : Size) (a e : Expr) → sites (stmt.SharedStore size a e) ≡ site.Stored size ∷ []
sites_shared_store size a e = sites_as (open_stmt.SharedStore size a e) _ (stmt.rolls-SharedStore size a e)

pub sites_foreign : (i : ℕ) (conf conf_len array array_len : Expr) → sites (stmt.Foreign i conf conf_len array array_len) ≡ site.Foreign i ∷ []
sites_foreign i conf conf_len array array_len = sites_as (open_stmt.Foreign i conf conf_len array array_len) _ (stmt.rolls-Foreign i conf conf_len array array_len)

pub ruleset sites_rules = (sites_skip, sites_seq, sites_assign, sites_store_word, sites_store_byte, sites_if, sites_while, sites_break, sites_continue, sites_call, sites_tail_call, sites_return, sites_raise, sites_shared_load, sites_shared_store, sites_foreign)

-- ---- mentions

mentions_roll : (y : Stmt-F Stmt) → mentions (roll-Stmt y) ≡ mentions_layer (map-Stmt Stmt (List Mention) mentions y)
unfolding mentions
mentions_roll y = fold-roll-Stmt (List Mention) mentions_layer y

mentions_as : (y : Stmt-F Stmt) (x : Stmt) → roll-Stmt y ≡ x → mentions x ≡ mentions_layer (map-Stmt Stmt (List Mention) mentions y)
mentions_as y x is = ap mentions (sym is) ∙ mentions_roll y

pub mentions_skip : mentions stmt.Skip ≡ []
mentions_skip = mentions_as open_stmt.Skip _ stmt.rolls-Skip

pub mentions_seq : (all : List Stmt) → mentions (stmt.Seq all) ≡ flat_map (λ s. s) (map mentions all)
mentions_seq all = mentions_as (open_stmt.Seq all) _ (stmt.rolls-Seq all)

pub mentions_assign : (x : ℕ) (e : Expr) → mentions (stmt.Assign x e) ≡ mentioned e
mentions_assign x e = mentions_as (open_stmt.Assign x e) _ (stmt.rolls-Assign x e)

pub mentions_store_word : (a e : Expr) → mentions (stmt.StoreWord a e) ≡ mentioned a ++ mentioned e
mentions_store_word a e = mentions_as (open_stmt.StoreWord a e) _ (stmt.rolls-StoreWord a e)

pub mentions_store_byte : (a e : Expr) → mentions (stmt.StoreByte a e) ≡ mentioned a ++ mentioned e
mentions_store_byte a e = mentions_as (open_stmt.StoreByte a e) _ (stmt.rolls-StoreByte a e)

pub mentions_if : (e : Expr) (first second : Stmt) → mentions (stmt.If e first second) ≡ mentioned e ++ (mentions first ++ mentions second)
mentions_if e first second = mentions_as (open_stmt.If e first second) _ (stmt.rolls-If e first second)

pub mentions_while : (before : List Stmt) (e : Expr) (body : Stmt) → mentions (stmt.While before e body) ≡ flat_map (λ s. s) (map mentions before) ++ (mentioned e ++ mentions body)
mentions_while before e body = mentions_as (open_stmt.While before e body) _ (stmt.rolls-While before e body)

pub mentions_break : mentions stmt.Break ≡ []
mentions_break = mentions_as open_stmt.Break _ stmt.rolls-Break

pub mentions_continue : mentions stmt.Continue ≡ []
mentions_continue = mentions_as open_stmt.Continue _ stmt.rolls-Continue

pub mentions_call : (results : List ℕ) (f : ℕ) (arguments : List Expr) (handler : Option (Handler Stmt)) → mentions (stmt.Call results f arguments handler) ≡ mention.Called f (length arguments) (length results) ∷ (all_mentioned arguments ++ handler_mentions (with_body mentions handler))
mentions_call results f arguments None = mentions_as (open_stmt.Call results f arguments None) _ (stmt.rolls-Call results f arguments None)
mentions_call results f arguments (Some h) = mentions_as (open_stmt.Call results f arguments (Some h)) _ (stmt.rolls-Call results f arguments (Some h))

pub mentions_tail_call : (f : ℕ) (arguments : List Expr) → mentions (stmt.TailCall f arguments) ≡ mention.TailCalled f (length arguments) ∷ all_mentioned arguments
mentions_tail_call f arguments = mentions_as (open_stmt.TailCall f arguments) _ (stmt.rolls-TailCall f arguments)

pub mentions_return : (es : List Expr) → mentions (stmt.Return es) ≡ mention.Returned (length es) ∷ all_mentioned es
mentions_return es = mentions_as (open_stmt.Return es) _ (stmt.rolls-Return es)

pub mentions_raise : (i : ℕ) (es : List Expr) → mentions (stmt.Raise i es) ≡ mention.Raised i (length es) ∷ all_mentioned es
mentions_raise i es = mentions_as (open_stmt.Raise i es) _ (stmt.rolls-Raise i es)

pub mentions_shared_load : (size : Size) (x : ℕ) (a : Expr) → mentions (stmt.SharedLoad size x a) ≡ mentioned a
mentions_shared_load size x a = mentions_as (open_stmt.SharedLoad size x a) _ (stmt.rolls-SharedLoad size x a)

pub mentions_shared_store : (size : Size) (a e : Expr) → mentions (stmt.SharedStore size a e) ≡ mentioned a ++ mentioned e
mentions_shared_store size a e = mentions_as (open_stmt.SharedStore size a e) _ (stmt.rolls-SharedStore size a e)

pub mentions_foreign : (i : ℕ) (conf conf_len array array_len : Expr) → mentions (stmt.Foreign i conf conf_len array array_len) ≡ mention.Foreign i ∷ all_mentioned (conf ∷ conf_len ∷ array ∷ array_len ∷ [])
mentions_foreign i conf conf_len array array_len = mentions_as (open_stmt.Foreign i conf conf_len array array_len) _ (stmt.rolls-Foreign i conf conf_len array array_len)

pub ruleset mentions_rules = (mentions_skip, mentions_seq, mentions_assign, mentions_store_word, mentions_store_byte, mentions_if, mentions_while, mentions_break, mentions_continue, mentions_call, mentions_tail_call, mentions_return, mentions_raise, mentions_shared_load, mentions_shared_store, mentions_foreign)

-- ---- ways

flow_roll : (y : Stmt-F Stmt) → flow_of (roll-Stmt y) ≡ flow_layer (map-Stmt Stmt Flow flow_of y)
unfolding flow_of
flow_roll y = fold-roll-Stmt Flow flow_layer y

flow_as : (y : Stmt-F Stmt) (x : Stmt) → roll-Stmt y ≡ x → flow_of x ≡ flow_layer (map-Stmt Stmt Flow flow_of y)
flow_as y x is = ap flow_of (sym is) ∙ flow_roll y

pub flow_skip : flow_of stmt.Skip ≡ Ends AtEnd
flow_skip = flow_as open_stmt.Skip _ stmt.rolls-Skip

pub flow_seq : (all : List Stmt) → flow_of (stmt.Seq all) ≡ all_in_turn (map flow_of all)
flow_seq all = flow_as (open_stmt.Seq all) _ (stmt.rolls-Seq all)

pub flow_assign : (x : ℕ) (e : Expr) → flow_of (stmt.Assign x e) ≡ sets x (variables_read e)
flow_assign x e = flow_as (open_stmt.Assign x e) _ (stmt.rolls-Assign x e)

pub flow_store_word : (a e : Expr) → flow_of (stmt.StoreWord a e) ≡ reads (all_read (a ∷ e ∷ []))
flow_store_word a e = flow_as (open_stmt.StoreWord a e) _ (stmt.rolls-StoreWord a e)

pub flow_store_byte : (a e : Expr) → flow_of (stmt.StoreByte a e) ≡ reads (all_read (a ∷ e ∷ []))
flow_store_byte a e = flow_as (open_stmt.StoreByte a e) _ (stmt.rolls-StoreByte a e)

pub flow_if : (e : Expr) (first second : Stmt) → flow_of (stmt.If e first second) ≡ Then (reads (variables_read e)) (Either (flow_of first) (flow_of second))
flow_if e first second = flow_as (open_stmt.If e first second) _ (stmt.rolls-If e first second)

pub flow_while : (before : List Stmt) (e : Expr) (body : Stmt) → flow_of (stmt.While before e body) ≡ Loop (Then (all_in_turn (map flow_of before)) (reads (variables_read e))) (flow_of body)
flow_while before e body = flow_as (open_stmt.While before e body) _ (stmt.rolls-While before e body)

pub flow_break : flow_of stmt.Break ≡ Ends AtBreak
flow_break = flow_as open_stmt.Break _ stmt.rolls-Break

pub flow_continue : flow_of stmt.Continue ≡ Ends AtContinue
flow_continue = flow_as open_stmt.Continue _ stmt.rolls-Continue

pub flow_call : (results : List ℕ) (f : ℕ) (arguments : List Expr) (handler : Option (Handler Stmt)) → flow_of (stmt.Call results f arguments handler) ≡ calls (all_read arguments) results (with_body flow_of handler)
flow_call results f arguments None = flow_as (open_stmt.Call results f arguments None) _ (stmt.rolls-Call results f arguments None)
flow_call results f arguments (Some h) = flow_as (open_stmt.Call results f arguments (Some h)) _ (stmt.rolls-Call results f arguments (Some h))

pub flow_tail_call : (f : ℕ) (arguments : List Expr) → flow_of (stmt.TailCall f arguments) ≡ leaves (all_read arguments)
flow_tail_call f arguments = flow_as (open_stmt.TailCall f arguments) _ (stmt.rolls-TailCall f arguments)

pub flow_return : (es : List Expr) → flow_of (stmt.Return es) ≡ leaves (all_read es)
flow_return es = flow_as (open_stmt.Return es) _ (stmt.rolls-Return es)

pub flow_raise : (i : ℕ) (es : List Expr) → flow_of (stmt.Raise i es) ≡ leaves (all_read es)
flow_raise i es = flow_as (open_stmt.Raise i es) _ (stmt.rolls-Raise i es)

pub flow_shared_load : (size : Size) (x : ℕ) (a : Expr) → flow_of (stmt.SharedLoad size x a) ≡ sets x (variables_read a)
flow_shared_load size x a = flow_as (open_stmt.SharedLoad size x a) _ (stmt.rolls-SharedLoad size x a)

pub flow_shared_store : (size : Size) (a e : Expr) → flow_of (stmt.SharedStore size a e) ≡ reads (all_read (a ∷ e ∷ []))
flow_shared_store size a e = flow_as (open_stmt.SharedStore size a e) _ (stmt.rolls-SharedStore size a e)

pub flow_foreign : (i : ℕ) (conf conf_len array array_len : Expr) → flow_of (stmt.Foreign i conf conf_len array array_len) ≡ asks (all_read (conf ∷ conf_len ∷ array ∷ array_len ∷ []))
flow_foreign i conf conf_len array array_len = flow_as (open_stmt.Foreign i conf conf_len array array_len) _ (stmt.rolls-Foreign i conf conf_len array array_len)

pub ruleset flow_rules = (flow_skip, flow_seq, flow_assign, flow_store_word, flow_store_byte, flow_if, flow_while, flow_break, flow_continue, flow_call, flow_tail_call, flow_return, flow_raise, flow_shared_load, flow_shared_store, flow_foreign)
