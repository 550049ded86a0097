-- What the definitions of the language are at each variant.
use Rattle.std.proofs.Common.{◌≡◌, ℕ, ◌+◌, List, [], ◌∷◌, ◌++◌, map, length, Option, Some, None, sym, ap, subst, ◌∙◌}
use Rattle.std.specs.Prelude.{flat_map, slice_get}
use Rattle.pan_base.specs.declared.events.Size.{Size}
use Rattle.pan_base.specs.declared.events.Size.TheVariants.{B1, B8}
use Rattle.pan_base.specs.declared.operators.BinOp.{BinOp}
use Rattle.pan_base.specs.declared.operators.ShOp.{ShOp}
use Rattle.pan_base.specs.declared.operators.Cmp.{Cmp}
use Rattle.pan_base.specs.Words.{operate, shift, truth}
use Rattle.pan_control.specs.Control.{Normal, Broken, Continued, Returned, Raised, in_turn, with_value, if_not_zero, turns, tail_call}
use Rattle.pan_control.specs.Runs.{foreign}
use Rattle.pan_stage.specs.Data.{World, Callee, with_read, with_written}
use Rattle.pan_stage.specs.Locals.{Locals, write}
use Rattle.pan_stage.specs.Mentions.{Mention}
use Rattle.pan_stage.specs.Mentions as mention
use Rattle.pan_stage.specs.Programs.{Does, call_from}
use Rattle.pan_stage.specs.Shared.{with_loaded, with_stored}
use Rattle.pan_stage.specs.Stage.{Site}
use Rattle.pan_stage.specs.Stage as site
use Rattle.pan_stage.specs.Sums.{sum_of}
use Rattle.pan_stage.specs.Toll.{stepped}
use Rattle.pan_stage.specs.declared.program.Handler.{Handler}
use Rattle.pan_flow.specs.Flow.{AtEnd, AtBreak, AtContinue, Flow, Ends, Then, Either, Loop}
use Rattle.pan_flow.specs.Functions.{all_in_turn, reads, sets, leaves, calls, asks}
use Rattle.loop_lang.specs.Steps.{passed, test_steps}
use Rattle.loop_lang.specs.Meaning.{run_layer, run}
use Rattle.loop_lang.specs.Text.{in_handler, sites_layer, sites, handler_mentions, mentions_layer, mentions, flow_layer, flow_of}
use Rattle.loop_lang.specs.Needs.{handler_code, code_layer, code}
use Rattle.loop_lang.specs.declared.syntax.Stmt.{Stmt, Stmt-F, roll-Stmt, map-Stmt, ind-Stmt, fold-roll-Stmt}
use Rattle.loop_lang.specs.declared.syntax.Stmt.TheOpen as open_stmt
use Rattle.loop_lang.specs.declared.syntax.Stmt.TheVariants as stmt

-- what holds of each statement whose parts have it holds of all
pub stmt_induct : (P : Stmt → Type 0) → ((y : Stmt-F ((s : Stmt) × P s)) → P (roll-Stmt (map-Stmt ((s : Stmt) × P s) Stmt (λ c. c.0) y))) → (s : Stmt) → P s
stmt_induct P at s = ind-Stmt P (λ x y is. subst (λ x. P (roll-Stmt x)) is (at y)) s

-- a handler, with what is said of its body
abbrev pub map_handler : {A B : Type 0} → (A → B) → Option (Handler A) → Option (Handler B)
map_handler f None = None
map_handler f (Some h) = Some (record { exception = h.exception; variables = h.variables; body = f h.body })

-- ---- meanings

-- with the foreign names, where loops make at most so many turns, and functions do so
module _ (names : List (List ℕ)) (d : ℕ) (callee : Callee (List ℕ) (List ℕ)) where
  pub run_roll : (y : Stmt-F Stmt) → run names d callee (roll-Stmt y) ≡ run_layer names d callee (map-Stmt Stmt Does (run names d callee) y)
  unfolding run
  run_roll y = fold-roll-Stmt Does (run_layer names d callee) y

  -- a statement by its layer
  pub run_as : (y : Stmt-F Stmt) (s : Stmt) → roll-Stmt y ≡ s → (u : Locals) (w : World) → run names d callee s u w ≡ run_layer names d callee (map-Stmt Stmt Does (run names d callee) y) u w
  run_as y s is u w = ap (λ s. run names d callee s u w) (sym is) ∙ ap (λ g. g u w) (run_roll y)

  pub run_skip : (u : Locals) (w : World) → run names d callee stmt.Skip u w ≡ Normal u (stepped 0 w)
  run_skip u w = run_as open_stmt.Skip _ stmt.rolls-Skip u w

  pub run_seq : (all : List Stmt) (u : Locals) (w : World) → run names d callee (stmt.Seq all) u w ≡ in_turn (map (run names d callee) all) u (stepped 0 w)
  run_seq all u w = run_as (open_stmt.Seq all) _ (stmt.rolls-Seq all) u w

  pub run_const : (x n : ℕ) (u : Locals) (w : World) → run names d callee (stmt.Const x n) u w ≡ Normal (write x n u) (stepped 1 w)
  run_const x n u w = run_as (open_stmt.Const x n) _ (stmt.rolls-Const x n) u w

  pub run_move : (x a : ℕ) (u : Locals) (w : World) → run names d callee (stmt.Move x a) u w ≡ Normal (write x (u a) u) (stepped 1 w)
  run_move x a u w = run_as (open_stmt.Move x a) _ (stmt.rolls-Move x a) u w

  pub run_bin : (o : BinOp) (x a b : ℕ) (u : Locals) (w : World) → run names d callee (stmt.Bin o x a b) u w ≡ Normal (write x (operate o (u a) (u b)) u) (stepped 1 w)
  run_bin o x a b u w = run_as (open_stmt.Bin o x a b) _ (stmt.rolls-Bin o x a b) u w

  pub run_shift : (o : ShOp) (x a n : ℕ) (u : Locals) (w : World) → run names d callee (stmt.Shift o x a n) u w ≡ Normal (write x (shift o (u a) n) u) (stepped 3 w)
  run_shift o x a n u w = run_as (open_stmt.Shift o x a n) _ (stmt.rolls-Shift o x a n) u w

  pub run_compare : (c : Cmp) (x a b : ℕ) (u : Locals) (w : World) → run names d callee (stmt.Compare c x a b) u w ≡ Normal (write x (truth c (u a) (u b)) u) (stepped 3 w)
  run_compare c x a b u w = run_as (open_stmt.Compare c x a b) _ (stmt.rolls-Compare c x a b) u w

  pub run_load_word : (x a : ℕ) (u : Locals) (w : World) → run names d callee (stmt.LoadWord x a) u w ≡ with_read B8 (u a) (stepped 1 w) (λ n. Normal (write x n u) (stepped 1 w))
  run_load_word x a u w = run_as (open_stmt.LoadWord x a) _ (stmt.rolls-LoadWord x a) u w

  pub run_load_byte : (x a : ℕ) (u : Locals) (w : World) → run names d callee (stmt.LoadByte x a) u w ≡ with_read B1 (u a) (stepped 1 w) (λ n. Normal (write x n u) (stepped 1 w))
  run_load_byte x a u w = run_as (open_stmt.LoadByte x a) _ (stmt.rolls-LoadByte x a) u w

  pub run_store_word : (a x : ℕ) (u : Locals) (w : World) → run names d callee (stmt.StoreWord a x) u w ≡ with_written B8 (u a) (u x) (stepped 1 w) (λ w. Normal u w)
  run_store_word a x u w = run_as (open_stmt.StoreWord a x) _ (stmt.rolls-StoreWord a x) u w

  pub run_store_byte : (a x : ℕ) (u : Locals) (w : World) → run names d callee (stmt.StoreByte a x) u w ≡ with_written B1 (u a) (u x) (stepped 1 w) (λ w. Normal u w)
  run_store_byte a x u w = run_as (open_stmt.StoreByte a x) _ (stmt.rolls-StoreByte a x) u w

  pub run_if : (x : ℕ) (first second : Stmt) (u : Locals) (w : World) → run names d callee (stmt.If x first second) u w ≡ if_not_zero (u x) (run names d callee first u (stepped 2 w)) (run names d callee second u (stepped 2 w))
  run_if x first second u w = run_as (open_stmt.If x first second) _ (stmt.rolls-If x first second) u w

  pub run_while : (live : List ℕ) (before : List Stmt) (x : ℕ) (body : Stmt) (u : Locals) (w : World) → run names d callee (stmt.While live before x body) u w ≡ turns d (λ u w. in_turn (map (run names d callee) before) u (stepped test_steps w)) (λ u w. Some (u x)) (run names d callee body) u (stepped 1 w)
  run_while live before x body u w = run_as (open_stmt.While live before x body) _ (stmt.rolls-While live before x body) u w

  pub run_break : (u : Locals) (w : World) → run names d callee stmt.Break u w ≡ Broken u (stepped 1 w)
  run_break u w = run_as open_stmt.Break _ stmt.rolls-Break u w

  pub run_continue : (u : Locals) (w : World) → run names d callee stmt.Continue u w ≡ Continued u (stepped 1 w)
  run_continue u w = run_as open_stmt.Continue _ stmt.rolls-Continue u w

  pub run_call : (live results : List ℕ) (f : ℕ) (arguments : List ℕ) (handler : Option (Handler Stmt)) (u : Locals) (w : World) → run names d callee (stmt.Call live results f arguments handler) u w ≡ call_from callee f (Some (map u arguments)) results (map_handler (run names d callee) handler) u (stepped (passed arguments) w)
  run_call live results f arguments None u w = run_as (open_stmt.Call live results f arguments None) _ (stmt.rolls-Call live results f arguments None) u w
  run_call live results f arguments (Some h) u w = run_as (open_stmt.Call live results f arguments (Some h)) _ (stmt.rolls-Call live results f arguments (Some h)) u w

  pub run_tail_call : (f : ℕ) (arguments : List ℕ) (u : Locals) (w : World) → run names d callee (stmt.TailCall f arguments) u w ≡ tail_call callee f (Some (map u arguments)) (stepped (passed arguments) w)
  run_tail_call f arguments u w = run_as (open_stmt.TailCall f arguments) _ (stmt.rolls-TailCall f arguments) u w

  pub run_return : (xs : List ℕ) (u : Locals) (w : World) → run names d callee (stmt.Return xs) u w ≡ Returned (map u xs) (stepped (passed xs) w)
  run_return xs u w = run_as (open_stmt.Return xs) _ (stmt.rolls-Return xs) u w

  pub run_raise : (i : ℕ) (xs : List ℕ) (u : Locals) (w : World) → run names d callee (stmt.Raise i xs) u w ≡ Raised i (map u xs) (stepped (passed xs) w)
  run_raise i xs u w = run_as (open_stmt.Raise i xs) _ (stmt.rolls-Raise i xs) u w

  pub run_shared_load : (size : Size) (x a : ℕ) (u : Locals) (w : World) → run names d callee (stmt.SharedLoad size x a) u w ≡ with_loaded size (u a) (stepped 1 w) (λ n w. Normal (write x n u) w)
  run_shared_load size x a u w = run_as (open_stmt.SharedLoad size x a) _ (stmt.rolls-SharedLoad size x a) u w

  pub run_shared_store : (size : Size) (a x : ℕ) (u : Locals) (w : World) → run names d callee (stmt.SharedStore size a x) u w ≡ with_stored size (u a) (u x) (stepped 1 w) (λ w. Normal u w)
  run_shared_store size a x u w = run_as (open_stmt.SharedStore size a x) _ (stmt.rolls-SharedStore size a x) u w

  pub run_foreign : (live : List ℕ) (i conf conf_len array array_len : ℕ) (u : Locals) (w : World) → run names d callee (stmt.Foreign live i conf conf_len array array_len) u w ≡ with_value (slice_get names i) (stepped 4 w) (λ name. foreign i name (u conf) (u conf_len) (u array) (u array_len) u (stepped 4 w))
  run_foreign live i conf conf_len array array_len u w = run_as (open_stmt.Foreign live i conf conf_len array array_len) _ (stmt.rolls-Foreign live i conf conf_len array array_len) u w

-- ---- sites

pub sites_roll : (y : Stmt-F Stmt) → sites (roll-Stmt y) ≡ sites_layer (map-Stmt Stmt (List Site) sites y)
unfolding sites
sites_roll y = fold-roll-Stmt (List Site) sites_layer y

-- a statement by its layer
pub sites_as : (y : Stmt-F Stmt) (s : Stmt) → roll-Stmt y ≡ s → sites s ≡ sites_layer (map-Stmt Stmt (List Site) sites y)
sites_as y s is = ap sites (sym is) ∙ sites_roll y

pub sites_skip : sites stmt.Skip ≡ []
sites_skip = sites_as open_stmt.Skip _ stmt.rolls-Skip

pub sites_seq : (all : List Stmt) → sites (stmt.Seq all) ≡ flat_map (λ s. s) (map sites all)
sites_seq all = sites_as (open_stmt.Seq all) _ (stmt.rolls-Seq all)

pub sites_const : (x n : ℕ) → sites (stmt.Const x n) ≡ []
sites_const x n = sites_as (open_stmt.Const x n) _ (stmt.rolls-Const x n)

pub sites_move : (x a : ℕ) → sites (stmt.Move x a) ≡ []
sites_move x a = sites_as (open_stmt.Move x a) _ (stmt.rolls-Move x a)

pub sites_bin : (o : BinOp) (x a b : ℕ) → sites (stmt.Bin o x a b) ≡ []
sites_bin o x a b = sites_as (open_stmt.Bin o x a b) _ (stmt.rolls-Bin o x a b)

pub sites_shift : (o : ShOp) (x a n : ℕ) → sites (stmt.Shift o x a n) ≡ []
sites_shift o x a n = sites_as (open_stmt.Shift o x a n) _ (stmt.rolls-Shift o x a n)

pub sites_compare : (c : Cmp) (x a b : ℕ) → sites (stmt.Compare c x a b) ≡ []
sites_compare c x a b = sites_as (open_stmt.Compare c x a b) _ (stmt.rolls-Compare c x a b)

pub sites_load_word : (x a : ℕ) → sites (stmt.LoadWord x a) ≡ []
sites_load_word x a = sites_as (open_stmt.LoadWord x a) _ (stmt.rolls-LoadWord x a)

pub sites_load_byte : (x a : ℕ) → sites (stmt.LoadByte x a) ≡ []
sites_load_byte x a = sites_as (open_stmt.LoadByte x a) _ (stmt.rolls-LoadByte x a)

pub sites_store_word : (a x : ℕ) → sites (stmt.StoreWord a x) ≡ []
sites_store_word a x = sites_as (open_stmt.StoreWord a x) _ (stmt.rolls-StoreWord a x)

pub sites_store_byte : (a x : ℕ) → sites (stmt.StoreByte a x) ≡ []
sites_store_byte a x = sites_as (open_stmt.StoreByte a x) _ (stmt.rolls-StoreByte a x)

pub sites_if : (x : ℕ) (first second : Stmt) → sites (stmt.If x first second) ≡ sites first ++ sites second
sites_if x first second = sites_as (open_stmt.If x first second) _ (stmt.rolls-If x first second)

pub sites_while : (live : List ℕ) (before : List Stmt) (x : ℕ) (body : Stmt) → sites (stmt.While live before x body) ≡ flat_map (λ s. s) (map sites before) ++ sites body
sites_while live before x body = sites_as (open_stmt.While live before x body) _ (stmt.rolls-While live before x body)

pub sites_break : sites stmt.Break ≡ []
sites_break = sites_as open_stmt.Break _ stmt.rolls-Break

pub sites_continue : sites stmt.Continue ≡ []
sites_continue = sites_as open_stmt.Continue _ stmt.rolls-Continue

pub sites_call : (live results : List ℕ) (f : ℕ) (arguments : List ℕ) (handler : Option (Handler Stmt)) → sites (stmt.Call live results f arguments handler) ≡ site.Called f ∷ in_handler (map_handler sites handler)
sites_call live results f arguments None = sites_as (open_stmt.Call live results f arguments None) _ (stmt.rolls-Call live results f arguments None)
sites_call live results f arguments (Some h) = sites_as (open_stmt.Call live results f arguments (Some h)) _ (stmt.rolls-Call live results f arguments (Some h))

pub sites_tail_call : (f : ℕ) (arguments : List ℕ) → sites (stmt.TailCall f arguments) ≡ site.TailCalled f ∷ []
sites_tail_call f arguments = sites_as (open_stmt.TailCall f arguments) _ (stmt.rolls-TailCall f arguments)

pub sites_return : (xs : List ℕ) → sites (stmt.Return xs) ≡ []
sites_return xs = sites_as (open_stmt.Return xs) _ (stmt.rolls-Return xs)

pub sites_raise : (i : ℕ) (xs : List ℕ) → sites (stmt.Raise i xs) ≡ []
sites_raise i xs = sites_as (open_stmt.Raise i xs) _ (stmt.rolls-Raise i xs)

pub sites_shared_load : (size : Size) (x a : ℕ) → sites (stmt.SharedLoad size x a) ≡ site.Loaded size ∷ []
sites_shared_load size x a = sites_as (open_stmt.SharedLoad size x a) _ (stmt.rolls-SharedLoad size x a)

pub sites_shared_store : (size : Size) (a x : ℕ) → sites (stmt.SharedStore size a x) ≡ site.Stored size ∷ []
sites_shared_store size a x = sites_as (open_stmt.SharedStore size a x) _ (stmt.rolls-SharedStore size a x)

pub sites_foreign : (live : List ℕ) (i conf conf_len array array_len : ℕ) → sites (stmt.Foreign live i conf conf_len array array_len) ≡ site.Foreign i ∷ []
sites_foreign live i conf conf_len array array_len = sites_as (open_stmt.Foreign live i conf conf_len array array_len) _ (stmt.rolls-Foreign live i conf conf_len array array_len)

-- ---- mentions

pub mentions_roll : (y : Stmt-F Stmt) → mentions (roll-Stmt y) ≡ mentions_layer (map-Stmt Stmt (List Mention) mentions y)
unfolding mentions
mentions_roll y = fold-roll-Stmt (List Mention) mentions_layer y

-- a statement by its layer
pub mentions_as : (y : Stmt-F Stmt) (s : Stmt) → roll-Stmt y ≡ s → mentions s ≡ mentions_layer (map-Stmt Stmt (List Mention) mentions y)
mentions_as y s is = ap mentions (sym is) ∙ mentions_roll y

pub mentions_skip : mentions stmt.Skip ≡ []
mentions_skip = mentions_as open_stmt.Skip _ stmt.rolls-Skip

pub mentions_seq : (all : List Stmt) → mentions (stmt.Seq all) ≡ flat_map (λ s. s) (map mentions all)
mentions_seq all = mentions_as (open_stmt.Seq all) _ (stmt.rolls-Seq all)

pub mentions_const : (x n : ℕ) → mentions (stmt.Const x n) ≡ mention.Number n ∷ []
mentions_const x n = mentions_as (open_stmt.Const x n) _ (stmt.rolls-Const x n)

pub mentions_move : (x a : ℕ) → mentions (stmt.Move x a) ≡ []
mentions_move x a = mentions_as (open_stmt.Move x a) _ (stmt.rolls-Move x a)

pub mentions_bin : (o : BinOp) (x a b : ℕ) → mentions (stmt.Bin o x a b) ≡ []
mentions_bin o x a b = mentions_as (open_stmt.Bin o x a b) _ (stmt.rolls-Bin o x a b)

pub mentions_shift : (o : ShOp) (x a n : ℕ) → mentions (stmt.Shift o x a n) ≡ mention.Amount 64 n ∷ []
mentions_shift o x a n = mentions_as (open_stmt.Shift o x a n) _ (stmt.rolls-Shift o x a n)

pub mentions_compare : (c : Cmp) (x a b : ℕ) → mentions (stmt.Compare c x a b) ≡ []
mentions_compare c x a b = mentions_as (open_stmt.Compare c x a b) _ (stmt.rolls-Compare c x a b)

pub mentions_load_word : (x a : ℕ) → mentions (stmt.LoadWord x a) ≡ []
mentions_load_word x a = mentions_as (open_stmt.LoadWord x a) _ (stmt.rolls-LoadWord x a)

pub mentions_load_byte : (x a : ℕ) → mentions (stmt.LoadByte x a) ≡ []
mentions_load_byte x a = mentions_as (open_stmt.LoadByte x a) _ (stmt.rolls-LoadByte x a)

pub mentions_store_word : (a x : ℕ) → mentions (stmt.StoreWord a x) ≡ []
mentions_store_word a x = mentions_as (open_stmt.StoreWord a x) _ (stmt.rolls-StoreWord a x)

pub mentions_store_byte : (a x : ℕ) → mentions (stmt.StoreByte a x) ≡ []
mentions_store_byte a x = mentions_as (open_stmt.StoreByte a x) _ (stmt.rolls-StoreByte a x)

pub mentions_if : (x : ℕ) (first second : Stmt) → mentions (stmt.If x first second) ≡ mentions first ++ mentions second
mentions_if x first second = mentions_as (open_stmt.If x first second) _ (stmt.rolls-If x first second)

pub mentions_while : (live : List ℕ) (before : List Stmt) (x : ℕ) (body : Stmt) → mentions (stmt.While live before x body) ≡ flat_map (λ s. s) (map mentions before) ++ mentions body
mentions_while live before x body = mentions_as (open_stmt.While live before x body) _ (stmt.rolls-While live before x body)

pub mentions_break : mentions stmt.Break ≡ []
mentions_break = mentions_as open_stmt.Break _ stmt.rolls-Break

pub mentions_continue : mentions stmt.Continue ≡ []
mentions_continue = mentions_as open_stmt.Continue _ stmt.rolls-Continue

pub mentions_call : (live results : List ℕ) (f : ℕ) (arguments : List ℕ) (handler : Option (Handler Stmt)) → mentions (stmt.Call live results f arguments handler) ≡ mention.Called f (length arguments) (length results) ∷ handler_mentions (map_handler mentions handler)
mentions_call live results f arguments None = mentions_as (open_stmt.Call live results f arguments None) _ (stmt.rolls-Call live results f arguments None)
mentions_call live results f arguments (Some h) = mentions_as (open_stmt.Call live results f arguments (Some h)) _ (stmt.rolls-Call live results f arguments (Some h))

pub mentions_tail_call : (f : ℕ) (arguments : List ℕ) → mentions (stmt.TailCall f arguments) ≡ mention.TailCalled f (length arguments) ∷ []
mentions_tail_call f arguments = mentions_as (open_stmt.TailCall f arguments) _ (stmt.rolls-TailCall f arguments)

pub mentions_return : (xs : List ℕ) → mentions (stmt.Return xs) ≡ mention.Returned (length xs) ∷ []
mentions_return xs = mentions_as (open_stmt.Return xs) _ (stmt.rolls-Return xs)

pub mentions_raise : (i : ℕ) (xs : List ℕ) → mentions (stmt.Raise i xs) ≡ mention.Raised i (length xs) ∷ []
mentions_raise i xs = mentions_as (open_stmt.Raise i xs) _ (stmt.rolls-Raise i xs)

pub mentions_shared_load : (size : Size) (x a : ℕ) → mentions (stmt.SharedLoad size x a) ≡ []
mentions_shared_load size x a = mentions_as (open_stmt.SharedLoad size x a) _ (stmt.rolls-SharedLoad size x a)

pub mentions_shared_store : (size : Size) (a x : ℕ) → mentions (stmt.SharedStore size a x) ≡ []
mentions_shared_store size a x = mentions_as (open_stmt.SharedStore size a x) _ (stmt.rolls-SharedStore size a x)

pub mentions_foreign : (live : List ℕ) (i conf conf_len array array_len : ℕ) → mentions (stmt.Foreign live i conf conf_len array array_len) ≡ mention.Foreign i ∷ []
mentions_foreign live i conf conf_len array array_len = mentions_as (open_stmt.Foreign live i conf conf_len array array_len) _ (stmt.rolls-Foreign live i conf conf_len array array_len)

-- ---- ways

pub flow_roll : (y : Stmt-F Stmt) → flow_of (roll-Stmt y) ≡ flow_layer (map-Stmt Stmt Flow flow_of y)
unfolding flow_of
flow_roll y = fold-roll-Stmt Flow flow_layer y

-- a statement by its layer
pub flow_as : (y : Stmt-F Stmt) (s : Stmt) → roll-Stmt y ≡ s → flow_of s ≡ flow_layer (map-Stmt Stmt Flow flow_of y)
flow_as y s is = ap flow_of (sym is) ∙ flow_roll y

pub flow_skip : flow_of stmt.Skip ≡ Ends AtEnd
flow_skip = flow_as open_stmt.Skip _ stmt.rolls-Skip

pub flow_seq : (all : List Stmt) → flow_of (stmt.Seq all) ≡ all_in_turn (map flow_of all)
flow_seq all = flow_as (open_stmt.Seq all) _ (stmt.rolls-Seq all)

pub flow_const : (x n : ℕ) → flow_of (stmt.Const x n) ≡ sets x []
flow_const x n = flow_as (open_stmt.Const x n) _ (stmt.rolls-Const x n)

pub flow_move : (x a : ℕ) → flow_of (stmt.Move x a) ≡ sets x (a ∷ [])
flow_move x a = flow_as (open_stmt.Move x a) _ (stmt.rolls-Move x a)

pub flow_bin : (o : BinOp) (x a b : ℕ) → flow_of (stmt.Bin o x a b) ≡ sets x (a ∷ b ∷ [])
flow_bin o x a b = flow_as (open_stmt.Bin o x a b) _ (stmt.rolls-Bin o x a b)

pub flow_shift : (o : ShOp) (x a n : ℕ) → flow_of (stmt.Shift o x a n) ≡ sets x (a ∷ [])
flow_shift o x a n = flow_as (open_stmt.Shift o x a n) _ (stmt.rolls-Shift o x a n)

pub flow_compare : (c : Cmp) (x a b : ℕ) → flow_of (stmt.Compare c x a b) ≡ sets x (a ∷ b ∷ [])
flow_compare c x a b = flow_as (open_stmt.Compare c x a b) _ (stmt.rolls-Compare c x a b)

pub flow_load_word : (x a : ℕ) → flow_of (stmt.LoadWord x a) ≡ sets x (a ∷ [])
flow_load_word x a = flow_as (open_stmt.LoadWord x a) _ (stmt.rolls-LoadWord x a)

pub flow_load_byte : (x a : ℕ) → flow_of (stmt.LoadByte x a) ≡ sets x (a ∷ [])
flow_load_byte x a = flow_as (open_stmt.LoadByte x a) _ (stmt.rolls-LoadByte x a)

pub flow_store_word : (a x : ℕ) → flow_of (stmt.StoreWord a x) ≡ reads (a ∷ x ∷ [])
flow_store_word a x = flow_as (open_stmt.StoreWord a x) _ (stmt.rolls-StoreWord a x)

pub flow_store_byte : (a x : ℕ) → flow_of (stmt.StoreByte a x) ≡ reads (a ∷ x ∷ [])
flow_store_byte a x = flow_as (open_stmt.StoreByte a x) _ (stmt.rolls-StoreByte a x)

pub flow_if : (x : ℕ) (first second : Stmt) → flow_of (stmt.If x first second) ≡ Then (reads (x ∷ [])) (Either (flow_of first) (flow_of second))
flow_if x first second = flow_as (open_stmt.If x first second) _ (stmt.rolls-If x first second)

pub flow_while : (live : List ℕ) (before : List Stmt) (x : ℕ) (body : Stmt) → flow_of (stmt.While live before x body) ≡ Loop (Then (all_in_turn (map flow_of before)) (reads (x ∷ []))) (flow_of body)
flow_while live before x body = flow_as (open_stmt.While live before x body) _ (stmt.rolls-While live before x body)

pub flow_break : flow_of stmt.Break ≡ Ends AtBreak
flow_break = flow_as open_stmt.Break _ stmt.rolls-Break

pub flow_continue : flow_of stmt.Continue ≡ Ends AtContinue
flow_continue = flow_as open_stmt.Continue _ stmt.rolls-Continue

pub flow_call : (live results : List ℕ) (f : ℕ) (arguments : List ℕ) (handler : Option (Handler Stmt)) → flow_of (stmt.Call live results f arguments handler) ≡ calls arguments results (map_handler flow_of handler)
flow_call live results f arguments None = flow_as (open_stmt.Call live results f arguments None) _ (stmt.rolls-Call live results f arguments None)
flow_call live results f arguments (Some h) = flow_as (open_stmt.Call live results f arguments (Some h)) _ (stmt.rolls-Call live results f arguments (Some h))

pub flow_tail_call : (f : ℕ) (arguments : List ℕ) → flow_of (stmt.TailCall f arguments) ≡ leaves arguments
flow_tail_call f arguments = flow_as (open_stmt.TailCall f arguments) _ (stmt.rolls-TailCall f arguments)

pub flow_return : (xs : List ℕ) → flow_of (stmt.Return xs) ≡ leaves xs
flow_return xs = flow_as (open_stmt.Return xs) _ (stmt.rolls-Return xs)

pub flow_raise : (i : ℕ) (xs : List ℕ) → flow_of (stmt.Raise i xs) ≡ leaves xs
flow_raise i xs = flow_as (open_stmt.Raise i xs) _ (stmt.rolls-Raise i xs)

pub flow_shared_load : (size : Size) (x a : ℕ) → flow_of (stmt.SharedLoad size x a) ≡ sets x (a ∷ [])
flow_shared_load size x a = flow_as (open_stmt.SharedLoad size x a) _ (stmt.rolls-SharedLoad size x a)

pub flow_shared_store : (size : Size) (a x : ℕ) → flow_of (stmt.SharedStore size a x) ≡ reads (a ∷ x ∷ [])
flow_shared_store size a x = flow_as (open_stmt.SharedStore size a x) _ (stmt.rolls-SharedStore size a x)

pub flow_foreign : (live : List ℕ) (i conf conf_len array array_len : ℕ) → flow_of (stmt.Foreign live i conf conf_len array array_len) ≡ asks (conf ∷ conf_len ∷ array ∷ array_len ∷ [])
flow_foreign live i conf conf_len array array_len = flow_as (open_stmt.Foreign live i conf conf_len array array_len) _ (stmt.rolls-Foreign live i conf conf_len array array_len)

-- ---- code

pub code_roll : (y : Stmt-F Stmt) → code (roll-Stmt y) ≡ code_layer (map-Stmt Stmt ℕ code y)
unfolding code
code_roll y = fold-roll-Stmt ℕ code_layer y

-- a statement by its layer
pub code_as : (y : Stmt-F Stmt) (s : Stmt) → roll-Stmt y ≡ s → code s ≡ code_layer (map-Stmt Stmt ℕ code y)
code_as y s is = ap code (sym is) ∙ code_roll y

pub code_skip : code stmt.Skip ≡ 0
code_skip = code_as open_stmt.Skip _ stmt.rolls-Skip

pub code_seq : (all : List Stmt) → code (stmt.Seq all) ≡ sum_of (map code all)
code_seq all = code_as (open_stmt.Seq all) _ (stmt.rolls-Seq all)

pub code_const : (x n : ℕ) → code (stmt.Const x n) ≡ 1
code_const x n = code_as (open_stmt.Const x n) _ (stmt.rolls-Const x n)

pub code_move : (x a : ℕ) → code (stmt.Move x a) ≡ 1
code_move x a = code_as (open_stmt.Move x a) _ (stmt.rolls-Move x a)

pub code_bin : (o : BinOp) (x a b : ℕ) → code (stmt.Bin o x a b) ≡ 1
code_bin o x a b = code_as (open_stmt.Bin o x a b) _ (stmt.rolls-Bin o x a b)

pub code_shift : (o : ShOp) (x a n : ℕ) → code (stmt.Shift o x a n) ≡ 3
code_shift o x a n = code_as (open_stmt.Shift o x a n) _ (stmt.rolls-Shift o x a n)

pub code_compare : (c : Cmp) (x a b : ℕ) → code (stmt.Compare c x a b) ≡ 3
code_compare c x a b = code_as (open_stmt.Compare c x a b) _ (stmt.rolls-Compare c x a b)

pub code_load_word : (x a : ℕ) → code (stmt.LoadWord x a) ≡ 1
code_load_word x a = code_as (open_stmt.LoadWord x a) _ (stmt.rolls-LoadWord x a)

pub code_load_byte : (x a : ℕ) → code (stmt.LoadByte x a) ≡ 1
code_load_byte x a = code_as (open_stmt.LoadByte x a) _ (stmt.rolls-LoadByte x a)

pub code_store_word : (a x : ℕ) → code (stmt.StoreWord a x) ≡ 1
code_store_word a x = code_as (open_stmt.StoreWord a x) _ (stmt.rolls-StoreWord a x)

pub code_store_byte : (a x : ℕ) → code (stmt.StoreByte a x) ≡ 1
code_store_byte a x = code_as (open_stmt.StoreByte a x) _ (stmt.rolls-StoreByte a x)

pub code_if : (x : ℕ) (first second : Stmt) → code (stmt.If x first second) ≡ 2 + code first + code second
code_if x first second = code_as (open_stmt.If x first second) _ (stmt.rolls-If x first second)

pub code_while : (live : List ℕ) (before : List Stmt) (x : ℕ) (body : Stmt) → code (stmt.While live before x body) ≡ 1 + sum_of (map code before) + test_steps + code body
code_while live before x body = code_as (open_stmt.While live before x body) _ (stmt.rolls-While live before x body)

pub code_break : code stmt.Break ≡ 1
code_break = code_as open_stmt.Break _ stmt.rolls-Break

pub code_continue : code stmt.Continue ≡ 1
code_continue = code_as open_stmt.Continue _ stmt.rolls-Continue

pub code_call : (live results : List ℕ) (f : ℕ) (arguments : List ℕ) (handler : Option (Handler Stmt)) → code (stmt.Call live results f arguments handler) ≡ passed arguments + length results + handler_code (map_handler code handler)
code_call live results f arguments None = code_as (open_stmt.Call live results f arguments None) _ (stmt.rolls-Call live results f arguments None)
code_call live results f arguments (Some h) = code_as (open_stmt.Call live results f arguments (Some h)) _ (stmt.rolls-Call live results f arguments (Some h))

pub code_tail_call : (f : ℕ) (arguments : List ℕ) → code (stmt.TailCall f arguments) ≡ passed arguments
code_tail_call f arguments = code_as (open_stmt.TailCall f arguments) _ (stmt.rolls-TailCall f arguments)

pub code_return : (xs : List ℕ) → code (stmt.Return xs) ≡ passed xs
code_return xs = code_as (open_stmt.Return xs) _ (stmt.rolls-Return xs)

pub code_raise : (i : ℕ) (xs : List ℕ) → code (stmt.Raise i xs) ≡ passed xs
code_raise i xs = code_as (open_stmt.Raise i xs) _ (stmt.rolls-Raise i xs)

pub code_shared_load : (size : Size) (x a : ℕ) → code (stmt.SharedLoad size x a) ≡ 1
code_shared_load size x a = code_as (open_stmt.SharedLoad size x a) _ (stmt.rolls-SharedLoad size x a)

pub code_shared_store : (size : Size) (a x : ℕ) → code (stmt.SharedStore size a x) ≡ 1
code_shared_store size a x = code_as (open_stmt.SharedStore size a x) _ (stmt.rolls-SharedStore size a x)

pub code_foreign : (live : List ℕ) (i conf conf_len array array_len : ℕ) → code (stmt.Foreign live i conf conf_len array array_len) ≡ 4
code_foreign live i conf conf_len array array_len = code_as (open_stmt.Foreign live i conf conf_len array array_len) _ (stmt.rolls-Foreign live i conf conf_len array array_len)
