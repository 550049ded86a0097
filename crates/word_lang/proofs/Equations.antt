-- What is said of a statement, at each variant.
use Rattle.std.proofs.Common.{◌≡◌, ℕ, ◌+◌, List, [], ◌∷◌, ◌++◌, map, length, Option, Some, None, sym, ap, subst, ◌∙◌}
use Rattle.std.specs.Prelude.{ℤ, flat_map, slice_get}
use Rattle.pan_base.specs.declared.events.Size.{Size}
use Rattle.pan_base.specs.declared.operators.ROp.{ROp}
use Rattle.pan_base.specs.declared.operators.IOp.{IOp}
use Rattle.pan_base.specs.declared.operators.ShiftOp.{ShiftOp}
use Rattle.pan_base.specs.declared.operators.LOp.{LOp}
use Rattle.pan_base.specs.declared.operators.SOp.{SOp}
use Rattle.pan_base.specs.Results.{plus, r_result, i_result, sh_result, l_result, loads, stores}
use Rattle.pan_control.specs.Control.{Normal, Broken, Continued, Returned, Raised, in_turn, with_value, if_not_zero, turns, tail_call}
use Rattle.pan_control.specs.Runs.{foreign}
use Rattle.pan_flow.specs.Flow.{Writes, AtEnd, AtBreak, AtContinue, Flow, Does, Ends, Then, Either, Loop}
use Rattle.pan_flow.specs.Functions.{all_in_turn, reads, sets, leaves, calls, asks}
use Rattle.pan_stage.specs.Data.{World, Callee, with_read, with_written}
use Rattle.pan_stage.specs.Locals.{Locals, write}
use Rattle.pan_stage.specs.Mentions.{Mention}
use Rattle.pan_stage.specs.Mentions as mention
use Rattle.pan_stage.specs.Programs.{call_from}
use Rattle.pan_stage.specs.Programs as programs
use Rattle.pan_stage.specs.Shared.{with_loaded, with_stored}
use Rattle.pan_stage.specs.Stage.{Site}
use Rattle.pan_stage.specs.Stage as site
use Rattle.pan_stage.specs.Sums.{sum_of}
use Rattle.pan_stage.specs.Toll.{stepped}
use Rattle.pan_stage.specs.declared.program.Handler.{Handler}
use Rattle.word_lang.specs.Meaning.{outcome, run_layer, run}
use Rattle.word_lang.specs.Needs.{handler_code, code_layer, code}
use Rattle.word_lang.specs.Steps.{passed, test_steps}
use Rattle.word_lang.specs.Text.{in_handler, sites_layer, sites, shifted_bits, handler_mentions, mentions_layer, mentions, variables_read, flow_layer, flow_of}
use Rattle.word_lang.specs.declared.syntax.Test.{Test}
use Rattle.word_lang.specs.declared.syntax.Stmt.{Stmt, Stmt-F, roll-Stmt, map-Stmt, fold-Stmt, ind-Stmt, fold-roll-Stmt}
use Rattle.word_lang.specs.declared.syntax.Stmt.TheOpen as open_stmt
use Rattle.word_lang.specs.declared.syntax.Stmt.TheVariants as stmt

-- what holds at each layer whose parts it holds of holds of every statement
pub stmt_induct : (P : Stmt → Type 0) → ((y : Stmt-F ((s : Stmt) × P s)) → P (roll-Stmt (map-Stmt ((s : Stmt) × P s) Stmt (λ c. c.0) y))) → (s : Stmt) → P s
stmt_induct P at s = ind-Stmt P (λ x y is. subst (λ x. P (roll-Stmt x)) is (at y)) s

-- a handler, with what is said of its body
abbrev pub handler_as : {A : Type 0} → (Stmt → A) → Option (Handler Stmt) → Option (Handler A)
handler_as f None = None
handler_as f (Some h) = Some (record { exception = h.exception; variables = h.variables; body = f h.body })

-- what a fold says of a statement, at its layer
folded : (A : Type 0) (layer : Stmt-F A → A) (y : Stmt-F Stmt) (s : Stmt) → roll-Stmt y ≡ s → fold-Stmt A layer s ≡ layer (map-Stmt Stmt A (fold-Stmt A layer) y)
folded A layer y s is = ap (fold-Stmt A layer) (sym is) ∙ fold-roll-Stmt A layer y

-- ---- runs

module _ (names : List (List ℕ)) (d : ℕ) (callee : Callee (List ℕ) (List ℕ)) where
  run_as : (y : Stmt-F Stmt) (s : Stmt) → roll-Stmt y ≡ s → (u : Locals) (w : World) → run names d callee s u w ≡ run_layer names d callee (map-Stmt Stmt programs.Does (run names d callee) y) u w
  unfolding run
  run_as y s is u w = ap (λ g. g u w) (folded programs.Does (run_layer names d callee) y s is)

  pub run_skip : (u : Locals) (w : World) → run names d callee stmt.Skip u w ≡ Normal u (stepped 0 w)
  run_skip u w = run_as open_stmt.Skip _ stmt.rolls-Skip u w

  pub run_seq : (all : List Stmt) (u : Locals) (w : World) → run names d callee (stmt.Seq all) u w ≡ in_turn (map (run names d callee) all) u (stepped 0 w)
  run_seq all u w = run_as (open_stmt.Seq all) _ (stmt.rolls-Seq all) u w

  pub run_const : (x n : ℕ) (u : Locals) (w : World) → run names d callee (stmt.Const x n) u w ≡ Normal (write x n u) (stepped 1 w)
  run_const x n u w = run_as (open_stmt.Const x n) _ (stmt.rolls-Const x n) u w

  pub run_reg : (o : ROp) (x a b : ℕ) (u : Locals) (w : World) → run names d callee (stmt.Reg o x a b) u w ≡ Normal (write x (r_result o (u a) (u b)) u) (stepped 1 w)
  run_reg o x a b u w = run_as (open_stmt.Reg o x a b) _ (stmt.rolls-Reg o x a b) u w

  pub run_imm : (o : IOp) (x a : ℕ) (i : ℤ) (u : Locals) (w : World) → run names d callee (stmt.Imm o x a i) u w ≡ Normal (write x (i_result o (u a) i) u) (stepped 1 w)
  run_imm o x a i u w = run_as (open_stmt.Imm o x a i) _ (stmt.rolls-Imm o x a i) u w

  pub run_sh : (o : ShiftOp) (x a n : ℕ) (u : Locals) (w : World) → run names d callee (stmt.Sh o x a n) u w ≡ Normal (write x (sh_result o (u a) n) u) (stepped 1 w)
  run_sh o x a n u w = run_as (open_stmt.Sh o x a n) _ (stmt.rolls-Sh o x a n) u w

  pub run_load : (o : LOp) (x a : ℕ) (i : ℤ) (u : Locals) (w : World) → run names d callee (stmt.Load o x a i) u w ≡ with_read (loads o) (plus (u a) i) (stepped 1 w) (λ n. Normal (write x (l_result o n) u) (stepped 1 w))
  run_load o x a i u w = run_as (open_stmt.Load o x a i) _ (stmt.rolls-Load o x a i) u w

  pub run_store : (o : SOp) (x a : ℕ) (i : ℤ) (u : Locals) (w : World) → run names d callee (stmt.Store o x a i) u w ≡ with_written (stores o) (plus (u a) i) (u x) (stepped 1 w) (λ w. Normal u w)
  run_store o x a i u w = run_as (open_stmt.Store o x a i) _ (stmt.rolls-Store o x a i) u w

  pub run_if : (y : Test) (first second : Stmt) (u : Locals) (w : World) → run names d callee (stmt.If y first second) u w ≡ if_not_zero (outcome y u) (run names d callee first u (stepped 1 w)) (run names d callee second u (stepped 1 w))
  run_if y first second u w = run_as (open_stmt.If y first second) _ (stmt.rolls-If y first second) u w

  pub run_while : (before : List Stmt) (y : Test) (body : Stmt) (u : Locals) (w : World) → run names d callee (stmt.While before y body) u w ≡ turns d (λ u w. in_turn (map (run names d callee) before) u (stepped test_steps w)) (λ u w. Some (outcome y u)) (run names d callee body) u (stepped 1 w)
  run_while before y body u w = run_as (open_stmt.While before y body) _ (stmt.rolls-While before y body) u w

  pub run_break : (u : Locals) (w : World) → run names d callee stmt.Break u w ≡ Broken u (stepped 1 w)
  run_break u w = run_as open_stmt.Break _ stmt.rolls-Break u w

  pub run_continue : (u : Locals) (w : World) → run names d callee stmt.Continue u w ≡ Continued u (stepped 1 w)
  run_continue u w = run_as open_stmt.Continue _ stmt.rolls-Continue u w

  pub run_call : (results : List ℕ) (f : ℕ) (arguments : List ℕ) (h : Option (Handler Stmt)) (u : Locals) (w : World) → run names d callee (stmt.Call results f arguments h) u w ≡ call_from callee f (Some (map u arguments)) results (handler_as (run names d callee) h) u (stepped (passed arguments) w)
  run_call results f arguments None u w = run_as (open_stmt.Call results f arguments None) _ (stmt.rolls-Call results f arguments None) u w
  run_call results f arguments (Some h) u w = run_as (open_stmt.Call results f arguments (Some h)) _ (stmt.rolls-Call results f arguments (Some h)) u w

  pub run_tail_call : (f : ℕ) (arguments : List ℕ) (u : Locals) (w : World) → run names d callee (stmt.TailCall f arguments) u w ≡ tail_call callee f (Some (map u arguments)) (stepped (passed arguments) w)
  run_tail_call f arguments u w = run_as (open_stmt.TailCall f arguments) _ (stmt.rolls-TailCall f arguments) u w

  pub run_return : (xs : List ℕ) (u : Locals) (w : World) → run names d callee (stmt.Return xs) u w ≡ Returned (map u xs) (stepped (passed xs) w)
  run_return xs u w = run_as (open_stmt.Return xs) _ (stmt.rolls-Return xs) u w

  pub run_raise : (i : ℕ) (xs : List ℕ) (u : Locals) (w : World) → run names d callee (stmt.Raise i xs) u w ≡ Raised i (map u xs) (stepped (passed xs) w)
  run_raise i xs u w = run_as (open_stmt.Raise i xs) _ (stmt.rolls-Raise i xs) u w

  pub run_shared_load : (size : Size) (x a : ℕ) (i : ℤ) (u : Locals) (w : World) → run names d callee (stmt.SharedLoad size x a i) u w ≡ with_loaded size (plus (u a) i) (stepped 1 w) (λ n w. Normal (write x n u) w)
  run_shared_load size x a i u w = run_as (open_stmt.SharedLoad size x a i) _ (stmt.rolls-SharedLoad size x a i) u w

  pub run_shared_store : (size : Size) (x a : ℕ) (i : ℤ) (u : Locals) (w : World) → run names d callee (stmt.SharedStore size x a i) u w ≡ with_stored size (plus (u a) i) (u x) (stepped 1 w) (λ w. Normal u w)
  run_shared_store size x a i u w = run_as (open_stmt.SharedStore size x a i) _ (stmt.rolls-SharedStore size x a i) u w

  pub run_foreign : (i conf conf_len array array_len : ℕ) (u : Locals) (w : World) → run names d callee (stmt.Foreign i conf conf_len array array_len) u w ≡ with_value (slice_get names i) (stepped 4 w) (λ name. foreign i name (u conf) (u conf_len) (u array) (u array_len) u (stepped 4 w))
  run_foreign i conf conf_len array array_len u w = run_as (open_stmt.Foreign i conf conf_len array array_len) _ (stmt.rolls-Foreign i conf conf_len array array_len) u w

-- ---- sites

pub sites_of_skip : sites stmt.Skip ≡ []
unfolding sites
sites_of_skip = folded (List Site) sites_layer open_stmt.Skip _ stmt.rolls-Skip

pub sites_of_seq : (all : List Stmt) → sites (stmt.Seq all) ≡ flat_map (λ s. s) (map sites all)
unfolding sites
sites_of_seq all = folded (List Site) sites_layer (open_stmt.Seq all) _ (stmt.rolls-Seq all)

pub sites_of_const : (x n : ℕ) → sites (stmt.Const x n) ≡ []
unfolding sites
sites_of_const x n = folded (List Site) sites_layer (open_stmt.Const x n) _ (stmt.rolls-Const x n)

pub sites_of_reg : (o : ROp) (x a b : ℕ) → sites (stmt.Reg o x a b) ≡ []
unfolding sites
sites_of_reg o x a b = folded (List Site) sites_layer (open_stmt.Reg o x a b) _ (stmt.rolls-Reg o x a b)

pub sites_of_imm : (o : IOp) (x a : ℕ) (i : ℤ) → sites (stmt.Imm o x a i) ≡ []
unfolding sites
sites_of_imm o x a i = folded (List Site) sites_layer (open_stmt.Imm o x a i) _ (stmt.rolls-Imm o x a i)

pub sites_of_sh : (o : ShiftOp) (x a n : ℕ) → sites (stmt.Sh o x a n) ≡ []
unfolding sites
sites_of_sh o x a n = folded (List Site) sites_layer (open_stmt.Sh o x a n) _ (stmt.rolls-Sh o x a n)

pub sites_of_load : (o : LOp) (x a : ℕ) (i : ℤ) → sites (stmt.Load o x a i) ≡ []
unfolding sites
sites_of_load o x a i = folded (List Site) sites_layer (open_stmt.Load o x a i) _ (stmt.rolls-Load o x a i)

pub sites_of_store : (o : SOp) (x a : ℕ) (i : ℤ) → sites (stmt.Store o x a i) ≡ []
unfolding sites
sites_of_store o x a i = folded (List Site) sites_layer (open_stmt.Store o x a i) _ (stmt.rolls-Store o x a i)

pub sites_of_if : (y : Test) (first second : Stmt) → sites (stmt.If y first second) ≡ sites first ++ sites second
unfolding sites
sites_of_if y first second = folded (List Site) sites_layer (open_stmt.If y first second) _ (stmt.rolls-If y first second)

pub sites_of_while : (before : List Stmt) (y : Test) (body : Stmt) → sites (stmt.While before y body) ≡ flat_map (λ s. s) (map sites before) ++ sites body
unfolding sites
sites_of_while before y body = folded (List Site) sites_layer (open_stmt.While before y body) _ (stmt.rolls-While before y body)

pub sites_of_break : sites stmt.Break ≡ []
unfolding sites
sites_of_break = folded (List Site) sites_layer open_stmt.Break _ stmt.rolls-Break

pub sites_of_continue : sites stmt.Continue ≡ []
unfolding sites
sites_of_continue = folded (List Site) sites_layer open_stmt.Continue _ stmt.rolls-Continue

pub sites_of_call : (results : List ℕ) (f : ℕ) (arguments : List ℕ) (h : Option (Handler Stmt)) → sites (stmt.Call results f arguments h) ≡ site.Called f ∷ in_handler (handler_as sites h)
unfolding sites
sites_of_call results f arguments None = folded (List Site) sites_layer (open_stmt.Call results f arguments None) _ (stmt.rolls-Call results f arguments None)
sites_of_call results f arguments (Some h) = folded (List Site) sites_layer (open_stmt.Call results f arguments (Some h)) _ (stmt.rolls-Call results f arguments (Some h))

pub sites_of_tail_call : (f : ℕ) (arguments : List ℕ) → sites (stmt.TailCall f arguments) ≡ site.TailCalled f ∷ []
unfolding sites
sites_of_tail_call f arguments = folded (List Site) sites_layer (open_stmt.TailCall f arguments) _ (stmt.rolls-TailCall f arguments)

pub sites_of_return : (xs : List ℕ) → sites (stmt.Return xs) ≡ []
unfolding sites
sites_of_return xs = folded (List Site) sites_layer (open_stmt.Return xs) _ (stmt.rolls-Return xs)

pub sites_of_raise : (i : ℕ) (xs : List ℕ) → sites (stmt.Raise i xs) ≡ []
unfolding sites
sites_of_raise i xs = folded (List Site) sites_layer (open_stmt.Raise i xs) _ (stmt.rolls-Raise i xs)

pub sites_of_shared_load : (size : Size) (x a : ℕ) (i : ℤ) → sites (stmt.SharedLoad size x a i) ≡ site.Loaded size ∷ []
unfolding sites
sites_of_shared_load size x a i = folded (List Site) sites_layer (open_stmt.SharedLoad size x a i) _ (stmt.rolls-SharedLoad size x a i)

pub sites_of_shared_store : (size : Size) (x a : ℕ) (i : ℤ) → sites (stmt.SharedStore size x a i) ≡ site.Stored size ∷ []
unfolding sites
sites_of_shared_store size x a i = folded (List Site) sites_layer (open_stmt.SharedStore size x a i) _ (stmt.rolls-SharedStore size x a i)

pub sites_of_foreign : (i conf conf_len array array_len : ℕ) → sites (stmt.Foreign i conf conf_len array array_len) ≡ site.Foreign i ∷ []
unfolding sites
sites_of_foreign i conf conf_len array array_len = folded (List Site) sites_layer (open_stmt.Foreign i conf conf_len array array_len) _ (stmt.rolls-Foreign i conf conf_len array array_len)

-- ---- mentions

pub mentions_of_skip : mentions stmt.Skip ≡ []
unfolding mentions
mentions_of_skip = folded (List Mention) mentions_layer open_stmt.Skip _ stmt.rolls-Skip

pub mentions_of_seq : (all : List Stmt) → mentions (stmt.Seq all) ≡ flat_map (λ s. s) (map mentions all)
unfolding mentions
mentions_of_seq all = folded (List Mention) mentions_layer (open_stmt.Seq all) _ (stmt.rolls-Seq all)

pub mentions_of_const : (x n : ℕ) → mentions (stmt.Const x n) ≡ mention.Number n ∷ []
unfolding mentions
mentions_of_const x n = folded (List Mention) mentions_layer (open_stmt.Const x n) _ (stmt.rolls-Const x n)

pub mentions_of_reg : (o : ROp) (x a b : ℕ) → mentions (stmt.Reg o x a b) ≡ []
unfolding mentions
mentions_of_reg o x a b = folded (List Mention) mentions_layer (open_stmt.Reg o x a b) _ (stmt.rolls-Reg o x a b)

pub mentions_of_imm : (o : IOp) (x a : ℕ) (i : ℤ) → mentions (stmt.Imm o x a i) ≡ mention.Immediate i ∷ []
unfolding mentions
mentions_of_imm o x a i = folded (List Mention) mentions_layer (open_stmt.Imm o x a i) _ (stmt.rolls-Imm o x a i)

pub mentions_of_sh : (o : ShiftOp) (x a n : ℕ) → mentions (stmt.Sh o x a n) ≡ mention.Amount (shifted_bits o) n ∷ []
unfolding mentions
mentions_of_sh o x a n = folded (List Mention) mentions_layer (open_stmt.Sh o x a n) _ (stmt.rolls-Sh o x a n)

pub mentions_of_load : (o : LOp) (x a : ℕ) (i : ℤ) → mentions (stmt.Load o x a i) ≡ mention.Immediate i ∷ []
unfolding mentions
mentions_of_load o x a i = folded (List Mention) mentions_layer (open_stmt.Load o x a i) _ (stmt.rolls-Load o x a i)

pub mentions_of_store : (o : SOp) (x a : ℕ) (i : ℤ) → mentions (stmt.Store o x a i) ≡ mention.Immediate i ∷ []
unfolding mentions
mentions_of_store o x a i = folded (List Mention) mentions_layer (open_stmt.Store o x a i) _ (stmt.rolls-Store o x a i)

pub mentions_of_if : (y : Test) (first second : Stmt) → mentions (stmt.If y first second) ≡ mentions first ++ mentions second
unfolding mentions
mentions_of_if y first second = folded (List Mention) mentions_layer (open_stmt.If y first second) _ (stmt.rolls-If y first second)

pub mentions_of_while : (before : List Stmt) (y : Test) (body : Stmt) → mentions (stmt.While before y body) ≡ flat_map (λ s. s) (map mentions before) ++ mentions body
unfolding mentions
mentions_of_while before y body = folded (List Mention) mentions_layer (open_stmt.While before y body) _ (stmt.rolls-While before y body)

pub mentions_of_break : mentions stmt.Break ≡ []
unfolding mentions
mentions_of_break = folded (List Mention) mentions_layer open_stmt.Break _ stmt.rolls-Break

pub mentions_of_continue : mentions stmt.Continue ≡ []
unfolding mentions
mentions_of_continue = folded (List Mention) mentions_layer open_stmt.Continue _ stmt.rolls-Continue

pub mentions_of_call : (results : List ℕ) (f : ℕ) (arguments : List ℕ) (h : Option (Handler Stmt)) → mentions (stmt.Call results f arguments h) ≡ mention.Called f (length arguments) (length results) ∷ handler_mentions (handler_as mentions h)
unfolding mentions
mentions_of_call results f arguments None = folded (List Mention) mentions_layer (open_stmt.Call results f arguments None) _ (stmt.rolls-Call results f arguments None)
mentions_of_call results f arguments (Some h) = folded (List Mention) mentions_layer (open_stmt.Call results f arguments (Some h)) _ (stmt.rolls-Call results f arguments (Some h))

pub mentions_of_tail_call : (f : ℕ) (arguments : List ℕ) → mentions (stmt.TailCall f arguments) ≡ mention.TailCalled f (length arguments) ∷ []
unfolding mentions
mentions_of_tail_call f arguments = folded (List Mention) mentions_layer (open_stmt.TailCall f arguments) _ (stmt.rolls-TailCall f arguments)

pub mentions_of_return : (xs : List ℕ) → mentions (stmt.Return xs) ≡ mention.Returned (length xs) ∷ []
unfolding mentions
mentions_of_return xs = folded (List Mention) mentions_layer (open_stmt.Return xs) _ (stmt.rolls-Return xs)

pub mentions_of_raise : (i : ℕ) (xs : List ℕ) → mentions (stmt.Raise i xs) ≡ mention.Raised i (length xs) ∷ []
unfolding mentions
mentions_of_raise i xs = folded (List Mention) mentions_layer (open_stmt.Raise i xs) _ (stmt.rolls-Raise i xs)

pub mentions_of_shared_load : (size : Size) (x a : ℕ) (i : ℤ) → mentions (stmt.SharedLoad size x a i) ≡ mention.Immediate i ∷ []
unfolding mentions
mentions_of_shared_load size x a i = folded (List Mention) mentions_layer (open_stmt.SharedLoad size x a i) _ (stmt.rolls-SharedLoad size x a i)

pub mentions_of_shared_store : (size : Size) (x a : ℕ) (i : ℤ) → mentions (stmt.SharedStore size x a i) ≡ mention.Immediate i ∷ []
unfolding mentions
mentions_of_shared_store size x a i = folded (List Mention) mentions_layer (open_stmt.SharedStore size x a i) _ (stmt.rolls-SharedStore size x a i)

pub mentions_of_foreign : (i conf conf_len array array_len : ℕ) → mentions (stmt.Foreign i conf conf_len array array_len) ≡ mention.Foreign i ∷ []
unfolding mentions
mentions_of_foreign i conf conf_len array array_len = folded (List Mention) mentions_layer (open_stmt.Foreign i conf conf_len array array_len) _ (stmt.rolls-Foreign i conf conf_len array array_len)

-- ---- ways

pub flow_of_skip : flow_of stmt.Skip ≡ Ends AtEnd
unfolding flow_of
flow_of_skip = folded Flow flow_layer open_stmt.Skip _ stmt.rolls-Skip

pub flow_of_seq : (all : List Stmt) → flow_of (stmt.Seq all) ≡ all_in_turn (map flow_of all)
unfolding flow_of
flow_of_seq all = folded Flow flow_layer (open_stmt.Seq all) _ (stmt.rolls-Seq all)

pub flow_of_const : (x n : ℕ) → flow_of (stmt.Const x n) ≡ Does (Writes (x ∷ []))
unfolding flow_of
flow_of_const x n = folded Flow flow_layer (open_stmt.Const x n) _ (stmt.rolls-Const x n)

pub flow_of_reg : (o : ROp) (x a b : ℕ) → flow_of (stmt.Reg o x a b) ≡ sets x (a ∷ b ∷ [])
unfolding flow_of
flow_of_reg o x a b = folded Flow flow_layer (open_stmt.Reg o x a b) _ (stmt.rolls-Reg o x a b)

pub flow_of_imm : (o : IOp) (x a : ℕ) (i : ℤ) → flow_of (stmt.Imm o x a i) ≡ sets x (a ∷ [])
unfolding flow_of
flow_of_imm o x a i = folded Flow flow_layer (open_stmt.Imm o x a i) _ (stmt.rolls-Imm o x a i)

pub flow_of_sh : (o : ShiftOp) (x a n : ℕ) → flow_of (stmt.Sh o x a n) ≡ sets x (a ∷ [])
unfolding flow_of
flow_of_sh o x a n = folded Flow flow_layer (open_stmt.Sh o x a n) _ (stmt.rolls-Sh o x a n)

pub flow_of_load : (o : LOp) (x a : ℕ) (i : ℤ) → flow_of (stmt.Load o x a i) ≡ sets x (a ∷ [])
unfolding flow_of
flow_of_load o x a i = folded Flow flow_layer (open_stmt.Load o x a i) _ (stmt.rolls-Load o x a i)

pub flow_of_store : (o : SOp) (x a : ℕ) (i : ℤ) → flow_of (stmt.Store o x a i) ≡ reads (a ∷ x ∷ [])
unfolding flow_of
flow_of_store o x a i = folded Flow flow_layer (open_stmt.Store o x a i) _ (stmt.rolls-Store o x a i)

pub flow_of_if : (y : Test) (first second : Stmt) → flow_of (stmt.If y first second) ≡ Then (reads (variables_read y)) (Either (flow_of first) (flow_of second))
unfolding flow_of
flow_of_if y first second = folded Flow flow_layer (open_stmt.If y first second) _ (stmt.rolls-If y first second)

pub flow_of_while : (before : List Stmt) (y : Test) (body : Stmt) → flow_of (stmt.While before y body) ≡ Loop (Then (all_in_turn (map flow_of before)) (reads (variables_read y))) (flow_of body)
unfolding flow_of
flow_of_while before y body = folded Flow flow_layer (open_stmt.While before y body) _ (stmt.rolls-While before y body)

pub flow_of_break : flow_of stmt.Break ≡ Ends AtBreak
unfolding flow_of
flow_of_break = folded Flow flow_layer open_stmt.Break _ stmt.rolls-Break

pub flow_of_continue : flow_of stmt.Continue ≡ Ends AtContinue
unfolding flow_of
flow_of_continue = folded Flow flow_layer open_stmt.Continue _ stmt.rolls-Continue

pub flow_of_call : (results : List ℕ) (f : ℕ) (arguments : List ℕ) (h : Option (Handler Stmt)) → flow_of (stmt.Call results f arguments h) ≡ calls arguments results (handler_as flow_of h)
unfolding flow_of
flow_of_call results f arguments None = folded Flow flow_layer (open_stmt.Call results f arguments None) _ (stmt.rolls-Call results f arguments None)
flow_of_call results f arguments (Some h) = folded Flow flow_layer (open_stmt.Call results f arguments (Some h)) _ (stmt.rolls-Call results f arguments (Some h))

pub flow_of_tail_call : (f : ℕ) (arguments : List ℕ) → flow_of (stmt.TailCall f arguments) ≡ leaves arguments
unfolding flow_of
flow_of_tail_call f arguments = folded Flow flow_layer (open_stmt.TailCall f arguments) _ (stmt.rolls-TailCall f arguments)

pub flow_of_return : (xs : List ℕ) → flow_of (stmt.Return xs) ≡ leaves xs
unfolding flow_of
flow_of_return xs = folded Flow flow_layer (open_stmt.Return xs) _ (stmt.rolls-Return xs)

pub flow_of_raise : (i : ℕ) (xs : List ℕ) → flow_of (stmt.Raise i xs) ≡ leaves xs
unfolding flow_of
flow_of_raise i xs = folded Flow flow_layer (open_stmt.Raise i xs) _ (stmt.rolls-Raise i xs)

pub flow_of_shared_load : (size : Size) (x a : ℕ) (i : ℤ) → flow_of (stmt.SharedLoad size x a i) ≡ sets x (a ∷ [])
unfolding flow_of
flow_of_shared_load size x a i = folded Flow flow_layer (open_stmt.SharedLoad size x a i) _ (stmt.rolls-SharedLoad size x a i)

pub flow_of_shared_store : (size : Size) (x a : ℕ) (i : ℤ) → flow_of (stmt.SharedStore size x a i) ≡ reads (a ∷ x ∷ [])
unfolding flow_of
flow_of_shared_store size x a i = folded Flow flow_layer (open_stmt.SharedStore size x a i) _ (stmt.rolls-SharedStore size x a i)

pub flow_of_foreign : (i conf conf_len array array_len : ℕ) → flow_of (stmt.Foreign i conf conf_len array array_len) ≡ asks (conf ∷ conf_len ∷ array ∷ array_len ∷ [])
unfolding flow_of
flow_of_foreign i conf conf_len array array_len = folded Flow flow_layer (open_stmt.Foreign i conf conf_len array array_len) _ (stmt.rolls-Foreign i conf conf_len array array_len)

-- ---- code

pub code_of_skip : code stmt.Skip ≡ 0
unfolding code
code_of_skip = folded ℕ code_layer open_stmt.Skip _ stmt.rolls-Skip

pub code_of_seq : (all : List Stmt) → code (stmt.Seq all) ≡ sum_of (map code all)
unfolding code
code_of_seq all = folded ℕ code_layer (open_stmt.Seq all) _ (stmt.rolls-Seq all)

pub code_of_const : (x n : ℕ) → code (stmt.Const x n) ≡ 1
unfolding code
code_of_const x n = folded ℕ code_layer (open_stmt.Const x n) _ (stmt.rolls-Const x n)

pub code_of_reg : (o : ROp) (x a b : ℕ) → code (stmt.Reg o x a b) ≡ 1
unfolding code
code_of_reg o x a b = folded ℕ code_layer (open_stmt.Reg o x a b) _ (stmt.rolls-Reg o x a b)

pub code_of_imm : (o : IOp) (x a : ℕ) (i : ℤ) → code (stmt.Imm o x a i) ≡ 1
unfolding code
code_of_imm o x a i = folded ℕ code_layer (open_stmt.Imm o x a i) _ (stmt.rolls-Imm o x a i)

pub code_of_sh : (o : ShiftOp) (x a n : ℕ) → code (stmt.Sh o x a n) ≡ 1
unfolding code
code_of_sh o x a n = folded ℕ code_layer (open_stmt.Sh o x a n) _ (stmt.rolls-Sh o x a n)

pub code_of_load : (o : LOp) (x a : ℕ) (i : ℤ) → code (stmt.Load o x a i) ≡ 1
unfolding code
code_of_load o x a i = folded ℕ code_layer (open_stmt.Load o x a i) _ (stmt.rolls-Load o x a i)

pub code_of_store : (o : SOp) (x a : ℕ) (i : ℤ) → code (stmt.Store o x a i) ≡ 1
unfolding code
code_of_store o x a i = folded ℕ code_layer (open_stmt.Store o x a i) _ (stmt.rolls-Store o x a i)

pub code_of_if : (y : Test) (first second : Stmt) → code (stmt.If y first second) ≡ 1 + code first + code second
unfolding code
code_of_if y first second = folded ℕ code_layer (open_stmt.If y first second) _ (stmt.rolls-If y first second)

pub code_of_while : (before : List Stmt) (y : Test) (body : Stmt) → code (stmt.While before y body) ≡ 1 + sum_of (map code before) + test_steps + code body
unfolding code
code_of_while before y body = folded ℕ code_layer (open_stmt.While before y body) _ (stmt.rolls-While before y body)

pub code_of_break : code stmt.Break ≡ 1
unfolding code
code_of_break = folded ℕ code_layer open_stmt.Break _ stmt.rolls-Break

pub code_of_continue : code stmt.Continue ≡ 1
unfolding code
code_of_continue = folded ℕ code_layer open_stmt.Continue _ stmt.rolls-Continue

pub code_of_call : (results : List ℕ) (f : ℕ) (arguments : List ℕ) (h : Option (Handler Stmt)) → code (stmt.Call results f arguments h) ≡ passed arguments + length results + handler_code (handler_as code h)
unfolding code
code_of_call results f arguments None = folded ℕ code_layer (open_stmt.Call results f arguments None) _ (stmt.rolls-Call results f arguments None)
code_of_call results f arguments (Some h) = folded ℕ code_layer (open_stmt.Call results f arguments (Some h)) _ (stmt.rolls-Call results f arguments (Some h))

pub code_of_tail_call : (f : ℕ) (arguments : List ℕ) → code (stmt.TailCall f arguments) ≡ passed arguments
unfolding code
code_of_tail_call f arguments = folded ℕ code_layer (open_stmt.TailCall f arguments) _ (stmt.rolls-TailCall f arguments)

pub code_of_return : (xs : List ℕ) → code (stmt.Return xs) ≡ passed xs
unfolding code
code_of_return xs = folded ℕ code_layer (open_stmt.Return xs) _ (stmt.rolls-Return xs)

pub code_of_raise : (i : ℕ) (xs : List ℕ) → code (stmt.Raise i xs) ≡ passed xs
unfolding code
code_of_raise i xs = folded ℕ code_layer (open_stmt.Raise i xs) _ (stmt.rolls-Raise i xs)

pub code_of_shared_load : (size : Size) (x a : ℕ) (i : ℤ) → code (stmt.SharedLoad size x a i) ≡ 1
unfolding code
code_of_shared_load size x a i = folded ℕ code_layer (open_stmt.SharedLoad size x a i) _ (stmt.rolls-SharedLoad size x a i)

pub code_of_shared_store : (size : Size) (x a : ℕ) (i : ℤ) → code (stmt.SharedStore size x a i) ≡ 1
unfolding code
code_of_shared_store size x a i = folded ℕ code_layer (open_stmt.SharedStore size x a i) _ (stmt.rolls-SharedStore size x a i)

pub code_of_foreign : (i conf conf_len array array_len : ℕ) → code (stmt.Foreign i conf conf_len array array_len) ≡ 4
unfolding code
code_of_foreign i conf conf_len array array_len = folded ℕ code_layer (open_stmt.Foreign i conf conf_len array array_len) _ (stmt.rolls-Foreign i conf conf_len array array_len)
