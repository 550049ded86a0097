-- What a program of operations means.
use Rattle.std.specs.Prelude.{ℕ, List, map, length, Option, Some, None, slice_get}
use Rattle.pan_base.specs.Events.{Replied}
use Rattle.pan_base.specs.Results.{plus, r_result, i_result, sh_result, l_result, loads, stores}
use Rattle.pan_base.specs.Words.{truth}
use Rattle.pan_control.specs.Seen.{Seen}
use Rattle.pan_control.specs.Control.{Normal, Broken, Continued, Returned, Raised, in_turn, with_value, if_not_zero, turns, tail_call}
use Rattle.pan_control.specs.Runs.{foreign}
use Rattle.pan_stage.specs.Data.{World, Outcome, Callee, with_read, with_written}
use Rattle.pan_stage.specs.Locals.{Locals, no_locals, write, write_all}
use Rattle.pan_stage.specs.Programs.{Does, call_from, body_of, meaning_of}
use Rattle.pan_stage.specs.Shared.{with_loaded, with_stored}
use Rattle.pan_stage.specs.Toll.{stepped}
use Rattle.pan_stage.specs.declared.program.Program.{Program}
use Rattle.word_lang.specs.Steps.{own_steps, test_steps}
use Rattle.word_lang.specs.declared.syntax.Test.{Test}
use Rattle.word_lang.specs.declared.syntax.WordFun.{WordFun}
use Rattle.word_lang.specs.declared.syntax.Stmt.{Stmt, Stmt-F, fold-Stmt}
use Rattle.word_lang.specs.declared.syntax.Stmt.TheOpen as stmt

-- ---- tests

-- the word of an operand
abbrev pub operand : Option ℕ → Locals → ℕ
operand None u = 0
operand (Some x) u = u x

-- 1 where the test holds, else 0
abbrev pub outcome : Test → Locals → ℕ
outcome y u = truth y.comparison (operand y.left u) (operand y.right u)

-- ---- statements

-- with the foreign names, where loops make at most so many turns, and functions do so
module _ (names : List (List ℕ)) (d : ℕ) (callee : Callee (List ℕ) (List ℕ)) where
  abbrev pub act_layer : Stmt-F Does → Does
  act_layer stmt.Skip u w = Normal u w
  act_layer (stmt.Seq all) u w = in_turn all u w
  act_layer (stmt.Const x n) u w = Normal (write x n u) w
  act_layer (stmt.Reg o x a b) u w = Normal (write x (r_result o (u a) (u b)) u) w
  act_layer (stmt.Imm o x a i) u w = Normal (write x (i_result o (u a) i) u) w
  act_layer (stmt.Sh o x a n) u w = Normal (write x (sh_result o (u a) n) u) w
  act_layer (stmt.Load o x a i) u w = with_read (loads o) (plus (u a) i) w (λ n. Normal (write x (l_result o n) u) w)
  act_layer (stmt.Store o x a i) u w = with_written (stores o) (plus (u a) i) (u x) w (λ w. Normal u w)
  act_layer (stmt.If y first second) u w = if_not_zero (outcome y u) (first u w) (second u w)
  act_layer (stmt.While before y body) u w = turns d (λ u w. in_turn before u (stepped test_steps w)) (λ u w. Some (outcome y u)) body u w
  act_layer stmt.Break u w = Broken u w
  act_layer stmt.Continue u w = Continued u w
  act_layer (stmt.Call results f arguments handler) u w = call_from callee f (Some (map u arguments)) results handler u w
  act_layer (stmt.TailCall f arguments) u w = tail_call callee f (Some (map u arguments)) w
  act_layer (stmt.Return xs) u w = Returned (map u xs) w
  act_layer (stmt.Raise i xs) u w = Raised i (map u xs) w
  act_layer (stmt.SharedLoad size x a i) u w = with_loaded size (plus (u a) i) w (λ n w. Normal (write x n u) w)
  act_layer (stmt.SharedStore size x a i) u w = with_stored size (plus (u a) i) (u x) w (λ w. Normal u w)
  act_layer (stmt.Foreign i conf conf_len array array_len) u w =
      with_value (slice_get names i) w (λ name. foreign i name (u conf) (u conf_len) (u array) (u array_len) u w)

  -- the same, with the steps that the statement is worth
  abbrev pub run_layer : Stmt-F Does → Does
  run_layer y u w = act_layer y u (stepped (own_steps y) w)

  unfoldable pub run : Stmt → Does
  run = fold-Stmt Does run_layer

-- ---- functions and programs

-- a function's parameters get these words, and its body runs and leaves
abbrev pub enter : Program WordFun → ℕ → Callee (List ℕ) (List ℕ) → WordFun → List ℕ → World → Outcome (Unit {0}) (List ℕ)
enter p d callee f ns w = body_of f.cost (length f.params) (run p.names d callee f.body) (write_all f.params ns no_locals) w

-- The trace, the end, the deepest calls and the toll of main, on local memory m, with replies r and n units of fuel.
abbrev pub meaning : Program WordFun → List ℕ → List Replied → ℕ → Seen
meaning p m r n = meaning_of (enter p) p m r n
