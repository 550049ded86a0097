-- What a program of steps means.
use Rattle.std.specs.Prelude.{ℕ, List, map, Some, slice_get}
use Rattle.pan_base.specs.declared.events.Size.TheVariants.{B1, B8}
use Rattle.pan_base.specs.Events.{Replied}
use Rattle.pan_base.specs.Words.{operate, shift, truth}
use Rattle.pan_control.specs.Seen.{Seen}
use Rattle.pan_control.specs.Control.{Normal, Broken, Continued, Returned, Raised, in_turn, with_value, if_not_zero, turns, tail_call}
use Rattle.pan_control.specs.Runs.{foreign}
use Rattle.pan_stage.specs.Data.{World, Outcome, Callee, with_read, with_written}
use Rattle.pan_stage.specs.Locals.{entry, write}
use Rattle.pan_stage.specs.Programs.{Does, call_from, body_of, meaning_of}
use Rattle.pan_stage.specs.Shared.{with_loaded, with_stored}
use Rattle.pan_stage.specs.Toll.{stepped}
use Rattle.pan_stage.specs.declared.program.Program.{Program}
use Rattle.loop_lang.specs.Steps.{own_steps, test_steps}
use Rattle.loop_lang.specs.declared.syntax.LoopFun.{LoopFun}
use Rattle.loop_lang.specs.declared.syntax.Stmt.{Stmt, Stmt-F, fold-Stmt}
use Rattle.loop_lang.specs.declared.syntax.Stmt.TheOpen as stmt

-- ---- statements

-- with the foreign names, where loops make at most so many turns, and functions do so
module _ (names : List (List ℕ)) (d : ℕ) (callee : Callee (List ℕ) (List ℕ)) where
  abbrev pub act_layer : Stmt-F Does → Does
  act_layer stmt.Skip u w = Normal u w
  act_layer (stmt.Seq all) u w = in_turn all u w
  act_layer (stmt.Const x n) u w = Normal (write x n u) w
  act_layer (stmt.Move x a) u w = Normal (write x (u a) u) w
  act_layer (stmt.Bin o x a b) u w = Normal (write x (operate o (u a) (u b)) u) w
  act_layer (stmt.Shift o x a n) u w = Normal (write x (shift o (u a) n) u) w
  act_layer (stmt.Compare c x a b) u w = Normal (write x (truth c (u a) (u b)) u) w
  act_layer (stmt.LoadWord x a) u w = with_read B8 (u a) w (λ n. Normal (write x n u) w)
  act_layer (stmt.LoadByte x a) u w = with_read B1 (u a) w (λ n. Normal (write x n u) w)
  act_layer (stmt.StoreWord a x) u w = with_written B8 (u a) (u x) w (λ w. Normal u w)
  act_layer (stmt.StoreByte a x) u w = with_written B1 (u a) (u x) w (λ w. Normal u w)
  act_layer (stmt.If x first second) u w = if_not_zero (u x) (first u w) (second u w)
  act_layer (stmt.While live before x body) u w = turns d (λ u w. in_turn before u (stepped test_steps w)) (λ u w. Some (u x)) body u w
  act_layer stmt.Break u w = Broken u w
  act_layer stmt.Continue u w = Continued u w
  act_layer (stmt.Call live results f arguments handler) u w = call_from callee f (Some (map u arguments)) results handler u w
  act_layer (stmt.TailCall f arguments) u w = tail_call callee f (Some (map u arguments)) w
  act_layer (stmt.Return xs) u w = Returned (map u xs) w
  act_layer (stmt.Raise i xs) u w = Raised i (map u xs) w
  act_layer (stmt.SharedLoad size x a) u w = with_loaded size (u a) w (λ n w. Normal (write x n u) w)
  act_layer (stmt.SharedStore size a x) u w = with_stored size (u a) (u x) w (λ w. Normal u w)
  act_layer (stmt.Foreign live i conf conf_len array array_len) u w =
      with_value (slice_get names i) w (λ name. foreign i name (u conf) (u conf_len) (u array) (u array_len) u w)

  -- the same, with the steps that the statement is worth
  abbrev pub run_layer : Stmt-F Does → Does
  run_layer y u w = act_layer y u (stepped (own_steps y) w)

  unfoldable pub run : Stmt → Does
  run = fold-Stmt Does run_layer

-- ---- functions and programs

-- a function's parameters get these words, and its body runs and leaves
abbrev pub enter : Program LoopFun → ℕ → Callee (List ℕ) (List ℕ) → LoopFun → List ℕ → World → Outcome (Unit {0}) (List ℕ)
enter p d callee f ns w = body_of f.cost f.params (run p.names d callee f.body) (entry f.params ns) w

-- The trace, the end, the deepest calls and the toll of main, on local memory m, with replies r and n units of fuel.
abbrev pub meaning : Program LoopFun → List ℕ → List Replied → ℕ → Seen
meaning p m r n = meaning_of (enter p) p m r n
