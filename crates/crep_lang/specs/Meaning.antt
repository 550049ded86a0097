-- What a program of words means.
use Rattle.std.specs.Prelude.{ℕ, List, map, Option, Some, option_and_then, option_map, slice_get}
use Rattle.pan_base.specs.declared.events.Size.TheVariants.{B1, B8}
use Rattle.pan_base.specs.Events.{Replied}
use Rattle.pan_base.specs.Words.{operate, shift, truth}
use Rattle.pan_control.specs.Seen.{Seen}
use Rattle.pan_control.specs.Control.{Normal, Broken, Continued, Returned, Raised, in_turn, with_value, if_not_zero, turns, tail_call}
use Rattle.pan_control.specs.Runs.{foreign}
use Rattle.pan_stage.specs.Data.{World, Outcome, Callee, read, with_written}
use Rattle.pan_stage.specs.Locals.{Locals, entry, write, all_words}
use Rattle.pan_stage.specs.Programs.{Does, call_from, body_of, meaning_of}
use Rattle.pan_stage.specs.Shared.{with_loaded, with_stored}
use Rattle.pan_stage.specs.Toll.{stepped}
use Rattle.pan_stage.specs.declared.program.Program.{Program}
use Rattle.crep_lang.specs.Steps.{own_steps, test_steps}
use Rattle.crep_lang.specs.declared.syntax.CrepFun.{CrepFun}
use Rattle.crep_lang.specs.declared.syntax.Expr.{Expr, Expr-F, fold-Expr}
use Rattle.crep_lang.specs.declared.syntax.Expr.TheOpen as expr
use Rattle.crep_lang.specs.declared.syntax.Stmt.{Stmt, Stmt-F, fold-Stmt}
use Rattle.crep_lang.specs.declared.syntax.Stmt.TheOpen as stmt

-- ---- expressions

-- the word that an expression gives from the variables, the globals and local memory, or nothing where it fails
abbrev pub Giving : Type 0
Giving = Locals → (globals local : List ℕ) → Option ℕ

abbrev pub word_layer : Expr-F Giving → Giving
word_layer (expr.Num n) u g m = Some n
word_layer (expr.Var x) u g m = Some (u x)
word_layer (expr.LoadWord a) u g m = option_and_then (read B8 g m) (a u g m)
word_layer (expr.LoadByte a) u g m = option_and_then (read B1 g m) (a u g m)
word_layer (expr.Bin o a b) u g m = option_and_then (λ x. option_map (operate o x) (b u g m)) (a u g m)
word_layer (expr.Shift o a n) u g m = option_map (λ x. shift o x n) (a u g m)
word_layer (expr.Compare c a b) u g m = option_and_then (λ x. option_map (truth c x) (b u g m)) (a u g m)

unfoldable pub word : Expr → Giving
word = fold-Expr Giving word_layer

-- the words of some expressions, if none fails
abbrev pub words : List Expr → Locals → World → Option (List ℕ)
words es u w = all_words (map (λ e. word e u w.globals w.memory) es)

-- goes on with the word of an expression, or fails
abbrev pub with_word : Expr → Locals → World → (ℕ → Outcome Locals (List ℕ)) → Outcome Locals (List ℕ)
with_word e u w go = with_value (word e u w.globals w.memory) w go

-- ---- statements

-- with the foreign names, where loops make at most so many turns, and functions do so
module _ (names : List (List ℕ)) (d : ℕ) (callee : Callee (List ℕ) (List ℕ)) where
  abbrev pub act_layer : Stmt-F Does → Does
  act_layer stmt.Skip u w = Normal u w
  act_layer (stmt.Seq all) u w = in_turn all u w
  act_layer (stmt.Assign x e) u w = with_word e u w (λ n. Normal (write x n u) w)
  act_layer (stmt.StoreWord a e) u w = with_word a u w (λ addr. with_word e u w (λ n. with_written B8 addr n w (λ w. Normal u w)))
  act_layer (stmt.StoreByte a e) u w = with_word a u w (λ addr. with_word e u w (λ n. with_written B1 addr n w (λ w. Normal u w)))
  act_layer (stmt.If e first second) u w = with_word e u w (λ n. if_not_zero n (first u w) (second u w))
  act_layer (stmt.While before e body) u w = turns d (λ u w. in_turn before u (stepped (test_steps e) w)) (λ u w. word e u w.globals w.memory) body u w
  act_layer stmt.Break u w = Broken u w
  act_layer stmt.Continue u w = Continued u w
  act_layer (stmt.Call results f arguments handler) u w = call_from callee f (words arguments u w) results handler u w
  act_layer (stmt.TailCall f arguments) u w = tail_call callee f (words arguments u w) w
  act_layer (stmt.Return es) u w = with_value (words es u w) w (λ ns. Returned ns w)
  act_layer (stmt.Raise i es) u w = with_value (words es u w) w (λ ns. Raised i ns w)
  act_layer (stmt.SharedLoad size x a) u w = with_word a u w (λ addr. with_loaded size addr w (λ n w. Normal (write x n u) w))
  act_layer (stmt.SharedStore size a e) u w = with_word a u w (λ addr. with_word e u w (λ n. with_stored size addr n w (λ w. Normal u w)))
  act_layer (stmt.Foreign i conf conf_len array array_len) u w =
      with_value (slice_get names i) w (λ name.
      with_word conf u w (λ p. with_word conf_len u w (λ l. with_word array u w (λ q. with_word array_len u w (λ m. foreign i name p l q m u w)))))

  -- the same, with the steps that the statement is worth
  abbrev pub run_layer : Stmt-F Does → Does
  run_layer y u w = act_layer y u (stepped (own_steps y) w)

  unfoldable pub run : Stmt → Does
  run = fold-Stmt Does run_layer

-- ---- functions and programs

-- a function's parameters get these words, and its body runs and leaves
abbrev pub enter : Program CrepFun → ℕ → Callee (List ℕ) (List ℕ) → CrepFun → List ℕ → World → Outcome (Unit {0}) (List ℕ)
enter p d callee f ns w = body_of f.cost f.params (run p.names d callee f.body) (entry f.params ns) w

-- The trace, the end, the deepest calls and the toll of main, on local memory m, with replies r and n units of fuel.
abbrev pub meaning : Program CrepFun → List ℕ → List Replied → ℕ → Seen
meaning p m r n = meaning_of (enter p) p m r n
