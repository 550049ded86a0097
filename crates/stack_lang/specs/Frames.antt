-- What a frame has before its slots.
use Rattle.std.specs.Prelude.{ℕ, max, Some, None}
use Rattle.pan_stage.specs.Sums.{most}
use Rattle.stack_lang.specs.declared.syntax.StackFun.{StackFun}
use Rattle.stack_lang.specs.declared.syntax.Stmt.{Stmt, Stmt-F, fold-Stmt}
use Rattle.stack_lang.specs.declared.syntax.Stmt.TheOpen as stmt

abbrev pub front_layer : Stmt-F ℕ → ℕ
front_layer (stmt.Seq all) = most all
front_layer (stmt.If c a b first second) = max first second
front_layer (stmt.While before c a b body) = max (most before) body
front_layer (stmt.Call f returned None) = max 1 returned
front_layer (stmt.Call f returned (Some h)) = 3
front_layer _ = 0

-- The words before the slots in a frame where this runs: the return address where there is a call, with a record of two words where one is under a handler. A tail call isn't one of these, since it gives up the frame.
unfoldable pub front : Stmt → ℕ
front = fold-Stmt ℕ front_layer

-- the same of a function
abbrev pub front_words : StackFun → ℕ
front_words f = front f.body
