-- How many steps the parts of a program are worth: for what is done, and for the code that they need.
use Rattle.std.specs.Prelude.{ℕ, ◌+◌, List, length}
use Rattle.pan_stage.specs.Toll.{passing_steps}
use Rattle.loop_lang.specs.declared.syntax.Stmt.{Stmt-F}
use Rattle.loop_lang.specs.declared.syntax.Stmt.TheOpen as stmt

-- variables whose words pass to another function
abbrev pub passed : List ℕ → ℕ
passed xs = passing_steps + length xs

-- A statement without its blocks, before anything that it calls. A loop's start counts one, for the way to its test, which is counted where it is made.
abbrev pub own_steps : {S : Type 0} → Stmt-F S → ℕ
own_steps stmt.Skip = 0
own_steps (stmt.Seq all) = 0
own_steps (stmt.Const x n) = 1
own_steps (stmt.Move x a) = 1
own_steps (stmt.Bin o x a b) = 1
own_steps (stmt.Shift o x a n) = 3
own_steps (stmt.Compare c x a b) = 3
own_steps (stmt.LoadWord x a) = 1
own_steps (stmt.LoadByte x a) = 1
own_steps (stmt.StoreWord a x) = 1
own_steps (stmt.StoreByte a x) = 1
own_steps (stmt.If x first second) = 2
own_steps (stmt.While live before x body) = 1
own_steps stmt.Break = 1
own_steps stmt.Continue = 1
own_steps (stmt.Call live results f arguments handler) = passed arguments
own_steps (stmt.TailCall f arguments) = passed arguments
own_steps (stmt.Return xs) = passed xs
own_steps (stmt.Raise i xs) = passed xs
own_steps (stmt.SharedLoad size x a) = 1
own_steps (stmt.SharedStore size a x) = 1
own_steps (stmt.Foreign live i conf conf_len array array_len) = 4

-- a test of a loop
abbrev pub test_steps : ℕ
test_steps = 2
