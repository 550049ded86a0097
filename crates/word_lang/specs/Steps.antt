-- How many steps the parts of a program are worth: for what is done, and for the code that they need.
use Rattle.std.specs.Prelude.{ℕ, ◌+◌, List, length}
use Rattle.pan_stage.specs.Toll.{passing_steps}
use Rattle.word_lang.specs.declared.syntax.Stmt.{Stmt-F}
use Rattle.word_lang.specs.declared.syntax.Stmt.TheOpen as stmt

-- variables whose words pass to another function
abbrev pub passed : List ℕ → ℕ
passed xs = passing_steps + length xs

-- A statement without its blocks, before anything that it calls. A loop's start counts one, for the way to its test, which is counted where it is made.
abbrev pub own_steps : {S : Type 0} → Stmt-F S → ℕ
own_steps stmt.Skip = 0
own_steps (stmt.Seq all) = 0
own_steps (stmt.Const x n) = 1
own_steps (stmt.Reg o x a b) = 1
own_steps (stmt.Imm o x a i) = 1
own_steps (stmt.Sh o x a n) = 1
own_steps (stmt.Load o x a i) = 1
own_steps (stmt.Store o x a i) = 1
own_steps (stmt.If y first second) = 1
own_steps (stmt.While before y body) = 1
own_steps stmt.Break = 1
own_steps stmt.Continue = 1
own_steps (stmt.Call results f arguments handler) = passed arguments
own_steps (stmt.TailCall f arguments) = passed arguments
own_steps (stmt.Return xs) = passed xs
own_steps (stmt.Raise i xs) = passed xs
own_steps (stmt.SharedLoad size x a i) = 1
own_steps (stmt.SharedStore size x a i) = 1
own_steps (stmt.Foreign i conf conf_len array array_len) = 4

-- a test of a loop
abbrev pub test_steps : ℕ
test_steps = 1
