-- What a program needs of frames and of code.
use Rattle.std.specs.Prelude.{ℕ, ◌+◌, ◌*◌, map, Option, Some, None}
use Rattle.pan_stage.specs.Sums.{sum_of}
use Rattle.pan_stage.specs.Stage.{Needs}
use Rattle.pan_stage.specs.declared.program.Program.{Program}
use Rattle.stack_lang.specs.declared.syntax.Catch.{Catch}
use Rattle.stack_lang.specs.declared.syntax.StackFun.{StackFun}
use Rattle.stack_lang.specs.declared.syntax.Stmt.{Stmt, Stmt-F, fold-Stmt}
use Rattle.stack_lang.specs.declared.syntax.Stmt.TheOpen as stmt

-- the instructions of a call and its handler, with the handler's body
abbrev pub call_code : Option (Catch ℕ) → ℕ
call_code None = 2
call_code (Some h) = 14 + h.body

abbrev pub code_layer : Stmt-F ℕ → ℕ
code_layer (stmt.Seq all) = sum_of all
code_layer (stmt.Plain i) = 1
code_layer (stmt.Get r k) = 3
code_layer (stmt.Put k r) = 3
code_layer (stmt.SharedLoad n rd rs1 imm) = 1
code_layer (stmt.SharedStore n rs1 rs2 imm) = 1
code_layer (stmt.Foreign i) = 3
code_layer (stmt.If c a b first second) = 5 + first + second
code_layer (stmt.While before c a b body) = 5 + sum_of before + body
code_layer stmt.Break = 2
code_layer stmt.Continue = 2
code_layer (stmt.Call f returned handler) = call_code handler + returned
code_layer (stmt.TailCall f) = 6
code_layer stmt.Return = 5
code_layer (stmt.Raise i) = 3

-- the instructions of a statement's text, where every slot is far, every jump long, and a return address in every frame
unfoldable pub code : Stmt → ℕ
code = fold-Stmt ℕ code_layer

-- the same of a function, with those that make its frame
abbrev pub function_code : StackFun → ℕ
function_code f = 8 + code f.body

-- the instructions that stand outside of functions
abbrev pub outer_code : ℕ
outer_code = 20

abbrev pub needs : Program StackFun → Needs
needs p = record { frames = map (λ (f : StackFun). f.frame) p.functions; code = 4 * (outer_code + sum_of (map function_code p.functions)) }
