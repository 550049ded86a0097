-- What a program needs of frames and of code.
use Rattle.std.specs.Prelude.{ℕ, ◌+◌, ◌*◌, length, map}
use Rattle.pan_flow.specs.Functions.{variables, different}
pub use Rattle.pan_stage.specs.Programs.{handler_code}
use Rattle.pan_stage.specs.Sums.{sum_of}
use Rattle.pan_stage.specs.Stage.{Needs}
use Rattle.pan_stage.specs.Toll.{bytes_in_step, outer_bytes, passing_steps}
use Rattle.pan_stage.specs.declared.program.Program.{Program}
use Rattle.word_lang.specs.Steps.{own_steps, test_steps}
use Rattle.word_lang.specs.Text.{flow_of_function}
use Rattle.word_lang.specs.declared.syntax.WordFun.{WordFun}
use Rattle.word_lang.specs.declared.syntax.Stmt.{Stmt, Stmt-F, fold-Stmt}
use Rattle.word_lang.specs.declared.syntax.Stmt.TheOpen as stmt

-- ---- frames

-- the words that are enough for a frame: the different variables, and four more (the return address, a handler's record of two words, and one that aligns)
abbrev pub frame_words : WordFun → ℕ
frame_words f = different (variables (flow_of_function f)) + 4

-- the bytes of a frame
abbrev pub frame_need : WordFun → ℕ
frame_need f = 8 * frame_words f

-- ---- code

abbrev pub code_layer : Stmt-F ℕ → ℕ
code_layer (stmt.Seq all) = sum_of all
code_layer (stmt.If y first second) = own_steps {S = ℕ} (stmt.If y first second) + first + second
code_layer (stmt.While before y body) = own_steps {S = ℕ} (stmt.While before y body) + sum_of before + test_steps + body
code_layer (stmt.Call results f arguments handler) = own_steps {S = ℕ} (stmt.Call results f arguments handler) + length results + handler_code handler
code_layer y = own_steps {S = ℕ} y

-- the steps of a statement's text
unfoldable pub code : Stmt → ℕ
code = fold-Stmt ℕ code_layer

abbrev pub function_code : WordFun → ℕ
function_code f = passing_steps + length f.params + code f.body

abbrev pub needs : Program WordFun → Needs
needs p = record { frames = map frame_need p.functions; code = outer_bytes + bytes_in_step * sum_of (map function_code p.functions) }
