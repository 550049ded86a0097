-- What a program needs of frames and of code.
use Rattle.std.specs.Prelude.{ℕ, ◌+◌, ◌*◌, max, List, [], ◌∷◌, length, map, Option, Some, None}
use Rattle.pan_flow.specs.Functions.{variables, above}
pub use Rattle.pan_stage.specs.Programs.{handler_code}
use Rattle.pan_stage.specs.Sums.{sum_of, most}
use Rattle.pan_stage.specs.Stage.{Needs}
use Rattle.pan_stage.specs.Toll.{bytes_in_step, outer_bytes, passing_steps}
use Rattle.pan_stage.specs.declared.program.Handler.{Handler}
use Rattle.pan_stage.specs.declared.program.Program.{Program}
use Rattle.crep_lang.specs.Steps.{own_steps, test_steps}
use Rattle.crep_lang.specs.Text.{flow_of_function}
use Rattle.crep_lang.specs.declared.syntax.CrepFun.{CrepFun}
use Rattle.crep_lang.specs.declared.syntax.Expr.{Expr, Expr-F, fold-Expr}
use Rattle.crep_lang.specs.declared.syntax.Expr.TheOpen as expr
use Rattle.crep_lang.specs.declared.syntax.Stmt.{Stmt, Stmt-F, fold-Stmt}
use Rattle.crep_lang.specs.declared.syntax.Stmt.TheOpen as stmt

-- what is said of a handler's body, or 0
abbrev pub most_in_handler : Option (Handler ℕ) → ℕ
most_in_handler None = 0
most_in_handler (Some h) = h.body

-- ---- frames

abbrev pub temporaries_layer : Expr-F ℕ → ℕ
temporaries_layer (expr.Num n) = 1
temporaries_layer (expr.Var x) = 1
temporaries_layer (expr.LoadWord a) = a
temporaries_layer (expr.LoadByte a) = a
temporaries_layer (expr.Bin o a b) = max a (1 + b)
temporaries_layer (expr.Shift o a n) = a
temporaries_layer (expr.Compare c a b) = max a (1 + b)

-- how many temporary words are enough for an expression, its own among them
unfoldable pub temporaries : Expr → ℕ
temporaries = fold-Expr ℕ temporaries_layer

-- how many are enough for a row, whose words are held until the last one stands
abbrev pub row_temporaries : List Expr → ℕ
row_temporaries [] = 0
row_temporaries (e ∷ es) = max (temporaries e) (1 + row_temporaries es)

abbrev pub between_layer : Stmt-F ℕ → ℕ
between_layer stmt.Skip = 0
between_layer (stmt.Seq all) = most all
between_layer (stmt.Assign x e) = temporaries e
between_layer (stmt.StoreWord a e) = row_temporaries (a ∷ e ∷ [])
between_layer (stmt.StoreByte a e) = row_temporaries (a ∷ e ∷ [])
between_layer (stmt.If e first second) = max (temporaries e) (max first second)
between_layer (stmt.While before e body) = max (most before) (max (temporaries e) body)
between_layer stmt.Break = 0
between_layer stmt.Continue = 0
between_layer (stmt.Call results f arguments handler) = max (row_temporaries arguments) (most_in_handler handler)
between_layer (stmt.TailCall f arguments) = row_temporaries arguments
between_layer (stmt.Return es) = row_temporaries es
between_layer (stmt.Raise i es) = row_temporaries es
between_layer (stmt.SharedLoad size x a) = temporaries a
between_layer (stmt.SharedStore size a e) = row_temporaries (a ∷ e ∷ [])
between_layer (stmt.Foreign i conf conf_len array array_len) = row_temporaries (conf ∷ conf_len ∷ array ∷ array_len ∷ [])

-- how many temporary words are enough for each of a statement's parts
unfoldable pub between : Stmt → ℕ
between = fold-Stmt ℕ between_layer

-- the words that are enough for a frame: the variables, what stands between, and five more (the other operand of a test or a rotation, the return address, a handler's record of two words, and one that aligns)
abbrev pub frame_words : CrepFun → ℕ
frame_words f = above (variables (flow_of_function f)) + between f.body + 5

-- The bytes of a frame. Where the cost allows more than is enough, all of it may be used for temporary words.
abbrev pub frame_need : CrepFun → ℕ
frame_need f = max f.cost (8 * frame_words f)

-- ---- code

abbrev pub code_layer : Stmt-F ℕ → ℕ
code_layer (stmt.Seq all) = sum_of all
code_layer (stmt.If e first second) = own_steps {S = ℕ} (stmt.If e first second) + first + second
code_layer (stmt.While before e body) = own_steps {S = ℕ} (stmt.While before e body) + sum_of before + test_steps e + body
code_layer (stmt.Call results f arguments handler) = own_steps {S = ℕ} (stmt.Call results f arguments handler) + length results + handler_code handler
code_layer y = own_steps {S = ℕ} y

-- the steps of a statement's text
unfoldable pub code : Stmt → ℕ
code = fold-Stmt ℕ code_layer

abbrev pub function_code : CrepFun → ℕ
function_code f = passing_steps + f.params + code f.body

abbrev pub needs : Program CrepFun → Needs
needs p = record { frames = map frame_need p.functions; code = outer_bytes + bytes_in_step * sum_of (map function_code p.functions) }
