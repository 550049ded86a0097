-- The variables of a handler.
use Rattle.std.specs.Prelude.{ℕ, List, [], ◌++◌, Option, Some, None}
use Rattle.pan_flow.specs.Functions.{variables}
use Rattle.pan_stage.specs.declared.program.Handler.{Handler}
use Rattle.word_lang.specs.Text.{flow_of}
use Rattle.word_lang.specs.declared.syntax.Stmt.{Stmt}

-- those that it writes, and those of its body
abbrev pub variables_of_handler : Option (Handler Stmt) → List ℕ
variables_of_handler None = []
variables_of_handler (Some h) = h.variables ++ variables (flow_of h.body)
