-- Numbers above the variables of statements.
use Rattle.std.specs.Prelude.{ℕ, max, List, map, Option, Some, None}
use Rattle.pan_flow.specs.Functions.{variables, above, all_in_turn}
use Rattle.pan_stage.specs.declared.program.Handler.{Handler}
use Rattle.loop_lang.specs.Text.{flow_of}
use Rattle.loop_lang.specs.declared.syntax.Stmt.{Stmt}

-- a number above the variables of a statement
abbrev pub bound : Stmt → ℕ
bound x = above (variables (flow_of x))

-- above those of statements one after another
abbrev pub row_bound : List Stmt → ℕ
row_bound all = above (variables (all_in_turn (map flow_of all)))

-- above those of a handler
abbrev pub handler_bound : Option (Handler Stmt) → ℕ
handler_bound None = 0
handler_bound (Some h) = max (above h.variables) (bound h.body)
