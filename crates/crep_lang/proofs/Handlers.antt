-- Handlers, with another body.
use Rattle.std.proofs.Common.{Option, Some, None}
use Rattle.pan_stage.specs.declared.program.Handler.{Handler}

-- the handler with what is said of its body
abbrev pub with_body : {A B : Type 0} → (A → B) → Option (Handler A) → Option (Handler B)
with_body f None = None
with_body f (Some h) = Some (record { exception = h.exception; variables = h.variables; body = f h.body })
