-- The calls in the text of a program.
use Rattle.std.specs.Prelude.{◌≡◌, ℕ, List, [], ◌∷◌, true, false, Option, Some, None, slice_index_or}
use Rattle.std.specs.List.{Contains}
use Rattle.pan_stage.specs.Stage.{Site, Called, TailCalled, Loaded, Stored, Foreign}
use Rattle.stack_lang.specs.Text.{sites}
use Rattle.stack_lang.specs.declared.syntax.Catch.{Catch}
use Rattle.stack_lang.specs.declared.syntax.Stmt.{Stmt}
use Rattle.stack_bound.specs.declared.calls.Call.{Call}

-- the calls among sites
abbrev pub calls_of : List Site → List Call
calls_of [] = []
calls_of (Called f ∷ ss) = record { function = f; tail = false } ∷ calls_of ss
calls_of (TailCalled f ∷ ss) = record { function = f; tail = true } ∷ calls_of ss
calls_of (Loaded size ∷ ss) = calls_of ss
calls_of (Stored size ∷ ss) = calls_of ss
calls_of (Foreign i ∷ ss) = calls_of ss

-- the calls of each function of a stage, by its sites
abbrev pub calls_at : List (List Site) → ℕ → List Call
calls_at all f = calls_of (slice_index_or all f [])

-- f calls g, by a tail call or not, where functions have these calls
abbrev pub CallsBy : (ℕ → List Call) → ℕ → ℕ → Type 0
CallsBy calls f g = (c : Call) × Contains (calls f) c × (c.function ≡ g)

-- the same by the sites of a stage
abbrev pub Calls : List (List Site) → ℕ → ℕ → Type 0
Calls all = CallsBy (calls_at all)

-- ---- statements

-- the calls of a statement, a handler's body among them
unfoldable pub calls_in : Stmt → List Call
calls_in s = calls_of (sites s)

abbrev pub calls_in_handler : Option (Catch Stmt) → List Call
calls_in_handler None = []
calls_in_handler (Some h) = calls_in h.body
