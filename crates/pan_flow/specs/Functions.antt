-- Flows that every language has alike, and functions that read no variable before it is written.
use Rattle.std.specs.Prelude.{ℕ, suc, if◌then◌else◌, List, [], ◌∷◌, ◌++◌, Option, Some, None}
pub use Rattle.pan_stage.specs.Sums.{above}
use Rattle.pan_stage.specs.declared.program.Handler.{Handler}
use Rattle.pan_flow.specs.Flow.{Act, Reads, Writes, Leaves, AtEnd, AtReturn, Flow, Does, Ends, Then, Either, Loop, Live, ways, behind, has}

-- one after another
abbrev pub all_in_turn : List Flow → Flow
all_in_turn [] = Ends AtEnd
all_in_turn (f ∷ fs) = Then f (all_in_turn fs)

-- reads
abbrev pub reads : List ℕ → Flow
reads xs = Does (Reads xs)

-- reads, and then a write
abbrev pub sets : ℕ → List ℕ → Flow
sets x xs = Then (Does (Reads xs)) (Does (Writes (x ∷ [])))

-- reads, and the function is left
abbrev pub leaves : List ℕ → Flow
leaves xs = Then (Does (Reads xs)) (Ends AtReturn)

-- The ways out of a call: it returns, or the handler's exception comes. Another exception leaves the function, and nothing is read after it.
abbrev pub ways_out : List ℕ → Option (Handler Flow) → Flow
ways_out results None = Does (Leaves results)
ways_out results (Some h) = Either (Does (Leaves results)) (Then (Does (Leaves h.variables)) h.body)

-- a call that reads these, and whose result goes to those
abbrev pub calls : (arguments results : List ℕ) → Option (Handler Flow) → Flow
calls arguments results handler = Then (Does (Reads arguments)) (ways_out results handler)

-- a call of a foreign function, which reads these
abbrev pub asks : List ℕ → Flow
asks arguments = Then (Does (Reads arguments)) (Does (Leaves []))

-- a function's entry writes its parameters
abbrev pub of_function : List ℕ → Flow → Flow
of_function parameters body = Then (Does (Writes parameters)) body

-- ---- the variables that occur

abbrev pub variables_of_act : Act → List ℕ
variables_of_act (Reads xs) = xs
variables_of_act (Writes xs) = xs
variables_of_act (Leaves xs) = xs

-- each variable that is read or written, as often as it stands
abbrev pub variables : Flow → List ℕ
variables (Does act) = variables_of_act act
variables (Ends e) = []
variables (Then f g) = variables f ++ variables g
variables (Either f g) = variables f ++ variables g
variables (Loop f g) = variables f ++ variables g

-- how many different ones these are
abbrev pub different : List ℕ → ℕ
different [] = 0
different (x ∷ xs) = if has xs x then different xs else suc (different xs)

-- ---- variables that are written before they are read

-- No variable is live before the function: each one that is read was written on each way before.
pub record IsWritten (f : Flow) : Type 0 where
  pub none : (x : ℕ) → ¬ Live (ways f behind) x
