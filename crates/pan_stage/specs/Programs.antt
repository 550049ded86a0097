-- What programs of every language show and mean alike.
use Rattle.std.specs.Prelude.{ℕ, suc, ◌+◌, nat_eq, if◌then◌else◌, List, [], map, length, Option, Some, None, slice_get}
use Rattle.pan_base.specs.Events.{Replied}
use Rattle.pan_control.specs.World.{entered}
use Rattle.pan_control.specs.Seen.{Seen}
use Rattle.pan_control.specs.Control.{Normal, Raised, with_value, call, left}
use Rattle.pan_control.specs.Runs.{nested}
use Rattle.pan_stage.specs.Data.{World, Outcome, Meaning, Callee, start}
use Rattle.pan_stage.specs.Locals.{Locals, write_all}
use Rattle.pan_stage.specs.Returns.{seen}
use Rattle.pan_stage.specs.Stage.{Face}
use Rattle.pan_stage.specs.Toll.{stepped, passing_steps}
use Rattle.pan_stage.specs.declared.program.Program.{Program}
use Rattle.pan_stage.specs.declared.program.Handler.{Handler}

-- ---- faces

-- the face of a program whose functions have these names and costs
abbrev pub face_of : {F : Type 0} → (F → List ℕ) → (F → ℕ) → Program F → Face
face_of name cost p =
    record { main = p.main; functions = map name p.functions; costs = map cost p.functions; widths = p.exceptions; foreign_names = p.names; globals = p.globals }

-- the same program with these functions in the place of its own
abbrev pub with_functions : {F G : Type 0} → Program F → List G → Program G
with_functions p functions = record { functions = functions; main = p.main; exceptions = p.exceptions; names = p.names; globals = p.globals }

-- ---- handlers

-- what is said of a handler's body, or nothing
abbrev pub in_handler : {A : Type 0} → Option (Handler (List A)) → List A
in_handler None = []
in_handler (Some h) = h.body

-- the steps of a handler's text: its body's, and those for what is done where the call returns, where it catches and where it doesn't
abbrev pub handler_code : Option (Handler ℕ) → ℕ
handler_code None = 0
handler_code (Some h) = 3 + length h.variables + h.body

-- ---- calls between functions that pass words, from numbered variables

-- what a statement does to variables and the world
abbrev pub Does : Type 0
Does = Meaning Locals (List ℕ)

-- An exception that leaves a call. The handler's own runs its body with the exception's words, for a step and one for each; another one goes on, for a step.
abbrev pub caught : Option (Handler Does) → Locals → ℕ → List ℕ → World → Outcome Locals (List ℕ)
caught None u i ns w = Raised i ns w
caught (Some h) u i ns w = if nat_eq i h.exception then h.body (write_all h.variables ns u) (stepped (1 + length h.variables) w) else Raised i ns (stepped 1 w)

-- what a handler is worth where its call returns
abbrev pub handled : Option (Handler Does) → ℕ
handled None = 0
handled (Some h) = 1

-- a call from these variables, whose result's words go to some of them: a step for each, and one more under a handler
abbrev pub call_from : Callee (List ℕ) (List ℕ) → ℕ → Option (List ℕ) → List ℕ → Option (Handler Does) → Does
call_from callee f arguments results handler u w =
    call callee f arguments w (λ ns w. Normal (write_all results ns u) (stepped (length results + handled handler) w)) (caught handler u)

-- ---- functions and programs

-- a function of this cost is entered with so many parameters, for the passing steps and one for each, and its body runs
abbrev pub body_of : (cost parameters : ℕ) → Does → Locals → World → Outcome (Unit {0}) (List ℕ)
body_of cost parameters body u w = left (body u (entered cost (stepped (passing_steps + parameters) w)))

-- What is seen of main, on local memory m, with replies r and n units of fuel, where entering a function does so: with a bound on the turns of a loop, and with what calls do.
abbrev pub meaning_of : {F : Type 0} → (ℕ → Callee (List ℕ) (List ℕ) → F → List ℕ → World → Outcome (Unit {0}) (List ℕ)) → Program F → List ℕ → List Replied → ℕ → Seen
meaning_of enter p m r n =
    seen (nested (λ d callee f ns w. with_value (slice_get p.functions f) w (λ g. enter d callee g ns w)) (suc n) p.main [] (start p.globals m r n))
