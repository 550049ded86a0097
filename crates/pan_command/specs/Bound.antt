-- What the action `bound` leaves, by how it ends.
use Rattle.std.specs.Prelude.{◌⊎◌, ℕ, List, [], ◌∷◌, ◌++◌, Option, Some, None, codes, flat_map, slice_get}
use Rattle.pan_tree.specs.declared.program.Function.{Function}
use Rattle.pan_tree.specs.declared.program.Program.{Program}
use Rattle.stack_bound.specs.declared.types.Bound.{Bound}
use Rattle.stack_bound.specs.declared.types.Bound.TheVariants.{Bytes, Cycle}
use Rattle.pan_command.specs.declared.status.Status.{Status}
use Rattle.pan_command.specs.declared.status.Status.TheVariants as status
use Rattle.pan_command.specs.Building.{SourceBuilt}
use Rattle.pan_command.specs.Check.{Unpassed}
use Rattle.pan_command.specs.Compile.{bound_line}
use Rattle.pan_command.specs.Outside.{Outside, Call, NoFileChanged, IsPut, IsPutInPart, PutFailed}
use Rattle.pan_command.specs.Reading.{FileUnread}

-- a function's name, by its number
abbrev pub name_of : Option Function → List ℕ
name_of None = []
name_of (Some f) = f.name

-- a function's name behind a blank
abbrev pub named : Program → ℕ → List ℕ
named p f = 32 ∷ name_of (slice_get p.functions f)

-- the names of functions, a blank before each
abbrev pub names_of : Program → List ℕ → List ℕ
names_of p functions = flat_map (named p) functions

-- the line of a bound, and for a cycle the line of its functions
abbrev pub bound_text : Program → Bound → List ℕ
bound_text p (Bytes n) = bound_line (Some n)
bound_text p (Cycle functions) = bound_line None ++ (codes "cycle" ++ (names_of p functions ++ codes "\n"))

-- In what follows `Prints text` says how far the text was put: all of it, or a prefix.

-- the bound of what is built of the source
pub record BoundShown (Prints : List ℕ → Type 0) (before : Outside) (source : List ℕ) : Type 0 where
  pub built : SourceBuilt before source
  pub text : Prints (bound_text (built.stages).checked (built.stages).bound)

-- a text could not be put, and what was put is a prefix of it
pub record BoundUnput (call : Call) (source : List ℕ) : Type 0 where
  pub cause : PutFailed call
  pub text : BoundShown (IsPutInPart call) call.before source
      ⊎ (Unpassed (IsPutInPart call) call.before source
      ⊎ FileUnread (IsPutInPart call) call source)

-- how `bound` ends, beside that no file changes
abbrev pub BoundCases : List ℕ → Call → Status → Type 0
BoundCases source call status.Done = BoundShown (IsPut call) call.before source
BoundCases source call status.Unread = FileUnread (IsPut call) call source
BoundCases source call status.Refused = Unpassed (IsPut call) call.before source
BoundCases source call status.Unput = BoundUnput call source
BoundCases source call status.NoMemory = IsPut call []
BoundCases source call _ = ⊥

-- how `bound` ends
abbrev pub BoundEnds : List ℕ → Call → Status → Type 0
BoundEnds source call s = NoFileChanged call × BoundCases source call s
