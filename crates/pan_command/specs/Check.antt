-- What the action `check` leaves, by how it ends.
use Rattle.std.specs.Prelude.{◌≡◌, ◌⊎◌, ℕ, List, [], ◌++◌, codes}
use Rattle.std.specs.Fmt.{decimal}
use Rattle.pan_tree.specs.Check.{program_weight}
use Rattle.pan_tree.specs.declared.program.Program.{Program}
use Rattle.pan_command.specs.declared.status.Status.{Status}
use Rattle.pan_command.specs.declared.status.Status.TheVariants as status
use Rattle.front_end.specs.Sources.{IsChecked, Unchecked}
use Rattle.front_end.specs.declared.error.SourceError.{SourceError}
use Rattle.pan_command.specs.Outside.{Outside, Call, NoFileChanged, Holds, IsPut, IsPutInPart, PutFailed}
use Rattle.pan_command.specs.Reading.{FileUnread, SourceRead, source_line}

-- the line of a weight
abbrev pub weight_line : ℕ → List ℕ
weight_line w = codes "ok " ++ decimal w ++ codes "\n"

-- In what follows `Prints line` says how far the line was put: all of it, or a prefix.

-- the bytes are a source of a program that keeps every rule, with its weight
pub record Passed (Prints : List ℕ → Type 0) (before : Outside) (source : List ℕ) : Type 0 where
  pub read : SourceRead before source
  pub line : Prints (weight_line (program_weight read.program))

-- the bytes are a source of no such program, for this reason and no other
pub record Unpassed (Prints : List ℕ → Type 0) (before : Outside) (source : List ℕ) : Type 0 where
  pub bytes : List ℕ
  pub held : Holds (before.files).files source bytes
  pub reason : SourceError
  pub refused : Unchecked bytes reason
  pub only : (e : SourceError) → Unchecked bytes e → e ≡ reason
  pub unchecked : (program : Program) → ¬ IsChecked bytes program
  pub line : Prints (source_line reason)

-- a line could not be put, and what was put is a prefix of the line that was to be put
pub record CheckUnput (call : Call) (source : List ℕ) : Type 0 where
  pub cause : PutFailed call
  pub line : Passed (IsPutInPart call) call.before source
      ⊎ (Unpassed (IsPutInPart call) call.before source
      ⊎ FileUnread (IsPutInPart call) call source)

-- how `check` ends, beside that no file changes
abbrev pub CheckCases : List ℕ → Call → Status → Type 0
CheckCases source call status.Done = Passed (IsPut call) call.before source
CheckCases source call status.Unread = FileUnread (IsPut call) call source
CheckCases source call status.Refused = Unpassed (IsPut call) call.before source
CheckCases source call status.Unput = CheckUnput call source
CheckCases source call status.NoMemory = IsPut call []
CheckCases source call _ = ⊥

-- how `check` ends
abbrev pub CheckEnds : List ℕ → Call → Status → Type 0
CheckEnds source call s = NoFileChanged call × CheckCases source call s
