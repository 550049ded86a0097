-- What the action `show` leaves, by how it ends.
use Rattle.std.specs.Prelude.{◌⊎◌, ℕ, List, []}
use Rattle.code_listing.specs.Listing.{listing}
use Rattle.command_words.specs.declared.order.Stage.{Stage}
use Rattle.command_words.specs.declared.order.Stage.TheVariants.{Parse, Code}
use Rattle.pan_printer.specs.Canonical.{canonical}
use Rattle.pan_command.specs.declared.status.Status.{Status}
use Rattle.pan_command.specs.declared.status.Status.TheVariants as status
use Rattle.pan_command.specs.Building.{SourceBuilt}
use Rattle.pan_command.specs.Check.{Unpassed}
use Rattle.pan_command.specs.Outside.{Outside, Call, NoFileChanged, IsPut, IsPutInPart, PutFailed}
use Rattle.pan_command.specs.Reading.{FileUnread, SourceRead}

-- In what follows `Prints text` says how far the text was put: all of it, or a prefix.

-- the canonical text of the source's program
pub record ProgramShown (Prints : List ℕ → Type 0) (before : Outside) (source : List ℕ) : Type 0 where
  pub read : SourceRead before source
  pub text : Prints (canonical read.program)

-- the listing of the code of the image that is built of the source
pub record CodeShown (Prints : List ℕ → Type 0) (before : Outside) (source : List ℕ) : Type 0 where
  pub built : SourceBuilt before source
  pub text : Prints (listing ((built.stages).code).bytes)

-- the text of a stage
abbrev pub Shown : Stage → (List ℕ → Type 0) → Outside → List ℕ → Type 0
Shown Parse Prints before source = ProgramShown Prints before source
Shown Code Prints before source = CodeShown Prints before source

-- a text could not be put, and what was put is a prefix of it
pub record ShowUnput (stage : Stage) (call : Call) (source : List ℕ) : Type 0 where
  pub cause : PutFailed call
  pub text : Shown stage (IsPutInPart call) call.before source
      ⊎ (Unpassed (IsPutInPart call) call.before source
      ⊎ FileUnread (IsPutInPart call) call source)

-- how `show` ends, beside that no file changes
abbrev pub ShowCases : Stage → List ℕ → Call → Status → Type 0
ShowCases stage source call status.Done = Shown stage (IsPut call) call.before source
ShowCases stage source call status.Unread = FileUnread (IsPut call) call source
ShowCases stage source call status.Refused = Unpassed (IsPut call) call.before source
ShowCases stage source call status.Unput = ShowUnput stage call source
ShowCases stage source call status.NoMemory = IsPut call []
ShowCases stage source call _ = ⊥

-- how `show` ends
abbrev pub ShowEnds : Stage → List ℕ → Call → Status → Type 0
ShowEnds stage source call s = NoFileChanged call × ShowCases stage source call s
