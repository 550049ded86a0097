-- What the action `meaning` leaves, by how it ends.
use Rattle.std.specs.Prelude.{◌⊎◌, ℕ, List, []}
use Rattle.pan_tree.specs.declared.program.Program.{Program}
use Rattle.pan_tree.specs.Meaning.{source}
use Rattle.command_words.specs.declared.order.Options.{Options}
use Rattle.device_script.specs.Memory.{filled}
use Rattle.device_script.specs.Script.{Content}
use Rattle.pan_command.specs.declared.status.Status.{Status}
use Rattle.pan_command.specs.declared.status.Status.TheVariants as status
use Rattle.pan_command.specs.Outside.{Call, NoFileChanged, IsPut, IsPutInPart, PutFailed}
use Rattle.pan_command.specs.Check.{Unpassed}
use Rattle.pan_command.specs.Playing.{Goes, Played, PlayedInPart, Broken}
use Rattle.pan_command.specs.Reading.{FileUnread, SourceRead, ScriptRead, ScriptRefused}

-- In what follows `Prints line` says how far the line was put: all of it, or a prefix.

-- the source's file could not be read, or it has a source and the script's file could not be read
abbrev pub MeaningUnread : (List ℕ → Type 0) → Call → List ℕ → List ℕ → Type 0
MeaningUnread Prints call program script =
    FileUnread Prints call program ⊎ (SourceRead call.before program × FileUnread Prints call script)

-- what a program means on the local memory that the script fills
abbrev pub source_goes : Program → Content → Options → Goes
source_goes program script options replies fuel = (source program (filled script.pieces options.local) replies fuel).behaviour

-- a line could not be put, and what was put is a prefix of the text that was to be put
pub record MeaningUnput (options : Options) (call : Call) (program script : List ℕ) : Type 0 where
  pub cause : PutFailed call
  pub line : MeaningUnread (IsPutInPart call) call program script
      ⊎ (Unpassed (IsPutInPart call) call.before program
      ⊎ ((SourceRead call.before program × ScriptRefused (IsPutInPart call) call.before script)
      ⊎ ((p : SourceRead call.before program) × (s : ScriptRead call.before script)
      × PlayedInPart (IsPutInPart call) (source_goes p.program s.script options) s.script options.steps)))

-- There was no memory: nothing is put, or the lines of the first events of the run.
abbrev pub MeaningStarved : Options → Call → List ℕ → List ℕ → Type 0
MeaningStarved options call program script =
    IsPut call []
    ⊎ ((p : SourceRead call.before program) × (s : ScriptRead call.before script)
    × Broken (IsPut call) (source_goes p.program s.script options) s.script options.steps)

-- how `meaning` ends, beside that no file changes
abbrev pub MeaningCases : Options → List ℕ → List ℕ → Call → Status → Type 0
MeaningCases options program script call status.Unread = MeaningUnread (IsPut call) call program script
MeaningCases options program script call status.Refused = Unpassed (IsPut call) call.before program
MeaningCases options program script call status.NoScript = SourceRead call.before program × ScriptRefused (IsPut call) call.before script
MeaningCases options program script call (status.Ran end) =
    (p : SourceRead call.before program) × (s : ScriptRead call.before script)
    × Played (IsPut call) (source_goes p.program s.script options) s.script options.steps end
MeaningCases options program script call status.Unput = MeaningUnput options call program script
MeaningCases options program script call status.NoMemory = MeaningStarved options call program script
MeaningCases options program script call _ = ⊥

-- how `meaning` ends
abbrev pub MeaningEnds : Options → List ℕ → List ℕ → Call → Status → Type 0
MeaningEnds options program script call s =
    NoFileChanged call × MeaningCases options program script call s
