-- What the reading of a file, of an image, of a source and of a script leaves; no file changes.
use Rattle.std.specs.Prelude.{◌≡◌, ◌⊎◌, ◌≤◌, ℕ, List, [], Result, Ok, Err}
use Rattle.pan_tree.specs.declared.program.Program.{Program}
use Rattle.riscv_isa.specs.Image.{ImageParts}
use Rattle.device_script.specs.Script.{Content, script_of_file}
use Rattle.pan_command.specs.declared.status.Status.{Status}
use Rattle.pan_command.specs.declared.status.Status.TheVariants as status
use Rattle.pan_command.specs.Outside.{Call, files_before, NoFileChanged, Holds, IsPut, IsPutInPart, PutFailed}
use Rattle.pan_driver.specs.declared.built.Built.{Built}
use Rattle.pan_command.specs.Building.{IsBuilt}
use Rattle.pan_command.specs.Check.{Unpassed}
use Rattle.pan_command.specs.Reading.{FileUnread, IsImage, IsSource, ScriptRefused}
use Rattle.pan_command.specs.Run.{NoImage}

-- nothing was put, no write failed, and the count of failed reads didn't fall
pub record IsQuiet (call : Call) : Type 0 where
  pub out : (call.after).out ≡ (call.before).out
  pub reads : ((call.before).files).failed_reads ≤ ((call.after).files).failed_reads
  pub writes : ((call.after).files).failed_writes ≡ ((call.before).files).failed_writes

-- the file's bytes, or why there are none
abbrev pub FileCases : List ℕ → Call → Result (List ℕ) Status → Type 0
FileCases name call (Ok bytes) = Holds (files_before call) name bytes × IsQuiet call
FileCases name call (Err status.Unread) = FileUnread (IsPut call) call name
FileCases name call (Err status.Unput) = PutFailed call × FileUnread (IsPutInPart call) call name
FileCases name call (Err status.NoMemory) = IsPut call []
FileCases name call (Err _) = ⊥

abbrev pub ReadsFile : List ℕ → Call → Result (List ℕ) Status → Type 0
ReadsFile name call r = NoFileChanged call × FileCases name call r

-- the image of a file, or why there is none
abbrev pub ImageCases : List ℕ → Call → Result ImageParts Status → Type 0
ImageCases name call (Ok image) =
    (bytes : List ℕ) × Holds (files_before call) name bytes × IsImage bytes image × IsQuiet call
ImageCases name call (Err status.Unread) = FileUnread (IsPut call) call name
ImageCases name call (Err status.NoImage) = NoImage (IsPut call) call.before name
ImageCases name call (Err status.Unput) =
    PutFailed call
    × (FileUnread (IsPutInPart call) call name ⊎ NoImage (IsPutInPart call) call.before name)
ImageCases name call (Err status.NoMemory) = IsPut call []
ImageCases name call (Err _) = ⊥

abbrev pub ReadsImage : List ℕ → Call → Result ImageParts Status → Type 0
ReadsImage name call r = NoFileChanged call × ImageCases name call r

-- the program of a source file, which keeps every rule, or why there is none
abbrev pub ProgramCases : List ℕ → Call → Result Program Status → Type 0
ProgramCases name call (Ok program) =
    (bytes : List ℕ) × Holds (files_before call) name bytes × IsSource bytes program × IsQuiet call
ProgramCases name call (Err status.Unread) = FileUnread (IsPut call) call name
ProgramCases name call (Err status.Refused) = Unpassed (IsPut call) call.before name
ProgramCases name call (Err status.Unput) =
    PutFailed call
    × (FileUnread (IsPutInPart call) call name ⊎ Unpassed (IsPutInPart call) call.before name)
ProgramCases name call (Err status.NoMemory) = IsPut call []
ProgramCases name call (Err _) = ⊥

abbrev pub ReadsProgram : List ℕ → Call → Result Program Status → Type 0
ReadsProgram name call r = NoFileChanged call × ProgramCases name call r

-- what is built of a source file, or why there is nothing, as there is no program then
abbrev pub BuiltCases : List ℕ → Call → Result Built Status → Type 0
BuiltCases name call (Ok built) =
    (bytes : List ℕ) × Holds (files_before call) name bytes × IsBuilt bytes built.stages built.image × IsQuiet call
BuiltCases name call (Err s) = ProgramCases name call (Err s)

abbrev pub ReadsBuilt : List ℕ → Call → Result Built Status → Type 0
ReadsBuilt name call r = NoFileChanged call × BuiltCases name call r

-- the script of a file, or why there is none
abbrev pub ScriptCases : List ℕ → Call → Result Content Status → Type 0
ScriptCases name call (Ok script) =
    (bytes : List ℕ) × Holds (files_before call) name bytes × (script_of_file bytes ≡ Ok script) × IsQuiet call
ScriptCases name call (Err status.Unread) = FileUnread (IsPut call) call name
ScriptCases name call (Err status.NoScript) = ScriptRefused (IsPut call) call.before name
ScriptCases name call (Err status.Unput) =
    PutFailed call
    × (FileUnread (IsPutInPart call) call name ⊎ ScriptRefused (IsPutInPart call) call.before name)
ScriptCases name call (Err status.NoMemory) = IsPut call []
ScriptCases name call (Err _) = ⊥

abbrev pub ReadsScript : List ℕ → Call → Result Content Status → Type 0
ReadsScript name call r = NoFileChanged call × ScriptCases name call r
