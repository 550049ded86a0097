-- What the action `run` leaves, by how it ends.
use Rattle.std.specs.Prelude.{◌≡◌, ◌⊎◌, ℕ, List, [], ◌++◌, Some, codes}
use Rattle.std.specs.Fmt.{decimal}
use Rattle.riscv_isa.specs.Image.{ImageParts, ImageOf}
use Rattle.riscv_isa.specs.Machine.{machine}
use Rattle.image_file.specs.Faults.{fault_of}
use Rattle.image_file.specs.declared.error.FieldName.{FieldName}
use Rattle.image_file.specs.declared.error.FieldName.TheVariants as field
use Rattle.image_file.specs.declared.error.ImageError.{ImageError}
use Rattle.image_file.specs.declared.error.ImageError.TheVariants as fault
use Rattle.command_words.specs.declared.order.Options.{Options}
use Rattle.device_script.specs.Memory.{filled}
use Rattle.device_script.specs.Script.{Content}
use Rattle.pan_command.specs.declared.status.Status.{Status}
use Rattle.pan_command.specs.declared.status.Status.TheVariants as status
use Rattle.pan_command.specs.Outside.{Outside, Call, NoFileChanged, Holds, IsPut, IsPutInPart, PutFailed}
use Rattle.pan_command.specs.Playing.{Goes, Played, PlayedInPart}
use Rattle.pan_command.specs.Reading.{FileUnread, ImageRead, ScriptRead, ScriptRefused}

-- the name of a field in a line
abbrev pub field_text : FieldName → List ℕ
field_text field.Code = codes "code"
field_text field.Entry = codes "entry"
field_text field.Count = codes "count"
field_text field.Names = codes "names"
field_text field.Zero = codes "zero"

-- the line of bytes that are no image
abbrev pub image_line : ImageError → List ℕ
image_line fault.Magic = codes "image Magic\n"
image_line fault.Short = codes "image Short\n"
image_line (fault.Field f) = codes "image Field " ++ field_text f ++ codes "\n"
image_line (fault.BadName i) = codes "image BadName " ++ decimal i ++ codes "\n"
image_line fault.Padding = codes "image Padding\n"
image_line fault.Tail = codes "image Tail\n"
image_line fault.NoMemory = []

-- In what follows `Prints line` says how far the line was put: all of it, or a prefix.

-- the image's file could not be read, or it has an image and the script's file could not be read
abbrev pub RunUnread : (List ℕ → Type 0) → Call → List ℕ → List ℕ → Type 0
RunUnread Prints call image script =
    FileUnread Prints call image ⊎ (ImageRead call.before image × FileUnread Prints call script)

-- the bytes are no image, and this is the first that is wrong with them
pub record NoImage (Prints : List ℕ → Type 0) (before : Outside) (image : List ℕ) : Type 0 where
  pub bytes : List ℕ
  pub held : Holds (before.files).files image bytes
  pub never : (parts : ImageParts) → ¬ ImageOf bytes parts
  pub fault : ImageError
  pub first : fault_of bytes ≡ Some fault
  pub line : Prints (image_line fault)

-- what the machine of an image does on the local memory that the script fills, with the stack of the options
abbrev pub image_goes : ImageParts → Content → Options → Goes
image_goes parts script options replies steps = machine parts (filled script.pieces options.local) options.stack replies steps

-- a line could not be put, and what was put is a prefix of the text that was to be put
pub record RunUnput (options : Options) (call : Call) (image script : List ℕ) : Type 0 where
  pub cause : PutFailed call
  pub line : RunUnread (IsPutInPart call) call image script
      ⊎ (NoImage (IsPutInPart call) call.before image
      ⊎ ((ImageRead call.before image × ScriptRefused (IsPutInPart call) call.before script)
      ⊎ ((i : ImageRead call.before image) × (s : ScriptRead call.before script)
      × PlayedInPart (IsPutInPart call) (image_goes i.parts s.script options) s.script options.steps)))

-- how `run` ends, beside that no file changes
abbrev pub RunCases : Options → List ℕ → List ℕ → Call → Status → Type 0
RunCases options image script call status.Unread = RunUnread (IsPut call) call image script
RunCases options image script call status.NoImage = NoImage (IsPut call) call.before image
RunCases options image script call status.NoScript = ImageRead call.before image × ScriptRefused (IsPut call) call.before script
RunCases options image script call (status.Ran end) =
    (i : ImageRead call.before image) × (s : ScriptRead call.before script)
    × Played (IsPut call) (image_goes i.parts s.script options) s.script options.steps end
RunCases options image script call status.Unput = RunUnput options call image script
RunCases options image script call status.NoMemory = IsPut call []
RunCases options image script call _ = ⊥

-- how `run` ends
abbrev pub RunEnds : Options → List ℕ → List ℕ → Call → Status → Type 0
RunEnds options image script call s = NoFileChanged call × RunCases options image script call s
