-- What was read of a source, of an image and of a script, and why there is none.
use Rattle.std.specs.Prelude.{◌≡◌, ◌⊎◌, ℕ, List, ◌++◌, Ok, Err, codes}
use Rattle.std.specs.Fmt.{decimal}
use Rattle.pan_tree.specs.declared.program.Program.{Program}
use Rattle.front_end.specs.Sources.{IsChecked, Unchecked}
use Rattle.front_end.specs.Causes.{place_of, cause_of}
use Rattle.front_end.specs.declared.error.SourceError.{SourceError}
use Rattle.riscv_isa.specs.Image.{ImageParts, ImageOf}
use Rattle.device_script.specs.Script.{Content, Refusal, script_of_file}
use Rattle.device_script.specs.declared.error.Cause.{Cause}
use Rattle.device_script.specs.declared.error.Cause.TheVariants as cause
use Rattle.pan_command.specs.Outside.{Outside, Call, files_before, Holds, Lacks, ReadFailed}

abbrev pub cause_text : Cause → List ℕ
cause_text cause.Word = codes "Word"
cause_text cause.Count = codes "Count"
cause_text cause.Size = codes "Size"
cause_text cause.Number = codes "Number"
cause_text cause.Address = codes "Address"
cause_text cause.Name = codes "Name"
cause_text cause.Hex = codes "Hex"
cause_text cause.Kind = codes "Kind"
cause_text cause.Range = codes "Range"
cause_text cause.Twice = codes "Twice"

-- a place, and the name of a cause
abbrev pub caused : ℕ → List ℕ → List ℕ
caused place cause = decimal place ++ codes " " ++ cause ++ codes "\n"

-- the line of a refused source
abbrev pub source_line : SourceError → List ℕ
source_line e = caused (place_of e) (cause_of e)

-- the line of a refused script
abbrev pub script_line : Refusal → List ℕ
script_line r = codes "script " ++ decimal r.line ++ codes " " ++ cause_text r.cause ++ codes "\n"

-- the bytes are a source of this program and of no other, it keeps every rule, and nothing is wrong with them
pub record IsSource (bytes : List ℕ) (program : Program) : Type 0 where
  pub checked : IsChecked bytes program
  pub only : (other : Program) → IsChecked bytes other → other ≡ program
  pub accepted : (e : SourceError) → ¬ Unchecked bytes e

-- the bytes are an image of these parts and of no others
pub record IsImage (bytes : List ℕ) (parts : ImageParts) : Type 0 where
  pub layout : ImageOf bytes parts
  pub only : (others : ImageParts) → ImageOf bytes others → others ≡ parts

-- the file was read and its bytes are a source
pub record SourceRead (before : Outside) (name : List ℕ) : Type 0 where
  pub bytes : List ℕ
  pub held : Holds (before.files).files name bytes
  pub program : Program
  pub source : IsSource bytes program

-- the file was read and its bytes are an image
pub record ImageRead (before : Outside) (name : List ℕ) : Type 0 where
  pub bytes : List ℕ
  pub held : Holds (before.files).files name bytes
  pub parts : ImageParts
  pub image : IsImage bytes parts

-- the file was read and its bytes are a script
pub record ScriptRead (before : Outside) (name : List ℕ) : Type 0 where
  pub bytes : List ℕ
  pub held : Holds (before.files).files name bytes
  pub script : Content
  pub says : script_of_file bytes ≡ Ok script

-- In what follows `Prints line` says how far the line was put: all of it, or a prefix.

-- a file could not be read: a read failed, or there is no such file
pub record FileUnread (Prints : List ℕ → Type 0) (call : Call) (name : List ℕ) : Type 0 where
  pub cause : ReadFailed call ⊎ Lacks (files_before call) name
  pub line : Prints (codes "read " ++ name ++ codes "\n")

-- the script is refused
pub record ScriptRefused (Prints : List ℕ → Type 0) (before : Outside) (name : List ℕ) : Type 0 where
  pub bytes : List ℕ
  pub held : Holds (before.files).files name bytes
  pub refusal : Refusal
  pub refused : script_of_file bytes ≡ Err refusal
  pub line : Prints (script_line refusal)
