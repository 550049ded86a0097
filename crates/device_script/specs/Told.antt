-- What the code's answers stand for.
use Rattle.std.specs.Prelude.{◌≡◌, Result, Ok, Err}
use Rattle.hex.specs.declared.error.FromHexError.{FromHexError}
use Rattle.hex.specs.declared.error.FromHexError.TheVariants as hex
use Rattle.device_script.specs.declared.error.Cause.{Cause}
use Rattle.device_script.specs.declared.error.Cause.TheVariants as cause
use Rattle.device_script.specs.declared.error.LineError.{LineError}
use Rattle.device_script.specs.declared.error.LineError.TheVariants as error
use Rattle.device_script.specs.declared.error.ScriptError.{ScriptError}
use Rattle.device_script.specs.declared.error.ScriptError.TheVariants as script
use Rattle.device_script.specs.Script.{Content, Refusal}

-- the answer is what was said, or why it is wrong; want of memory tells nothing
abbrev pub Tells : {X : Type 0} → Result X LineError → Result X Cause → Type 0
Tells (Ok x) said = said ≡ Ok x
Tells (Err (error.Wrong c)) said = said ≡ Err c
Tells (Err error.NoMemory) said = Unit {0}

-- the error tells the file's first line that fits no rule; want of memory tells nothing
abbrev pub TellsRefusal : ScriptError → Result Content Refusal → Type 0
TellsRefusal (script.Line n c) file = file ≡ Err (record { line = n; cause = c })
TellsRefusal script.NoMemory file = Unit {0}

-- why digits give no bytes
abbrev pub hex_refusal : FromHexError → LineError
hex_refusal hex.OutOfMemory = error.NoMemory
hex_refusal _ = error.Wrong cause.Hex
