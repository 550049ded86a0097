-- The outside of a call, as it tells of itself.
use Rattle.std.specs.Prelude.{◌≡◌, ℕ, List, Option, Some, None}
use Rattle.pan_base.specs.Causes.{Rose}
use Rattle.pan_base.specs.Files.{Files, FilesState, NoneChanged}
use Rattle.pan_base.specs.Sinks.{SinkState, Took, TookFront}

-- the files, and the sink of text
pub record Outside : Type 0 where
  pub files : FilesState
  pub out : SinkState

abbrev pub outside : FilesState → SinkState → Outside
outside files out = record { files = files; out = out }

-- a call: what it found outside, and what it left there
pub record Call : Type 0 where
  pub before : Outside
  pub after : Outside

abbrev pub between : Outside → Outside → Call
between before after = record { before = before; after = after }

-- the call that found these files and this sink, and left those
abbrev pub the_call : FilesState → SinkState → FilesState → SinkState → Call
the_call files out files_left out_left = between (outside files out) (outside files_left out_left)

-- ---- files

abbrev pub files_before : Call → Option Files
files_before call = ((call.before).files).files

abbrev pub files_after : Call → Option Files
files_after call = ((call.after).files).files

-- no file changed
abbrev pub NoFileChanged : Call → Type 0
NoFileChanged call = NoneChanged (files_before call) (files_after call)

-- the file, where files are told, has these bytes
abbrev pub Holds : Option Files → List ℕ → List ℕ → Type 0
Holds None name bytes = Unit {0}
Holds (Some files) name bytes = files name ≡ Some bytes

-- the file, where files are told, is missing
abbrev pub Lacks : Option Files → List ℕ → Type 0
Lacks None name = Unit {0}
Lacks (Some files) name = files name ≡ None

-- the file is there, and its bytes are such ones
abbrev pub Has : Files → List ℕ → (List ℕ → Type 0) → Type 0
Has files name Such = (bytes : List ℕ) × (files name ≡ Some bytes) × Such bytes

-- ---- the sink

-- the text was put, all of it
abbrev pub IsPut : Call → List ℕ → Type 0
IsPut call = Took (call.before).out (call.after).out

-- a prefix of the text was put
abbrev pub IsPutInPart : Call → List ℕ → Type 0
IsPutInPart call = TookFront (call.before).out (call.after).out

-- ---- faults

abbrev pub ReadFailed : Call → Type 0
ReadFailed call = Rose ((call.before).files).failed_reads ((call.after).files).failed_reads

abbrev pub WriteFailed : Call → Type 0
WriteFailed call = Rose ((call.before).files).failed_writes ((call.after).files).failed_writes

abbrev pub PutFailed : Call → Type 0
PutFailed call = Rose ((call.before).out).faults ((call.after).out).faults

-- these files were there as they were told, and no read, no write and no put failed in the call
pub record IsUndisturbed (call : Call) (files : Files) : Type 0 where
  pub told : files_before call ≡ Some files
  pub reads : ¬ ReadFailed call
  pub writes : ¬ WriteFailed call
  pub puts : ¬ PutFailed call
