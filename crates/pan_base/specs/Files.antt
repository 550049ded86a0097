-- Files as a function from names to bytes, where they are told, and what reads and writes do to them.
use Rattle.std.specs.Prelude.{◌≡◌, ◌≢◌, ◌⊎◌, ℕ, ◌≤◌, ◌<◌, ◌+◌, List, length, take, Result, Ok, Err, Option, Some, None}
use Rattle.pan_base.specs.Causes.{Rose}
use Rattle.pan_base.specs.declared.file_error.FileError.{FileError}
use Rattle.pan_base.specs.declared.file_error.FileError.TheVariants as error

-- the bytes of each name that there is
abbrev pub Files : Type 0
Files = List ℕ → Option (List ℕ)

-- what a workspace tells: its files, where it tells them, and how many reads and how many writes failed
pub record FilesState : Type 0 where
  pub files : Option Files
  pub failed_reads : ℕ
  pub failed_writes : ℕ

-- what was read is there, and what is missing is not
abbrev pub Reads : Option Files → List ℕ → Result (List ℕ) FileError → Type 0
Reads None name r = Unit {0}
Reads (Some files) name (Ok bytes) = files name ≡ Some bytes
Reads (Some files) name (Err error.Missing) = files name ≡ None
Reads (Some files) name (Err error.Fault) = Unit {0}
Reads (Some files) name (Err error.NoMemory) = Unit {0}

-- no file but this one changed
abbrev pub OthersSame : Files → Files → List ℕ → Type 0
OthersSame old new name = (n : List ℕ) → n ≢ name → new n ≡ old n

-- no file changed, and they are told as before
abbrev pub NoneChanged : Option Files → Option Files → Type 0
NoneChanged None None = Unit {0}
NoneChanged (Some old) (Some new) = (n : List ℕ) → new n ≡ old n
NoneChanged None (Some new) = ⊥
NoneChanged (Some old) None = ⊥

-- the file has these bytes, and the others are as before
abbrev pub Stored : Option Files → Option Files → List ℕ → List ℕ → Type 0
Stored None None name bytes = Unit {0}
Stored (Some old) (Some new) name bytes = (new name ≡ Some bytes) × OthersSame old new name
Stored None (Some new) name bytes = ⊥
Stored (Some old) None name bytes = ⊥

-- the file is as before or has the first n of these bytes, for an n below the limit, and the others are as before
abbrev pub StoredBelow : ℕ → Option Files → Option Files → List ℕ → List ℕ → Type 0
StoredBelow limit None None name bytes = Unit {0}
StoredBelow limit (Some old) (Some new) name bytes = ((new name ≡ old name) ⊎ ((n : ℕ) × (n < limit) × (new name ≡ Some (take n bytes)))) × OthersSame old new name
StoredBelow limit None (Some new) name bytes = ⊥
StoredBelow limit (Some old) None name bytes = ⊥

-- the file is as before or has a prefix of these bytes, which may be all of them, and the others are as before
abbrev pub StoredInPart : Option Files → Option Files → List ℕ → List ℕ → Type 0
StoredInPart old new name bytes = StoredBelow (length bytes + 1) old new name bytes

-- the file is as before or has a prefix of these bytes that isn't all of them, and the others are as before
abbrev pub StoredShort : Option Files → Option Files → List ℕ → List ℕ → Type 0
StoredShort old new name bytes = StoredBelow (length bytes) old new name bytes

-- what a write leaves: all of the bytes, or a prefix where it fails, which isn't all of them where it fails for want of memory
abbrev pub Writes : Option Files → Option Files → List ℕ → List ℕ → Result (Unit {0}) FileError → Type 0
Writes old new name bytes (Ok x) = Stored old new name bytes
Writes old new name bytes (Err error.Missing) = ⊥
Writes old new name bytes (Err error.Fault) = StoredInPart old new name bytes
Writes old new name bytes (Err error.NoMemory) = StoredShort old new name bytes

-- a fault came only where the count rose, a missing file raises no count, and the count doesn't fall
pub record FaultCause {T : Type 0} (before now : ℕ) (result : Result T FileError) : Type 0 where
  pub later : before ≤ now
  pub fault : result ≡ Err error.Fault → Rose before now
  pub missing : result ≡ Err error.Missing → now ≡ before
