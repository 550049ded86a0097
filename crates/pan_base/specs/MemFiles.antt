-- Files in memory.
use Rattle.std.specs.Prelude.{◌==◌, ℕ, List, [], ◌∷◌, take, find, Option, Some, None, if◌then◌else◌}
use Rattle.std.specs.Str.{bytes_eq}
use Rattle.pan_base.specs.Counts.{next_count}
use Rattle.pan_base.specs.Files.{Files, FilesState}
use Rattle.pan_base.specs.declared.memory_files.Failing.{Failing}

-- the files' names and bytes, the calls that fail, the number of the next call, and how many reads and writes failed
pub record MemFilesState : Type 0 where
  pub files : List (List ℕ × List ℕ)
  pub failing : List Failing
  pub calls : ℕ
  pub failed_reads : ℕ
  pub failed_writes : ℕ

-- the bytes of the first file with the name
abbrev pub file_at : List (List ℕ × List ℕ) → Files
file_at [] name = None
file_at (file ∷ files) name = if bytes_eq file.0 name then Some file.1 else file_at files name

-- the first file with the name gets these bytes, or where there is none a new file comes after the others
abbrev pub with_file : List (List ℕ × List ℕ) → List ℕ → List ℕ → List (List ℕ × List ℕ)
with_file [] name bytes = (name, bytes) ∷ []
with_file (file ∷ files) name bytes =
    if bytes_eq file.0 name then (name, bytes) ∷ files else file ∷ with_file files name bytes

-- it tells its files
abbrev pub mem_files_told : MemFilesState → FilesState
mem_files_told s =
    record { files = Some (file_at s.files); failed_reads = s.failed_reads; failed_writes = s.failed_writes }

-- what the next call fails with, if it is to fail
abbrev pub failure : MemFilesState → Option Failing
failure s = find (λ f. f.call == s.calls) s.failing

-- what stands after a call that didn't fail and stored nothing
abbrev pub after_call : MemFilesState → MemFilesState
after_call s = record s { calls = next_count s.calls }

-- what stands after a read that failed
abbrev pub after_failed_read : MemFilesState → MemFilesState
after_failed_read s = record s { calls = next_count s.calls; failed_reads = next_count s.failed_reads }

-- the files after a write that fails: as they were, or with so many of the new bytes where it keeps some
abbrev pub kept : Option ℕ → List (List ℕ × List ℕ) → List ℕ → List ℕ → List (List ℕ × List ℕ)
kept None files name bytes = files
kept (Some n) files name bytes = with_file files name (take n bytes)

-- what stands after a write that failed
abbrev pub after_failed_write : Option ℕ → MemFilesState → List ℕ → List ℕ → MemFilesState
after_failed_write keep s name bytes =
    record s { files = kept keep s.files name bytes; calls = next_count s.calls; failed_writes = next_count s.failed_writes }
