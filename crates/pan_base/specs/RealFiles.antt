-- The files of the system.
use Rattle.std.specs.Prelude.{ℕ, None}
use Rattle.pan_base.specs.Files.{FilesState}

-- how many reads and how many writes failed
pub record RealFilesState : Type 0 where
  pub failed_reads : ℕ
  pub failed_writes : ℕ

-- they tell no files
abbrev pub real_files_told : RealFilesState → FilesState
real_files_told s = record { files = None; failed_reads = s.failed_reads; failed_writes = s.failed_writes }
