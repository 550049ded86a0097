-- What the action `compile` leaves, by how it ends.
use Rattle.std.specs.Prelude.{◌⊎◌, ℕ, List, [], ◌++◌, Option, Some, None, codes}
use Rattle.std.specs.Fmt.{decimal}
use Rattle.pan_base.specs.Files.{Stored, StoredInPart, StoredShort}
use Rattle.pan_driver.specs.Chained.{parts}
use Rattle.pan_command.specs.declared.status.Status.{Status}
use Rattle.pan_command.specs.declared.status.Status.TheVariants as status
use Rattle.pan_command.specs.Building.{SourceBuilt}
use Rattle.pan_command.specs.Check.{Unpassed}
use Rattle.pan_command.specs.Outside.{Call, files_before, files_after, NoFileChanged, IsPut, IsPutInPart, WriteFailed, PutFailed}
use Rattle.pan_command.specs.Reading.{FileUnread}

-- the line of a bound
abbrev pub bound_line : Option ℕ → List ℕ
bound_line None = codes "bound none\n"
bound_line (Some n) = codes "bound " ++ decimal n ++ codes "\n"

-- In what follows `Prints line` says how far the line was put: all of it, or a prefix.

-- a faithful image is written, and the line of its bound is put
pub record Compiled (Prints : List ℕ → Type 0) (call : Call) (source image : List ℕ) : Type 0 where
  pub built : SourceBuilt call.before source
  pub stored : Stored (files_before call) (files_after call) image built.image
  pub line : Prints (bound_line (parts built.stages).bound)

-- the image could not be written: its file is as before, or has a prefix of a faithful image
pub record ImageUnwritten (Prints : List ℕ → Type 0) (call : Call) (source image : List ℕ) : Type 0 where
  pub built : SourceBuilt call.before source
  pub cause : WriteFailed call
  pub stored : StoredInPart (files_before call) (files_after call) image built.image
  pub line : Prints (codes "write " ++ image ++ codes "\n")

-- a line could not be put, and all else is as where it was put
pub record CompileUnput (call : Call) (source image : List ℕ) : Type 0 where
  pub cause : PutFailed call
  pub line : Compiled (IsPutInPart call) call source image
      ⊎ ((NoFileChanged call × FileUnread (IsPutInPart call) call source)
      ⊎ ((NoFileChanged call × Unpassed (IsPutInPart call) call.before source)
      ⊎ ImageUnwritten (IsPutInPart call) call source image))

-- There was no memory: nothing is put, and no file changed but the image's, which may have a prefix of a faithful image that isn't all of it.
pub record CompileStarved (call : Call) (source image : List ℕ) : Type 0 where
  pub left : NoFileChanged call
      ⊎ ((built : SourceBuilt call.before source) × StoredShort (files_before call) (files_after call) image built.image)
  pub line : IsPut call []

-- how `compile` ends
abbrev pub CompileEnds : List ℕ → List ℕ → Call → Status → Type 0
CompileEnds source image call status.Done = Compiled (IsPut call) call source image
CompileEnds source image call status.Unread = NoFileChanged call × FileUnread (IsPut call) call source
CompileEnds source image call status.Refused = NoFileChanged call × Unpassed (IsPut call) call.before source
CompileEnds source image call status.Unwritten = ImageUnwritten (IsPut call) call source image
CompileEnds source image call status.Unput = CompileUnput call source image
CompileEnds source image call status.NoMemory = CompileStarved call source image
CompileEnds source image call _ = ⊥

-- how the writing of an image with this bound ends
abbrev pub StoreEnds : Option ℕ → List ℕ → List ℕ → Call → Status → Type 0
StoreEnds bound name image call status.Done = Stored (files_before call) (files_after call) name image × IsPut call (bound_line bound)
StoreEnds bound name image call status.Unwritten =
    WriteFailed call × StoredInPart (files_before call) (files_after call) name image × IsPut call (codes "write " ++ name ++ codes "\n")
StoreEnds bound name image call status.Unput =
    PutFailed call
    × ((Stored (files_before call) (files_after call) name image × IsPutInPart call (bound_line bound))
    ⊎ (WriteFailed call × StoredInPart (files_before call) (files_after call) name image × IsPutInPart call (codes "write " ++ name ++ codes "\n")))
StoreEnds bound name image call status.NoMemory = StoredShort (files_before call) (files_after call) name image × IsPut call []
StoreEnds bound name image call _ = ⊥
