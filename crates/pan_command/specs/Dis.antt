-- What the action `dis` leaves, by how it ends.
use Rattle.std.specs.Prelude.{◌⊎◌, ℕ, List, []}
use Rattle.code_listing.specs.Listing.{listing}
use Rattle.pan_command.specs.declared.status.Status.{Status}
use Rattle.pan_command.specs.declared.status.Status.TheVariants as status
use Rattle.pan_command.specs.Outside.{Outside, Call, NoFileChanged, IsPut, IsPutInPart, PutFailed}
use Rattle.pan_command.specs.Reading.{FileUnread, ImageRead}
use Rattle.pan_command.specs.Run.{NoImage}

-- In what follows `Prints text` says how far the text was put: all of it, or a prefix.

-- the listing of the image's code
pub record Listed (Prints : List ℕ → Type 0) (before : Outside) (image : List ℕ) : Type 0 where
  pub read : ImageRead before image
  pub text : Prints (listing (read.parts).code)

-- a text could not be put, and what was put is a prefix of it
pub record DisUnput (call : Call) (image : List ℕ) : Type 0 where
  pub cause : PutFailed call
  pub text : Listed (IsPutInPart call) call.before image
      ⊎ (NoImage (IsPutInPart call) call.before image
      ⊎ FileUnread (IsPutInPart call) call image)

-- how `dis` ends, beside that no file changes
abbrev pub DisCases : List ℕ → Call → Status → Type 0
DisCases image call status.Done = Listed (IsPut call) call.before image
DisCases image call status.Unread = FileUnread (IsPut call) call image
DisCases image call status.NoImage = NoImage (IsPut call) call.before image
DisCases image call status.Unput = DisUnput call image
DisCases image call status.NoMemory = IsPut call []
DisCases image call _ = ⊥

-- how `dis` ends
abbrev pub DisEnds : List ℕ → Call → Status → Type 0
DisEnds image call s = NoFileChanged call × DisCases image call s
