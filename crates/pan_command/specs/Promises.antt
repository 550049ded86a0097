-- What the top call promises of each action, by its exit status.
use Rattle.std.specs.Prelude.{◌≡◌, ◌⊎◌, ℕ, List, None, Some, Ok, Err}
use Rattle.pan_base.specs.Events.{Behaviour, end_of}
use Rattle.pan_base.specs.Files.{Files}
use Rattle.pan_tree.specs.Check.{program_weight}
use Rattle.pan_tree.specs.declared.program.Program.{Program}
use Rattle.riscv_isa.specs.Image.{ImageParts, ImageOf}
use Rattle.image_file.specs.Faults.{fault_of}
use Rattle.image_file.specs.declared.error.ImageError.{ImageError}
use Rattle.front_end.specs.Sources.{IsChecked, Unchecked}
use Rattle.front_end.specs.declared.error.SourceError.{SourceError}
use Rattle.command_words.specs.declared.order.Options.{Options}
use Rattle.command_words.specs.declared.order.Stage.{Stage}
use Rattle.code_listing.specs.Listing.{listing}
use Rattle.device_script.specs.Script.{Content, Refusal, script_of_file}
use Rattle.pan_command.specs.declared.status.Status.{Status}
use Rattle.pan_command.specs.Outside.{Call, NoFileChanged, Has, IsPut, IsUndisturbed}
use Rattle.pan_command.specs.Status.{code, end_code, IsCompileCode}
use Rattle.pan_command.specs.Playing.{Plays}
use Rattle.pan_command.specs.Reading.{FileUnread, script_line, source_line}
use Rattle.pan_command.specs.Compile.{Compiled, CompileStarved, CompileEnds}
use Rattle.pan_command.specs.Check.{CheckEnds, Unpassed, weight_line}
use Rattle.pan_command.specs.Run.{RunEnds, image_goes, image_line}
use Rattle.pan_command.specs.Meaning.{MeaningEnds, source_goes}
use Rattle.pan_command.specs.Show.{Shown, ShowEnds}
use Rattle.pan_command.specs.Dis.{DisEnds}
use Rattle.pan_command.specs.Bound.{BoundShown, BoundEnds}

-- In what follows `status` is the exit status, and `files` are those that were there, where they are told and no fault of
-- the outside came.

-- this, or there was no memory
abbrev pub OrStarved : ℕ → Type 0 → Type 0
OrStarved status Answer = Answer ⊎ (status ≡ 8)

-- what is promised of `compile`
pub record CompileKeeps (source image : List ℕ) (call : Call) (status : ℕ) : Type 0 where
  -- it ends in one of its ways; the next clauses say the chief of them by their status
  pub ends : (s : Status) × (status ≡ code s) × CompileEnds source image call s
  -- the image file has an image that is faithful to the program of the source, and the line of its bound is put
  pub writes : status ≡ 0 → Compiled (IsPut call) call source image
  -- a read of the source failed, or there is no such file where files are told
  pub unread : status ≡ 3 → NoFileChanged call × FileUnread (IsPut call) call source
  -- the source is refused for its one reason, and no file changed
  pub refused : status ≡ 4 → NoFileChanged call × Unpassed (IsPut call) call.before source
  -- nothing is put, and at most a prefix of a faithful image, not all of it, stands in the image file
  pub starved : status ≡ 8 → CompileStarved call source image
  -- there is no other status but 7
  pub only : IsCompileCode status
  -- each source that keeps every rule compiles, each other one is refused for its reason, and a missing one gives 3
  pub complete : (files : Files) (program : Program) → IsUndisturbed call files
      → Has files source (λ bytes. IsChecked bytes program) → OrStarved status (status ≡ 0)
  pub refuses : (files : Files) (reason : SourceError) → IsUndisturbed call files
      → Has files source (λ bytes. Unchecked bytes reason) → OrStarved status ((status ≡ 4) × IsPut call (source_line reason))
  pub missing : (files : Files) → IsUndisturbed call files → files source ≡ None → OrStarved status (status ≡ 3)

-- what is promised of `check`
pub record CheckKeeps (source : List ℕ) (call : Call) (status : ℕ) : Type 0 where
  -- it ends in one of its ways, and no file changes
  pub ends : (s : Status) × (status ≡ code s) × CheckEnds source call s
  -- each source that keeps every rule passes with its weight, each other one is refused for its reason, and a missing one gives 3
  pub complete : (files : Files) (program : Program) → IsUndisturbed call files
      → Has files source (λ bytes. IsChecked bytes program) → OrStarved status ((status ≡ 0) × IsPut call (weight_line (program_weight program)))
  pub refuses : (files : Files) (reason : SourceError) → IsUndisturbed call files
      → Has files source (λ bytes. Unchecked bytes reason) → OrStarved status ((status ≡ 4) × IsPut call (source_line reason))
  pub missing : (files : Files) → IsUndisturbed call files → files source ≡ None → OrStarved status (status ≡ 3)

-- what is promised of `run`
pub record RunKeeps (options : Options) (image script : List ℕ) (call : Call) (status : ℕ) : Type 0 where
  -- it ends in one of its ways, and no file changes
  pub ends : (s : Status) × (status ≡ code s) × RunEnds options image script call s
  -- any image runs over any script to the status of its end
  pub complete : (files : Files) (parts : ImageParts) (content : Content) → IsUndisturbed call files
      → Has files image (λ bytes. ImageOf bytes parts) → Has files script (λ bytes. script_of_file bytes ≡ Ok content)
      → OrStarved status ((run : Behaviour) × Plays (image_goes parts content options) content options.steps run × (status ≡ end_code (end_of run.ending)))
  -- bytes that are no image are refused for the first that is wrong with them, and a missing image gives 3
  pub refuses : (files : Files) (bytes : List ℕ) → IsUndisturbed call files → files image ≡ Some bytes
      → ((parts : ImageParts) → ¬ ImageOf bytes parts)
      → OrStarved status ((fault : ImageError) × (fault_of bytes ≡ Some fault) × (status ≡ 5) × IsPut call (image_line fault))
  pub missing : (files : Files) → IsUndisturbed call files → files image ≡ None → OrStarved status (status ≡ 3)
  -- with any image, a script is refused for its first wrong line, and a missing one gives 3
  pub script_refuses : (files : Files) (parts : ImageParts) (refusal : Refusal) → IsUndisturbed call files
      → Has files image (λ bytes. ImageOf bytes parts) → Has files script (λ bytes. script_of_file bytes ≡ Err refusal)
      → OrStarved status ((status ≡ 6) × IsPut call (script_line refusal))
  pub script_missing : (files : Files) (parts : ImageParts) → IsUndisturbed call files
      → Has files image (λ bytes. ImageOf bytes parts) → files script ≡ None → OrStarved status (status ≡ 3)

-- what is promised of `meaning`
pub record MeaningKeeps (options : Options) (source script : List ℕ) (call : Call) (status : ℕ) : Type 0 where
  -- it ends in one of its ways, and no file changes
  pub ends : (s : Status) × (status ≡ code s) × MeaningEnds options source script call s
  -- any source that keeps every rule runs over any script to the status of its end
  pub complete : (files : Files) (program : Program) (content : Content) → IsUndisturbed call files
      → Has files source (λ bytes. IsChecked bytes program) → Has files script (λ bytes. script_of_file bytes ≡ Ok content)
      → OrStarved status ((run : Behaviour) × Plays (source_goes program content options) content options.steps run × (status ≡ end_code (end_of run.ending)))
  -- any other source is refused for its reason, and a missing one gives 3
  pub refuses : (files : Files) (reason : SourceError) → IsUndisturbed call files
      → Has files source (λ bytes. Unchecked bytes reason) → OrStarved status ((status ≡ 4) × IsPut call (source_line reason))
  pub missing : (files : Files) → IsUndisturbed call files → files source ≡ None → OrStarved status (status ≡ 3)
  -- with any such source, a script is refused for its first wrong line, and a missing one gives 3
  pub script_refuses : (files : Files) (program : Program) (refusal : Refusal) → IsUndisturbed call files
      → Has files source (λ bytes. IsChecked bytes program) → Has files script (λ bytes. script_of_file bytes ≡ Err refusal)
      → OrStarved status ((status ≡ 6) × IsPut call (script_line refusal))
  pub script_missing : (files : Files) (program : Program) → IsUndisturbed call files
      → Has files source (λ bytes. IsChecked bytes program) → files script ≡ None → OrStarved status (status ≡ 3)

-- what is promised of `show`
pub record ShowKeeps (stage : Stage) (source : List ℕ) (call : Call) (status : ℕ) : Type 0 where
  -- it ends in one of its ways, and no file changes
  pub ends : (s : Status) × (status ≡ code s) × ShowEnds stage source call s
  -- of each source that keeps every rule the stage is put, each other one is refused for its reason, and a missing one gives 3
  pub complete : (files : Files) (program : Program) → IsUndisturbed call files
      → Has files source (λ bytes. IsChecked bytes program) → OrStarved status ((status ≡ 0) × Shown stage (IsPut call) call.before source)
  pub refuses : (files : Files) (reason : SourceError) → IsUndisturbed call files
      → Has files source (λ bytes. Unchecked bytes reason) → OrStarved status ((status ≡ 4) × IsPut call (source_line reason))
  pub missing : (files : Files) → IsUndisturbed call files → files source ≡ None → OrStarved status (status ≡ 3)

-- what is promised of `bound`
pub record BoundKeeps (source : List ℕ) (call : Call) (status : ℕ) : Type 0 where
  -- it ends in one of its ways, and no file changes
  pub ends : (s : Status) × (status ≡ code s) × BoundEnds source call s
  -- of each source that keeps every rule the bound is put, each other one is refused for its reason, and a missing one gives 3
  pub complete : (files : Files) (program : Program) → IsUndisturbed call files
      → Has files source (λ bytes. IsChecked bytes program) → OrStarved status ((status ≡ 0) × BoundShown (IsPut call) call.before source)
  pub refuses : (files : Files) (reason : SourceError) → IsUndisturbed call files
      → Has files source (λ bytes. Unchecked bytes reason) → OrStarved status ((status ≡ 4) × IsPut call (source_line reason))
  pub missing : (files : Files) → IsUndisturbed call files → files source ≡ None → OrStarved status (status ≡ 3)

-- what is promised of `dis`
pub record DisKeeps (image : List ℕ) (call : Call) (status : ℕ) : Type 0 where
  -- it ends in one of its ways, and no file changes
  pub ends : (s : Status) × (status ≡ code s) × DisEnds image call s
  -- the code of any image is listed, other bytes are refused for the first that is wrong with them, and a missing image gives 3
  pub complete : (files : Files) (parts : ImageParts) → IsUndisturbed call files
      → Has files image (λ bytes. ImageOf bytes parts) → OrStarved status ((status ≡ 0) × IsPut call (listing parts.code))
  pub refuses : (files : Files) (bytes : List ℕ) → IsUndisturbed call files → files image ≡ Some bytes
      → ((parts : ImageParts) → ¬ ImageOf bytes parts)
      → OrStarved status ((fault : ImageError) × (fault_of bytes ≡ Some fault) × (status ≡ 5) × IsPut call (image_line fault))
  pub missing : (files : Files) → IsUndisturbed call files → files image ≡ None → OrStarved status (status ≡ 3)
