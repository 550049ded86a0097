-- How `dis` ends where no fault of the outside came.
use Rattle.std.proofs.Common.{◌≡◌, ℕ, List, Some, None, refl, sym, ap, ◌∙◌, subst, inl, inr}
use Rattle.std.specs.Prelude.{◌⊎◌}
use Rattle.pan_base.specs.Files.{Files}
use Rattle.riscv_isa.specs.Image.{ImageParts, ImageOf}
use Rattle.image_file.specs.Faults.{fault_of}
use Rattle.image_file.specs.declared.error.ImageError.{ImageError}
use Rattle.code_listing.specs.Listing.{listing}
use Rattle.pan_command.specs.declared.status.Status.{Status}
use Rattle.pan_command.specs.declared.status.Status.TheVariants as status
use Rattle.pan_command.specs.Status.{code}
use Rattle.pan_command.specs.Outside.{Call, IsPut, IsUndisturbed}
use Rattle.pan_command.specs.Reading.{IsImage}
use Rattle.pan_command.specs.Run.{image_line}
use Rattle.pan_command.specs.Dis.{DisCases}
use Rattle.pan_command.proofs.Told.{same_bytes, not_held, not_unread}

module _ (call : Call) (all : Files) (image : List ℕ) (fine : IsUndisturbed call all) where
  -- a file that is there
  module _ (bytes : List ℕ) (there : all image ≡ Some bytes) where
    pub listed_ends : (parts : ImageParts) → ImageOf bytes parts → (s : Status) → DisCases image call s → ((code s ≡ 0) × IsPut call (listing parts.code)) ⊎ (code s ≡ 8)
    listed_ends parts layout status.Done h =
        let is : IsImage bytes (h.read).parts = subst (λ b. IsImage b (h.read).parts) (same_bytes _ all image bytes (h.read).bytes fine.told there (h.read).held) (h.read).image in
        inl (refl, subst (λ (p : ImageParts). IsPut call (listing p.code)) (sym (is.only parts layout)) h.text)
    listed_ends parts layout status.Usage h = absurd h
    listed_ends parts layout status.Unread h = absurd (not_unread _ call all image bytes fine there h)
    listed_ends parts layout status.Refused h = absurd h
    listed_ends parts layout status.NoImage h = absurd (h.never parts (subst (λ b. ImageOf b parts) (sym (same_bytes _ all image bytes h.bytes fine.told there h.held)) layout))
    listed_ends parts layout status.NoScript h = absurd h
    listed_ends parts layout status.Unwritten h = absurd h
    listed_ends parts layout status.Unput h = absurd (fine.puts h.cause)
    listed_ends parts layout status.NoMemory h = inr refl
    listed_ends parts layout (status.Ran end) h = absurd h

    pub refused_ends : ((parts : ImageParts) → ¬ ImageOf bytes parts) → (s : Status) → DisCases image call s
        → ((fault : ImageError) × (fault_of bytes ≡ Some fault) × (code s ≡ 5) × IsPut call (image_line fault)) ⊎ (code s ≡ 8)
    refused_ends wrong status.Done h =
        let is : IsImage bytes (h.read).parts = subst (λ b. IsImage b (h.read).parts) (same_bytes _ all image bytes (h.read).bytes fine.told there (h.read).held) (h.read).image in
        absurd (wrong (h.read).parts is.layout)
    refused_ends wrong status.Usage h = absurd h
    refused_ends wrong status.Unread h = absurd (not_unread _ call all image bytes fine there h)
    refused_ends wrong status.Refused h = absurd h
    refused_ends wrong status.NoImage h = inl (h.fault, sym (ap fault_of (same_bytes _ all image bytes h.bytes fine.told there h.held)) ∙ h.first, refl, h.line)
    refused_ends wrong status.NoScript h = absurd h
    refused_ends wrong status.Unwritten h = absurd h
    refused_ends wrong status.Unput h = absurd (fine.puts h.cause)
    refused_ends wrong status.NoMemory h = inr refl
    refused_ends wrong (status.Ran end) h = absurd h

  pub missing_ends : all image ≡ None → (s : Status) → DisCases image call s → (code s ≡ 3) ⊎ (code s ≡ 8)
  missing_ends gone status.Done h = absurd (not_held _ all image (h.read).bytes fine.told gone (h.read).held)
  missing_ends gone status.Usage h = absurd h
  missing_ends gone status.Unread h = inl refl
  missing_ends gone status.Refused h = absurd h
  missing_ends gone status.NoImage h = absurd (not_held _ all image h.bytes fine.told gone h.held)
  missing_ends gone status.NoScript h = absurd h
  missing_ends gone status.Unwritten h = absurd h
  missing_ends gone status.Unput h = absurd (fine.puts h.cause)
  missing_ends gone status.NoMemory h = inr refl
  missing_ends gone (status.Ran end) h = absurd h
