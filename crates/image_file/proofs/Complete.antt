-- An image is read as what it is.
use Rattle.std.proofs.Common.{◌≡◌, ◌⊎◌, ℕ, List, Some, Result, Ok, Err, ap, inl, inr}
use Rattle.std.specs.Prelude.{IfOk, IfErr}
use Rattle.riscv_isa.specs.Image.{ImageParts, ImageOf}
use Rattle.image_file.specs.declared.error.ImageError.{ImageError}
use Rattle.image_file.specs.declared.error.ImageError.TheVariants.{NoMemory}
use Rattle.image_file.specs.Faults.{fault_of}
use Rattle.image_file.proofs.WrittenLaws.{image_reads, same_image}

-- what a call answered, with what its clauses say of it
pub record Answers (bytes : List ℕ) (result : Result ImageParts ImageError) : Type 0 where
  pub found : IfOk result (λ image. ImageOf bytes image)
  pub fault : IfErr result (λ e. (e ≡ NoMemory) ⊎ (fault_of bytes ≡ Some e))

error_of : (bytes : List ℕ) (parts : ImageParts) (e : ImageError) → ImageOf bytes parts → (e ≡ NoMemory) ⊎ (fault_of bytes ≡ Some e) → e ≡ NoMemory
error_of bytes parts e image (inl memory) = memory
error_of bytes parts e image (inr fault) =
    let none = (image_reads bytes parts image).right in absurd (cc)

pub complete : (bytes : List ℕ) (result : Result ImageParts ImageError) → Answers bytes result → (parts : ImageParts) → ImageOf bytes parts
    → (result ≡ Ok parts) ⊎ (result ≡ Err NoMemory)
complete bytes (Ok i) a parts image = inl (ap (λ (p : ImageParts). Ok p) (same_image bytes i parts a.found image))
complete bytes (Err e) a parts image = inr (ap (λ (x : ImageError). Err x) (error_of bytes parts e image a.fault))
