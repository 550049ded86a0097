-- Bytes are an image exactly where nothing is wrong with them.
use Rattle.std.proofs.Common.{◌≡◌, ℕ, ◌+◌, zero, suc, true, false, List, [], Option, Some, None, refl, sym, ap, subst, ◌∙◌, arith}
use Rattle.std.specs.Prelude.{◌↔◌}
use Rattle.std.specs.Option.{option_or, option_map_or}
use Rattle.std.proofs.lemmas.Bool.{false≢true, not-false}
use Rattle.pan_base.specs.Words.{IsBytes}
use Rattle.riscv_isa.specs.Image.{ImageParts, ImageOf, are_foreign_names}
use Rattle.image_file.specs.declared.error.ImageError.{ImageError}
use Rattle.image_file.specs.declared.error.ImageError.TheVariants.{BadName}
use Rattle.image_file.specs.Faults.{first_fault, name_tests, is_bad_name, fault_of}
use Rattle.image_file.specs.Fields.{header_of, names_bytes, code_bytes, names_at}
use Rattle.image_file.specs.Split.{bound_in}
use Rattle.image_file.proofs.FaultLaws.{none_holds, fault_of-parts}
use Rattle.image_file.proofs.ImageLaws.{is_image}
use Rattle.image_file.proofs.WrittenLaws.{image_reads}

-- neither of two finds a fault where both together find none
neither : (x y : Option ImageError) → option_or x y ≡ None → (x ≡ None) × (y ≡ None)
neither None y h = (refl, h)
neither (Some e) y h = absurd cc

-- where no name is bad the last one isn't
last_is_good : (part : List ℕ) (i k : ℕ) → first_fault (name_tests part i (suc k)) ≡ None → is_bad_name part (i + k) ≡ false
last_is_good part i zero h =
    let e : i + 0 ≡ i = omega arith in
    ap (is_bad_name part) e ∙ (none_holds (is_bad_name part i) (BadName i) None h).0
last_is_good part i (suc k) h =
    let e : i + suc k ≡ i + 1 + k = omega arith in
    ap (is_bad_name part) e ∙ last_is_good part (i + 1) k (none_holds (is_bad_name part i) (BadName i) _ h).1

-- the names that were read are lawful
record AreRead (part : List ℕ) (count : ℕ) : Type 0 where
  names : List (List ℕ)
  left : List ℕ
  at : names_at count part ≡ Some (names, left)
  lawful : are_foreign_names names ≡ true

read_by : (part : List ℕ) (count : ℕ) (found : Option (List (List ℕ) × List ℕ)) → names_at count part ≡ found → option_map_or (λ r. are_foreign_names r.0) found false ≡ true
    → AreRead part count
read_by part count None at lawful = absurd (false≢true lawful)
read_by part count (Some r) at lawful = record { names = r.0; left = r.1; at = at; lawful = lawful }

are_read : (part : List ℕ) (count : ℕ) → first_fault (name_tests part 0 count) ≡ None → AreRead part count
unfolding names_at
are_read part zero h = record { names = []; left = part; at = refl; lawful = refl }
are_read part (suc k) h =
    let e : 0 + k + 1 ≡ suc k = omega arith in
    let good : option_map_or (λ r. are_foreign_names r.0) (names_at (0 + k + 1) part) false ≡ true = not-false _ (last_is_good part 0 k h) in
    read_by part (suc k) (names_at (suc k) part) refl (subst (λ n. option_map_or (λ r. are_foreign_names r.0) (names_at n part) false ≡ true) e good)

image_there : (bytes : List ℕ) → IsBytes bytes → fault_of bytes ≡ None → (parts : ImageParts) × ImageOf bytes parts
image_there bytes fits none =
    let p = neither _ _ (sym (fault_of-parts bytes) ∙ none) in
    let q = neither _ _ p.0 in
    let r = are_read (names_bytes bytes) (header_of bytes).name_count q.1 in
    (record { code = code_bytes bytes; names = r.names; bound = bound_in (header_of bytes).bound }, is_image bytes r.names r.left fits q.0 r.at r.lawful p.1)

pub faultless : (bytes : List ℕ) (parts : ImageParts) → ImageOf bytes parts → fault_of bytes ≡ None
faultless bytes parts image = (image_reads bytes parts image).right

pub exact : (bytes : List ℕ) → IsBytes bytes → (fault_of bytes ≡ None) ↔ ((parts : ImageParts) × ImageOf bytes parts)
exact bytes fits = (image_there bytes fits, λ h. faultless bytes h.0 h.1)
