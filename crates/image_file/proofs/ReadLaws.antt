-- From what the parts of bytes say to the whole.
use Rattle.std.proofs.Common.{◌≡◌, ◌⊎◌, ℕ, true, List, Option, Some, None, sym, inl, inr, refl}
use Rattle.pan_base.specs.Words.{IsBytes}
use Rattle.riscv_isa.specs.Image.{ImageOf, are_foreign_names}
use Rattle.image_file.specs.declared.error.ImageError.{ImageError}
use Rattle.image_file.specs.declared.error.ImageError.TheVariants.{NoMemory}
use Rattle.image_file.specs.declared.header.Header.{Header}
use Rattle.image_file.specs.Faults.{first_fault, header_tests, name_tests, end_tests, fault_of}
use Rattle.image_file.specs.Fields.{header_of, names_bytes, names_at, left_after}
use Rattle.image_file.specs.Split.{AreParts, bound_in}
use Rattle.image_file.proofs.FaultLaws.{in_names, at_end, tests_of_end}
use Rattle.image_file.proofs.ImageLaws.{is_image}

module _ (bytes : List ℕ) (h : Header) (right : first_fault (header_tests bytes) ≡ None) (header_is : h ≡ header_of bytes) (part padding code tail : List ℕ) (s : AreParts bytes part padding code tail) where
  pub names_fault : (e : ImageError) → (e ≡ NoMemory) ⊎ (first_fault (name_tests part 0 h.name_count) ≡ Some e) → (e ≡ NoMemory) ⊎ (fault_of bytes ≡ Some e)
  names_fault e (inl memory) = inl memory
  names_fault e (inr f) = inr (in_names bytes e right (rw (← s.names_are, ← header_is) f))

  end_is : (names : List (List ℕ)) (left : List ℕ) (found : Option ImageError) → names_at h.name_count part ≡ Some (names, left) → found ≡ first_fault (end_tests left padding tail)
      → first_fault (tests_of_end bytes) ≡ found
  end_is names left found at is =
      let there : names_at (header_of bytes).name_count (names_bytes bytes) ≡ Some (names, left) = rw (← s.names_are, ← header_is) at in
      let left_is : left_after (header_of bytes).name_count (names_bytes bytes) ≡ left = rw there refl in
      rw (left_is, ← s.padding_is, ← s.tail_is) (sym is)

  pub end_fault : (names : List (List ℕ)) (left : List ℕ) (found : Option ImageError) → names_at h.name_count part ≡ Some (names, left) → first_fault (name_tests part 0 h.name_count) ≡ None
      → found ≡ first_fault (end_tests left padding tail) → fault_of bytes ≡ found
  end_fault names left found at none is = at_end bytes found right (rw (← s.names_are, ← header_is) none) (end_is names left found at is)

  pub image_found : (names : List (List ℕ)) (left : List ℕ) → IsBytes bytes → names_at h.name_count part ≡ Some (names, left) → are_foreign_names names ≡ true
      → None ≡ first_fault (end_tests left padding tail) → ImageOf bytes (record { code = code; names = names; bound = bound_in h.bound })
  image_found names left fits at lawful is =
      rw (s.code_is, header_is) (is_image bytes names left fits right (rw (← s.names_are, ← header_is) at) lawful (end_is names left None at is))
