-- The first fault of a row of tests.
use Rattle.std.proofs.Common.{◌≡◌, ℕ, Bool, true, false, cond, List, [], ◌∷◌, ◌++◌, Option, Some, None, refl, ap, ◌∙◌}
use Rattle.std.specs.Option.{option_or}
use Rattle.image_file.specs.declared.error.ImageError.{ImageError}
use Rattle.image_file.specs.Faults.{first_fault, header_tests, name_tests, end_tests, fault_of}
use Rattle.image_file.specs.Fields.{header_of, names_bytes, padding_bytes, tail_bytes, left_after}

abbrev pub Test : Type 0
Test = Bool × ImageError

append_or : (b : Bool) (e : ImageError) (x y : Option ImageError) → cond b (Some e) (option_or x y) ≡ option_or (cond b (Some e) x) y
append_or true e x y = refl
append_or false e x y = refl

pub first_fault-append : (xs ys : List Test) → first_fault (xs ++ ys) ≡ option_or (first_fault xs) (first_fault ys)
first_fault-append [] ys = refl
first_fault-append (x ∷ xs) ys = rw (first_fault-append xs ys) (append_or x.0 x.1 (first_fault xs) (first_fault ys))

-- the last tests of the bytes
abbrev pub tests_of_end : List ℕ → List Test
tests_of_end bytes =
    end_tests (left_after (header_of bytes).name_count (names_bytes bytes)) (padding_bytes bytes) (tail_bytes bytes)

-- the fault of the bytes by the parts of the row
pub fault_of-parts : (bytes : List ℕ) → fault_of bytes ≡ option_or (option_or (first_fault (header_tests bytes)) (first_fault (name_tests (names_bytes bytes) 0 (header_of bytes).name_count))) (first_fault (tests_of_end bytes))
unfolding fault_of
fault_of-parts bytes =
    let names = name_tests (names_bytes bytes) 0 (header_of bytes).name_count in
    first_fault-append (header_tests bytes ++ names) (tests_of_end bytes) ∙ ap (λ (f : Option ImageError). option_or f (first_fault (tests_of_end bytes))) (first_fault-append (header_tests bytes) names)

pub in_header : (bytes : List ℕ) (e : ImageError) → first_fault (header_tests bytes) ≡ Some e → fault_of bytes ≡ Some e
in_header bytes e h = fault_of-parts bytes ∙ rw h refl

pub in_names : (bytes : List ℕ) (e : ImageError) → first_fault (header_tests bytes) ≡ None → first_fault (name_tests (names_bytes bytes) 0 (header_of bytes).name_count) ≡ Some e → fault_of bytes ≡ Some e
in_names bytes e h n = fault_of-parts bytes ∙ rw (h, n) refl

pub at_end : (bytes : List ℕ) (f : Option ImageError) → first_fault (header_tests bytes) ≡ None → first_fault (name_tests (names_bytes bytes) 0 (header_of bytes).name_count) ≡ None → first_fault (tests_of_end bytes) ≡ f → fault_of bytes ≡ f
at_end bytes f h n e = fault_of-parts bytes ∙ rw (h, n) e

-- a test that found no fault doesn't hold, and neither does the rest
pub none_holds : (b : Bool) (e : ImageError) (rest : Option ImageError) → cond b (Some e) rest ≡ None → (b ≡ false) × (rest ≡ None)
none_holds true e rest h = absurd cc
none_holds false e rest h = (refl, h)
