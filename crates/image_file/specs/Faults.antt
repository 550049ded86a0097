-- What may be wrong with the bytes of an image, and what of it counts.
use Rattle.std.specs.Prelude.{ℕ, zero, suc, ◌+◌, ◌%◌, ◌==◌, ◌&&◌, nat_lt, nat_le, nat_eq, not, Bool, false, if◌then◌else◌, List, [], ◌∷◌, ◌++◌, length, take, codes, Option, Some, None}
use Rattle.std.specs.List.{list_any, starts_with}
use Rattle.std.specs.Option.{option_map_or}
use Rattle.riscv_isa.specs.Image.{are_foreign_names}
use Rattle.image_file.specs.declared.error.FieldName.TheVariants as field
use Rattle.image_file.specs.declared.error.ImageError.{ImageError}
use Rattle.image_file.specs.declared.error.ImageError.TheVariants.{Magic, Short, Field, BadName, Padding, Tail}
use Rattle.image_file.specs.declared.header.Header.{Header}
use Rattle.image_file.specs.Fields.{header_of, size, names_bytes, padding_bytes, tail_bytes, names_at, left_after}

-- the fault of the first test that holds
abbrev pub first_fault : List (Bool × ImageError) → Option ImageError
first_fault [] = None
first_fault (test ∷ tests) = if test.0 then Some test.1 else first_fault tests

-- the tests of the fields
abbrev pub field_tests : Header → List (Bool × ImageError)
field_tests h =
    (not (h.code_len % 4 == 0 && nat_le h.code_len 268439552), Field field.Code)
    ∷ (not (h.entry == 0), Field field.Entry)
    ∷ (nat_lt 1024 h.name_count, Field field.Count)
    ∷ (nat_lt 67584 h.names_len, Field field.Names)
    ∷ (not (h.zero == 0), Field field.Zero)
    ∷ []

-- the tests of the first 32 bytes, and whether all is there that they ask for
abbrev pub header_tests : List ℕ → List (Bool × ImageError)
header_tests bytes =
    (not (starts_with nat_eq (codes "PNK1") (take 4 bytes)), Magic)
    ∷ (nat_lt (length bytes) 32, Short)
    ∷ field_tests (header_of bytes)
    ++ (nat_lt (length bytes) (size (header_of bytes)), Short) ∷ []

-- name i of the part, or one before it, runs past the end or breaks the rule
abbrev pub is_bad_name : List ℕ → ℕ → Bool
is_bad_name part i = not (option_map_or (λ r. are_foreign_names r.0) (names_at (i + 1) part) false)

-- the tests of so many names from number i on
abbrev pub name_tests : List ℕ → ℕ → ℕ → List (Bool × ImageError)
name_tests part i zero = []
name_tests part i (suc k) = (is_bad_name part i, BadName i) ∷ name_tests part (i + 1) k

-- the tests of the bytes that are left of the names part, of the padding, and of the bytes after the code
abbrev pub end_tests : List ℕ → List ℕ → List ℕ → List (Bool × ImageError)
end_tests left padding tail =
    (nat_lt 0 (length left), Field field.Names)
    ∷ (list_any (λ b. not (b == 0)) padding, Padding)
    ∷ (nat_lt 0 (length tail), Tail)
    ∷ []

-- All tests, in the order in which they count.
abbrev pub tests : List ℕ → List (Bool × ImageError)
tests bytes =
    header_tests bytes ++ name_tests (names_bytes bytes) 0 (header_of bytes).name_count
    ++ end_tests (left_after (header_of bytes).name_count (names_bytes bytes)) (padding_bytes bytes) (tail_bytes bytes)

-- what is wrong with the bytes, if anything is
unfoldable pub fault_of : List ℕ → Option ImageError
fault_of bytes = first_fault (tests bytes)
