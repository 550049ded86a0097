-- Where the parts of an image stand.
use Rattle.std.specs.Prelude.{ℕ, zero, suc, ◌+◌, ◌-◌, ◌%◌, nat_lt, if◌then◌else◌, List, [], ◌∷◌, ◌++◌, length, take, drop, Option, Some, None}
use Rattle.std.specs.Option.{option_map, option_and_then, option_map_or}
use Rattle.byteorder.specs.Endian.{little_number}
use Rattle.image_file.specs.declared.header.Header.{Header}

-- what the fields of the first 32 bytes say
unfoldable pub header_of : List ℕ → Header
header_of bytes = record {
  code_len = little_number 4 (drop 4 bytes);
  entry = little_number 4 (drop 8 bytes);
  name_count = little_number 4 (drop 12 bytes);
  bound = little_number 8 (drop 16 bytes);
  names_len = little_number 4 (drop 24 bytes);
  zero = little_number 4 (drop 28 bytes);
}

-- how many bytes fill so many up to a multiple of 4
abbrev pub padding : ℕ → ℕ
padding n = (4 - n % 4) % 4

-- how many bytes the fields ask for
abbrev pub size : Header → ℕ
size h = 32 + h.names_len + padding h.names_len + h.code_len

-- the names part, and the bytes that fill it up
abbrev pub names_bytes : List ℕ → List ℕ
names_bytes bytes = take (header_of bytes).names_len (drop 32 bytes)

abbrev pub padding_bytes : List ℕ → List ℕ
padding_bytes bytes =
    take (padding (header_of bytes).names_len) (drop (32 + (header_of bytes).names_len) bytes)

-- the code, and what comes after it
abbrev pub code_bytes : List ℕ → List ℕ
code_bytes bytes =
    take (header_of bytes).code_len (drop (32 + (header_of bytes).names_len + padding (header_of bytes).names_len) bytes)

abbrev pub tail_bytes : List ℕ → List ℕ
tail_bytes bytes = drop (size (header_of bytes)) bytes

-- The name at the front of a names part and the bytes after it, if neither its length nor its bytes run past the end.
unfoldable pub front_name : List ℕ → Option (List ℕ × List ℕ)
front_name part =
    let n = little_number 2 part in if nat_lt (length part) (2 + n) then None else Some (take n (drop 2 part), drop (2 + n) part)

-- So many names from the front of a names part and the bytes after them, if they don't run past the end.
unfoldable pub names_at : ℕ → List ℕ → Option (List (List ℕ) × List ℕ)
names_at zero part = Some ([], part)
names_at (suc k) part = option_and_then (λ r. option_map (λ n. (r.0 ++ n.0 ∷ [], n.1)) (front_name r.1)) (names_at k part)

-- the bytes that are left in a names part after so many names
abbrev pub left_after : ℕ → List ℕ → List ℕ
left_after count part = option_map_or (λ r. r.1) (names_at count part) []
