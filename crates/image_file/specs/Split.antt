-- What the steps of writing and reading make.
use Rattle.std.specs.Prelude.{◌≡◌, ℕ, ◌-◌, ◌^◌, ◌==◌, if◌then◌else◌, List, ◌++◌, codes, Option, Some, None}
use Rattle.std.specs.Int.{w32, w64, to_le_bytes}
use Rattle.image_file.specs.Fields.{names_bytes, padding_bytes, code_bytes, tail_bytes}

-- the first 32 bytes
abbrev pub header : ℕ → ℕ → ℕ → ℕ → List ℕ
header code count bound names =
    codes "PNK1" ++ to_le_bytes w32 code ++ to_le_bytes w32 0 ++ to_le_bytes w32 count ++ to_le_bytes w64 bound ++ to_le_bytes w32 names ++ to_le_bytes w32 0

-- what stands behind the header: the names part, the bytes that fill it up, the code, and what comes after it
pub record AreParts (bytes names padding code tail : List ℕ) : Type 0 where
  pub names_are : names ≡ names_bytes bytes
  pub padding_is : padding ≡ padding_bytes bytes
  pub code_is : code ≡ code_bytes bytes
  pub tail_is : tail ≡ tail_bytes bytes

-- the bound that a word stands for
abbrev pub bound_in : ℕ → Option ℕ
bound_in word = if word == 2 ^ 64 - 1 then None else Some word
