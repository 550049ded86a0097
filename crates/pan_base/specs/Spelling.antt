-- How numbers are spelled, and what may follow a word.
use Rattle.std.specs.Prelude.{◌≡◌, ℕ, ◌+◌, ◌-◌, ◌*◌, ◌^◌, ◌&&◌, ◌||◌, ◌==◌, nat_le, nat_lt, nat_eq, not, Bool, true, if◌then◌else◌, List, [], ◌∷◌, ◌++◌, drop, codes, Option, Some, None, IsTrue}
use Rattle.std.specs.List.{list_all, starts_with}
use Rattle.pan_base.specs.Names.{is_digit, is_word_byte}

-- a space, tab, line feed or carriage return
abbrev pub is_space : ℕ → Bool
is_space b = b == 32 || b == 9 || b == 10 || b == 13

-- a hexadecimal digit of either case
abbrev pub is_hex_digit : ℕ → Bool
is_hex_digit b = is_digit b || (nat_le 65 b && nat_le b 70) || (nat_le 97 b && nat_le b 102)

-- what a digit, also a hexadecimal one, stands for
abbrev pub digit_value : ℕ → ℕ
digit_value b = if nat_le b 57 then b - 48 else (if nat_le b 70 then b - 55 else b - 87)

-- the number that digits stand for after the number n
abbrev pub value_after : ℕ → ℕ → List ℕ → ℕ
value_after base n [] = n
value_after base n (d ∷ ds) = value_after base (n * base + digit_value d) ds

-- a spelling of a number: decimal digits, or 0x and hexadecimal digits
pub data IsNumeral (text : List ℕ) (n : ℕ) : Type 0 where
  Decimal : (d : ℕ) (ds : List ℕ) → text ≡ d ∷ ds → IsTrue (list_all is_digit (d ∷ ds)) → n ≡ value_after 10 0 (d ∷ ds) → IsNumeral text n
  Hexadecimal : (d : ℕ) (ds : List ℕ) → text ≡ codes "0x" ++ d ∷ ds → IsTrue (list_all is_hex_digit (d ∷ ds)) → n ≡ value_after 16 0 (d ∷ ds) → IsNumeral text n

-- a text that doesn't begin with a letter, `_` or digit
abbrev pub begins_no_word : List ℕ → Bool
begins_no_word [] = true
begins_no_word (b ∷ bs) = not (is_word_byte b)

-- the number below 2 ^ 64 that these digits stand for, if there is a digit and each is one
abbrev pub number_of_digits : ℕ → (ℕ → Bool) → List ℕ → Option ℕ
number_of_digits base is_one [] = None
number_of_digits base is_one (d ∷ ds) =
    if list_all is_one (d ∷ ds) && nat_lt (value_after base 0 (d ∷ ds)) (2 ^ 64) then Some (value_after base 0 (d ∷ ds)) else None

-- the number below 2 ^ 64 that a word stands for: decimal digits, or 0x and hexadecimal digits of either case
abbrev pub numeral : List ℕ → Option ℕ
numeral word =
    if starts_with nat_eq word (codes "0x") then number_of_digits 16 is_hex_digit (drop 2 word) else number_of_digits 10 is_digit word
