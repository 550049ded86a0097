-- How names are spelled.
use Rattle.std.specs.Prelude.{ℕ, ◌&&◌, ◌||◌, ◌==◌, nat_le, not, Bool, false, List, [], ◌∷◌, length, codes}
use Rattle.std.specs.List.{list_all}
use Rattle.std.specs.Str.{bytes_eq}

-- a letter of ASCII or `_`
abbrev pub is_letter : ℕ → Bool
is_letter b = (nat_le 65 b && nat_le b 90) || (nat_le 97 b && nat_le b 122) || b == 95

-- a decimal digit
abbrev pub is_digit : ℕ → Bool
is_digit b = nat_le 48 b && nat_le b 57

-- a letter, `_` or digit
abbrev pub is_word_byte : ℕ → Bool
is_word_byte b = is_letter b || is_digit b

-- a letter or `_`, and then letters, `_` and digits
abbrev pub is_spelled : List ℕ → Bool
is_spelled [] = false
is_spelled (b ∷ bs) = is_letter b && list_all is_word_byte bs

-- a name of a foreign function: spelled as a name or a reserved word, and neither `base` nor `biw`
abbrev pub is_foreign_name : List ℕ → Bool
is_foreign_name name = is_spelled name && not (bytes_eq name (codes "base")) && not (bytes_eq name (codes "biw"))

-- a name of a foreign function in an image, which has at most 64 bytes
abbrev pub is_short_foreign_name : List ℕ → Bool
is_short_foreign_name name = is_foreign_name name && nat_le (length name) 64
