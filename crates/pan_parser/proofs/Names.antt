-- Names are ASCII.
use Rattle.std.proofs.Common.{◌≡◌, ℕ, ◌<◌, Bool, true, false, List, [], ◌∷◌, ◌&&◌, arith}
use Rattle.std.specs.List.{list_all}
use Rattle.std.specs.Str.{IsAscii, IsUtf8}
use Rattle.std.proofs.lemmas.Bool.Decides.{nat_tests}
use Rattle.std.proofs.lemmas.Str.{IsUtf8-from_ascii}
use Rattle.std.proofs.lemmas.Str.Ascii.{IsAscii-nil, IsAscii-cons}
use Rattle.pan_base.specs.Names.{is_letter, is_word_byte, is_spelled}

letter_below : (b : ℕ) → is_letter b ≡ true → b < 128
letter_below b h = grind (arith, nat_tests)

byte_below : (b : ℕ) → is_word_byte b ≡ true → b < 128
byte_below b h = grind (arith, nat_tests)

pub both : (a b : Bool) → (a && b) ≡ true → (a ≡ true) × (b ≡ true)
both true true e = (e, e)
both true false e = absurd (cc)
both false b e = absurd (cc)

word_ascii : (bs : List ℕ) → list_all is_word_byte bs ≡ true → IsAscii bs
word_ascii [] e = IsAscii-nil
word_ascii (b ∷ bs) e = let p = both (is_word_byte b) (list_all is_word_byte bs) e in IsAscii-cons b bs (byte_below b p.0) (word_ascii bs p.1)

pub spelled_utf8 : (bs : List ℕ) → is_spelled bs ≡ true → IsUtf8 bs
spelled_utf8 [] e = IsUtf8-from_ascii [] IsAscii-nil
spelled_utf8 (b ∷ bs) e =
    let p = both (is_letter b) (list_all is_word_byte bs) e in
    IsUtf8-from_ascii (b ∷ bs) (IsAscii-cons b bs (letter_below b p.0) (word_ascii bs p.1))
