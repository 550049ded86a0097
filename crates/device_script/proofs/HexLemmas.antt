-- Bytes in hexadecimal digits, as the crate `hex` decodes them.
use Rattle.std.proofs.Common.{◌≡◌, ℕ, ◌+◌, ◌*◌, ◌%◌, Bool, true, false, ◌&&◌, cond, if◌then◌else◌, List, [], ◌∷◌, length, Option, Some, None, Result, Ok, Err, refl, sym, ap, ◌∙◌, arith, inl, inr}
use Rattle.std.specs.Result.{result_ok}
use Rattle.std.specs.Option.{option_map}
use Rattle.std.proofs.lemmas.Bool.{cases_eq}
use Rattle.std.proofs.lemmas.Bool.Decides.{nat_tests}
use Rattle.hex.specs.Hex.{decode_of, decode_pairs, digit_or_error, hex_digit_value, ◌>>=◌}
use Rattle.hex.specs.declared.error.FromHexError.{FromHexError}
use Rattle.hex.proofs.HexLemmas.{decode_of-even, decode_of-odd}
use Rattle.pan_base.specs.Spelling.{is_hex_digit, digit_value}
use Rattle.device_script.specs.Saying.{bytes_of_digits}

-- what a digit stands for
digit_read : (c : ℕ) → hex_digit_value c ≡ (if is_hex_digit c then Some (digit_value c) else None)
digit_read c = grind (arith, nat_tests)

pair_read : (p q : Bool) (i high low h l : ℕ) (digits : Option (List ℕ)) (rest : Result (List ℕ) FromHexError) → digits ≡ result_ok rest
    → (if p && q then option_map (λ bytes. (h * 16 + l) ∷ bytes) digits else None)
    ≡ result_ok (((digit_or_error high i (if p then Some h else None) >>= (λ h. digit_or_error low (i + 1) (if q then Some l else None) >>= (λ l. Ok (h * 16 + l))))) >>= (λ byte. rest >>= (λ bytes. Ok (byte ∷ bytes))))
pair_read false q i high low h l digits rest e = refl
pair_read true false i high low h l digits rest e = refl
pair_read true true i high low h l digits (Ok bytes) e = ap (option_map (λ bytes. (h * 16 + l) ∷ bytes)) e
pair_read true true i high low h l digits (Err f) e = ap (option_map (λ bytes. (h * 16 + l) ∷ bytes)) e

pairs_read : (i : ℕ) (digits : List ℕ) → bytes_of_digits digits ≡ result_ok (decode_pairs i digits)
unfolding decode_pairs
pairs_read i [] = refl
pairs_read i (high ∷ []) = refl
pairs_read i (high ∷ low ∷ digits) =
    rw (digit_read high, digit_read low) (pair_read (is_hex_digit high) (is_hex_digit low) i high low (digit_value high) (digit_value low) (bytes_of_digits digits) (decode_pairs (i + 2) digits) (pairs_read (i + 2) digits))

-- an odd number of digits is no bytes
odd_read : (digits : List ℕ) → length digits % 2 ≡ 1 → bytes_of_digits digits ≡ None
odd_read [] odd = absurd (omega arith)
odd_read (high ∷ []) odd = refl
odd_read (high ∷ low ∷ digits) odd = none (is_hex_digit high && is_hex_digit low) (odd_read digits (omega arith))
  where
    none : (t : Bool) → bytes_of_digits digits ≡ None → cond t (option_map (λ bytes. (digit_value high * 16 + digit_value low) ∷ bytes) (bytes_of_digits digits)) None ≡ None
    none true e = ap (option_map (λ bytes. (digit_value high * 16 + digit_value low) ∷ bytes)) e
    none false e = refl

pub digits_read : (digits : List ℕ) → bytes_of_digits digits ≡ result_ok (decode_of digits)
digits_read digits =
    elim (cases_eq (length digits % 2) 1) [
      | inl odd ↦ odd_read digits odd ∙ sym (ap result_ok (decode_of-odd digits odd))
      | inr even ↦ pairs_read 0 digits ∙ sym (ap result_ok (decode_of-even digits (omega arith)))
    ]
