-- The hexadecimal text of bytes, as the crate `hex` writes it.
use Rattle.std.proofs.Common.{◌≡◌, ℕ, ◌/◌, ◌%◌, ◌<◌, zero, suc, List, [], ◌∷◌, get_or, refl, arith}
use Rattle.std.specs.Prelude.{slice_index}
use Rattle.std.specs.Int.{byte_at, bytes_high_first, to_be_bytes, w64}
use Rattle.hex.specs.Hex.{encode_lower, lower_digits}
use Rattle.pan_base.specs.Trace.{hex_digit, hex_text}

digit : (n : ℕ) → n < 16 → slice_index lower_digits n ≡ hex_digit n
digit zero h = refl
digit (suc zero) h = refl
digit (suc (suc zero)) h = refl
digit (suc (suc (suc zero))) h = refl
digit (suc (suc (suc (suc zero)))) h = refl
digit (suc (suc (suc (suc (suc zero))))) h = refl
digit (suc (suc (suc (suc (suc (suc zero)))))) h = refl
digit (suc (suc (suc (suc (suc (suc (suc zero))))))) h = refl
digit (suc (suc (suc (suc (suc (suc (suc (suc zero)))))))) h = refl
digit (suc (suc (suc (suc (suc (suc (suc (suc (suc zero))))))))) h = refl
digit (suc (suc (suc (suc (suc (suc (suc (suc (suc (suc zero)))))))))) h = refl
digit (suc (suc (suc (suc (suc (suc (suc (suc (suc (suc (suc zero))))))))))) h = refl
digit (suc (suc (suc (suc (suc (suc (suc (suc (suc (suc (suc (suc zero)))))))))))) h = refl
digit (suc (suc (suc (suc (suc (suc (suc (suc (suc (suc (suc (suc (suc zero))))))))))))) h = refl
digit (suc (suc (suc (suc (suc (suc (suc (suc (suc (suc (suc (suc (suc (suc zero)))))))))))))) h = refl
digit (suc (suc (suc (suc (suc (suc (suc (suc (suc (suc (suc (suc (suc (suc (suc zero))))))))))))))) h = refl
digit (suc (suc (suc (suc (suc (suc (suc (suc (suc (suc (suc (suc (suc (suc (suc (suc n)))))))))))))))) h = absurd (omega arith)

pub encode_lower-hex_text : (bytes : List ℕ) → ((i : ℕ) → get_or bytes i 0 < 256) → encode_lower bytes ≡ hex_text bytes
unfolding Rattle.hex.specs.Hex.encode_with
encode_lower-hex_text [] h = refl
encode_lower-hex_text (b ∷ bytes) h =
    let byte : b < 256 = h 0 in
    let high : b / 16 < 16 = omega arith in
    let low : b % 16 < 16 = omega arith in
    rw (digit (b / 16) high, digit (b % 16) low, encode_lower-hex_text bytes (λ i. h (suc i))) refl

byte_below : (k n : ℕ) → byte_at k n < 256
byte_below zero n = omega arith
byte_below (suc k) n = omega arith

bytes_below : (k n i : ℕ) → get_or (bytes_high_first k n) i 0 < 256
bytes_below zero n i = omega arith
bytes_below (suc k) n zero = byte_below k n
bytes_below (suc k) n (suc i) = bytes_below k n i

pub word-hex_text : (n : ℕ) → encode_lower (to_be_bytes w64 n) ≡ hex_text (to_be_bytes w64 n)
word-hex_text n = encode_lower-hex_text (bytes_high_first 8 n) (bytes_below 8 n)
