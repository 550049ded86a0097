-- Numbers and their bytes.
use Rattle.std.proofs.Common.{◌≡◌, ℕ, zero, suc, ◌+◌, ◌*◌, ◌/◌, ◌%◌, ◌^◌, ◌<◌, ◌≤◌, List, [], ◌∷◌, length, take, drop, refl, sym, ap, ◌∙◌, arith, inl, inr}
use Rattle.std.specs.Int.{byte_at, bytes_low_first}
use Rattle.std.proofs.Math.Nat.{pow-succ', div-div-eq-div-mul, div-one}
use Rattle.std.proofs.lemmas.Bool.{cases_lt}
use Rattle.std.proofs.lemmas.List.{get_or-drop, get_or-take, get_or_past, length-take}
use Rattle.byteorder.specs.Endian.{little_from}
use Rattle.byteorder.specs.Numbers.{little_from-cons}
use Rattle.pan_base.specs.Words.{IsBytes}

pub IsBytes-drop : (n : ℕ) (bytes : List ℕ) → IsBytes bytes → IsBytes (drop n bytes)
IsBytes-drop n bytes h i = rw (get_or-drop n bytes i 0) (h (n + i))

pub IsBytes-take : (n : ℕ) (bytes : List ℕ) → IsBytes bytes → IsBytes (take n bytes)
IsBytes-take n bytes h i =
    elim (cases_lt i n) [
      | inl lt ↦ rw (get_or-take n bytes i 0 lt) (h i)
      | inr le ↦ rw (get_or_past (take n bytes) i 0 (omega (arith, length-take n bytes))) (omega arith)
    ]

pub IsBytes-rest : (b : ℕ) (bytes : List ℕ) → IsBytes (b ∷ bytes) → IsBytes bytes
IsBytes-rest b bytes h i = h (suc i)

-- a byte of a number, by its place
byte_at-pow : (j x : ℕ) → byte_at j x ≡ x / 256 ^ j % 256
byte_at-pow zero x = ap (λ (y : ℕ). y % 256) (sym (div-one x))
byte_at-pow (suc j) x = refl

-- without the lowest byte each byte is one place lower
byte_at-more : (j b m : ℕ) → b < 256 → byte_at (suc j) (b + 256 * m) ≡ byte_at j m
byte_at-more j b m lt =
    let low : (b + 256 * m) / 256 ≡ m = omega arith in
    let moved : (b + 256 * m) / 256 ^ suc j ≡ m / 256 ^ j =
    ap (λ (p : ℕ). (b + 256 * m) / p) (pow-succ' 256 j) ∙ sym (div-div-eq-div-mul (b + 256 * m) 256 (256 ^ j)) ∙ ap (λ (y : ℕ). y / 256 ^ j) low in
    ap (λ (y : ℕ). y % 256) moved ∙ sym (byte_at-pow j m)

bytes_low_first-more : (j n b m : ℕ) → b < 256 → bytes_low_first (suc j) n (b + 256 * m) ≡ bytes_low_first j n m
bytes_low_first-more j zero b m lt = refl
bytes_low_first-more j (suc n) b m lt = rw (byte_at-more j b m lt, bytes_low_first-more (suc j) n b m lt) refl

-- the bytes of the number in the first n bytes are those bytes
pub bytes_of_number : (n : ℕ) (bytes : List ℕ) → n ≤ length bytes → IsBytes bytes → bytes_low_first 0 n (little_from 0 n bytes) ≡ take n bytes
bytes_of_number zero bytes le fits = refl
bytes_of_number (suc n) [] le fits = absurd (omega arith)
bytes_of_number (suc n) (b ∷ bytes) le fits =
    let lt : b < 256 = fits 0 in
    let first : (b + 256 * little_from 0 n bytes) % 256 ≡ b = omega arith in
    rw (little_from-cons 0 n b bytes, first, bytes_low_first-more 0 n b (little_from 0 n bytes) lt, bytes_of_number n bytes (omega arith) (IsBytes-rest b bytes fits)) refl
