-- The first 32 bytes: the row of fields and what they say.
use Rattle.std.proofs.Common.{◌≡◌, ℕ, ◌+◌, ◌^◌, ◌<◌, ◌≤◌, List, ◌++◌, length, take, drop, codes, refl, sym, ap, arith}
use Rattle.std.proofs.lemmas.List.{take-append-drop, take-take, drop-take, length-drop}
use Rattle.byteorder.specs.Endian.{little_number, little_bytes}
use Rattle.byteorder.specs.Numbers.{little_number-reads_back, little_from-lt}
use Rattle.pan_base.specs.Words.{IsBytes}
use Rattle.image_file.specs.declared.header.Header.{Header}
use Rattle.image_file.specs.Fields.{header_of}
use Rattle.image_file.specs.Split.{header}
use Rattle.image_file.proofs.Numbers.{IsBytes-drop, bytes_of_number}

-- the fields of an image
abbrev pub fields : ℕ → ℕ → ℕ → ℕ → Header
fields code count bound names = record { code_len = code; entry = 0; name_count = count; bound = bound; names_len = names; zero = 0 }

same_header : (a a' k k' b b' n n' : ℕ) → a ≡ a' → k ≡ k' → b ≡ b' → n ≡ n'
    → fields a k b n ≡ fields a' k' b' n'
same_header a a' k k' b b' n n' p q r s = rw (p, q, r, s) refl

-- what the fields of a written header say
pub header_of-header : (code count bound names : ℕ) (rest : List ℕ) → code < 2 ^ 32 → count < 2 ^ 32 → bound < 2 ^ 64 → names < 2 ^ 32
    → header_of (header code count bound names ++ rest) ≡ fields code count bound names
unfolding header_of
header_of-header code count bound names rest a b c d =
    let whole = header code count bound names ++ rest in
    same_header (little_number 4 (drop 4 whole)) code (little_number 4 (drop 12 whole)) count (little_number 8 (drop 16 whole)) bound (little_number 4 (drop 24 whole)) names
    (little_number-reads_back 4 code (drop 8 whole) a) (little_number-reads_back 4 count (drop 16 whole) b) (little_number-reads_back 8 bound (drop 24 whole) c) (little_number-reads_back 4 names (drop 28 whole) d)

-- a piece of a list, and the piece after it
pub join : (m n : ℕ) (xs : List ℕ) → take m xs ++ take n (drop m xs) ≡ take (m + n) xs
join m n xs = rw (take-take m (m + n) xs (omega arith), drop-take m n xs) at (take-append-drop m (take (m + n) xs))

row : (bytes p c z k b n y : List ℕ) → p ≡ take 4 bytes → c ≡ take 4 (drop 4 bytes) → z ≡ take 4 (drop 8 bytes) → k ≡ take 4 (drop 12 bytes) → b ≡ take 8 (drop 16 bytes)
    → n ≡ take 4 (drop 24 bytes) → y ≡ take 4 (drop 28 bytes) → p ++ c ++ z ++ k ++ b ++ n ++ y ≡ take 32 bytes
row bytes p c z k b n y ep ec ez ek eb en ey =
    rw (ep, ec, join 4 4 bytes, ez, join 8 4 bytes, ek, join 12 4 bytes, eb, join 16 8 bytes, en, join 24 4 bytes, ey, join 28 4 bytes) refl

-- the bytes of a field are those of its number
field : (bytes : List ℕ) (at size n : ℕ) → at + size ≤ length bytes → IsBytes bytes → little_number size (drop at bytes) ≡ n → little_bytes size n ≡ take size (drop at bytes)
field bytes at size n le fits e = rw (← e) (bytes_of_number size (drop at bytes) (omega (arith, length-drop at bytes)) (IsBytes-drop at bytes fits))

-- a header that says what a written one says is that one
pub header-header_of : (bytes : List ℕ) (code count bound names : ℕ) → 32 ≤ length bytes → IsBytes bytes → take 4 bytes ≡ codes "PNK1" → header_of bytes ≡ fields code count bound names
    → header code count bound names ≡ take 32 bytes
unfolding header_of
header-header_of bytes code count bound names le fits magic e =
    row bytes (codes "PNK1") (little_bytes 4 code) (little_bytes 4 0) (little_bytes 4 count) (little_bytes 8 bound) (little_bytes 4 names) (little_bytes 4 0)
    (sym magic) (field bytes 4 4 code (omega arith) fits (ap (λ (h : Header). h.code_len) e)) (field bytes 8 4 0 (omega arith) fits (ap (λ (h : Header). h.entry) e))
    (field bytes 12 4 count (omega arith) fits (ap (λ (h : Header). h.name_count) e)) (field bytes 16 8 bound (omega arith) fits (ap (λ (h : Header). h.bound) e))
    (field bytes 24 4 names (omega arith) fits (ap (λ (h : Header). h.names_len) e)) (field bytes 28 4 0 (omega arith) fits (ap (λ (h : Header). h.zero) e))

pub fields_are : (h : Header) (code count bound names : ℕ) → h.entry ≡ 0 → h.zero ≡ 0 → h.code_len ≡ code → h.name_count ≡ count → h.bound ≡ bound → h.names_len ≡ names
    → h ≡ fields code count bound names
fields_are h code count bound names entry zero a k b n = λ i. record { code_len = a i; entry = entry i; name_count = k i; bound = b i; names_len = n i; zero = zero i }

pub bound_fits : (bytes : List ℕ) → IsBytes bytes → (header_of bytes).bound < 2 ^ 64
unfolding header_of
bound_fits bytes fits = little_from-lt 0 8 (drop 16 bytes) (IsBytes-drop 16 bytes fits)
