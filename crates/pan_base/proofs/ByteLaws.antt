-- Laws of numbers in rows of bytes: what is written is read, another place is as it was, and a number is the row of its bytes.
use Rattle.std.proofs.Common.{zero, suc, ◌≡◌, ℕ, ◌+◌, ◌*◌, ◌/◌, ◌%◌, ◌^◌, ◌≤◌, ◌<◌, List, [], ◌∷◌, ◌++◌, length, take, drop, ap, sym, ◌∙◌, refl, arith, inl, inr, append_assoc, length-append, length-drop}
use Rattle.std.specs.Prelude.{◌⊎◌, slice_index}
use Rattle.std.specs.Int.{to_le_bytes, from_le_bytes}
use Rattle.std.proofs.Math.Seq.{take-append_seam, drop-append_seam}
use Rattle.std.proofs.lemmas.List.{take-append-le, drop-append-le, length-take-le, take-append-drop, append-nil}
use Rattle.std.proofs.lemmas.Slice.{drop-append-drop}
use Rattle.std.proofs.lemmas.Grind.{common_steps}
use Rattle.pan_base.specs.declared.events.Size.{Size}
use Rattle.pan_base.specs.declared.events.Size.TheVariants.{B1, B2, B4, B8}
use Rattle.pan_base.specs.Events.{byte_count, width}
use Rattle.pan_base.specs.Words.{IsBytes}
use Rattle.pan_base.specs.Bytes.{with_number, number_at, number_of_bytes, with_bytes_of, part, with_part}

-- ---- a part that is replaced by another as long

pub part_length : (bytes : List ℕ) (at : ℕ) (new : List ℕ) → at + length new ≤ length bytes → length (with_part bytes at new) ≡ length bytes
part_length bytes at new inside =
    omega (arith, length-append (take at bytes ++ new) (drop (at + length new) bytes), length-append (take at bytes) new, length-take-le at bytes (omega arith), length-drop (at + length new) bytes)

take_seam : (n : ℕ) (xs ys : List ℕ) → length xs ≡ n → take n (xs ++ ys) ≡ xs
take_seam n xs ys e = ap (λ n. take n (xs ++ ys)) (sym e) ∙ take-append_seam xs ys

drop_seam : (n : ℕ) (xs ys : List ℕ) → length xs ≡ n → drop n (xs ++ ys) ≡ ys
drop_seam n xs ys e = ap (λ n. drop n (xs ++ ys)) (sym e) ∙ drop-append_seam xs ys

pub part_read_back : (bytes : List ℕ) (at : ℕ) (new : List ℕ) → at ≤ length bytes → part (with_part bytes at new) at (length new) ≡ new
part_read_back bytes at new inside =
    ap (λ bs. part bs at (length new)) (append_assoc (take at bytes) new (drop (at + length new) bytes))
    ∙ ap (take (length new)) (drop_seam at (take at bytes) (new ++ drop (at + length new) bytes) (length-take-le at bytes inside))
    ∙ take_seam (length new) new (drop (at + length new) bytes) refl

-- what lies below is as it was
below : (bytes ys : List ℕ) (at from count : ℕ) → from + count ≤ at → at ≤ length bytes → part (take at bytes ++ ys) from count ≡ part bytes from count
below bytes ys at from count apart inside =
    ap (take count) (drop-append-le from (take at bytes) ys (omega (arith, front)))
    ∙ take-append-le count (drop from (take at bytes)) ys (omega (arith, front, length-drop from (take at bytes)))
    ∙ sym (take-append-le count (drop from (take at bytes)) (drop at bytes) (omega (arith, front, length-drop from (take at bytes))))
    ∙ ap (take count) (sym (drop-append-le from (take at bytes) (drop at bytes) (omega (arith, front))) ∙ ap (drop from) (take-append-drop at bytes))
  where
    front : length (take at bytes) ≡ at
    front = length-take-le at bytes inside

-- and so is all that lies above
pub part_above : (bytes : List ℕ) (at : ℕ) (new : List ℕ) (from : ℕ) → at + length new ≤ length bytes → at + length new ≤ from → drop from (with_part bytes at new) ≡ drop from bytes
part_above bytes at new from inside apart =
    drop-append-drop (at + length new) bytes (take at bytes ++ new) from apart (omega (arith, length-append (take at bytes) new, length-take-le at bytes (omega arith)))

pub part_elsewhere : (bytes : List ℕ) (at : ℕ) (new : List ℕ) (from count : ℕ) → at + length new ≤ length bytes → (from + count ≤ at) ⊎ (at + length new ≤ from) → part (with_part bytes at new) from count ≡ part bytes from count
part_elsewhere bytes at new from count inside (inl apart) =
    ap (λ bs. part bs from count) (append_assoc (take at bytes) new (drop (at + length new) bytes))
    ∙ below bytes (new ++ drop (at + length new) bytes) at from count apart (omega arith)
part_elsewhere bytes at new from count inside (inr apart) = ap (take count) (part_above bytes at new from inside apart)

-- ---- numbers

-- a number that is written is a part
as_part : (size : Size) (bytes : List ℕ) (at n : ℕ) → with_number size bytes at n ≡ with_part bytes at (to_le_bytes (width size) n)
as_part B1 bytes at n = refl
as_part B2 bytes at n = refl
as_part B4 bytes at n = refl
as_part B8 bytes at n = refl

long : (size : Size) (n : ℕ) → length (to_le_bytes (width size) n) ≡ byte_count size
long B1 n = refl
long B2 n = refl
long B4 n = refl
long B8 n = refl

pub with_number_length : (size : Size) (bytes : List ℕ) (at n : ℕ) → at + byte_count size ≤ length bytes → length (with_number size bytes at n) ≡ length bytes
with_number_length size bytes at n inside =
    ap length (as_part size bytes at n) ∙ part_length bytes at (to_le_bytes (width size) n) (omega (arith, long size n))

pub number_elsewhere : (size other : Size) (bytes : List ℕ) (at n from : ℕ) → at + byte_count size ≤ length bytes → (from + byte_count other ≤ at) ⊎ (at + byte_count size ≤ from) → number_at other (with_number size bytes at n) from ≡ number_at other bytes from
number_elsewhere size other bytes at n from inside apart =
    ap (λ bs. number_at other bs from) (as_part size bytes at n)
    ∙ ap (from_le_bytes (width other)) (part_elsewhere bytes at (to_le_bytes (width size) n) from (byte_count other) (omega (arith, long size n)) (rw (long size n) apart))

-- the number that the low bytes of a number are
read_half : (n : ℕ) → n % 256 + n / 256 % 256 * 256 + n / 65536 % 256 * 65536 + n / 16777216 % 256 * 16777216 ≡ n % 4294967296
read_half n = omega arith

read : (size : Size) (n : ℕ) → from_le_bytes (width size) (to_le_bytes (width size) n) ≡ n % 2 ^ (8 * byte_count size)
read B1 n = refl
read B2 n = omega arith
read B4 n = read_half n
read B8 n =
    let low = read_half n in
    let high = read_half (n / 4294967296) in
    let a : n / 4294967296 / 256 ≡ n / 1099511627776 = omega arith in
    let b : n / 4294967296 / 65536 ≡ n / 281474976710656 = omega arith in
    let c : n / 4294967296 / 16777216 ≡ n / 72057594037927936 = omega arith in
    let e : n % 4294967296 + n / 4294967296 % 4294967296 * 4294967296 ≡ n % 18446744073709551616 = omega arith in
    joined _ _ _ _ _ _ _ _ _ _ _ low (rw (a, b, c) at high) e
  where
    joined : (p q r s t u v w x y z : ℕ) → p + q * 256 + r * 65536 + s * 16777216 ≡ x → t + u * 256 + v * 65536 + w * 16777216 ≡ y → x + y * 4294967296 ≡ z
        → p + q * 256 + r * 65536 + s * 16777216 + t * 4294967296 + u * 1099511627776 + v * 281474976710656 + w * 72057594037927936 ≡ z
    joined p q r s t u v w x y z low high e = omega arith

pub number_read_back : (size : Size) (bytes : List ℕ) (at n : ℕ) → at ≤ length bytes → number_at size (with_number size bytes at n) at ≡ n % 2 ^ (8 * byte_count size)
number_read_back size bytes at n inside =
    ap (λ bs. number_at size bs at) (as_part size bytes at n)
    ∙ ap (λ k. from_le_bytes (width size) (part (with_part bytes at (to_le_bytes (width size) n)) at k)) (sym (long size n))
    ∙ ap (from_le_bytes (width size)) (part_read_back bytes at (to_le_bytes (width size) n) inside)
    ∙ read size n

-- ---- a number is the row of its bytes

-- the byte of a part
byte_of_part : (bytes : List ℕ) (at k i : ℕ) → i < k → slice_index (take k (drop at bytes)) i ≡ slice_index bytes (at + i)
byte_of_part bytes at k i h = grind (arith, common_steps)

pub byte_at : (bytes : List ℕ) (at : ℕ) → number_at B1 bytes at ≡ slice_index bytes at
byte_at bytes at = byte_of_part bytes at 1 0 (omega arith) ∙ ap (slice_index bytes) (omega arith)

next_byte : (bytes : List ℕ) (at k j i : ℕ) → i < k → slice_index (take k (drop (at + j) bytes)) i ≡ slice_index bytes (at + (j + i))
next_byte bytes at k j i h = byte_of_part bytes (at + j) k i h ∙ ap (slice_index bytes) (omega arith)

first_byte : (bytes : List ℕ) (at k : ℕ) → 0 < k → slice_index (take k (drop at bytes)) 0 ≡ slice_index bytes at
first_byte bytes at k h = byte_of_part bytes at k 0 h ∙ ap (slice_index bytes) (omega arith)

row_of_2 : (bytes : List ℕ) (at : ℕ) → number_at B2 bytes at ≡ slice_index bytes at + slice_index bytes (at + 1) * 256
row_of_2 bytes at = rw (first_byte bytes at 2 (omega arith), byte_of_part bytes at 2 1 (omega arith)) refl

row_of_4 : (bytes : List ℕ) (at : ℕ) → number_at B4 bytes at ≡ slice_index bytes at + slice_index bytes (at + 1) * 256 + slice_index bytes (at + 2) * 65536 + slice_index bytes (at + 3) * 16777216
row_of_4 bytes at = rw (first_byte bytes at 4 (omega arith), byte_of_part bytes at 4 1 (omega arith), byte_of_part bytes at 4 2 (omega arith), byte_of_part bytes at 4 3 (omega arith)) refl

row_of_8 : (bytes : List ℕ) (at : ℕ)
    → number_at B8 bytes at ≡ slice_index bytes at + slice_index bytes (at + 1) * 256 + slice_index bytes (at + 2) * 65536 + slice_index bytes (at + 3) * 16777216
    + slice_index bytes (at + 4) * 4294967296 + slice_index bytes (at + 5) * 1099511627776 + slice_index bytes (at + 6) * 281474976710656 + slice_index bytes (at + 7) * 72057594037927936
row_of_8 bytes at =
    rw (
      first_byte bytes at 8 (omega arith),
      byte_of_part bytes at 8 1 (omega arith),
      byte_of_part bytes at 8 2 (omega arith),
      byte_of_part bytes at 8 3 (omega arith),
      byte_of_part bytes at 8 4 (omega arith),
      byte_of_part bytes at 8 5 (omega arith),
      byte_of_part bytes at 8 6 (omega arith),
      byte_of_part bytes at 8 7 (omega arith),
    ) refl

further : (bytes : List ℕ) (at j i k : ℕ) → j + i ≡ k → slice_index bytes (at + j + i) ≡ slice_index bytes (at + k)
further bytes at j i k e = ap (slice_index bytes) (omega arith)

pub halves_of_2 : (bytes : List ℕ) (at : ℕ) → number_at B2 bytes at ≡ number_at B1 bytes at + 2 ^ 8 * number_at B1 bytes (at + 1)
halves_of_2 bytes at = rw (row_of_2 bytes at, byte_at bytes at, byte_at bytes (at + 1)) (omega arith)

pub halves_of_4 : (bytes : List ℕ) (at : ℕ) → number_at B4 bytes at ≡ number_at B2 bytes at + 2 ^ 16 * number_at B2 bytes (at + 2)
halves_of_4 bytes at = rw (row_of_4 bytes at, row_of_2 bytes at, row_of_2 bytes (at + 2), further bytes at 2 1 3 refl) (omega arith)

pub halves_of_8 : (bytes : List ℕ) (at : ℕ) → number_at B8 bytes at ≡ number_at B4 bytes at + 2 ^ 32 * number_at B4 bytes (at + 4)
halves_of_8 bytes at =
    rw (row_of_8 bytes at, row_of_4 bytes at, row_of_4 bytes (at + 4), further bytes at 4 1 5 refl, further bytes at 4 2 6 refl, further bytes at 4 3 7 refl) (omega arith)

nth : (bytes : List ℕ) (at i from : ℕ) → from ≡ at + i → slice_index (take 1 (drop from bytes)) 0 ≡ slice_index bytes (at + i)
nth bytes at i from e = first_byte bytes from 1 (omega arith) ∙ ap (slice_index bytes) e

pub number_by_bytes : (size : Size) (bytes : List ℕ) (at : ℕ) → number_at size bytes at ≡ number_of_bytes (byte_count size) bytes at
number_by_bytes B1 bytes at = omega arith
number_by_bytes B2 bytes at = rw (row_of_2 bytes at, first_byte bytes at 1 (omega arith), nth bytes at 1 (at + 1) refl) (omega arith)
number_by_bytes B4 bytes at =
    rw (row_of_4 bytes at, first_byte bytes at 1 (omega arith), nth bytes at 1 (at + 1) refl, nth bytes at 2 (at + 1 + 1) (omega arith), nth bytes at 3 (at + 1 + 1 + 1) (omega arith)) (omega arith)
number_by_bytes B8 bytes at =
    rw (
      row_of_8 bytes at,
      first_byte bytes at 1 (omega arith),
      nth bytes at 1 (at + 1) refl,
      nth bytes at 2 (at + 1 + 1) (omega arith),
      nth bytes at 3 (at + 1 + 1 + 1) (omega arith),
      nth bytes at 4 (at + 1 + 1 + 1 + 1) (omega arith),
      nth bytes at 5 (at + 1 + 1 + 1 + 1 + 1) (omega arith),
      nth bytes at 6 (at + 1 + 1 + 1 + 1 + 1 + 1) (omega arith),
      nth bytes at 7 (at + 1 + 1 + 1 + 1 + 1 + 1 + 1) (omega arith),
    ) (omega arith)

-- ---- a number is written byte by byte

split_part : (bytes : List ℕ) (at : ℕ) (xs ys : List ℕ) (next : ℕ) → next ≡ at + length xs → next ≤ length bytes → with_part bytes at (xs ++ ys) ≡ with_part (with_part bytes at xs) next ys
split_part bytes at xs ys next e inside =
    let front : length (take at bytes ++ xs) ≡ next = omega (arith, length-append (take at bytes) xs, length-take-le at bytes (omega arith)) in
    let low = take_seam next (take at bytes ++ xs) (drop (at + length xs) bytes) front in
    let high = drop-append-drop (at + length xs) bytes (take at bytes ++ xs) (next + length ys) (omega arith) (front ∙ e) in
    let whole : at + length (xs ++ ys) ≡ next + length ys = omega (arith, length-append xs ys) in
    rw (low, high, whole, append_assoc (take at bytes) xs ys) refl

-- so many low bytes of a number, the lowest first
low : ℕ → ℕ → List ℕ
low zero n = []
low (suc k) n = n % 256 ∷ low k (n / 256)

low_length : (k n : ℕ) → length (low k n) ≡ k
unfolding low
low_length zero n = refl
low_length (suc k) n = ap suc (low_length k (n / 256))

shift_2 : (n : ℕ) → n / 256 / 256 ≡ n / 65536
shift_2 n = omega arith

shift_3 : (n : ℕ) → n / 65536 / 256 ≡ n / 16777216
shift_3 n = omega arith

shift_4 : (n : ℕ) → n / 16777216 / 256 ≡ n / 4294967296
shift_4 n = omega arith

shift_5 : (n : ℕ) → n / 4294967296 / 256 ≡ n / 1099511627776
shift_5 n = omega arith

shift_6 : (n : ℕ) → n / 1099511627776 / 256 ≡ n / 281474976710656
shift_6 n = omega arith

shift_7 : (n : ℕ) → n / 281474976710656 / 256 ≡ n / 72057594037927936
shift_7 n = omega arith

low_bytes : (size : Size) (n : ℕ) → to_le_bytes (width size) n ≡ low (byte_count size) n
unfolding low
low_bytes B1 n = refl
low_bytes B2 n = refl
low_bytes B4 n = rw (shift_2 n, shift_3 n) refl
low_bytes B8 n = rw (shift_2 n, shift_3 n, shift_4 n, shift_5 n, shift_6 n, shift_7 n) refl

each : (k : ℕ) (bytes : List ℕ) (at n : ℕ) → at + k ≤ length bytes → with_part bytes at (low k n) ≡ with_bytes_of k bytes at n
unfolding low
each zero bytes at n inside = ap (λ front. front ++ drop (at + 0) bytes) (append-nil (take at bytes)) ∙ ap (λ k. take at bytes ++ drop k bytes) (omega arith) ∙ take-append-drop at bytes
each (suc k) bytes at n inside =
    let same : length (with_number B1 bytes at n) ≡ length bytes = with_number_length B1 bytes at n (omega arith) in
    split_part bytes at (n % 256 ∷ []) (low k (n / 256)) (at + 1) refl (omega arith) ∙ each k (with_number B1 bytes at n) (at + 1) (n / 256) (omega arith)

pub written_by_bytes : (size : Size) (bytes : List ℕ) (at n : ℕ) → at + byte_count size ≤ length bytes → with_number size bytes at n ≡ with_bytes_of (byte_count size) bytes at n
written_by_bytes size bytes at n inside = as_part size bytes at n ∙ ap (with_part bytes at) (low_bytes size n) ∙ each (byte_count size) bytes at n inside

-- ---- bytes stay bytes

pub number_is_small : (size : Size) (bytes : List ℕ) (at : ℕ) → IsBytes bytes → number_at size bytes at < 2 ^ (8 * byte_count size)
number_is_small B1 bytes at small = rw (byte_at bytes at) (omega (arith, small at))
number_is_small B2 bytes at small = rw (row_of_2 bytes at) (omega (arith, small at, small (at + 1)))
number_is_small B4 bytes at small = rw (row_of_4 bytes at) (omega (arith, small at, small (at + 1), small (at + 2), small (at + 3)))
number_is_small B8 bytes at small =
    rw (row_of_8 bytes at) (omega (arith, small at, small (at + 1), small (at + 2), small (at + 3), small (at + 4), small (at + 5), small (at + 6), small (at + 7)))

pub small_append : (xs ys : List ℕ) → IsBytes xs → IsBytes ys → IsBytes (xs ++ ys)
small_append [] ys p q = q
small_append (x ∷ xs) ys p q = elim [ zero ↦ p 0 | suc i ↦ small_append xs ys (λ i. p (suc i)) q i ]

pub small_take : (k : ℕ) (xs : List ℕ) → IsBytes xs → IsBytes (take k xs)
small_take zero xs p = λ i. omega arith
small_take (suc k) [] p = p
small_take (suc k) (x ∷ xs) p = elim [ zero ↦ p 0 | suc i ↦ small_take k xs (λ i. p (suc i)) i ]

pub small_drop : (k : ℕ) (xs : List ℕ) → IsBytes xs → IsBytes (drop k xs)
small_drop zero xs p = p
small_drop (suc k) [] p = p
small_drop (suc k) (x ∷ xs) p = small_drop k xs (λ i. p (suc i))

pub part_is_small : (bytes : List ℕ) (at count : ℕ) → IsBytes bytes → IsBytes (part bytes at count)
part_is_small bytes at count small = small_take count (drop at bytes) (small_drop at bytes small)

pub with_part_is_small : (bytes : List ℕ) (at : ℕ) (new : List ℕ) → IsBytes bytes → IsBytes new → IsBytes (with_part bytes at new)
with_part_is_small bytes at new small fresh =
    small_append (take at bytes ++ new) (drop (at + length new) bytes) (small_append (take at bytes) new (small_take at bytes small) fresh) (small_drop (at + length new) bytes small)

small_low : (k n : ℕ) → IsBytes (low k n)
unfolding low
small_low zero n = λ i. omega arith
small_low (suc k) n = elim [ zero ↦ omega arith | suc i ↦ small_low k (n / 256) i ]

pub with_number_is_small : (size : Size) (bytes : List ℕ) (at n : ℕ) → IsBytes bytes → IsBytes (with_number size bytes at n)
with_number_is_small size bytes at n small =
    rw (as_part size bytes at n, low_bytes size n) (with_part_is_small bytes at (low (byte_count size) n) small (small_low (byte_count size) n))

-- only the low bytes of a number are written
pub low_part_written : (size : Size) (bytes : List ℕ) (at n : ℕ) → with_number size bytes at (n % 2 ^ (8 * byte_count size)) ≡ with_number size bytes at n
low_part_written size bytes at n = as_part size bytes at (n % 2 ^ (8 * byte_count size)) ∙ ap (with_part bytes at) (same_low size n) ∙ sym (as_part size bytes at n)
  where
    same_low : (size : Size) (n : ℕ) → to_le_bytes (width size) (n % 2 ^ (8 * byte_count size)) ≡ to_le_bytes (width size) n
    same_low B1 n = ap (λ b. b ∷ []) (omega arith)
    same_low B2 n =
        let a : n % 65536 % 256 ≡ n % 256 = omega arith in
        let b : n % 65536 / 256 % 256 ≡ n / 256 % 256 = omega arith in
        rw (a, b) refl
    same_low B4 n =
        let a : n % 4294967296 % 256 ≡ n % 256 = omega arith in
        let b : n % 4294967296 / 256 % 256 ≡ n / 256 % 256 = omega arith in
        let c : n % 4294967296 / 65536 % 256 ≡ n / 65536 % 256 = omega arith in
        let d : n % 4294967296 / 16777216 % 256 ≡ n / 16777216 % 256 = omega arith in
        rw (a, b, c, d) refl
    same_low B8 n =
        let a : n % 18446744073709551616 % 256 ≡ n % 256 = omega arith in
        let b : n % 18446744073709551616 / 256 % 256 ≡ n / 256 % 256 = omega arith in
        let c : n % 18446744073709551616 / 65536 % 256 ≡ n / 65536 % 256 = omega arith in
        let d : n % 18446744073709551616 / 16777216 % 256 ≡ n / 16777216 % 256 = omega arith in
        let e : n % 18446744073709551616 / 4294967296 % 256 ≡ n / 4294967296 % 256 = omega arith in
        let f : n % 18446744073709551616 / 1099511627776 % 256 ≡ n / 1099511627776 % 256 = omega arith in
        let g : n % 18446744073709551616 / 281474976710656 % 256 ≡ n / 281474976710656 % 256 = omega arith in
        let h : n % 18446744073709551616 / 72057594037927936 % 256 ≡ n / 72057594037927936 % 256 = omega arith in
        rw (a, b, c, d, e, f, g, h) refl
