-- Words that lie in bytes: what is written is read, and another word stays as it was.
use Rattle.std.proofs.Common.{◌≡◌, ℕ, ◌+◌, ◌/◌, ◌%◌, ◌^◌, ◌≤◌, List, [], ◌∷◌, ◌++◌, length, take, drop, ap, sym, ◌∙◌, refl, arith, append_assoc, length-drop}
use Rattle.std.specs.Int.{w64, to_le_bytes, from_le_bytes}
use Rattle.std.proofs.Math.Seq.{take-append_seam, drop-append_seam}
use Rattle.std.proofs.lemmas.List.{take-append-le, drop-append-le, length-take, take-append-drop}
use Rattle.std.proofs.lemmas.Slice.{drop-append-drop}
use Rattle.std.proofs.lemmas.Nat.{from_le_bytes-to_le_bytes_8}
use Rattle.std.proofs.lemmas.Grind.{common_steps}
use Rattle.pan_base.specs.declared.events.Size.TheVariants.{B8}
use Rattle.pan_base.specs.Bytes.{with_number, number_at}

drop_seam : (n : ℕ) (xs ys : List ℕ) → length xs ≡ n → drop n (xs ++ ys) ≡ ys
drop_seam n xs ys e = ap (λ n. drop n (xs ++ ys)) (sym e) ∙ drop-append_seam xs ys

take_seam : (n : ℕ) (xs ys : List ℕ) → length xs ≡ n → take n (xs ++ ys) ≡ xs
take_seam n xs ys e = ap (λ n. take n (xs ++ ys)) (sym e) ∙ take-append_seam xs ys

front : (n : ℕ) (xs : List ℕ) → n ≤ length xs → length (take n xs) ≡ n
front n xs le = search (arith, length-take)

-- a store keeps the low eight bytes
low_bytes : (n : ℕ) → to_le_bytes w64 n ≡ to_le_bytes w64 (n % 2 ^ 64)
low_bytes n =
    let a : n % 256 ≡ n % 2 ^ 64 % 256 = omega arith in
    let b : n / 256 % 256 ≡ n % 2 ^ 64 / 256 % 256 = omega arith in
    let c : n / 65536 % 256 ≡ n % 2 ^ 64 / 65536 % 256 = omega arith in
    let d : n / 16777216 % 256 ≡ n % 2 ^ 64 / 16777216 % 256 = omega arith in
    let e : n / 4294967296 % 256 ≡ n % 2 ^ 64 / 4294967296 % 256 = omega arith in
    let f : n / 1099511627776 % 256 ≡ n % 2 ^ 64 / 1099511627776 % 256 = omega arith in
    let g : n / 281474976710656 % 256 ≡ n % 2 ^ 64 / 281474976710656 % 256 = omega arith in
    let h : n / 72057594037927936 % 256 ≡ n % 2 ^ 64 / 72057594037927936 % 256 = omega arith in
    list_8 _ _ _ _ _ _ _ _ _ _ _ _ _ _ _ _ a b c d e f g h
  where
    list_8 : (a b c d e f g h a' b' c' d' e' f' g' h' : ℕ) → a ≡ a' → b ≡ b' → c ≡ c' → d ≡ d' → e ≡ e' → f ≡ f' → g ≡ g' → h ≡ h' → a ∷ b ∷ c ∷ d ∷ e ∷ f ∷ g ∷ h ∷ [] ≡ a' ∷ b' ∷ c' ∷ d' ∷ e' ∷ f' ∷ g' ∷ h' ∷ []
    list_8 a b c d e f g h a' b' c' d' e' f' g' h' p q r s t u v w = rw (p, q, r, s, t, u, v, w) refl

pub word_read : (bytes : List ℕ) (at n : ℕ) → at + 8 ≤ length bytes → number_at B8 (with_number B8 bytes at n) at ≡ n % 2 ^ 64
word_read bytes at n le =
    ap (λ bs. from_le_bytes w64 (take 8 (drop at bs))) (append_assoc (take at bytes) (to_le_bytes w64 n) (drop (at + 8) bytes))
    ∙ ap (λ bs. from_le_bytes w64 (take 8 bs)) (drop_seam at (take at bytes) (to_le_bytes w64 n ++ drop (at + 8) bytes) (front at bytes (omega (arith, le))))
    ∙ ap (from_le_bytes w64) (take_seam 8 (to_le_bytes w64 n) (drop (at + 8) bytes) refl) ∙ ap (from_le_bytes w64) (low_bytes n) ∙ from_le_bytes-to_le_bytes_8 (n % 2 ^ 64) (omega arith)

-- what lies below is as it was
below : (k from at : ℕ) (bytes ys : List ℕ) → from + k ≤ at → at ≤ length bytes → take k (drop from (take at bytes ++ ys)) ≡ take k (drop from bytes)
below k from at bytes ys le fits =
    ap (take k) (drop-append-le from (take at bytes) ys (omega (arith, front at bytes fits, le))) ∙ take-append-le k (drop from (take at bytes)) ys (omega (arith, length-drop from (take at bytes), front at bytes fits, le)) ∙ taken
  where
    taken : take k (drop from (take at bytes)) ≡ take k (drop from bytes)
    taken =
        sym (take-append-le k (drop from (take at bytes)) (drop at bytes) (omega (arith, length-drop from (take at bytes), front at bytes fits, le)))
        ∙ ap (take k) (sym (drop-append-le from (take at bytes) (drop at bytes) (omega (arith, front at bytes fits, le))) ∙ ap (drop from) (take-append-drop at bytes))

pub word_below : (bytes : List ℕ) (at n from : ℕ) → at + 8 ≤ length bytes → from + 8 ≤ at → number_at B8 (with_number B8 bytes at n) from ≡ number_at B8 bytes from
word_below bytes at n from le apart =
    ap (λ bs. from_le_bytes w64 (take 8 (drop from bs))) (append_assoc (take at bytes) (to_le_bytes w64 n) (drop (at + 8) bytes))
    ∙ ap (from_le_bytes w64) (below 8 from at bytes (to_le_bytes w64 n ++ drop (at + 8) bytes) apart (omega (arith, le)))

-- and all above
pub above_write : (xs : List ℕ) (at n m : ℕ) → at + 8 ≤ length xs → at + 8 ≤ m → drop m (with_number B8 xs at n) ≡ drop m xs
above_write xs at n m inside above =
    let long : length (take at xs ++ to_le_bytes w64 n) ≡ at + 8 = grind (arith, common_steps) in
    drop-append-drop (at + 8) xs (take at xs ++ to_le_bytes w64 n) m above long
