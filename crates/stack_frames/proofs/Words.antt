-- A word as its high bits and its low bits.
use Rattle.std.proofs.Common.{◌≡◌, ℕ, ℤ, pos, negsuc, ◌+◌, ◌-◌, ◌*◌, ◌/◌, ◌%◌, ◌^◌, ◌<◌, ◌≤◌, Bool, true, false, refl, sym, ap, ◌∙◌, arith, inl, inr}
use Rattle.std.specs.Prelude.{◌⊎◌, nat_lt, if◌then◌else◌}
use Rattle.std.proofs.lemmas.Bool.Decides.{nat_tests}
use Rattle.pan_base.specs.Results.{plus, upper, sign_extended, low_half}
use Rattle.pan_base.specs.Words.{IsWord, shift}
use Rattle.pan_base.specs.declared.operators.ShOp.TheVariants.{Sar}
use Rattle.stack_frames.specs.Constants.{low, high}

-- the quotient towards negative infinity, of a word below 2 ^ 63 or not
quotient_cases : (n : ℕ) → IsWord n → ((n < 2 ^ 63) × (shift Sar n 12 ≡ n / 2 ^ 12)) ⊎ ((2 ^ 63 ≤ n) × (shift Sar n 12 ≡ 2 ^ 64 - 1 - (2 ^ 64 - 1 - n) / 2 ^ 12))
quotient_cases n small = grind (arith, nat_tests)

pub high_is_word : (n : ℕ) → IsWord n → IsWord (high n)
high_is_word n small = by (nat_lt (n % 4096) 2048) (quotient_cases n small)
  where
    by : (b : Bool) → ((n < 2 ^ 63) × (shift Sar n 12 ≡ n / 2 ^ 12)) ⊎ ((2 ^ 63 ≤ n) × (shift Sar n 12 ≡ 2 ^ 64 - 1 - (2 ^ 64 - 1 - n) / 2 ^ 12)) → IsWord (if b then shift Sar n 12 else (shift Sar n 12 + 1) % 2 ^ 64)
    by true (inl h) = let e = h.1 in omega (arith, e, small)
    by true (inr h) = let e = h.1 in omega (arith, e, small)
    by false h = omega arith

sum_of : (n q : ℕ) → IsWord n → ((n < 2 ^ 63) × (q ≡ n / 2 ^ 12)) ⊎ ((2 ^ 63 ≤ n) × (q ≡ 2 ^ 64 - 1 - (2 ^ 64 - 1 - n) / 2 ^ 12)) → (q * 2 ^ 12 % 2 ^ 64 + n % 4096) % 2 ^ 64 ≡ n
sum_of n q small h = omega arith

sum_less : (n q : ℕ) → IsWord n → ((n < 2 ^ 63) × (q ≡ n / 2 ^ 12)) ⊎ ((2 ^ 63 ≤ n) × (q ≡ 2 ^ 64 - 1 - (2 ^ 64 - 1 - n) / 2 ^ 12)) → 2048 ≤ n % 4096
    → ((q + 1) % 2 ^ 64 * 2 ^ 12 % 2 ^ 64 + (2 ^ 64 - 1 - (4095 - n % 4096))) % 2 ^ 64 ≡ n
sum_less n q small h big = omega arith

-- both together are the word
pub high_and_low : (n : ℕ) → IsWord n → plus (high n * 2 ^ 12 % 2 ^ 64) (low n) ≡ n
unfolding plus
high_and_low n small = by (nat_lt (n % 4096) 2048) refl
  where
    by : (b : Bool) → nat_lt (n % 4096) 2048 ≡ b → plus ((if b then shift Sar n 12 else (shift Sar n 12 + 1) % 2 ^ 64) * 2 ^ 12 % 2 ^ 64) (if b then pos (n % 4096) else negsuc (4095 - n % 4096)) ≡ n
    by true e = sum_of n (shift Sar n 12) small (quotient_cases n small)
    by false e = sum_less n (shift Sar n 12) small (quotient_cases n small) (grind (arith, nat_tests))

-- how far a word is from 0 or from -1, read in two's complement
abbrev pub magnitude : ℕ → ℕ
magnitude n = if nat_lt n (2 ^ 63) then n else 2 ^ 64 - 1 - n

high_cases : (n q : ℕ) (b : Bool) → IsWord n → ((n < 2 ^ 63) × (q ≡ n / 2 ^ 12)) ⊎ ((2 ^ 63 ≤ n) × (q ≡ 2 ^ 64 - 1 - (2 ^ 64 - 1 - n) / 2 ^ 12)) → magnitude (if b then q else (q + 1) % 2 ^ 64) ≤ magnitude n / 2 ^ 12 + 1
high_cases n q true small (inl h) = grind (arith, nat_tests)
high_cases n q true small (inr h) = grind (arith, nat_tests)
high_cases n q false small (inl h) = grind (arith, nat_tests)
high_cases n q false small (inr h) = grind (arith, nat_tests)

pub high_smaller : (n : ℕ) → IsWord n → magnitude (high n) ≤ magnitude n / 2 ^ 12 + 1
high_smaller n small = high_cases n (shift Sar n 12) (nat_lt (n % 4096) 2048) small (quotient_cases n small)

-- ---- 32 bits with their sign

-- a word near 0 is such
pub half_near : (n : ℕ) → IsWord n → magnitude n < 2 ^ 30 → (n + 2 ^ 31) % 2 ^ 64 < 2 ^ 32
half_near n small h = grind (arith, nat_tests)

-- its low half is the word
half_is : (n : ℕ) → IsWord n → (n + 2 ^ 31) % 2 ^ 64 < 2 ^ 32 → low_half n ≡ n
unfolding sign_extended
half_is n small h = by (nat_lt (n % 2 ^ 32) (2 ^ 31)) refl
  where
    by : (b : Bool) → nat_lt (n % 2 ^ 32) (2 ^ 31) ≡ b → (if b then n % 2 ^ 32 else 2 ^ 64 - 2 ^ 32 + n % 2 ^ 32) ≡ n
    by true e = let l : n % 2 ^ 32 < 2 ^ 31 = grind (arith, nat_tests) in omega (arith, l, h, small)
    by false e = let l : 2 ^ 31 ≤ n % 2 ^ 32 = grind (arith, nat_tests) in omega (arith, l, h, small)

-- LUI has these bits in its low half
upper_low : (q : ℕ) → upper (q % 2 ^ 20) % 2 ^ 32 ≡ q * 2 ^ 12 % 2 ^ 64 % 2 ^ 32
unfolding upper
upper_low q = by (nat_lt (q % 2 ^ 20) (2 ^ 19))
  where
    by : (b : Bool) → (if b then q % 2 ^ 20 * 2 ^ 12 else 2 ^ 64 - 2 ^ 32 + q % 2 ^ 20 * 2 ^ 12) % 2 ^ 32 ≡ q * 2 ^ 12 % 2 ^ 64 % 2 ^ 32
    by true = omega arith
    by false = omega arith

-- a sum's low half is that of the sum of low halves
plus_low : (a b : ℕ) (i : ℤ) → a % 2 ^ 32 ≡ b % 2 ^ 32 → plus a i % 2 ^ 32 ≡ plus b i % 2 ^ 32
unfolding plus
plus_low a b (pos n) e = omega (arith, e)
plus_low a b (negsuc n) e = omega (arith, e)

-- what LUI and ADDIW make of it
pub upper_and_low : (n : ℕ) → IsWord n → (n + 2 ^ 31) % 2 ^ 64 < 2 ^ 32 → low_half (plus (upper (high n % 2 ^ 20)) (low n)) ≡ n
upper_and_low n small h =
    ap (λ m. sign_extended 32 m) (plus_low (upper (high n % 2 ^ 20)) (high n * 2 ^ 12 % 2 ^ 64) (low n) (upper_low (high n)) ∙ ap (λ m. m % 2 ^ 32) (high_and_low n small)) ∙ half_is n small h

-- ---- no low bits

low_none : (n : ℕ) → n % 4096 ≡ 0 → low n ≡ pos 0
low_none n e = ap (λ k. if nat_lt k 2048 then pos k else negsuc (4095 - k)) e

plus_none : (m : ℕ) → plus (m % 2 ^ 64) (pos 0) ≡ m % 2 ^ 64
unfolding plus
plus_none m = omega arith

-- the high bits are the word
pub high_alone : (n : ℕ) → IsWord n → n % 4096 ≡ 0 → high n * 2 ^ 12 % 2 ^ 64 ≡ n
high_alone n small e = sym (plus_none (high n * 2 ^ 12)) ∙ ap (λ i. plus (high n * 2 ^ 12 % 2 ^ 64) i) (sym (low_none n e)) ∙ high_and_low n small

-- LUI makes the word of them
pub upper_alone : (n : ℕ) → IsWord n → (n + 2 ^ 31) % 2 ^ 64 < 2 ^ 32 → n % 4096 ≡ 0 → upper (high n % 2 ^ 20) ≡ n
unfolding upper
upper_alone n small h e = by (high n) (high_alone n small e) (nat_lt (high n % 2 ^ 20) (2 ^ 19)) refl
  where
    by : (q : ℕ) → q * 2 ^ 12 % 2 ^ 64 ≡ n → (b : Bool) → nat_lt (q % 2 ^ 20) (2 ^ 19) ≡ b → (if b then q % 2 ^ 20 * 2 ^ 12 else 2 ^ 64 - 2 ^ 32 + q % 2 ^ 20 * 2 ^ 12) ≡ n
    by q is true t = let l : q % 2 ^ 20 < 2 ^ 19 = grind (arith, nat_tests) in omega (arith, is, l, h, small)
    by q is false t = let l : 2 ^ 19 ≤ q % 2 ^ 20 = grind (arith, nat_tests) in omega (arith, is, l, h, small)

-- high bits that are 0 leave the low ones alone
pub low_alone : (n : ℕ) → IsWord n → high n ≡ 0 → plus 0 (low n) ≡ n
low_alone n small e = ap (λ q. plus (q * 2 ^ 12 % 2 ^ 64) (low n)) (zero_is (high n) e) ∙ high_and_low n small
  where
    zero_is : (q : ℕ) → q ≡ 0 → 0 ≡ q
    zero_is q e = omega (arith, e)
