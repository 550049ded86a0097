-- The zeros below a word's lowest bit that is set, and the word without them.
use Rattle.std.proofs.Common.{◌≡◌, ◌≢◌, ◌⊎◌, inl, inr, ℕ, zero, suc, ◌+◌, ◌-◌, ◌*◌, ◌/◌, ◌%◌, ◌^◌, ◌<◌, ◌≤◌, Bool, true, false, refl, sym, ap, subst, ◌∙◌, arith}
use Rattle.std.specs.Prelude.{nat_lt, if◌then◌else◌}
use Rattle.std.specs.Int.{trailing_zeros, w64}
use Rattle.std.specs.Int.Count.{count_trailing_zeros, under}
use Rattle.std.proofs.lemmas.Bool.Decides.{nat_tests}
use Rattle.std.proofs.lemmas.Nat.{pow_pos, pow-add, shl-shr, shr_high, shr_le, shr_below, trailing_le, mul-mod_first}
use Rattle.std.proofs.Math.Nat.{mul_assoc, mul_comm, add-mul, pow-suc, le-mul_of_pos_right}
use Rattle.pan_base.specs.Results.{upper}
use Rattle.pan_base.specs.Words.{IsWord, shift}
use Rattle.pan_base.specs.declared.operators.ShOp.TheVariants.{Sar}
use Rattle.stack_frames.specs.Constants.{high}
use Rattle.stack_frames.proofs.Words.{magnitude}

-- ---- a number is one without its zeros, times a power of two

even : (k n : ℕ) → (a : ℕ) × (n ≡ a * 2 ^ count_trailing_zeros k n)
unfolding count_trailing_zeros
even zero n = (n, omega arith)
even (suc k) n = by (n % 2) refl (even k (n / 2))
  where
    by : (d : ℕ) → n % 2 ≡ d → (a : ℕ) × (n / 2 ≡ a * 2 ^ count_trailing_zeros k (n / 2)) → (a : ℕ) × (n ≡ a * 2 ^ under d (count_trailing_zeros k (n / 2)))
    by zero e (a, h) = let z = count_trailing_zeros k (n / 2) in (a, (let two : n ≡ a * 2 ^ z * 2 = omega (arith, e, h) in two) ∙ mul_assoc a (2 ^ z) 2 ∙ ap (λ m. a * m) (sym (pow-suc 2 z)))
    by (suc d) e h = (n, omega arith)

-- the high bits are near 0 in two's complement
high_near : (n : ℕ) → (high n ≤ 2 ^ 51) ⊎ ((2 ^ 64 - 2 ^ 51 ≤ high n) × (high n < 2 ^ 64))
high_near n = by (nat_lt (n % 4096) 2048) (nat_lt n (2 ^ 63)) refl
  where
    by : (b c : Bool) → nat_lt n (2 ^ 63) ≡ c
        → ((if b then (if c then n / 2 ^ 12 else 2 ^ 64 - 1 - (2 ^ 64 - 1 - n) / 2 ^ 12) else ((if c then n / 2 ^ 12 else 2 ^ 64 - 1 - (2 ^ 64 - 1 - n) / 2 ^ 12) + 1) % 2 ^ 64) ≤ 2 ^ 51)
        ⊎ ((2 ^ 64 - 2 ^ 51 ≤ (if b then (if c then n / 2 ^ 12 else 2 ^ 64 - 1 - (2 ^ 64 - 1 - n) / 2 ^ 12) else ((if c then n / 2 ^ 12 else 2 ^ 64 - 1 - (2 ^ 64 - 1 - n) / 2 ^ 12) + 1) % 2 ^ 64))
        × ((if b then (if c then n / 2 ^ 12 else 2 ^ 64 - 1 - (2 ^ 64 - 1 - n) / 2 ^ 12) else ((if c then n / 2 ^ 12 else 2 ^ 64 - 1 - (2 ^ 64 - 1 - n) / 2 ^ 12) + 1) % 2 ^ 64) < 2 ^ 64))
    by true true e = let l : n < 2 ^ 63 = grind (arith, nat_tests) in inl (omega (arith, l))
    by false true e = let l : n < 2 ^ 63 = grind (arith, nat_tests) in inl (omega (arith, l))
    by true false e = let l : 2 ^ 63 ≤ n = grind (arith, nat_tests) in inr (omega (arith, l), omega arith)
    by false false e = let l : 2 ^ 63 ≤ n = grind (arith, nat_tests) in next (2 ^ 64 - 1 - (2 ^ 64 - 1 - n) / 2 ^ 12) (omega (arith, l)) (omega arith)
      where
        next : (q : ℕ) → 2 ^ 64 - 2 ^ 51 ≤ q → q < 2 ^ 64 → ((q + 1) % 2 ^ 64 ≤ 2 ^ 51) ⊎ ((2 ^ 64 - 2 ^ 51 ≤ (q + 1) % 2 ^ 64) × ((q + 1) % 2 ^ 64 < 2 ^ 64))
        next q l m = is (nat_lt q (2 ^ 64 - 1)) refl
          where
            is : (b : Bool) → nat_lt q (2 ^ 64 - 1) ≡ b → ((q + 1) % 2 ^ 64 ≤ 2 ^ 51) ⊎ ((2 ^ 64 - 2 ^ 51 ≤ (q + 1) % 2 ^ 64) × ((q + 1) % 2 ^ 64 < 2 ^ 64))
            is true e = let k : q < 2 ^ 64 - 1 = grind (arith, nat_tests) in inr (omega (arith, l, k), omega arith)
            is false e = let k : 2 ^ 64 - 1 ≤ q = grind (arith, nat_tests) in inl (omega (arith, k, m))

-- so at most 51 zeros stand below their lowest bit that is set
pub few_zeros : (n : ℕ) → high n ≢ 0 → trailing_zeros w64 (high n) ≤ 51
few_zeros n some = by (high n) (count_trailing_zeros 64 (high n)) some (high_near n) (even 64 (high n)) (nat_lt 51 (count_trailing_zeros 64 (high n))) refl
  where
    by : (h z : ℕ) → h ≢ 0 → (h ≤ 2 ^ 51) ⊎ ((2 ^ 64 - 2 ^ 51 ≤ h) × (h < 2 ^ 64)) → (a : ℕ) × (h ≡ a * 2 ^ z) → (b : Bool) → nat_lt 51 z ≡ b → z ≤ 51
    by h z some near (a, is) false e = grind (arith, nat_tests)
    by h z some near (a, is) true e =
        let l : 52 ≤ z = grind (arith, nat_tests) in
        let more : z ≡ (z - 52) + 52 = omega (arith, l) in
        let power : 2 ^ z ≡ 2 ^ (z - 52) * 2 ^ 52 = ap (λ k. 2 ^ k) more ∙ pow-add 2 (z - 52) 52 in
        let whole : h ≡ a * 2 ^ (z - 52) * 2 ^ 52 = is ∙ ap (λ m. a * m) power ∙ sym (mul_assoc a (2 ^ (z - 52)) (2 ^ 52)) in
        absurd (none h (a * 2 ^ (z - 52)) some near whole)
      where
        none : (h c : ℕ) → h ≢ 0 → (h ≤ 2 ^ 51) ⊎ ((2 ^ 64 - 2 ^ 51 ≤ h) × (h < 2 ^ 64)) → h ≡ c * 2 ^ 52 → ⊥
        none h zero some near e = some (omega (arith, e))
        none h (suc c) some (inl l) e = omega (arith, e, l)
        none h (suc c) some (inr (l, m)) e = omega (arith, e, l, m)

-- ---- shifted to the right with the sign

-- the word is below 2 ^ 63, or its complement is
abbrev IsShifted : ℕ → ℕ → ℕ → Type 0
IsShifted n z m = ((n < 2 ^ 63) × (m ≡ n / 2 ^ z)) ⊎ ((2 ^ 63 ≤ n) × (m ≡ 2 ^ 64 - 1 - (2 ^ 64 - 1 - n) / 2 ^ z))

shifted_cases : (n z : ℕ) → IsShifted n z (shift Sar n z)
shifted_cases n z = by (nat_lt n (2 ^ 63)) refl
  where
    by : (b : Bool) → nat_lt n (2 ^ 63) ≡ b → IsShifted n z (if b then n / 2 ^ z else 2 ^ 64 - 1 - (2 ^ 64 - 1 - n) / 2 ^ z)
    by true e = inl ((let l : n < 2 ^ 63 = grind (arith, nat_tests) in l), refl)
    by false e = inr ((let l : 2 ^ 63 ≤ n = grind (arith, nat_tests) in l), refl)

pub shifted_word : (n z : ℕ) → IsWord n → IsWord (shift Sar n z)
shifted_word n z small = by (shift Sar n z) (n / 2 ^ z) (shr_le n z) (shifted_cases n z)
  where
    by : (m q : ℕ) → q ≤ n → ((n < 2 ^ 63) × (m ≡ q)) ⊎ ((2 ^ 63 ≤ n) × (m ≡ 2 ^ 64 - 1 - (2 ^ 64 - 1 - n) / 2 ^ z)) → IsWord m
    by m q l (inl (k, e)) = omega (arith, l, k, e)
    by m q l (inr (k, e)) = omega (arith, e)

pub shifted_smaller : (n z : ℕ) → IsWord n → magnitude (shift Sar n z) ≤ magnitude n
shifted_smaller n z small = by (shift Sar n z) (n / 2 ^ z) ((2 ^ 64 - 1 - n) / 2 ^ z) (shr_le n z) (shr_le (2 ^ 64 - 1 - n) z) (shifted_cases n z)
  where
    by : (m q c : ℕ) → q ≤ n → c ≤ 2 ^ 64 - 1 - n → ((n < 2 ^ 63) × (m ≡ q)) ⊎ ((2 ^ 63 ≤ n) × (m ≡ 2 ^ 64 - 1 - c)) → magnitude m ≤ magnitude n
    by m q c l j (inl (k, e)) = grind (arith, nat_tests)
    by m q c l j (inr (k, e)) = grind (arith, nat_tests)

-- back to the left it is the word again, where only zeros were lost
back : (a n z : ℕ) → n ≡ a * 2 ^ z → IsWord n → z ≤ 64 → shift Sar n z * 2 ^ z % 2 ^ 64 ≡ n
back a n z is small l = by (shift Sar n z) (shifted_cases n z)
  where
    part : n / 2 ^ z ≡ a
    part = ap (λ m. m / 2 ^ z) is ∙ shl-shr a z

    sum : 64 ≡ (64 - z) + z
    sum = omega (arith, l)

    whole : 2 ^ 64 ≡ 2 ^ (64 - z) * 2 ^ z
    whole = ap (λ k. 2 ^ k) sum ∙ pow-add 2 (64 - z) z

    below : a < 2 ^ (64 - z)
    below = subst (λ m. m < 2 ^ (64 - z)) part (shr_below n (64 - z) z (subst (λ k. n < 2 ^ k) sum small))

    -- the complement
    high_case : (e b p : ℕ) → e ≡ a + (1 + b) → 2 ^ 64 ≡ e * p → 0 < p → n ≡ a * p → (c : ℕ) → c ≡ 2 ^ 64 - 1 - n → (c ≡ b * p + (p - 1)) × ((2 ^ 64 - 1 - b) * p % 2 ^ 64 ≡ n)
    high_case e b p split power some is c comp =
        let total : 2 ^ 64 ≡ a * p + (p + b * p) = power ∙ ap (λ m. m * p) split ∙ add-mul a (1 + b) p ∙ ap (λ m. a * p + m) (add-mul 1 b p ∙ (let one : 1 * p + b * p ≡ p + b * p = omega arith in one)) in
        let fits : b < 2 ^ 64 = bounded b p some (omega (arith, total)) in
        let other : (2 ^ 64 - 1 - b) * p + (1 + b) * p ≡ 2 ^ 64 * p = sym (add-mul (2 ^ 64 - 1 - b) (1 + b) p) ∙ ap (λ m. m * p) (omega (arith, fits)) in
        let more : (1 + b) * p ≡ p + b * p = add-mul 1 b p ∙ omega arith in
        (omega (arith, comp, total, is, some), omega (arith, other, more, total, is, some, small))
      where
        bounded : (b p : ℕ) → 0 < p → b * p ≤ 2 ^ 64 - 1 → b < 2 ^ 64
        bounded b p l m = let k = le-mul_of_pos_right b l in omega (arith, k, m)

    by : (m : ℕ) → IsShifted n z m → m * 2 ^ z % 2 ^ 64 ≡ n
    by m (inl (k, e)) = ap (λ m. m * 2 ^ z % 2 ^ 64) (e ∙ part) ∙ ap (λ m. m % 2 ^ 64) (sym is) ∙ omega (arith, small)
    by m (inr (k, e)) =
        let b = 2 ^ (64 - z) - 1 - a in
        let h = high_case (2 ^ (64 - z)) b (2 ^ z) (omega (arith, below)) whole (pow_pos z) is (2 ^ 64 - 1 - n) refl in
        let quotient : (2 ^ 64 - 1 - n) / 2 ^ z ≡ b = ap (λ c. c / 2 ^ z) h.0 ∙ shr_high b z (2 ^ z - 1) (let p = pow_pos z in omega (arith, p)) in
        ap (λ m. m * 2 ^ z % 2 ^ 64) (e ∙ ap (λ q. 2 ^ 64 - 1 - q) quotient) ∙ h.1

-- the high bits without their zeros are the high bits once they are shifted back
pub high_back : (n : ℕ) → IsWord (high n) → shift Sar (high n) (trailing_zeros w64 (high n)) * 2 ^ trailing_zeros w64 (high n) % 2 ^ 64 ≡ high n
high_back n small = let e = even 64 (high n) in back e.0 (high n) (count_trailing_zeros 64 (high n)) e.1 small (trailing_le 64 (high n))

-- ---- by 12 bits more

pub and_twelve : (m z h : ℕ) → m * 2 ^ z % 2 ^ 64 ≡ h → m * 2 ^ (12 + z) % 2 ^ 64 ≡ h * 2 ^ 12 % 2 ^ 64
and_twelve m z h e =
    ap (λ k. m * k % 2 ^ 64) (pow-add 2 12 z ∙ mul_comm (2 ^ 12) (2 ^ z)) ∙ ap (λ k. k % 2 ^ 64) (sym (mul_assoc m (2 ^ z) (2 ^ 12)))
    ∙ sym (mul-mod_first (m * 2 ^ z) (2 ^ 12) (2 ^ 64)) ∙ ap (λ k. k * 2 ^ 12 % 2 ^ 64) e

-- LUI shifts a word of 20 bits with their sign by 12
upper_shifts : (m : ℕ) → IsWord m → (m + 2 ^ 19) % 2 ^ 64 < 2 ^ 20 → upper (m % 2 ^ 20) ≡ m * 2 ^ 12 % 2 ^ 64
unfolding upper
upper_shifts m small h = by (nat_lt (m % 2 ^ 20) (2 ^ 19)) refl
  where
    by : (b : Bool) → nat_lt (m % 2 ^ 20) (2 ^ 19) ≡ b → (if b then m % 2 ^ 20 * 2 ^ 12 else 2 ^ 64 - 2 ^ 32 + m % 2 ^ 20 * 2 ^ 12) ≡ m * 2 ^ 12 % 2 ^ 64
    by true t = let l : m % 2 ^ 20 < 2 ^ 19 = grind (arith, nat_tests) in omega (arith, l, h, small)
    by false t = let l : 2 ^ 19 ≤ m % 2 ^ 20 = grind (arith, nat_tests) in omega (arith, l, h, small)

pub upper_twelve : (m z h : ℕ) → IsWord m → (m + 2 ^ 19) % 2 ^ 64 < 2 ^ 20 → m * 2 ^ z % 2 ^ 64 ≡ h → upper (m % 2 ^ 20) * 2 ^ z % 2 ^ 64 ≡ h * 2 ^ 12 % 2 ^ 64
upper_twelve m z h small fits e =
    ap (λ k. k * 2 ^ z % 2 ^ 64) (upper_shifts m small fits) ∙ mul-mod_first (m * 2 ^ 12) (2 ^ z) (2 ^ 64)
    ∙ ap (λ k. k % 2 ^ 64) (mul_assoc m (2 ^ 12) (2 ^ z) ∙ ap (λ k. m * k) (sym (pow-add 2 12 z))) ∙ and_twelve m z h e
