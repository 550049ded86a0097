-- The search for the exponent of a power of two, from 63 down.
use Rattle.std.proofs.Common.{◌≡◌, ℕ, suc, ◌+◌, ◌-◌, ◌*◌, ◌%◌, ◌^◌, ◌<◌, Bool, true, false, Some, arith, refl, sym, ap, ◌∙◌}
use Rattle.std.specs.Prelude.{nat_eq, if◌then◌else◌}
use Rattle.std.proofs.lemmas.Bool.Decides.{nat_tests}
use Rattle.std.proofs.Math.Nat.{mod-eq_of_lt}
use Rattle.std.proofs.Math.Pow.{pow-lt}
use Rattle.word_select.specs.Facts.{exponent_below}

-- a power of two as the code makes it
power : (i : ℕ) → i < 64 → 1 * 2 ^ (63 - i) % 2 ^ 64 ≡ 2 ^ (63 - i)
power i l =
    let less : 2 ^ (63 - i) < 2 ^ 64 = pow-lt {i = 63 - i} {j = 64} (omega (arith, l)) in
    let one : 1 * 2 ^ (63 - i) ≡ 2 ^ (63 - i) = omega arith in ap (λ n. n % 2 ^ 64) one ∙ mod-eq_of_lt less

step : (i word : ℕ) → i < 64 → exponent_below (64 - i) word ≡ (if nat_eq word (2 ^ (63 - i)) then Some (63 - i) else exponent_below (63 - i) word)
step i word l = let e : 64 - i ≡ suc (63 - i) = omega (arith, l) in ap (λ n. exponent_below n word) e

pub exponent_hit : (i word : ℕ) → i < 64 → word ≡ 1 * 2 ^ (63 - i) % 2 ^ 64 → exponent_below (64 - i) word ≡ Some (63 - i)
exponent_hit i word l h = step i word l ∙ by (nat_eq word (2 ^ (63 - i))) refl
  where
    by : (b : Bool) → nat_eq word (2 ^ (63 - i)) ≡ b → (if b then Some (63 - i) else exponent_below (63 - i) word) ≡ Some (63 - i)
    by true e = refl
    by false e = let k = h ∙ power i l in absurd (grind (arith, nat_tests))

pub exponent_miss : (i word : ℕ) → i < 64 → ¬ (word ≡ 1 * 2 ^ (63 - i) % 2 ^ 64) → exponent_below (64 - i) word ≡ exponent_below (64 - (i + 1)) word
exponent_miss i word l h = step i word l ∙ by (nat_eq word (2 ^ (63 - i))) refl
  where
    by : (b : Bool) → nat_eq word (2 ^ (63 - i)) ≡ b → (if b then Some (63 - i) else exponent_below (63 - i) word) ≡ exponent_below (64 - (i + 1)) word
    by true e = let k : word ≡ 2 ^ (63 - i) = grind (arith, nat_tests) in absurd (h (k ∙ sym (power i l)))
    by false e = let k : 63 - i ≡ 64 - (i + 1) = omega arith in ap (λ n. exponent_below n word) k
