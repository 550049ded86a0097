-- What is left of a word that is shifted by all of its bits or more.
use Rattle.std.proofs.Common.{◌≡◌, ℕ, ◌+◌, ◌-◌, ◌*◌, ◌/◌, ◌%◌, ◌^◌, ◌<◌, ◌≤◌, true, false, sym, ap, ◌∙◌, arith}
use Rattle.std.specs.Prelude.{nat_lt, bit_or, if◌then◌else◌}
use Rattle.std.specs.Int.Bits.{or_zero_l}
use Rattle.std.proofs.lemmas.Nat.{pow-add}
use Rattle.std.proofs.Math.Nat.{pow-le-pow_right, div-eq_of_lt, mul-mod_left, mul_assoc, mod-eq_of_lt}
use Rattle.pan_base.specs.Words.{shift}
use Rattle.pan_base.specs.declared.operators.ShOp.TheVariants.{Shl, Shr, Sar, Ror}

right_out : (a n : ℕ) → a < 2 ^ 64 → 64 ≤ n → a / 2 ^ n ≡ 0
right_out a n word far =
    let all : 2 ^ 64 ≤ 2 ^ n = pow-le-pow_right {n = 2} (omega arith) far in
    let below : a < 2 ^ n = omega arith in
    div-eq_of_lt below

left_out : (a n : ℕ) → 64 ≤ n → a * 2 ^ n % 2 ^ 64 ≡ 0
left_out a n far =
    let m = n - 64 in
    let parts : n ≡ m + 64 = omega arith in
    ap (λ k. a * 2 ^ k % 2 ^ 64) parts ∙ ap (λ k. a * k % 2 ^ 64) (pow-add 2 m 64) ∙ ap (λ k. k % 2 ^ 64) (sym (mul_assoc a (2 ^ m) (2 ^ 64))) ∙ mul-mod_left (a * 2 ^ m) (2 ^ 64)

module _ (a n : ℕ) (word : a < 2 ^ 64) (far : 64 ≤ n) where
  pub shl_out : shift Shl a n ≡ 0
  shl_out = left_out a n far

  pub shr_out : shift Shr a n ≡ 0
  shr_out = right_out a n word far

  pub sar_low_out : a < 2 ^ 63 → shift Sar a n ≡ 0
  sar_low_out low =
      let test : nat_lt a (2 ^ 63) ≡ true = grind arith in
      ap (λ b. if b then a / 2 ^ n else 2 ^ 64 - 1 - (2 ^ 64 - 1 - a) / 2 ^ n) test ∙ right_out a n word far

  pub sar_high_out : 2 ^ 63 ≤ a → shift Sar a n ≡ 2 ^ 64 - 1
  sar_high_out high =
      let test : nat_lt a (2 ^ 63) ≡ false = grind arith in
      let rest : 2 ^ 64 - 1 - a < 2 ^ 64 = omega arith in
      ap (λ b. if b then a / 2 ^ n else 2 ^ 64 - 1 - (2 ^ 64 - 1 - a) / 2 ^ n) test ∙ ap (λ k. 2 ^ 64 - 1 - k) (right_out (2 ^ 64 - 1 - a) n rest far)

  pub ror_out : shift Ror a n ≡ a
  ror_out =
      let none : 64 - n ≡ 0 = omega arith in
      ap (λ k. bit_or k (a * 2 ^ ((64 - n) % 64) % 2 ^ 64)) (right_out a n word far)
      ∙ or_zero_l (a * 2 ^ ((64 - n) % 64) % 2 ^ 64)
      ∙ ap (λ k. a * 2 ^ (k % 64) % 2 ^ 64) none
      ∙ (let one : a * 1 ≡ a = omega arith in ap (λ k. k % 2 ^ 64) one)
      ∙ mod-eq_of_lt word
