-- Sums of numbers that were cut.
use Rattle.std.proofs.Common.{◌≡◌, ℕ, ◌+◌, ◌≤◌, min, map, sum, nat_lt, Bool, true, false, List, [], ◌∷◌, arith, refl, sym, ◌∙◌}
use Rattle.std.proofs.lemmas.List.Sums.{sum_by-cons}
use Rattle.std.proofs.lemmas.Bool.Decides.{nat_tests}

sum_more : (n : ℕ) (ns : List ℕ) → sum (n ∷ ns) ≡ n + sum ns
sum_more n ns = sum_by-cons (λ x. x) n ns

-- a sum of numbers that were cut, cut again
pub cut_sum : {X : Type 0} (g : X → ℕ) (xs : List X) (m : ℕ) → min (sum (map (λ x. min (g x) m) xs)) m ≡ min (sum (map g xs)) m
cut_sum g [] m = refl
cut_sum g (x ∷ xs) m =
    let e = cut_sum g xs m in
    let cut : sum (map (λ x. min (g x) m) (x ∷ xs)) ≡ min (g x) m + sum (map (λ x. min (g x) m) xs) = sum_more (min (g x) m) (map (λ x. min (g x) m) xs) in
    let all : sum (map g (x ∷ xs)) ≡ g x + sum (map g xs) = sum_more (g x) (map g xs) in
    omega arith

-- a small bound is seen behind a cut
pub heavier : (bound total all m : ℕ) → total ≡ min all m → bound + 1 ≤ m → nat_lt bound total ≡ nat_lt bound all
heavier bound total all m e small = by (nat_lt bound total) (nat_lt bound all) refl refl
  where
    by : (a b : Bool) → nat_lt bound total ≡ a → nat_lt bound all ≡ b → nat_lt bound total ≡ nat_lt bound all
    by true true p q = p ∙ sym q
    by false false p q = p ∙ sym q
    by true false p q = grind (arith, nat_tests)
    by false true p q = grind (arith, nat_tests)

pub light_is : (bound total all m : ℕ) → total ≡ min all m → bound + 1 ≤ m → nat_lt bound total ≡ false → total ≡ all
light_is bound total all m e small light = let at_most : total ≤ bound = grind (arith, nat_tests) in omega arith
