-- The test that each number of a list is a byte.
use Rattle.std.proofs.Common.{◌≡◌, ℕ, ◌<◌, suc, List, [], ◌∷◌, get_or, refl, arith, Bool, true, false}
use Rattle.std.specs.Prelude.{nat_lt, ◌&&◌}
use Rattle.std.specs.List.{list_all}

lt_test : (m n : ℕ) → m < n → nat_lt m n ≡ true
lt_test m n h = grind (arith)

pub all_bytes : (bs : List ℕ) → ((i : ℕ) → get_or bs i 0 < 256) → list_all (λ b. nat_lt b 256) bs ≡ true
all_bytes [] h = refl
all_bytes (b ∷ bs) h = rw (lt_test b 256 (h 0)) (all_bytes bs (λ i. h (suc i)))

and_true : (b : Bool) → b ≡ (b && true)
and_true true = refl
and_true false = refl

pub same_and : (b t : Bool) → t ≡ true → b ≡ (b && t)
same_and b t e = rw e (and_true b)
