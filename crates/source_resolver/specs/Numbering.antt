-- Names with numbers.
use Rattle.std.specs.Prelude.{ℕ, ◌+◌, List, [], ◌∷◌, map}
use Rattle.std.specs.Borrow.{Bor}

-- the names behind references, with their numbers
abbrev pub named : List (Bor (List ℕ) × ℕ) → List (List ℕ × ℕ)
named xs = map (λ x. ((x.0).now, x.1)) xs

-- each name with its number, the first of which is this one
abbrev pub numbered : ℕ → List (List ℕ) → List (List ℕ × ℕ)
numbered n [] = []
numbered n (x ∷ xs) = (x, n) ∷ numbered (n + 1) xs
