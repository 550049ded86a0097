-- How long lines are: short wherever they reach.
use Rattle.std.specs.Prelude.{◌≡◌, ℕ, ◌+◌, ◌*◌, ◌<◌, true, false, List, [], ◌∷◌, map, Some, slice_get, slice_set}
use Rattle.lab_lang.specs.Layout.{address_of, shortest, address}
use Rattle.lab_lang.specs.declared.syntax.Line.{Line}
use Rattle.lab_link.specs.Reach.{reaches}

-- lines of so many instructions, from a place on
abbrev pub laid_out : ℕ → List ℕ → List (ℕ × ℕ)
laid_out place [] = []
laid_out place (n ∷ ns) = (place, n) ∷ laid_out (place + 4 * n) ns

-- The layout where the line x of this number alone is short, and the others are as they are. The line stays where it is, and what is behind it moves.
abbrev pub shortened : ℕ → Line → List (ℕ × ℕ) → List (ℕ × ℕ)
shortened i x layout = laid_out 0 (slice_set (map (λ (y : ℕ × ℕ). y.1) layout) i (shortest x))

-- line i, which is x, has the length that it needs
pub record IsFit (lines : List Line) (layout : List (ℕ × ℕ)) (i : ℕ) (x : Line) (y : ℕ × ℕ) : Type 0 where
  -- where it is short it reaches its label
  pub short : y.1 ≡ shortest x → reaches x (address_of y.0) (address lines layout) ≡ true
  -- where it is long it wouldn't, if it alone were short
  pub long : shortest x < y.1 → reaches x (address_of y.0) (address lines (shortened i x layout)) ≡ false

-- so has each
abbrev pub AreFit : List Line → List (ℕ × ℕ) → Type 0
AreFit lines layout = (i : ℕ) (x : Line) (y : ℕ × ℕ) → slice_get lines i ≡ Some x → slice_get layout i ≡ Some y → IsFit lines layout i x y
