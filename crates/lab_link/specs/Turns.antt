-- A turn of the growing, and the table of labels.
use Rattle.std.specs.Prelude.{◌≡◌, ◌⊎◌, ℕ, ◌<◌, List, [], ◌∷◌, length, Option, unwrap_or, slice_index, if◌then◌else◌}
use Rattle.lab_lang.specs.Layout.{address_of, shortest, longest}
use Rattle.lab_lang.specs.declared.syntax.Line.{Line}
use Rattle.lab_link.specs.Reach.{reaches}

-- the places in the table are those of the labels, and 0 for one that stands nowhere
abbrev pub IsTable : (ℕ → Option ℕ) → List ℕ → Type 0
IsTable at table = (l : ℕ) → l < length table → address_of (slice_index table l) ≡ unwrap_or (at l) (address_of 0)

-- each line has one of its two numbers of instructions
abbrev pub AreCounts : List Line → List ℕ → Type 0
AreCounts [] [] = Unit {0}
AreCounts [] (n ∷ ns) = ⊥
AreCounts (x ∷ xs) [] = ⊥
AreCounts (x ∷ xs) (n ∷ ns) = ((n ≡ shortest x) ⊎ (n ≡ longest x)) × AreCounts xs ns

-- the numbers of instructions where each line of the layout that doesn't reach its label is long
abbrev pub lengthened : List Line → List (ℕ × ℕ) → (ℕ → Option ℕ) → List ℕ
lengthened [] ys at = []
lengthened (x ∷ xs) [] at = []
lengthened (x ∷ xs) (y ∷ ys) at = (if reaches x (address_of y.0) at then y.1 else longest x) ∷ lengthened xs ys at
