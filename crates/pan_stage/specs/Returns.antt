-- What is seen of a program whose functions return words.
use Rattle.std.specs.Prelude.{ℕ, List, [], ◌∷◌, Option, Some, None}
use Rattle.pan_control.specs.Seen.{Seen}
use Rattle.pan_control.specs.Control.{Outcome}
use Rattle.pan_control.specs.Runs as runs

-- the word, where there is one alone
abbrev pub one_word : List ℕ → Option ℕ
one_word (n ∷ []) = Some n
one_word _ = None

-- what is seen of a program whose main left so; a main that returns another number of words than one, which no stage's check lets pass, fails
abbrev pub seen : {G : Type 0} → Outcome G (Unit {0}) (List ℕ) → Seen
seen o = runs.seen one_word o
