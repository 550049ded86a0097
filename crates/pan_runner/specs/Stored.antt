-- How words are put into local memory, one value after another.
use Rattle.std.specs.Prelude.{◌≡◌, ℕ, List, ◌++◌, Option, option_and_then}
use Rattle.pan_control.specs.Memory.{with_words}
use Rattle.pan_tree.specs.Value.{values_of, words_in_all}
use Rattle.pan_runner.specs.declared.value.Value.{Value}
use Rattle.pan_runner.specs.Told.{all_told}

-- the words of values, in order
abbrev pub words_in_each : List Value → List ℕ
words_in_each vs = words_in_all (values_of (all_told vs))

-- local memory with more words from this address on, where there is one
abbrev pub stored_on : List ℕ → Option ℕ → List ℕ → Option (List ℕ)
stored_on m next more = option_and_then (λ addr. with_words m addr more) next

-- The words are put from the address on, and the next ones go to this address. Where there is none, one of the words doesn't lie in local memory.
abbrev pub IsStored : List ℕ → ℕ → List ℕ → List ℕ → Option ℕ → Type 0
IsStored before addr ns after next = (more : List ℕ) → with_words before addr (ns ++ more) ≡ stored_on after next more
