-- The lines of a file, and the words of a line.
use Rattle.std.specs.Prelude.{ℕ, ◌||◌, ◌==◌, Bool, if◌then◌else◌, List, [], ◌∷◌, ◌++◌}

-- a line that a line feed ended, without the carriage return before it, if there is one
abbrev pub without_return : List ℕ → List ℕ
without_return [] = []
without_return (b ∷ []) = if b == 13 then [] else b ∷ []
without_return (b ∷ c ∷ bs) = b ∷ without_return (c ∷ bs)

-- the lines that follow the bytes `line` of a line that has begun; the last may end with the file
abbrev pub lines_after : List ℕ → List ℕ → List (List ℕ)
lines_after line [] = line ∷ []
lines_after line (b ∷ bs) = if b == 10 then without_return line ∷ lines_after [] bs else lines_after (line ++ b ∷ []) bs

-- the lines of a file
abbrev pub lines : List ℕ → List (List ℕ)
lines bytes = lines_after [] bytes

-- a space or a tab
abbrev pub is_blank : ℕ → Bool
is_blank b = b == 32 || b == 9

-- a word, if it isn't empty, before others
abbrev pub word_before : List ℕ → List (List ℕ) → List (List ℕ)
word_before [] words = words
word_before (b ∷ bs) words = (b ∷ bs) ∷ words

-- the words that follow the bytes `word` of a word that has begun
abbrev pub words_after : List ℕ → List ℕ → List (List ℕ)
words_after word [] = word_before word []
words_after word (b ∷ bs) = if is_blank b then word_before word (words_after [] bs) else words_after (word ++ b ∷ []) bs

-- the words of a line, which blanks part
abbrev pub words : List ℕ → List (List ℕ)
words line = words_after [] line
