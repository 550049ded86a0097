-- What every stage's programs have in common that are well formed.
use Rattle.std.specs.Prelude.{ℕ, ◌<◌, ◌≤◌, ◌^◌, ◌==◌, ◌&&◌, List, length, slice_get, IsTrue}
use Rattle.std.specs.List.{All, list_all}
use Rattle.pan_stage.specs.Mentions.{Arity, Mention, is_right, is_some_and, scope_of}
use Rattle.pan_stage.specs.declared.program.Program.{Program}

-- parameters, results and exceptions have at most so many words
abbrev pub most_words : ℕ
most_words = 64

-- at most 64 words are taken and returned
pub record IsArity (a : Arity) : Type 0 where
  pub parameters : a.parameters ≤ most_words
  pub results : a.results ≤ most_words

-- The numbers of a program are lawful: there are at most 1,024 exceptions, foreign names and globals, and globals are words.
pub record AreNumbers {F : Type 0} (p : Program F) : Type 0 where
  pub exceptions : length p.exceptions ≤ 1024
  pub names : length p.names ≤ 1024
  pub globals : length p.globals ≤ 1024
  pub words : All (λ n. n < 2 ^ 64) p.globals

-- So are its counts of words: main takes nothing and returns a word, and all that passes has at most 64 words.
pub record AreCounts {F : Type 0} (arity : F → Arity) (p : Program F) : Type 0 where
  pub numbers : AreNumbers p
  pub main : IsTrue (is_some_and (λ f. (arity f).parameters == 0 && (arity f).results == 1) (slice_get p.functions p.main))
  pub arities : All (λ f. IsArity (arity f)) p.functions
  pub widths : All (λ n. n ≤ most_words) p.exceptions

-- each mention of a function is right
abbrev pub AreRight : {F : Type 0} → (F → Arity) → (F → List Mention) → Program F → Type 0
AreRight arity mentions p = All (λ f. IsTrue (list_all (is_right (scope_of arity p) (arity f).results) (mentions f))) p.functions
