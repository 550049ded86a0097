-- Values: words, and structs of values.
use Rattle.std.specs.Prelude.{ℕ, List, [], ◌∷◌, ◌++◌, Option, Some, None, option_and_then, slice_get}

-- a word, or a struct of values
mutual
  pub data Value : Type 0 where
    Word : ℕ → Value
    Struct : Values → Value

  pub data Values : Type 0 where
    none : Values
    more : Value → Values → Values

abbrev pub values_list : Values → List Value
values_list none = []
values_list (more v vs) = v ∷ values_list vs

abbrev pub values_of : List Value → Values
values_of [] = none
values_of (v ∷ vs) = more v (values_of vs)

-- the word, of a value that is one
abbrev pub word_of : Value → Option ℕ
word_of (Word n) = Some n
word_of (Struct parts) = None

-- a part of a struct, by its number from 0
abbrev pub part : Value → ℕ → Option Value
part (Word n) i = None
part (Struct parts) i = slice_get (values_list parts) i

-- a part of a part, and so on
abbrev pub part_of_part : Option Value → List ℕ → Option Value
part_of_part v [] = v
part_of_part v (i ∷ is) = part_of_part (option_and_then (λ v. part v i) v) is

-- the words of a value, in order
abbrev mutual
  pub words_in : Value → List ℕ
  words_in (Word n) = n ∷ []
  words_in (Struct parts) = words_in_all parts

  pub words_in_all : Values → List ℕ
  words_in_all none = []
  words_in_all (more v vs) = words_in v ++ words_in_all vs
