-- The tokens of a text.
use Rattle.std.specs.Prelude.{◌≡◌, ℕ, ◌+◌, ◌&&◌, ◌||◌, ◌==◌, not, Bool, true, false, List, [], ◌∷◌, ◌++◌, length, codes, IsTrue, nat_eq}
use Rattle.std.specs.List.{list_all, starts_with}
use Rattle.pan_base.specs.Names.{is_digit}
use Rattle.pan_base.specs.Spelling.{is_space}
use Rattle.pan_base.specs.Tokens.{Kind, Placed, Spells, IsLongest}

-- a text that is empty or begins with a line feed
abbrev pub ends_line : List ℕ → Bool
ends_line [] = true
ends_line (b ∷ bs) = b == 10

-- the text has a `*/` in it
abbrev pub has_close : List ℕ → Bool
has_close [] = false
has_close (a ∷ []) = false
has_close (a ∷ b ∷ bs) = (a == 42 && b == 47) || has_close (b ∷ bs)

-- What stands between tokens, before this text: a byte of white space, a comment up to the end of its line, or a comment up to the first `*/`.
pub data IsGap (text rest : List ℕ) : Type 0 where
  WhiteSpace : (b : ℕ) → text ≡ b ∷ [] → IsTrue (is_space b) → IsGap text rest
  LineComment : (body : List ℕ) → text ≡ codes "//" ++ body → IsTrue (list_all (λ b. not (b == 10)) body) → IsTrue (ends_line rest) → IsGap text rest
  BlockComment : (body : List ℕ) → text ≡ codes "/*" ++ body ++ codes "*/" → has_close (body ++ codes "*") ≡ false → IsGap text rest

-- From byte `at` on, the text is a row of gaps and of these tokens, each the longest match, and then the rest.
pub data Row : ℕ → List ℕ → List Placed → List ℕ → Type 0 where
  Here : (at : ℕ) (rest : List ℕ) → Row at rest [] rest
  Gap : (at : ℕ) (bytes text more rest : List ℕ) (tokens : List Placed) → bytes ≡ text ++ more → IsGap text more
      → Row (at + length text) more tokens rest → Row at bytes tokens rest
  Next : (at : ℕ) (bytes text more rest : List ℕ) (kind : Kind) (tokens : List Placed) → bytes ≡ text ++ more → Spells text kind → IsLongest kind more
      → Row (at + length text) more tokens rest → Row at bytes (record { kind = kind; span = record { start = at; end = at + length text } } ∷ tokens) rest

-- the tokens of a text, with their places
abbrev pub Lexes : List ℕ → List Placed → Type 0
Lexes bytes tokens = Row 0 bytes tokens []

-- no gap and no token begins at this text, which isn't empty
pub record IsStuck (rest : List ℕ) : Type 0 where
  pub there : rest ≡ [] → ⊥
  pub no_gap : (text more : List ℕ) → rest ≡ text ++ more → ¬ IsGap text more
  pub no_token : (text more : List ℕ) (kind : Kind) → rest ≡ text ++ more → Spells text kind → ¬ IsLongest kind more

-- the text up to this place is a row of gaps and tokens, and nothing goes on there
pub record IsStuckAt (bytes : List ℕ) (place : ℕ) (rest : List ℕ) : Type 0 where
  pub tokens : List Placed
  pub row : Row 0 bytes tokens rest
  pub at : place + length rest ≡ length bytes
  pub stuck : IsStuck rest

-- a number begins here, which is no token
abbrev pub begins_number : List ℕ → Bool
begins_number [] = false
begins_number (b ∷ bs) = is_digit b

-- a comment begins here, which has no end
abbrev pub begins_block : List ℕ → Bool
begins_block rest = starts_with nat_eq rest (codes "/*")
