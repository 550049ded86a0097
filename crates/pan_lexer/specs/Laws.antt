-- Laws of the tokens of a text.
use Rattle.std.specs.Prelude.{◌≡◌, ℕ, ◌⊎◌, List}
use Rattle.pan_base.specs.Tokens.{Placed}
use Rattle.pan_base.specs.Lexing.{Lexes, IsStuckAt}

-- a text has one row of tokens at most
abbrev pub OneRow : Type 0
OneRow = (bytes : List ℕ) (a b : List Placed) → Lexes bytes a → Lexes bytes b → a ≡ b

-- a text that is stuck somewhere has no tokens
abbrev pub NoRowWhereStuck : Type 0
NoRowWhereStuck = (bytes rest : List ℕ) (place : ℕ) (tokens : List Placed) → IsStuckAt bytes place rest → ¬ Lexes bytes tokens

-- a text is stuck at one place at most
abbrev pub OneStuckPlace : Type 0
OneStuckPlace = (bytes rest other : List ℕ) (p q : ℕ) → IsStuckAt bytes p rest → IsStuckAt bytes q other → (p ≡ q) × (rest ≡ other)

-- a text that has no tokens is stuck somewhere
abbrev pub RowOrStuck : Type 0
RowOrStuck = (bytes : List ℕ) → ((tokens : List Placed) × Lexes bytes tokens) ⊎ ((place : ℕ) × (rest : List ℕ) × IsStuckAt bytes place rest)
