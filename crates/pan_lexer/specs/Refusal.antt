-- What a source is refused for.
use Rattle.std.specs.Prelude.{◌≡◌, ℕ, ◌<◌, ◌≤◌, ◌&&◌, not, Bool, if◌then◌else◌, List, length, IsTrue}
use Rattle.pan_base.specs.Lexing.{IsStuckAt, begins_number, begins_block}
use Rattle.pan_lexer.specs.TokenRow.{source_limit}
use Rattle.pan_lexer.specs.declared.error.LexError.{LexError}
use Rattle.pan_lexer.specs.declared.error.LexError.TheVariants.{TooLong, BadByte, BadNumber, OpenComment, NoMemory}

-- neither a number nor a comment with no end begins here
abbrev pub begins_other : List ℕ → Bool
begins_other rest = not (begins_number rest) && not (begins_block rest)

-- the source isn't too long, and no gap and no token begins at this place, where this begins
pub record IsRefusedAt (bytes : List ℕ) (place : ℕ) (begins : List ℕ → Bool) : Type 0 where
  pub short : length bytes ≤ source_limit
  pub rest : List ℕ
  pub stuck : IsStuckAt bytes place rest
  pub begun : IsTrue (begins rest)

-- the bytes have no tokens, for this reason
abbrev pub Refusal : List ℕ → LexError → Type 0
Refusal bytes TooLong = source_limit < length bytes
Refusal bytes (BadByte place) = IsRefusedAt bytes place begins_other
Refusal bytes (BadNumber place) = IsRefusedAt bytes place begins_number
Refusal bytes (OpenComment place) = IsRefusedAt bytes place begins_block
Refusal bytes NoMemory = ⊥

-- the reason why nothing goes on at the place, where this begins
abbrev pub error_at : ℕ → List ℕ → LexError
error_at place rest = if begins_number rest then BadNumber place else (if begins_block rest then OpenComment place else BadByte place)

-- nothing goes on at a place of the text, and this is the reason
abbrev pub IsStuckBy : List ℕ → LexError → Type 0
IsStuckBy bytes e = (place : ℕ) × (rest : List ℕ) × IsStuckAt bytes place rest × (e ≡ error_at place rest)
