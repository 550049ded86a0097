-- The tokens of a source, as contracts see them.
use Rattle.std.specs.Prelude.{ℕ, ◌<◌, ◌≤◌, List, [], ◌∷◌}
use Rattle.std.specs.List.{All}
use Rattle.pan_base.specs.Tokens.{Kind, Placed, Spells}

-- the tokens with their places, and how many bytes the source has
pub record TokenRow : Type 0 where
  pub tokens : List Placed
  pub source_len : ℕ

-- the tokens stand one after another between the two places, and none is empty
abbrev pub IsInOrder : ℕ → List Placed → ℕ → Type 0
IsInOrder from [] end = from ≤ end
IsInOrder from (t ∷ ts) end = (from ≤ t.span.start) × (t.span.start < t.span.end) × IsInOrder t.span.end ts end

-- the longest source, in bytes
abbrev pub source_limit : ℕ
source_limit = 1048576

-- some text is a spelling of the token
abbrev pub IsSpelled : Kind → Type 0
IsSpelled kind = (text : List ℕ) × Spells text kind

-- the tokens stand in order within the source, which isn't too long, and each is spelled somehow
pub record IsLawful (row : TokenRow) : Type 0 where
  pub in_order : IsInOrder 0 row.tokens row.source_len
  pub short : row.source_len ≤ source_limit
  pub spelled : All (λ t. IsSpelled t.kind) row.tokens
