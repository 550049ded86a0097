-- Tokens as they are printed, and their text.
use Rattle.std.specs.Prelude.{ℕ, Bool, true, false, if◌then◌else◌, List, [], ◌∷◌, ◌++◌, flat_map, codes, decimal}
use Rattle.pan_base.specs.declared.tokens.Keyword.{Keyword}
use Rattle.pan_base.specs.declared.tokens.Sign.{Sign}
use Rattle.pan_base.specs.declared.tokens.Sign.TheVariants as signs
use Rattle.pan_base.specs.Tokens.{Kind, Name, Reserved, Number, Load, Store, Foreign, Base, Biw, ASign, keyword_text, sign_text, bits_text}

-- A token's one printed spelling. Numbers are decimal.
abbrev pub spelling : Kind → List ℕ
spelling (Name name) = name
spelling (Reserved word) = keyword_text word
spelling (Number n) = decimal n
spelling (Load size) = codes "!ld" ++ bits_text size
spelling (Store size) = codes "!st" ++ bits_text size
spelling (Foreign name) = codes "@" ++ name
spelling Base = codes "@base"
spelling Biw = codes "@biw"
spelling (ASign s) = sign_text s

-- a printed token: a line feed stands behind it, or else a space
pub record Piece : Type 0 where
  pub kind : Kind
  pub ends_line : Bool

unfoldable pub piece_text : Piece → List ℕ
piece_text p = spelling p.kind ++ (if p.ends_line then codes "\n" else codes " ")

-- the text of printed tokens
abbrev pub text_of : List Piece → List ℕ
text_of pieces = flat_map piece_text pieces

-- a token with a space behind it, and one with a line feed
abbrev pub spaced : Kind → Piece
spaced kind = record { kind = kind; ends_line = false }

abbrev pub ending : Kind → Piece
ending kind = record { kind = kind; ends_line = true }

-- signs, reserved words, names and numbers with a space behind them
abbrev pub sign : Sign → Piece
sign s = spaced (ASign s)

abbrev pub word : Keyword → Piece
word w = spaced (Reserved w)

abbrev pub name : List ℕ → Piece
name x = spaced (Name x)

abbrev pub number : ℕ → Piece
number n = spaced (Number n)

-- `;` ends a line
abbrev pub semicolon : Piece
semicolon = ending (ASign signs.Semicolon)

-- the tokens of each part, with commas between them
abbrev pub with_commas : {X : Type 0} → (X → List Piece) → List X → List Piece
with_commas pieces [] = []
with_commas pieces (x ∷ xs) = pieces x ++ flat_map (λ x. sign signs.Comma ∷ pieces x) xs
