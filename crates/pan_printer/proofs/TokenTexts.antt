-- Which tokens can be printed, and how their text is read.
use Rattle.std.proofs.Common.{◌≡◌, ℕ, ◌+◌, Bool, true, false, List, [], ◌∷◌, ◌++◌, length, refl, append_assoc, ◌∙◌, ap}
use Rattle.std.specs.Prelude.{codes, IsTrue, if◌then◌else◌}
use Rattle.pan_base.specs.declared.tokens.Sign.{Sign}
use Rattle.pan_base.specs.declared.tokens.Sign.TheVariants as signs
use Rattle.pan_base.specs.Spelling.{is_space}
use Rattle.pan_base.specs.Tokens.{Kind, Placed, Name, Reserved, Number, Load, Store, Foreign, Base, Biw, ASign, Spells, IsLongest, is_longest_sign}
use Rattle.pan_base.specs.Lexing.{WhiteSpace, Row, Here, Gap, Next}
use Rattle.pan_printer.specs.Pieces.{spelling, Piece, piece_text, text_of}
use Rattle.pan_printer.proofs.Begins.{Begins, done, next}
use Rattle.pan_printer.proofs.Decimals.{decimal_spells}

-- its printed spelling is one
abbrev pub IsPrintable : Kind → Type 0
IsPrintable kind = Spells (spelling kind) kind

-- what is spelled somehow can be printed
pub spelled_prints : (text : List ℕ) (kind : Kind) → Spells text kind → IsPrintable kind
spelled_prints text (Name name) h = (refl, h.1, h.2)
spelled_prints text (Reserved word) h = refl
spelled_prints text (Number n) h = (decimal_spells n h.1, h.1)
spelled_prints text (Load size) h = refl
spelled_prints text (Store size) h = refl
spelled_prints text (Foreign name) h = (refl, h.1, h.2, h.3)
spelled_prints text Base h = refl
spelled_prints text Biw h = refl
spelled_prints text (ASign s) h = refl

-- every token of the row can be printed
abbrev pub Printable : List Placed → Type 0
Printable [] = Unit {0}
Printable (t ∷ ts) = IsPrintable t.kind × Printable ts

pub row_prints : (at : ℕ) (bytes rest : List ℕ) (tokens : List Placed) → Row at bytes tokens rest → Printable tokens
row_prints at bytes rest _ (Here _ _) = tt
row_prints at bytes rest tokens (Gap _ _ text more _ _ all gap row) = row_prints (at + length text) more rest tokens row
row_prints at bytes rest _ (Next _ _ text more _ kind tokens all spelled longest row) = (spelled_prints text kind spelled, row_prints (at + length text) more rest tokens row)

-- every printed token is one that can be
abbrev pub Good : List Piece → Type 0
Good [] = Unit {0}
Good (p ∷ ps) = IsPrintable p.kind × Good ps

pub good_append : (ps qs : List Piece) → Good ps → Good qs → Good (ps ++ qs)
good_append [] qs g h = h
good_append (p ∷ ps) qs g h = (g.0, good_append ps qs g.1 h)

-- ---- reading the text

space_ends_sign : (rest : List ℕ) (s : Sign) → IsTrue (is_longest_sign s (32 ∷ rest))
space_ends_sign rest = elim [
  | signs.OpenParen ↦ refl
  | signs.CloseParen ↦ refl
  | signs.OpenBrace ↦ refl
  | signs.CloseBrace ↦ refl
  | signs.Less ↦ refl
  | signs.Greater ↦ refl
  | signs.Comma ↦ refl
  | signs.Semicolon ↦ refl
  | signs.Dot ↦ refl
  | signs.Assign ↦ refl
  | signs.Plus ↦ refl
  | signs.Minus ↦ refl
  | signs.Star ↦ refl
  | signs.And ↦ refl
  | signs.Or ↦ refl
  | signs.Xor ↦ refl
  | signs.Equal ↦ refl
  | signs.NotEqual ↦ refl
  | signs.NotLess ↦ refl
  | signs.LessU ↦ refl
  | signs.NotLessU ↦ refl
  | signs.ShiftLeft ↦ refl
  | signs.ShiftRight ↦ refl
  | signs.ShiftSigned ↦ refl
  | signs.Rotate ↦ refl
]

line_ends_sign : (rest : List ℕ) (s : Sign) → IsTrue (is_longest_sign s (10 ∷ rest))
line_ends_sign rest = elim [
  | signs.OpenParen ↦ refl
  | signs.CloseParen ↦ refl
  | signs.OpenBrace ↦ refl
  | signs.CloseBrace ↦ refl
  | signs.Less ↦ refl
  | signs.Greater ↦ refl
  | signs.Comma ↦ refl
  | signs.Semicolon ↦ refl
  | signs.Dot ↦ refl
  | signs.Assign ↦ refl
  | signs.Plus ↦ refl
  | signs.Minus ↦ refl
  | signs.Star ↦ refl
  | signs.And ↦ refl
  | signs.Or ↦ refl
  | signs.Xor ↦ refl
  | signs.Equal ↦ refl
  | signs.NotEqual ↦ refl
  | signs.NotLess ↦ refl
  | signs.LessU ↦ refl
  | signs.NotLessU ↦ refl
  | signs.ShiftLeft ↦ refl
  | signs.ShiftRight ↦ refl
  | signs.ShiftSigned ↦ refl
  | signs.Rotate ↦ refl
]

-- what stands behind a token
gap_byte : Bool → ℕ
gap_byte true = 10
gap_byte false = 32

gap_ends : (ends_line : Bool) (kind : Kind) (rest : List ℕ) → IsLongest kind (gap_byte ends_line ∷ rest)
unfolding gap_byte
gap_ends true (ASign s) rest = line_ends_sign rest s
gap_ends true _ rest = refl
gap_ends false (ASign s) rest = space_ends_sign rest s
gap_ends false _ rest = refl

gap_is_space : (ends_line : Bool) → IsTrue (is_space (gap_byte ends_line))
unfolding gap_byte
gap_is_space true = refl
gap_is_space false = refl

piece_is : (p : Piece) → piece_text p ≡ spelling p.kind ++ gap_byte p.ends_line ∷ []
unfolding piece_text gap_byte
piece_is p = ap (λ gap. spelling p.kind ++ gap) (by_end p.ends_line)
  where
    by_end : (b : Bool) → (if b then codes "\n" else codes " ") ≡ gap_byte b ∷ []
    by_end true = refl
    by_end false = refl

-- a row of these tokens from a place on
pub record ReadsFrom (at : ℕ) (text : List ℕ) (ps : List Piece) : Type 0 where
  pub tokens : List Placed
  pub row : Row at text tokens []
  pub begins : Begins ps tokens []

-- the text of printed tokens is read as these tokens
pub reads_pieces : (at : ℕ) (ps : List Piece) → Good ps → ReadsFrom at (text_of ps) ps
reads_pieces at [] g = record { tokens = []; row = Here at []; begins = done [] }
reads_pieces at (p ∷ ps) g =
    let text : List ℕ = spelling p.kind in
    let gap : ℕ = gap_byte p.ends_line in
    let behind : ℕ = at + length text in
    let r = reads_pieces (behind + length (gap ∷ [])) ps g.1 in
    let whole : text_of (p ∷ ps) ≡ text ++ gap ∷ text_of ps = ap (λ first. first ++ text_of ps) (piece_is p) ∙ append_assoc text (gap ∷ []) (text_of ps) in
    record {
      tokens = record { kind = p.kind; span = record { start = at; end = behind } } ∷ r.tokens;
      row = Next at (text_of (p ∷ ps)) text (gap ∷ text_of ps) [] p.kind r.tokens whole g.0 (gap_ends p.ends_line p.kind (text_of ps)) (Gap behind (gap ∷ text_of ps) (gap ∷ []) (text_of ps) [] r.tokens refl (WhiteSpace gap refl (gap_is_space p.ends_line)) r.row);
      begins = next p (record { kind = p.kind; span = record { start = at; end = behind } }) ps r.tokens [] refl r.begins;
    }
