-- Tokens, with the bytes that names are, and how each is spelled.
use Rattle.std.specs.Prelude.{◌≡◌, ℕ, ◌^◌, ◌<◌, ◌||◌, nat_le, not, Bool, List, [], ◌∷◌, ◌++◌, length, codes, IsTrue, nat_eq}
use Rattle.std.specs.List.{list_all, list_any, starts_with}
use Rattle.std.specs.Str.{bytes_eq}
use Rattle.pan_base.specs.declared.events.Size.{Size}
use Rattle.pan_base.specs.declared.events.Size.TheVariants.{B1, B2, B4, B8}
use Rattle.pan_base.specs.declared.span.Span.{Span}
use Rattle.pan_base.specs.declared.tokens.Keyword.{Keyword}
use Rattle.pan_base.specs.declared.tokens.Keyword.TheVariants as keyword
use Rattle.pan_base.specs.declared.tokens.Sign.{Sign}
use Rattle.pan_base.specs.declared.tokens.Sign.TheVariants as sign
use Rattle.pan_base.specs.declared.tokens.TokenKind.{TokenKind}
use Rattle.pan_base.specs.declared.tokens.TokenKind.TheVariants as token
use Rattle.pan_base.specs.declared.tokens.Token.{Token}
use Rattle.pan_base.specs.Names.{is_spelled}
use Rattle.pan_base.specs.Spelling.{IsNumeral, begins_no_word}

-- what a token is, with the bytes of its name
pub data Kind : Type 0 where
  Name : (name : List ℕ) → Kind
  Reserved : (word : Keyword) → Kind
  Number : (n : ℕ) → Kind
  Load : (size : Size) → Kind
  Store : (size : Size) → Kind
  Foreign : (name : List ℕ) → Kind
  Base : Kind
  Biw : Kind
  ASign : (s : Sign) → Kind

abbrev pub kind_of : TokenKind → Kind
kind_of (token.Name name) = Name name.now
kind_of (token.Reserved word) = Reserved word
kind_of (token.Number n) = Number n
kind_of (token.Load size) = Load size
kind_of (token.Store size) = Store size
kind_of (token.Foreign name) = Foreign name.now
kind_of token.Base = Base
kind_of token.Biw = Biw
kind_of (token.Sign s) = ASign s

-- a token with its place
pub record Placed : Type 0 where
  pub kind : Kind
  pub span : Span

abbrev pub placed : Token → Placed
placed t = record { kind = kind_of t.kind; span = t.span }

abbrev pub keyword_text : Keyword → List ℕ
keyword_text keyword.Exception = codes "exception"
keyword_text keyword.Fun = codes "fun"
keyword_text keyword.Skip = codes "skip"
keyword_text keyword.Var = codes "var"
keyword_text keyword.St = codes "st"
keyword_text keyword.Stb = codes "stb"
keyword_text keyword.If = codes "if"
keyword_text keyword.Else = codes "else"
keyword_text keyword.While = codes "while"
keyword_text keyword.Break = codes "break"
keyword_text keyword.Continue = codes "continue"
keyword_text keyword.Handle = codes "handle"
keyword_text keyword.Return = codes "return"
keyword_text keyword.Raise = codes "raise"
keyword_text keyword.Lds = codes "lds"
keyword_text keyword.Ldb = codes "ldb"

abbrev pub keywords : List Keyword
keywords =
    keyword.Exception ∷ keyword.Fun ∷ keyword.Skip ∷ keyword.Var ∷ keyword.St ∷ keyword.Stb ∷ keyword.If ∷ keyword.Else
    ∷ keyword.While ∷ keyword.Break ∷ keyword.Continue ∷ keyword.Handle ∷ keyword.Return ∷ keyword.Raise ∷ keyword.Lds ∷ keyword.Ldb ∷ []

abbrev pub is_reserved : List ℕ → Bool
is_reserved name = list_any (λ word. bytes_eq name (keyword_text word)) keywords

abbrev pub sign_text : Sign → List ℕ
sign_text sign.OpenParen = codes "("
sign_text sign.CloseParen = codes ")"
sign_text sign.OpenBrace = codes "{"
sign_text sign.CloseBrace = codes "}"
sign_text sign.Less = codes "<"
sign_text sign.Greater = codes ">"
sign_text sign.Comma = codes ","
sign_text sign.Semicolon = codes ";"
sign_text sign.Dot = codes "."
sign_text sign.Assign = codes "="
sign_text sign.Plus = codes "+"
sign_text sign.Minus = codes "-"
sign_text sign.Star = codes "*"
sign_text sign.And = codes "&"
sign_text sign.Or = codes "|"
sign_text sign.Xor = codes "^"
sign_text sign.Equal = codes "=="
sign_text sign.NotEqual = codes "!="
sign_text sign.NotLess = codes ">="
sign_text sign.LessU = codes "<+"
sign_text sign.NotLessU = codes ">=+"
sign_text sign.ShiftLeft = codes "<<"
sign_text sign.ShiftRight = codes ">>>"
sign_text sign.ShiftSigned = codes ">>"
sign_text sign.Rotate = codes "#>>"

abbrev pub signs : List Sign
signs =
    sign.OpenParen ∷ sign.CloseParen ∷ sign.OpenBrace ∷ sign.CloseBrace ∷ sign.Less ∷ sign.Greater ∷ sign.Comma ∷ sign.Semicolon ∷ sign.Dot
    ∷ sign.Assign ∷ sign.Plus ∷ sign.Minus ∷ sign.Star ∷ sign.And ∷ sign.Or ∷ sign.Xor ∷ sign.Equal ∷ sign.NotEqual ∷ sign.NotLess
    ∷ sign.LessU ∷ sign.NotLessU ∷ sign.ShiftLeft ∷ sign.ShiftRight ∷ sign.ShiftSigned ∷ sign.Rotate ∷ []

-- the digits of a size in bits
abbrev pub bits_text : Size → List ℕ
bits_text B1 = codes "8"
bits_text B2 = codes "16"
bits_text B4 = codes "32"
bits_text B8 = codes "64"

-- the text is a spelling of the token
abbrev pub Spells : List ℕ → Kind → Type 0
Spells text (Name name) = (text ≡ name) × IsTrue (is_spelled name) × IsTrue (not (is_reserved name))
Spells text (Reserved word) = text ≡ keyword_text word
Spells text (Number n) = IsNumeral text n × (n < 2 ^ 64)
Spells text (Load size) = text ≡ codes "!ld" ++ bits_text size
Spells text (Store size) = text ≡ codes "!st" ++ bits_text size
Spells text (Foreign name) = (text ≡ codes "@" ++ name) × IsTrue (is_spelled name) × IsTrue (not (bytes_eq name (codes "base"))) × IsTrue (not (bytes_eq name (codes "biw")))
Spells text Base = text ≡ codes "@base"
Spells text Biw = text ≡ codes "@biw"
Spells text (ASign s) = text ≡ sign_text s

-- no sign that begins here is longer than this one
abbrev pub is_longest_sign : Sign → List ℕ → Bool
is_longest_sign s rest = list_all (λ other. not (starts_with nat_eq (sign_text s ++ rest) (sign_text other)) || nat_le (length (sign_text other)) (length (sign_text s))) signs

-- The token is the longest match before this text: a sign is the longest that begins there, and every other token takes all letters, `_` and digits that follow.
abbrev pub IsLongest : Kind → List ℕ → Type 0
IsLongest (ASign s) rest = IsTrue (is_longest_sign s rest)
IsLongest _ rest = IsTrue (begins_no_word rest)
