-- What a text begins with, by its first byte.
use Rattle.std.specs.Prelude.{ℕ, ◌&&◌, ◌==◌, not, Bool, false, if◌then◌else◌, List, [], ◌∷◌, drop, take, length, codes, Option, Some, None, option_map, nat_eq}
use Rattle.std.specs.List.{find, prefix_len, starts_with, take_while}
use Rattle.std.specs.Str.{bytes_eq}
use Rattle.pan_base.specs.Names.{is_digit, is_letter, is_word_byte}
use Rattle.pan_base.specs.Spelling.{is_space, numeral}
use Rattle.pan_base.specs.Tokens.{Kind, Name, Reserved, Number, Load, Store, Foreign, Base, Biw, ASign, keywords, keyword_text, sign_text, bits_text}
use Rattle.pan_base.specs.declared.events.Size.{Size}
use Rattle.pan_base.specs.declared.events.Size.TheVariants.{B1, B2, B4, B8}
use Rattle.pan_base.specs.declared.tokens.Keyword.{Keyword}
use Rattle.pan_base.specs.declared.tokens.Sign.{Sign}
use Rattle.pan_base.specs.declared.tokens.Sign.TheVariants as sign

-- the longest front of letters, `_` and digits
unfoldable pub word_of : List ℕ → List ℕ
word_of bytes = take_while is_word_byte bytes

-- what follows that front
unfoldable pub after_word : List ℕ → List ℕ
after_word bytes = drop (prefix_len is_word_byte bytes) bytes

-- the reserved word
unfoldable pub keyword_of : List ℕ → Option Keyword
keyword_of word = find (λ k. bytes_eq word (keyword_text k)) keywords

-- the reserved word, or else the name
abbrev pub named : List ℕ → Option Keyword → Kind
named word None = Name word
named word (Some k) = Reserved k

-- the size that digits stand for
unfoldable pub size_of : List ℕ → Option Size
size_of digits = find (λ s. bytes_eq digits (bits_text s)) (B1 ∷ B2 ∷ B4 ∷ B8 ∷ [])

-- the word after a `!`
unfoldable pub access_of : List ℕ → Option Kind
access_of word =
    if bytes_eq (take 2 word) (codes "ld") then option_map Load (size_of (drop 2 word))
    else (if bytes_eq (take 2 word) (codes "st") then option_map Store (size_of (drop 2 word))
    else None)

-- the text begins with a letter or `_`
abbrev pub begins_letter : List ℕ → Bool
begins_letter [] = false
begins_letter (b ∷ bs) = is_letter b

-- the word after an `@`
unfoldable pub foreign_of : List ℕ → Option Kind
foreign_of word =
    if bytes_eq word (codes "base") then Some Base
    else (if bytes_eq word (codes "biw") then Some Biw
    else (if begins_letter word then Some (Foreign word)
    else None))

-- the signs, the longer ones first
abbrev pub longest_first : List Sign
longest_first =
    sign.ShiftRight ∷ sign.NotLessU ∷ sign.Rotate ∷ sign.Equal ∷ sign.NotEqual ∷ sign.NotLess ∷ sign.LessU ∷ sign.ShiftLeft ∷ sign.ShiftSigned
    ∷ sign.OpenParen ∷ sign.CloseParen ∷ sign.OpenBrace ∷ sign.CloseBrace ∷ sign.Less ∷ sign.Greater ∷ sign.Comma ∷ sign.Semicolon ∷ sign.Dot
    ∷ sign.Assign ∷ sign.Plus ∷ sign.Minus ∷ sign.Star ∷ sign.And ∷ sign.Or ∷ sign.Xor ∷ []

-- the longest sign that the text begins with
unfoldable pub sign_of : List ℕ → Option Sign
sign_of bytes = find (λ s. starts_with nat_eq bytes (sign_text s)) longest_first

-- the number that the text begins with
unfoldable pub number_token : List ℕ → Option (Kind × List ℕ)
number_token bytes = option_map (λ n. (Number n, after_word bytes)) (numeral (word_of bytes))

-- the name or reserved word that the text begins with
unfoldable pub word_token : List ℕ → Option (Kind × List ℕ)
word_token bytes = Some (named (word_of bytes) (keyword_of (word_of bytes)), after_word bytes)

-- the access that goes on after a `!`
unfoldable pub access_token : List ℕ → Option (Kind × List ℕ)
access_token bytes = option_map (λ k. (k, after_word bytes)) (access_of (word_of bytes))

-- the foreign name or constant that goes on after an `@`
unfoldable pub foreign_token : List ℕ → Option (Kind × List ℕ)
foreign_token bytes = option_map (λ k. (k, after_word bytes)) (foreign_of (word_of bytes))

-- the sign that the text begins with
unfoldable pub sign_token : List ℕ → Option (Kind × List ℕ)
sign_token bytes = option_map (λ s. (ASign s, drop (length (sign_text s)) bytes)) (sign_of bytes)

-- the first, or else the second
abbrev pub or_else : {A : Type 0} → Option A → Option A → Option A
or_else None second = second
or_else (Some x) second = Some x

-- the first token and what follows it; the first byte tells which kind of token it is
unfoldable pub token_of : List ℕ → Option (Kind × List ℕ)
token_of [] = None
token_of (b ∷ bs) =
    if is_digit b then number_token (b ∷ bs)
    else (if is_letter b then word_token (b ∷ bs)
    else (if b == 64 then foreign_token bs
    else (if b == 33 then or_else (access_token bs) (sign_token (b ∷ bs))
    else sign_token (b ∷ bs))))

-- a byte that isn't a line feed
abbrev pub is_in_line : ℕ → Bool
is_in_line b = not (b == 10)

-- what follows the first `*/`
abbrev pub after_close : List ℕ → Option (List ℕ)
after_close [] = None
after_close (a ∷ []) = None
after_close (a ∷ b ∷ bs) = if a == 42 && b == 47 then Some bs else after_close (b ∷ bs)

-- what follows a comment, after its first `/`
unfoldable pub after_comment : List ℕ → Option (List ℕ)
after_comment [] = None
after_comment (c ∷ cs) =
    if c == 47 then Some (drop (prefix_len is_in_line cs) cs)
    else (if c == 42 then after_close cs
    else None)

-- what follows a byte of white space or a comment
unfoldable pub after_gap : List ℕ → Option (List ℕ)
after_gap [] = None
after_gap (b ∷ bs) = if is_space b then Some bs else (if b == 47 then after_comment bs else None)

-- what a text begins with, and what follows it: nothing stands for a gap
unfoldable pub piece_of : List ℕ → Option (Option Kind × List ℕ)
piece_of bytes = or_else (option_map (λ after. (None, after)) (after_gap bytes)) (option_map (λ t. (Some t.0, t.1)) (token_of bytes))
