-- The token that a text begins with is the one that `token_of` gives.
use Rattle.std.proofs.Common.{◌≡◌, ℕ, ◌^◌, ◌<◌, Bool, true, false, not, eqb, List, [], ◌∷◌, ◌++◌, drop, codes, length, Option, Some, None, option_map, sym, ap, ◌∙◌, subst, refl, arith}
use Rattle.std.specs.List.{list_all}
use Rattle.std.proofs.Math.Seq.{drop-append_seam}
use Rattle.std.proofs.lemmas.Bool.Decides.{nat_tests, Decides-eqb}
use Rattle.pan_base.specs.Names.{is_digit, is_letter, is_word_byte, is_spelled}
use Rattle.pan_base.specs.Spelling.{is_hex_digit, numeral, IsNumeral, Decimal, Hexadecimal, begins_no_word}
use Rattle.pan_base.specs.Tokens.{Kind, Name, Reserved, Number, Load, Store, Foreign, Base, Biw, ASign, Spells, IsLongest, keyword_text, bits_text, sign_text}
use Rattle.pan_base.specs.declared.events.Size.{Size}
use Rattle.pan_base.specs.declared.events.Size.TheVariants.{B1, B2, B4, B8}
use Rattle.pan_base.specs.declared.tokens.Keyword.{Keyword}
use Rattle.pan_base.specs.declared.tokens.Sign.{Sign}
use Rattle.pan_base.specs.declared.tokens.Sign.TheVariants as sign
use Rattle.pan_lexer.specs.Pieces.{word_of, after_word, keyword_of, named, access_of, begins_letter, foreign_of, sign_of, number_token, word_token, access_token, foreign_token, sign_token, or_else, token_of}
use Rattle.pan_lexer.proofs.TestLemmas.{both_true, if_some, mapped_some, no_some}
use Rattle.pan_lexer.proofs.KindLemmas.{keyword_spelled, named_spells, name_named, keyword_named, IsAccess, Loads, Stores, access_is, load_found, store_found, IsForeign, TheBase, TheBiw, TheName, foreign_is, foreign_found, base_found, biw_found}
use Rattle.pan_lexer.proofs.NumeralLemmas.{numeral_spelled, numeral_is}
use Rattle.pan_lexer.proofs.SignLemmas.{sign_at, sign_given}
use Rattle.pan_lexer.proofs.WordLemmas.{word_split, word_passes, after_word_stops, word_is, after_word_is, word_begins, letter_is_word, digit_is_word}

-- the text begins with this token, and goes on with the rest
pub record TokenAt (bytes : List ℕ) (kind : Kind) (rest : List ℕ) : Type 0 where
  pub text : List ℕ
  pub all : bytes ≡ text ++ rest
  pub spelled : Spells text kind
  pub longest : IsLongest kind rest

-- ---- what `token_of` gives is there

-- at a pair
abbrev Found : List ℕ → Kind × List ℕ → Type 0
Found bytes t = TokenAt bytes t.0 t.1

-- the word that a text with a letter at its front begins with
word_spelled : (b : ℕ) (bs : List ℕ) → is_letter b ≡ true → is_spelled (word_of (b ∷ bs)) ≡ true
word_spelled b bs is =
    let word : word_of (b ∷ bs) ≡ b ∷ word_of bs = word_begins b bs (letter_is_word b is) in
    subst (λ word. is_spelled word ≡ true) (sym word) (rw (is, word_passes bs) refl)

number_found : (bytes : List ℕ) (t : Kind × List ℕ) → number_token bytes ≡ Some t → Found bytes t
unfolding number_token
number_found bytes t =
    mapped_some (λ n. (Number n, after_word bytes)) (numeral (word_of bytes)) t
    (λ n is same. subst (Found bytes) same (record {
      text = word_of bytes;
      all = word_split bytes;
      spelled = numeral_spelled (word_of bytes) n is;
      longest = after_word_stops bytes;
    }))

named_longest : (word rest : List ℕ) (k : Option Keyword) → begins_no_word rest ≡ true → IsLongest (named word k) rest
named_longest word rest None end = end
named_longest word rest (Some k) end = end

word_found : (b : ℕ) (bs : List ℕ) (t : Kind × List ℕ) → is_letter b ≡ true → word_token (b ∷ bs) ≡ Some t → Found (b ∷ bs) t
unfolding word_token
word_found b bs t is e =
    let same : ◌≡◌ {A = Kind × List ℕ} (named (word_of (b ∷ bs)) (keyword_of (word_of (b ∷ bs))), after_word (b ∷ bs)) t = cc in
    subst (Found (b ∷ bs)) same (record {
      text = word_of (b ∷ bs);
      all = word_split (b ∷ bs);
      spelled = named_spells (word_of (b ∷ bs)) (word_spelled b bs is);
      longest = named_longest (word_of (b ∷ bs)) (after_word (b ∷ bs)) (keyword_of (word_of (b ∷ bs))) (after_word_stops (b ∷ bs));
    })

-- a token that begins with this byte, and ends with the word
record Marked (mark : ℕ) (word : List ℕ) (k : Kind) : Type 0 where
  spelled : Spells (mark ∷ word) k
  longest : (rest : List ℕ) → begins_no_word rest ≡ true → IsLongest k rest

marked_found : (mark : ℕ) (bytes : List ℕ) (k : Kind) → Marked mark (word_of bytes) k → Found (mark ∷ bytes) (k, after_word bytes)
marked_found mark bytes k marked = record {
  text = mark ∷ word_of bytes;
  all = ap (λ bs. mark ∷ bs) (word_split bytes);
  spelled = marked.spelled;
  longest = marked.longest (after_word bytes) (after_word_stops bytes);
}

access_marked : (word : List ℕ) (k : Kind) → IsAccess word k → Marked 33 word k
access_marked word k (Loads s is) = record { spelled = ap (λ w. 33 ∷ w) is; longest = λ _ end. end }
access_marked word k (Stores s is) = record { spelled = ap (λ w. 33 ∷ w) is; longest = λ _ end. end }

begun_spelled : (word : List ℕ) → begins_letter word ≡ true → list_all is_word_byte word ≡ true → is_spelled word ≡ true
begun_spelled [] is all = is
begun_spelled (b ∷ bs) is all = let parts = both_true (is_word_byte b) (list_all is_word_byte bs) all in rw (is, parts.1) refl

foreign_marked : (word : List ℕ) (k : Kind) → list_all is_word_byte word ≡ true → IsForeign word k → Marked 64 word k
foreign_marked word k all (TheBase is) = record { spelled = ap (λ w. 64 ∷ w) is; longest = λ _ end. end }
foreign_marked word k all (TheBiw is) = record { spelled = ap (λ w. 64 ∷ w) is; longest = λ _ end. end }
foreign_marked word k all (TheName is no_base no_biw) = record { spelled = (refl, begun_spelled word is all, ap not no_base, ap not no_biw); longest = λ _ end. end }

access_found : (bytes : List ℕ) (t : Kind × List ℕ) → access_token bytes ≡ Some t → Found (33 ∷ bytes) t
unfolding access_token
access_found bytes t =
    mapped_some (λ k. (k, after_word bytes)) (access_of (word_of bytes)) t
    (λ k is same. subst (Found (33 ∷ bytes)) same (marked_found 33 bytes k (access_marked (word_of bytes) k (access_is (word_of bytes) k is))))

foreign_token_found : (bytes : List ℕ) (t : Kind × List ℕ) → foreign_token bytes ≡ Some t → Found (64 ∷ bytes) t
unfolding foreign_token
foreign_token_found bytes t =
    mapped_some (λ k. (k, after_word bytes)) (foreign_of (word_of bytes)) t
    (λ k is same. subst (Found (64 ∷ bytes)) same (marked_found 64 bytes k (foreign_marked (word_of bytes) k (word_passes bytes) (foreign_is (word_of bytes) k is))))

sign_token_found : (bytes : List ℕ) (t : Kind × List ℕ) → sign_token bytes ≡ Some t → Found bytes t
unfolding sign_token
sign_token_found bytes t =
    mapped_some (λ s. (ASign s, drop (length (sign_text s)) bytes)) (sign_of bytes) t
    (λ s is same. let at = sign_at bytes s is in subst (Found bytes) same (record {
      text = sign_text s;
      all = at.all;
      spelled = refl;
      longest = at.longest;
    }))

either_found : (bytes : List ℕ) (first second : Option (Kind × List ℕ)) (t : Kind × List ℕ) → (first ≡ Some t → Found bytes t) → (second ≡ Some t → Found bytes t) → or_else first second ≡ Some t → Found bytes t
either_found bytes None second t one other e = other e
either_found bytes (Some u) second t one other e = one e

at_byte : (b mark : ℕ) (bs : List ℕ) (t : Kind × List ℕ) → eqb b mark ≡ true → Found (mark ∷ bs) t → Found (b ∷ bs) t
at_byte b mark bs t is found = subst (λ b. Found (b ∷ bs) t) (sym ((Decides-eqb b mark).0 is)) found

-- what `token_of` gives is there
pub token_found : (bytes : List ℕ) (t : Kind × List ℕ) → token_of bytes ≡ Some t → TokenAt bytes t.0 t.1
unfolding token_of
token_found [] t e = no_some t e
token_found (b ∷ bs) t e =
    if_some (is_digit b) _ _ t
    (λ _ same. number_found (b ∷ bs) t same)
    (λ _ same. if_some (is_letter b) _ _ t
    (λ is same. word_found b bs t is same)
    (λ _ same. if_some (eqb b 64) _ _ t
    (λ is same. at_byte b 64 bs t is (foreign_token_found bs t same))
    (λ _ same. if_some (eqb b 33) _ _ t
    (λ is same. either_found (b ∷ bs) (access_token bs) (sign_token (b ∷ bs)) t (λ e. at_byte b 33 bs t is (access_found bs t e)) (sign_token_found (b ∷ bs) t) same)
    (λ _ same. sign_token_found (b ∷ bs) t same)
    same)
    same)
    same)
    e

-- ---- and what is there is given

hex_digit_is_word : (b : ℕ) → is_hex_digit b ≡ true → is_word_byte b ≡ true
hex_digit_is_word b h = grind (arith, nat_tests)

letter_no_digit : (b : ℕ) → is_letter b ≡ true → is_digit b ≡ false
letter_no_digit b h = grind (arith, nat_tests)

all_words : (p : ℕ → Bool) → ((b : ℕ) → p b ≡ true → is_word_byte b ≡ true) → (bytes : List ℕ) → list_all p bytes ≡ true → list_all is_word_byte bytes ≡ true
all_words p each [] all = refl
all_words p each (b ∷ bs) all =
    let parts = both_true (p b) (list_all p bs) all in
    rw (each b parts.0, all_words p each bs parts.1) refl

-- a numeral is a word that begins with a digit
pub numeral_word : (text : List ℕ) (n : ℕ) → IsNumeral text n → (b : ℕ) × (bs : List ℕ) × (text ≡ b ∷ bs) × (is_digit b ≡ true) × (list_all is_word_byte (b ∷ bs) ≡ true)
numeral_word text n (Decimal d ds is all value) =
    (d, ds, is, (both_true (is_digit d) (list_all is_digit ds) all).0, all_words is_digit digit_is_word (d ∷ ds) all)
numeral_word text n (Hexadecimal d ds is all value) =
    (48, 120 ∷ d ∷ ds, is, refl, all_words is_hex_digit hex_digit_is_word (d ∷ ds) all)

number_step : (b : ℕ) (bs : List ℕ) → is_digit b ≡ true → token_of (b ∷ bs) ≡ number_token (b ∷ bs)
unfolding token_of
number_step b bs first = rw first refl

number_token_is : (word rest : List ℕ) (n : ℕ) → list_all is_word_byte word ≡ true → begins_no_word rest ≡ true → numeral word ≡ Some n → number_token (word ++ rest) ≡ Some (Number n, rest)
unfolding number_token
number_token_is word rest n all end value =
    ap (λ after. option_map (λ n. (Number n, after)) (numeral (word_of (word ++ rest)))) (after_word_is word rest all end)
    ∙ ap (λ word. option_map (λ n. (Number n, rest)) (numeral word)) (word_is word rest all end)
    ∙ ap (option_map (λ n. (Number n, rest))) value

number_given : (text rest : List ℕ) (n : ℕ) → IsNumeral text n → n < 2 ^ 64 → begins_no_word rest ≡ true → token_of (text ++ rest) ≡ Some (Number n, rest)
number_given text rest n spelled small end =
    let w = numeral_word text n spelled in
    let value : numeral (w.0 ∷ w.1) ≡ Some n = ap numeral (sym w.2) ∙ numeral_is text n spelled small in
    ap (λ text. token_of (text ++ rest)) w.2 ∙ number_step w.0 (w.1 ++ rest) w.3 ∙ number_token_is (w.0 ∷ w.1) rest n w.4 end value

word_step : (b : ℕ) (bs : List ℕ) → is_letter b ≡ true → token_of (b ∷ bs) ≡ word_token (b ∷ bs)
unfolding token_of
word_step b bs first = rw (letter_no_digit b first, first) refl

word_token_is : (word rest : List ℕ) → list_all is_word_byte word ≡ true → begins_no_word rest ≡ true → word_token (word ++ rest) ≡ Some (named word (keyword_of word), rest)
unfolding word_token
word_token_is word rest all end =
    ap (λ after. Some (named (word_of (word ++ rest)) (keyword_of (word_of (word ++ rest))), after)) (after_word_is word rest all end)
    ∙ ap (λ word. Some (named word (keyword_of word), rest)) (word_is word rest all end)

word_given : (word rest : List ℕ) → is_spelled word ≡ true → begins_no_word rest ≡ true → token_of (word ++ rest) ≡ Some (named word (keyword_of word), rest)
word_given [] rest spelled end = absurd (cc)
word_given (b ∷ bs) rest spelled end =
    let parts = both_true (is_letter b) (list_all is_word_byte bs) spelled in
    let all : list_all is_word_byte (b ∷ bs) ≡ true = rw (letter_is_word b parts.0, parts.1) refl in
    word_step b (bs ++ rest) parts.0 ∙ word_token_is (b ∷ bs) rest all end

foreign_step : (bs : List ℕ) → token_of (64 ∷ bs) ≡ foreign_token bs
unfolding token_of
foreign_step bs = refl

foreign_given : (word rest : List ℕ) (k : Kind) → list_all is_word_byte word ≡ true → begins_no_word rest ≡ true → foreign_of word ≡ Some k → token_of (64 ∷ (word ++ rest)) ≡ Some (k, rest)
unfolding foreign_token
foreign_given word rest k all end value =
    foreign_step (word ++ rest)
    ∙ ap (λ after. option_map (λ k. (k, after)) (foreign_of (word_of (word ++ rest)))) (after_word_is word rest all end)
    ∙ ap (λ word. option_map (λ k. (k, rest)) (foreign_of word)) (word_is word rest all end)
    ∙ ap (option_map (λ k. (k, rest))) value

access_step : (bs : List ℕ) → token_of (33 ∷ bs) ≡ or_else (access_token bs) (sign_token (33 ∷ bs))
unfolding token_of
access_step bs = refl

access_token_is : (word rest : List ℕ) (k : Kind) → list_all is_word_byte word ≡ true → begins_no_word rest ≡ true → access_of word ≡ Some k → access_token (word ++ rest) ≡ Some (k, rest)
unfolding access_token
access_token_is word rest k all end value =
    ap (λ after. option_map (λ k. (k, after)) (access_of (word_of (word ++ rest)))) (after_word_is word rest all end)
    ∙ ap (λ word. option_map (λ k. (k, rest)) (access_of word)) (word_is word rest all end)
    ∙ ap (option_map (λ k. (k, rest))) value

access_given : (word rest : List ℕ) (k : Kind) → list_all is_word_byte word ≡ true → begins_no_word rest ≡ true → access_of word ≡ Some k → token_of (33 ∷ (word ++ rest)) ≡ Some (k, rest)
access_given word rest k all end value =
    access_step (word ++ rest) ∙ ap (λ first. or_else first (sign_token (33 ∷ (word ++ rest)))) (access_token_is word rest k all end value)

load_word : (s : Size) → list_all is_word_byte (codes "ld" ++ bits_text s) ≡ true
load_word = elim [ B1 ↦ refl | B2 ↦ refl | B4 ↦ refl | B8 ↦ refl ]

store_word : (s : Size) → list_all is_word_byte (codes "st" ++ bits_text s) ≡ true
store_word = elim [ B1 ↦ refl | B2 ↦ refl | B4 ↦ refl | B8 ↦ refl ]

sign_step : (rest : List ℕ) (s : Sign) → token_of (sign_text s ++ rest) ≡ sign_token (sign_text s ++ rest)
unfolding token_of access_token access_of word_of
sign_step rest = elim [
  | sign.OpenParen ↦ refl
  | sign.CloseParen ↦ refl
  | sign.OpenBrace ↦ refl
  | sign.CloseBrace ↦ refl
  | sign.Less ↦ refl
  | sign.Greater ↦ refl
  | sign.Comma ↦ refl
  | sign.Semicolon ↦ refl
  | sign.Dot ↦ refl
  | sign.Assign ↦ refl
  | sign.Plus ↦ refl
  | sign.Minus ↦ refl
  | sign.Star ↦ refl
  | sign.And ↦ refl
  | sign.Or ↦ refl
  | sign.Xor ↦ refl
  | sign.Equal ↦ refl
  | sign.NotEqual ↦ refl
  | sign.NotLess ↦ refl
  | sign.LessU ↦ refl
  | sign.NotLessU ↦ refl
  | sign.ShiftLeft ↦ refl
  | sign.ShiftRight ↦ refl
  | sign.ShiftSigned ↦ refl
  | sign.Rotate ↦ refl
]

sign_given_token : (s : Sign) (rest : List ℕ) → IsLongest (ASign s) rest → token_of (sign_text s ++ rest) ≡ Some (ASign s, rest)
unfolding sign_token
sign_given_token s rest longest =
    sign_step rest s
    ∙ ap (option_map (λ t. (ASign t, drop (length (sign_text t)) (sign_text s ++ rest)))) (sign_given s rest longest)
    ∙ ap (λ after. Some (ASign s, after)) (drop-append_seam (sign_text s) rest)

spelled_begins : (word : List ℕ) → is_spelled word ≡ true → (begins_letter word ≡ true) × (list_all is_word_byte word ≡ true)
spelled_begins [] e = absurd (cc)
spelled_begins (b ∷ bs) e =
    let parts = both_true (is_letter b) (list_all is_word_byte bs) e in
    (parts.0, rw (letter_is_word b parts.0, parts.1) refl)

given : (k : Kind) (text rest : List ℕ) → Spells text k → IsLongest k rest → token_of (text ++ rest) ≡ Some (k, rest)
given (Name name) text rest spelled end =
    ap (λ text. token_of (text ++ rest)) spelled.0 ∙ word_given name rest spelled.1 end ∙ ap (λ k. Some (k, rest)) (name_named name spelled.2)
given (Reserved word) text rest spelled end =
    ap (λ text. token_of (text ++ rest)) spelled ∙ word_given (keyword_text word) rest (keyword_spelled word) end ∙ ap (λ k. Some (k, rest)) (keyword_named word)
given (Number n) text rest spelled end = number_given text rest n spelled.0 spelled.1 end
given (Load s) text rest spelled end =
    ap (λ text. token_of (text ++ rest)) spelled ∙ access_given (codes "ld" ++ bits_text s) rest (Load s) (load_word s) end (load_found s)
given (Store s) text rest spelled end =
    ap (λ text. token_of (text ++ rest)) spelled ∙ access_given (codes "st" ++ bits_text s) rest (Store s) (store_word s) end (store_found s)
given (Foreign name) text rest spelled end =
    let parts = spelled_begins name spelled.1 in
    ap (λ text. token_of (text ++ rest)) spelled.0 ∙ foreign_given name rest (Foreign name) parts.1 end (foreign_found name parts.0 spelled.2 spelled.3)
given Base text rest spelled end = ap (λ text. token_of (text ++ rest)) spelled ∙ foreign_given (codes "base") rest Base refl end base_found
given Biw text rest spelled end = ap (λ text. token_of (text ++ rest)) spelled ∙ foreign_given (codes "biw") rest Biw refl end biw_found
given (ASign s) text rest spelled longest = ap (λ text. token_of (text ++ rest)) spelled ∙ sign_given_token s rest longest

-- what is there is given
pub token_given : (bytes rest : List ℕ) (k : Kind) → TokenAt bytes k rest → token_of bytes ≡ Some (k, rest)
token_given bytes rest k at = ap token_of at.all ∙ given k at.text rest at.spelled at.longest
