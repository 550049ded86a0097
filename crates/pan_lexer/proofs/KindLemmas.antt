-- What words are.
use Rattle.std.proofs.Common.{◌≡◌, ℕ, true, false, not, List, [], ◌∷◌, ◌++◌, drop, take, codes, Some, None, sym, ap, ◌∙◌, subst, refl}
use Rattle.std.specs.Str.{bytes_eq}
use Rattle.std.proofs.lemmas.List.{take-append-drop}
use Rattle.std.proofs.lemmas.Slice.Eq.{bytes_eq-Decides}
use Rattle.pan_base.specs.Names.{is_spelled}
use Rattle.pan_base.specs.Tokens.{Kind, Name, Reserved, Load, Store, Foreign, Base, Biw, Spells, keyword_text, keywords, is_reserved, bits_text}
use Rattle.pan_base.specs.declared.events.Size.{Size}
use Rattle.pan_base.specs.declared.events.Size.TheVariants.{B1, B2, B4, B8}
use Rattle.pan_base.specs.declared.tokens.Keyword.{Keyword}
use Rattle.pan_base.specs.declared.tokens.Keyword.TheVariants as keyword
use Rattle.pan_lexer.specs.Pieces.{keyword_of, named, size_of, access_of, begins_letter, foreign_of}
use Rattle.pan_lexer.proofs.TestLemmas.{not_true, if_some, mapped_some, no_some, none_or_some, found_passes, none_passes, none_found}

-- ---- reserved words and names

keyword_is : (word : List ℕ) (k : Keyword) → keyword_of word ≡ Some k → word ≡ keyword_text k
unfolding keyword_of
keyword_is word k e = (bytes_eq-Decides word (keyword_text k)).0 (found_passes (λ k. bytes_eq word (keyword_text k)) keywords k e)

keyword_found : (k : Keyword) → keyword_of (keyword_text k) ≡ Some k
unfolding keyword_of
keyword_found = elim [
  | keyword.Exception ↦ refl
  | keyword.Fun ↦ refl
  | keyword.Skip ↦ refl
  | keyword.Var ↦ refl
  | keyword.St ↦ refl
  | keyword.Stb ↦ refl
  | keyword.If ↦ refl
  | keyword.Else ↦ refl
  | keyword.While ↦ refl
  | keyword.Break ↦ refl
  | keyword.Continue ↦ refl
  | keyword.Handle ↦ refl
  | keyword.Return ↦ refl
  | keyword.Raise ↦ refl
  | keyword.Lds ↦ refl
  | keyword.Ldb ↦ refl
]

pub keyword_spelled : (k : Keyword) → is_spelled (keyword_text k) ≡ true
keyword_spelled = elim [
  | keyword.Exception ↦ refl
  | keyword.Fun ↦ refl
  | keyword.Skip ↦ refl
  | keyword.Var ↦ refl
  | keyword.St ↦ refl
  | keyword.Stb ↦ refl
  | keyword.If ↦ refl
  | keyword.Else ↦ refl
  | keyword.While ↦ refl
  | keyword.Break ↦ refl
  | keyword.Continue ↦ refl
  | keyword.Handle ↦ refl
  | keyword.Return ↦ refl
  | keyword.Raise ↦ refl
  | keyword.Lds ↦ refl
  | keyword.Ldb ↦ refl
]

no_keyword : (word : List ℕ) → keyword_of word ≡ None → is_reserved word ≡ false
unfolding keyword_of
no_keyword word e = none_passes (λ k. bytes_eq word (keyword_text k)) keywords e

not_reserved : (word : List ℕ) → is_reserved word ≡ false → keyword_of word ≡ None
unfolding keyword_of
not_reserved word e = none_found (λ k. bytes_eq word (keyword_text k)) keywords e

-- what a word is spells it
pub named_spells : (word : List ℕ) → is_spelled word ≡ true → Spells word (named word (keyword_of word))
named_spells word spelled =
    none_or_some (Spells word (named word (keyword_of word))) (keyword_of word)
    (λ e. let free : not (is_reserved word) ≡ true = ap not (no_keyword word e) in
    subst (λ k. Spells word (named word k)) (sym e) (refl, spelled, free))
    (λ k e. subst (λ k. Spells word (named word k)) (sym e) (keyword_is word k e))

pub name_named : (word : List ℕ) → not (is_reserved word) ≡ true → named word (keyword_of word) ≡ Name word
name_named word free = ap (named word) (not_reserved word (not_true (is_reserved word) free))

pub keyword_named : (k : Keyword) → named (keyword_text k) (keyword_of (keyword_text k)) ≡ Reserved k
keyword_named k = ap (named (keyword_text k)) (keyword_found k)

-- ---- accesses

size_is : (digits : List ℕ) (s : Size) → size_of digits ≡ Some s → digits ≡ bits_text s
unfolding size_of
size_is digits s e = (bytes_eq-Decides digits (bits_text s)).0 (found_passes (λ s. bytes_eq digits (bits_text s)) (B1 ∷ B2 ∷ B4 ∷ B8 ∷ []) s e)

begins_with : (text word : List ℕ) → bytes_eq (take 2 word) text ≡ true → word ≡ text ++ drop 2 word
begins_with text word e = sym (take-append-drop 2 word) ∙ ap (λ front. front ++ drop 2 word) ((bytes_eq-Decides (take 2 word) text).0 e)

-- an access, of which this is the word after the `!`
pub data IsAccess (word : List ℕ) : Kind → Type 0 where
  Loads : (s : Size) → word ≡ codes "ld" ++ bits_text s → IsAccess word (Load s)
  Stores : (s : Size) → word ≡ codes "st" ++ bits_text s → IsAccess word (Store s)

pub access_is : (word : List ℕ) (k : Kind) → access_of word ≡ Some k → IsAccess word k
unfolding access_of
access_is word k e =
    if_some (bytes_eq (take 2 word) (codes "ld")) _ _ k
    (λ is same. mapped_some Load (size_of (drop 2 word)) k
    (λ s found gives. subst (IsAccess word) gives (Loads s (begins_with (codes "ld") word is ∙ ap (λ ds. codes "ld" ++ ds) (size_is (drop 2 word) s found)))) same)
    (λ _ same. if_some (bytes_eq (take 2 word) (codes "st")) _ _ k
    (λ is same. mapped_some Store (size_of (drop 2 word)) k
    (λ s found gives. subst (IsAccess word) gives (Stores s (begins_with (codes "st") word is ∙ ap (λ ds. codes "st" ++ ds) (size_is (drop 2 word) s found)))) same)
    (λ _ same. no_some k same)
    same)
    e

pub load_found : (s : Size) → access_of (codes "ld" ++ bits_text s) ≡ Some (Load s)
unfolding access_of size_of
load_found = elim [ B1 ↦ refl | B2 ↦ refl | B4 ↦ refl | B8 ↦ refl ]

pub store_found : (s : Size) → access_of (codes "st" ++ bits_text s) ≡ Some (Store s)
unfolding access_of size_of
store_found = elim [ B1 ↦ refl | B2 ↦ refl | B4 ↦ refl | B8 ↦ refl ]

-- ---- foreign names and constants

-- a foreign name or constant, of which this is the word after the `@`
pub data IsForeign (word : List ℕ) : Kind → Type 0 where
  TheBase : word ≡ codes "base" → IsForeign word Base
  TheBiw : word ≡ codes "biw" → IsForeign word Biw
  TheName : begins_letter word ≡ true → bytes_eq word (codes "base") ≡ false → bytes_eq word (codes "biw") ≡ false → IsForeign word (Foreign word)

pub foreign_is : (word : List ℕ) (k : Kind) → foreign_of word ≡ Some k → IsForeign word k
unfolding foreign_of
foreign_is word k e =
    if_some (bytes_eq word (codes "base")) _ _ k
    (λ is same. let h : Base ≡ k = cc in subst (IsForeign word) h (TheBase ((bytes_eq-Decides word (codes "base")).0 is)))
    (λ no_base same. if_some (bytes_eq word (codes "biw")) _ _ k
    (λ is same. let h : Biw ≡ k = cc in subst (IsForeign word) h (TheBiw ((bytes_eq-Decides word (codes "biw")).0 is)))
    (λ no_biw same. if_some (begins_letter word) _ _ k
    (λ is same. let h : Foreign word ≡ k = cc in subst (IsForeign word) h (TheName is no_base no_biw))
    (λ _ same. no_some k same)
    same)
    same)
    e

pub foreign_found : (word : List ℕ) → begins_letter word ≡ true → not (bytes_eq word (codes "base")) ≡ true → not (bytes_eq word (codes "biw")) ≡ true → foreign_of word ≡ Some (Foreign word)
unfolding foreign_of
foreign_found word is no_base no_biw =
    let base : bytes_eq word (codes "base") ≡ false = not_true _ no_base in
    let biw : bytes_eq word (codes "biw") ≡ false = not_true _ no_biw in
    rw (base, biw, is) refl

pub base_found : foreign_of (codes "base") ≡ Some Base
unfolding foreign_of
base_found = refl

pub biw_found : foreign_of (codes "biw") ≡ Some Biw
unfolding foreign_of
biw_found = refl
