-- What a text begins with is what `piece_of` gives.
use Rattle.std.proofs.Common.{◌≡◌, ℕ, ◌<◌, Bool, true, false, ◌||◌, eqb, ◌==◌, List, [], ◌∷◌, length, Option, Some, None, option_map, sym, ap, ◌∙◌, subst, refl, arith, length-append}
use Rattle.std.proofs.lemmas.Bool.Decides.{Decides-eqb}
use Rattle.pan_base.specs.Lexing.{IsGap, WhiteSpace, LineComment, BlockComment}
use Rattle.pan_base.specs.Spelling.{is_space}
use Rattle.pan_base.specs.Tokens.{Kind, Name, Reserved, Number, Load, Store, Foreign, Base, Biw, ASign, Spells}
use Rattle.pan_base.specs.Names.{is_spelled}
use Rattle.pan_lexer.specs.Pieces.{sign_of, sign_token, token_of, after_gap, or_else, piece_of}
use Rattle.pan_lexer.proofs.TestLemmas.{different, if_some, mapped_some, no_some, none_or_some}
use Rattle.pan_lexer.proofs.KindLemmas.{keyword_spelled}
use Rattle.pan_lexer.proofs.SignLemmas.{sign_found}
use Rattle.pan_lexer.proofs.TokenLemmas.{TokenAt, token_found, token_given, numeral_word}
use Rattle.pan_lexer.proofs.CommentLemmas.{GapAt, gap_found, gap_given}

-- the text begins with this token, or with a gap, and goes on with the rest
abbrev pub PieceAt : List ℕ → Option Kind → List ℕ → Type 0
PieceAt bytes None rest = GapAt bytes rest
PieceAt bytes (Some k) rest = TokenAt bytes k rest

-- ---- no token begins as a gap does

either_true : {P : Type 0} (a b : Bool) → (a ≡ true → P) → (b ≡ true → P) → (a || b) ≡ true → P
either_true true b one other e = one refl
either_true false b one other e = other e

no_token_at : (n b : ℕ) (bs : List ℕ) → token_of (n ∷ bs) ≡ None → eqb b n ≡ true → token_of (b ∷ bs) ≡ None
no_token_at n b bs none is = ap (λ b. token_of (b ∷ bs)) ((Decides-eqb b n).0 is) ∙ none

space_no_token : (b : ℕ) (bs : List ℕ) → is_space b ≡ true → token_of (b ∷ bs) ≡ None
unfolding token_of sign_token sign_of
space_no_token b bs =
    either_true (((b == 32) || (b == 9)) || (b == 10)) (b == 13)
    (either_true ((b == 32) || (b == 9)) (b == 10)
    (either_true (b == 32) (b == 9) (no_token_at 32 b bs refl) (no_token_at 9 b bs refl))
    (no_token_at 10 b bs refl))
    (no_token_at 13 b bs refl)

slash_no_token : (b : ℕ) (bs : List ℕ) → eqb b 47 ≡ true → token_of (b ∷ bs) ≡ None
unfolding token_of sign_token sign_of
slash_no_token b bs = no_token_at 47 b bs refl

gap_no_token : (bytes rest : List ℕ) → after_gap bytes ≡ Some rest → token_of bytes ≡ None
unfolding after_gap
gap_no_token [] rest e = no_some rest e
gap_no_token (b ∷ bs) rest e =
    if_some (is_space b) _ _ rest
    (λ is _. space_no_token b bs is)
    (λ _ same. if_some (eqb b 47) _ _ rest
    (λ is _. slash_no_token b bs is)
    (λ _ same. no_some rest same)
    same)
    e

token_no_gap : (bytes rest : List ℕ) (k : Kind) → token_of bytes ≡ Some (k, rest) → after_gap bytes ≡ None
token_no_gap bytes rest k e =
    none_or_some (after_gap bytes ≡ None) (after_gap bytes)
    (λ none. none)
    (λ after gap. absurd (different (sym (gap_no_token bytes after gap) ∙ e)))

-- ---- pieces

-- what `piece_of` gives is there
pub piece_found : (bytes : List ℕ) (p : Option Kind × List ℕ) → piece_of bytes ≡ Some p → PieceAt bytes p.0 p.1
unfolding piece_of
piece_found bytes p = by_gap (after_gap bytes) (gap_found bytes)
  where
    by_gap : (gap : Option (List ℕ)) → ((rest : List ℕ) → gap ≡ Some rest → GapAt bytes rest)
        → or_else (option_map (λ after. (None, after)) gap) (option_map (λ t. (Some t.0, t.1)) (token_of bytes)) ≡ Some p → PieceAt bytes p.0 p.1
    by_gap None found e =
        mapped_some (λ t. (Some t.0, t.1)) (token_of bytes) p
        (λ t is same. subst (λ p. PieceAt bytes p.0 p.1) same (token_found bytes t is))
        e
    by_gap (Some after) found e =
        let same : ◌≡◌ {A = Option Kind × List ℕ} (None, after) p = cc in
        subst (λ p. PieceAt bytes p.0 p.1) same (found after refl)

-- what is there is given
pub piece_given : (bytes : List ℕ) (k : Option Kind) (rest : List ℕ) → PieceAt bytes k rest → piece_of bytes ≡ Some (k, rest)
unfolding piece_of
piece_given bytes None rest at =
    let gap : after_gap bytes ≡ Some rest = ap after_gap at.all ∙ gap_given at.text rest at.gap in
    rw gap refl
piece_given bytes (Some k) rest at =
    let token : token_of bytes ≡ Some (k, rest) = token_given bytes rest k at in
    rw (token_no_gap bytes rest k token, token) refl

-- ---- a piece takes a byte

spelling_some : (k : Kind) → Spells [] k → ⊥
unfolding sign_of
spelling_some (Name name) e = let word : is_spelled [] ≡ true = ap is_spelled e.0 ∙ e.1 in cc
spelling_some (Reserved word) e = let spelled : is_spelled [] ≡ true = ap is_spelled e ∙ keyword_spelled word in cc
spelling_some (Number n) e = let w = numeral_word [] n e.0 in let none : [] ≡ w.0 ∷ w.1 = w.2 in cc
spelling_some (Load s) e = cc
spelling_some (Store s) e = cc
spelling_some (Foreign name) e = let none : [] ≡ 64 ∷ name = e.0 in cc
spelling_some Base e = cc
spelling_some Biw e = cc
spelling_some (ASign s) e = different (ap sign_of e ∙ sign_found s)

gap_some : (rest : List ℕ) → IsGap [] rest → ⊥
gap_some rest (WhiteSpace b is space) = cc
gap_some rest (LineComment body is all end) = cc
gap_some rest (BlockComment body is first) = cc

pub token_length : (k : Kind) (text : List ℕ) → Spells text k → 0 < length text
token_length k [] spelled = absurd (spelling_some k spelled)
token_length k (b ∷ bs) spelled = omega arith

pub gap_length : (text rest : List ℕ) → IsGap text rest → 0 < length text
gap_length [] rest gap = absurd (gap_some rest gap)
gap_length (b ∷ bs) rest gap = omega arith

pub piece_shorter : (bytes : List ℕ) (k : Option Kind) (rest : List ℕ) → PieceAt bytes k rest → length rest < length bytes
piece_shorter bytes None rest at =
    omega (arith, gap_length at.text rest at.gap, ap length at.all, length-append at.text rest)
piece_shorter bytes (Some k) rest at =
    omega (arith, token_length k at.text at.spelled, ap length at.all, length-append at.text rest)
