-- A text that is stuck has one reason.
use Rattle.std.proofs.Common.{◌≡◌, ℕ, ◌+◌, ◌≤◌, Bool, true, false, not, cond, eqb, List, [], ◌∷◌, length, Result, Err, sym, ap, ◌∙◌, subst, refl, inl, inr, arith}
use Rattle.std.specs.Prelude.{◌⊎◌}
use Rattle.std.proofs.lemmas.Bool.Decides.{Decides-eqb}
use Rattle.pan_base.specs.Lexing.{Lexes, IsStuckAt, begins_number, begins_block}
use Rattle.pan_base.specs.Names.{is_digit}
use Rattle.pan_base.specs.Tokens.{Placed}
use Rattle.pan_lexer.specs.Refusal.{IsRefusedAt, Refusal, IsStuckBy, begins_other, error_at}
use Rattle.pan_lexer.specs.TokenRow.{IsLawful, IsInOrder, source_limit}
use Rattle.pan_lexer.specs.declared.error.LexError.{LexError}
use Rattle.pan_lexer.specs.declared.error.LexError.TheVariants.{TooLong, BadByte, BadNumber, OpenComment, NoMemory}
use Rattle.pan_lexer.proofs.TestLemmas.{not_true, both_true}
use Rattle.pan_lexer.proofs.RowLemmas.{one_stuck_place, no_row_where_stuck, row_in_order, row_spelled}

-- ---- and it's the only one

block_no_number : (rest : List ℕ) → begins_block rest ≡ true → begins_number rest ≡ false
block_no_number [] e = refl
block_no_number (b ∷ bs) e =
    let slash : 47 ≡ b = (Decides-eqb 47 b).0 (both_true (eqb 47 b) _ e).0 in
    subst (λ b. is_digit b ≡ false) slash refl

-- the same place and rest
module _ (bytes rest : List ℕ) (place : ℕ) (stuck : IsStuckAt bytes place rest) where
  same_begun : (q : ℕ) (begins : List ℕ → Bool) → IsRefusedAt bytes q begins → (q ≡ place) × (begins rest ≡ true)
  same_begun q begins r =
      let same = one_stuck_place bytes r.rest rest q place r.stuck stuck in
      (same.0, subst (λ rest. begins rest ≡ true) same.1 r.begun)

  only_error : length bytes ≤ source_limit → (e : LexError) → Refusal bytes e → e ≡ error_at place rest
  only_error short TooLong long = absurd (omega arith)
  only_error short (BadByte q) r =
      let same = same_begun q begins_other r in
      let parts = both_true (not (begins_number rest)) (not (begins_block rest)) same.1 in
      ap BadByte same.0 ∙ sym (tests_are (begins_number rest) (begins_block rest) false false (not_true (begins_number rest) parts.0) (not_true (begins_block rest) parts.1))
    where
      tests_are : (a b c d : Bool) → a ≡ c → b ≡ d → cond a (BadNumber place) (cond b (OpenComment place) (BadByte place)) ≡ cond c (BadNumber place) (cond d (OpenComment place) (BadByte place))
      tests_are a b c d e f = rw (e, f) refl
  only_error short (BadNumber q) r =
      let same = same_begun q begins_number r in
      ap BadNumber same.0 ∙ sym (ap (λ t. cond t (BadNumber place) (cond (begins_block rest) (OpenComment place) (BadByte place))) same.1)
  only_error short (OpenComment q) r =
      let same = same_begun q begins_block r in
      let number : begins_number rest ≡ false = block_no_number rest same.1 in
      ap OpenComment same.0 ∙ sym (ap (λ t. cond t (BadNumber place) (cond (begins_block rest) (OpenComment place) (BadByte place))) number
      ∙ ap (λ t. cond t (OpenComment place) (BadByte place)) same.1)
  only_error short NoMemory r = absurd r

-- it is refused for one reason
at_place : (bytes rest : List ℕ) (place : ℕ) → IsStuckAt bytes place rest → length bytes ≤ source_limit → (e f : LexError) → Refusal bytes e → Refusal bytes f → e ≡ f
at_place bytes rest place stuck short e f r s = only_error bytes rest place stuck short e r ∙ sym (only_error bytes rest place stuck short f s)

pub one_refusal : (bytes : List ℕ) (e f : LexError) → Refusal bytes e → Refusal bytes f → e ≡ f
one_refusal bytes TooLong TooLong r s = refl
one_refusal bytes TooLong (BadByte q) r s = let short : length bytes ≤ source_limit = s.short in absurd (omega arith)
one_refusal bytes TooLong (BadNumber q) r s = let short : length bytes ≤ source_limit = s.short in absurd (omega arith)
one_refusal bytes TooLong (OpenComment q) r s = let short : length bytes ≤ source_limit = s.short in absurd (omega arith)
one_refusal bytes TooLong NoMemory r s = absurd s
one_refusal bytes (BadByte q) f r s = at_place bytes r.rest q r.stuck r.short (BadByte q) f r s
one_refusal bytes (BadNumber q) f r s = at_place bytes r.rest q r.stuck r.short (BadNumber q) f r s
one_refusal bytes (OpenComment q) f r s = at_place bytes r.rest q r.stuck r.short (OpenComment q) f r s
one_refusal bytes NoMemory f r s = absurd r

-- ---- the answers of `lex`

pub error_lexed : (bytes : List ℕ) (e : LexError) → (e ≡ NoMemory) ⊎ IsStuckBy bytes e → (row : List Placed) → Lexes bytes row → e ≡ NoMemory
error_lexed bytes e (inl none) row lexes = none
error_lexed bytes e (inr by) row lexes = absurd (no_row_where_stuck bytes by.1 by.0 row by.2 lexes)

error_only : (bytes : List ℕ) (e : LexError) → length bytes ≤ source_limit → (e ≡ NoMemory) ⊎ IsStuckBy bytes e → (f : LexError) → Refusal bytes f → (e ≡ f) ⊎ (e ≡ NoMemory)
error_only bytes e short (inl none) f refusal = inr none
error_only bytes e short (inr by) f refusal = inl (by.3 ∙ sym (only_error bytes by.1 by.0 by.2 short f refusal))

as_answers : (T : Type 0) (e f : LexError) → (e ≡ f) ⊎ (e ≡ NoMemory) → (◌≡◌ {A = Result T LexError} (Err e) (Err f)) ⊎ (◌≡◌ {A = Result T LexError} (Err e) (Err NoMemory))
as_answers T e f (inl same) = inl (ap Err same)
as_answers T e f (inr none) = inr (ap Err none)

pub error_answers : {T : Type 0} (bytes : List ℕ) (e : LexError) → length bytes ≤ source_limit → (e ≡ NoMemory) ⊎ IsStuckBy bytes e → (f : LexError) → Refusal bytes f
    → (◌≡◌ {A = Result T LexError} (Err e) (Err f)) ⊎ (◌≡◌ {A = Result T LexError} (Err e) (Err NoMemory))
error_answers {T} bytes e short by f refusal = as_answers T e f (error_only bytes e short by f refusal)

-- a text with tokens isn't refused
pub lexed_no_refusal : (bytes : List ℕ) (row : List Placed) → length bytes ≤ source_limit → Lexes bytes row → (e : LexError) → Refusal bytes e → ⊥
lexed_no_refusal bytes row short lexes TooLong long = absurd (omega arith)
lexed_no_refusal bytes row short lexes (BadByte q) r = no_row_where_stuck bytes r.rest q row r.stuck lexes
lexed_no_refusal bytes row short lexes (BadNumber q) r = no_row_where_stuck bytes r.rest q row r.stuck lexes
lexed_no_refusal bytes row short lexes (OpenComment q) r = no_row_where_stuck bytes r.rest q row r.stuck lexes
lexed_no_refusal bytes row short lexes NoMemory r = r

pub lexed_lawful : (bytes : List ℕ) (row : List Placed) → length bytes ≤ source_limit → Lexes bytes row → IsLawful (record { tokens = row; source_len = length bytes })
lexed_lawful bytes row short lexes =
    let end : 0 + length bytes ≡ length bytes = omega arith in
    record { in_order = subst (λ n. IsInOrder 0 row n) end (row_in_order 0 bytes [] row lexes); short = short; spelled = row_spelled 0 bytes [] row lexes }
