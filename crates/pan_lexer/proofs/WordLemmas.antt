-- The words that a text begins with.
use Rattle.std.proofs.Common.{◌≡◌, ℕ, ◌+◌, Bool, true, false, not, cond, List, [], ◌∷◌, ◌++◌, drop, take, length, sym, ap, ◌∙◌, refl, arith}
use Rattle.std.specs.List.{list_all, prefix_len, take_while}
use Rattle.std.proofs.Math.Seq.{take-append_seam, drop-append_seam}
use Rattle.std.proofs.Math.Numerals.{one-add}
use Rattle.std.proofs.lemmas.List.{take-append-drop}
use Rattle.std.proofs.lemmas.Bool.Decides.{nat_tests}
use Rattle.pan_base.specs.Names.{is_digit, is_letter, is_word_byte}
use Rattle.pan_base.specs.Spelling.{begins_no_word}
use Rattle.pan_lexer.specs.Pieces.{word_of, after_word}
use Rattle.pan_lexer.proofs.TestLemmas.{both_true}

-- ---- fronts

module _ (p : ℕ → Bool) where
  -- the text is empty or begins with a byte that doesn't pass
  abbrev pub stops : List ℕ → Bool
  stops [] = true
  stops (b ∷ bs) = not (p b)

  pub front_split : (bytes : List ℕ) → bytes ≡ take_while p bytes ++ drop (prefix_len p bytes) bytes
  front_split bytes = sym (take-append-drop (prefix_len p bytes) bytes)

  -- the front passes
  pub front_passes : (bytes : List ℕ) → list_all p (take_while p bytes) ≡ true
  front_passes [] = refl
  front_passes (b ∷ bs) = by_test (front_passes bs) (p b) refl
    where
      by_test : list_all p (take_while p bs) ≡ true → (t : Bool) → p b ≡ t → list_all p (take (cond t (1 + prefix_len p bs) 0) (b ∷ bs)) ≡ true
      by_test others true is = rw (one-add, is) others
      by_test others false is = refl

  -- and what follows it stops
  pub front_stops : (bytes : List ℕ) → stops (drop (prefix_len p bytes) bytes) ≡ true
  front_stops [] = refl
  front_stops (b ∷ bs) = by_test (front_stops bs) (p b) refl
    where
      by_test : stops (drop (prefix_len p bs) bs) ≡ true → (t : Bool) → p b ≡ t → stops (drop (cond t (1 + prefix_len p bs) 0) (b ∷ bs)) ≡ true
      by_test others true is = rw one-add others
      by_test others false is = rw is refl

  no_front : (bytes : List ℕ) → stops bytes ≡ true → prefix_len p bytes ≡ 0
  no_front [] end = refl
  no_front (b ∷ bs) end = by_test (p b) end
    where
      by_test : (t : Bool) → not t ≡ true → cond t (1 + prefix_len p bs) 0 ≡ 0
      by_test true e = absurd (cc)
      by_test false e = refl

  pub front_length : (front rest : List ℕ) → list_all p front ≡ true → stops rest ≡ true → prefix_len p (front ++ rest) ≡ length front
  front_length [] rest all end = no_front rest end
  front_length (b ∷ bs) rest all end =
      let parts = both_true (p b) (list_all p bs) all in
      rw (parts.0, front_length bs rest parts.1 end) (one-add (length bs))

  -- a front that passes, and a text that stops
  pub front_is : (front rest : List ℕ) → list_all p front ≡ true → stops rest ≡ true → take_while p (front ++ rest) ≡ front
  front_is front rest all end = ap (λ n. take n (front ++ rest)) (front_length front rest all end) ∙ take-append_seam front rest

  pub after_front : (front rest : List ℕ) → list_all p front ≡ true → stops rest ≡ true → drop (prefix_len p (front ++ rest)) (front ++ rest) ≡ rest
  after_front front rest all end = ap (λ n. drop n (front ++ rest)) (front_length front rest all end) ∙ drop-append_seam front rest

  -- a byte that passes is in the front
  pub front_begins : (b : ℕ) (bs : List ℕ) → p b ≡ true → take_while p (b ∷ bs) ≡ b ∷ take_while p bs
  front_begins b bs is = rw (is, one-add) refl

-- ---- words

same_stops : (bytes : List ℕ) → stops is_word_byte bytes ≡ begins_no_word bytes
same_stops [] = refl
same_stops (b ∷ bs) = refl

pub word_split : (bytes : List ℕ) → bytes ≡ word_of bytes ++ after_word bytes
unfolding word_of after_word
word_split bytes = front_split is_word_byte bytes

pub word_passes : (bytes : List ℕ) → list_all is_word_byte (word_of bytes) ≡ true
unfolding word_of
word_passes bytes = front_passes is_word_byte bytes

pub after_word_stops : (bytes : List ℕ) → begins_no_word (after_word bytes) ≡ true
unfolding after_word
after_word_stops bytes = sym (same_stops (drop (prefix_len is_word_byte bytes) bytes)) ∙ front_stops is_word_byte bytes

pub word_is : (word rest : List ℕ) → list_all is_word_byte word ≡ true → begins_no_word rest ≡ true → word_of (word ++ rest) ≡ word
unfolding word_of
word_is word rest all end = front_is is_word_byte word rest all (same_stops rest ∙ end)

pub after_word_is : (word rest : List ℕ) → list_all is_word_byte word ≡ true → begins_no_word rest ≡ true → after_word (word ++ rest) ≡ rest
unfolding after_word
after_word_is word rest all end = after_front is_word_byte word rest all (same_stops rest ∙ end)

pub word_begins : (b : ℕ) (bs : List ℕ) → is_word_byte b ≡ true → word_of (b ∷ bs) ≡ b ∷ word_of bs
unfolding word_of
word_begins b bs is = front_begins is_word_byte b bs is

pub letter_is_word : (b : ℕ) → is_letter b ≡ true → is_word_byte b ≡ true
letter_is_word b h = grind (arith, nat_tests)

pub digit_is_word : (b : ℕ) → is_digit b ≡ true → is_word_byte b ≡ true
digit_is_word b h = grind (arith, nat_tests)
