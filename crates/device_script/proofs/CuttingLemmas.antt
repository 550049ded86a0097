-- Where lines and words end.
use Rattle.std.proofs.Common.{◌≡◌, ℕ, ◌+◌, ◌<◌, ◌≤◌, ◌≢◌, Bool, true, false, not, cond, eqb, List, [], ◌∷◌, ◌++◌, drop, take, length, suc, sym, ap, ◌∙◌, refl, arith, append_assoc, add-one, ◌-◌, length-drop, length-append}
use Rattle.std.specs.List.{prefix_len}
use Rattle.std.proofs.Math.Numerals.{one-add}
use Rattle.std.proofs.Math.Seq.{drop-append_seam}
use Rattle.std.proofs.lemmas.List.{append-nil, take_all, take-append-drop}
use Rattle.std.proofs.lemmas.Slice.Eq.{bytes_eq-Decides}
use Rattle.std.specs.Str.{bytes_eq}
use Rattle.std.proofs.lemmas.Bool.Decides.{Decides-eqb}
use Rattle.device_script.specs.Lines.{without_return, lines_after, lines, is_blank, word_before, words_after, words}
use Rattle.device_script.specs.Cutting.{is_in_line, is_in_word}

-- ---- lines

-- no line feed comes
pub last_line : (line bytes : List ℕ) → length bytes ≤ prefix_len is_in_line bytes → lines_after line bytes ≡ (line ++ bytes) ∷ []
last_line line [] h = ap (λ l. l ∷ []) (sym (append-nil line))
last_line line (b ∷ bs) h = by_test (λ line h. last_line line bs h) (eqb b 10) h
  where
    by_test : ((line : List ℕ) → length bs ≤ prefix_len is_in_line bs → lines_after line bs ≡ (line ++ bs) ∷ []) → (t : Bool) → length (b ∷ bs) ≤ cond (not t) (1 + prefix_len is_in_line bs) 0 → cond t (without_return line ∷ lines_after [] bs) (lines_after (line ++ b ∷ []) bs) ≡ (line ++ b ∷ bs) ∷ []
    by_test others true h = absurd (omega arith)
    by_test others false h = others (line ++ b ∷ []) (omega arith) ∙ ap (λ l. l ∷ []) (append_assoc line (b ∷ []) bs)

-- the first line feed comes
pub ended_line : (line bytes : List ℕ) → prefix_len is_in_line bytes < length bytes → lines_after line bytes ≡ without_return (line ++ take (prefix_len is_in_line bytes) bytes) ∷ lines (drop (suc (prefix_len is_in_line bytes)) bytes)
ended_line line [] h = absurd (omega arith)
ended_line line (b ∷ bs) h = by_test (λ line h. ended_line line bs h) (eqb b 10) h
  where
    by_test : ((line : List ℕ) → prefix_len is_in_line bs < length bs → lines_after line bs ≡ without_return (line ++ take (prefix_len is_in_line bs) bs) ∷ lines (drop (suc (prefix_len is_in_line bs)) bs)) → (t : Bool) → cond (not t) (1 + prefix_len is_in_line bs) 0 < length (b ∷ bs) → cond t (without_return line ∷ lines_after [] bs) (lines_after (line ++ b ∷ []) bs) ≡ without_return (line ++ take (cond (not t) (1 + prefix_len is_in_line bs) 0) (b ∷ bs)) ∷ lines (drop (suc (cond (not t) (1 + prefix_len is_in_line bs) 0)) (b ∷ bs))
    by_test others true h = ap (λ l. without_return l ∷ lines bs) (sym (append-nil line))
    by_test others false h =
        let more = others (line ++ b ∷ []) (omega arith) in
        rw one-add (more ∙ ap (λ l. without_return l ∷ lines (drop (suc (prefix_len is_in_line bs)) bs)) (append_assoc line (b ∷ []) (take (prefix_len is_in_line bs) bs)))

pub first_line : (bytes : List ℕ) → prefix_len is_in_line bytes < length bytes → lines bytes ≡ without_return (take (prefix_len is_in_line bytes) bytes) ∷ lines (drop (suc (prefix_len is_in_line bytes)) bytes)
first_line bytes h = ended_line [] bytes h

pub only_line : (bytes : List ℕ) → length bytes ≤ prefix_len is_in_line bytes → lines bytes ≡ bytes ∷ []
only_line bytes h = last_line [] bytes h

-- a carriage return at the end goes
pub return_goes : (line front : List ℕ) → line ≡ front ++ 13 ∷ [] → without_return line ≡ front
return_goes line front e = ap without_return e ∙ goes front
  where
    goes : (front : List ℕ) → without_return (front ++ 13 ∷ []) ≡ front
    goes [] = refl
    goes (a ∷ []) = refl
    goes (a ∷ b ∷ bs) = ap (λ l. a ∷ l) (goes (b ∷ bs))

-- all else stays
pub no_return : (line : List ℕ) → ((front : List ℕ) → line ≢ front ++ 13 ∷ []) → without_return line ≡ line
no_return [] none = refl
no_return (b ∷ []) none = by_test (eqb b 13) (Decides-eqb b 13).0
  where
    by_test : (t : Bool) → (t ≡ true → b ≡ 13) → cond t [] (b ∷ []) ≡ b ∷ []
    by_test true is = absurd (none [] (ap (λ b. b ∷ []) (is refl)))
    by_test false is = refl
no_return (b ∷ c ∷ bs) none = ap (λ l. b ∷ l) (no_return (c ∷ bs) (λ front e. none (b ∷ front) (ap (λ l. b ∷ l) e)))

pub return_cut : (line front : List ℕ) → bytes_eq (drop (length line - 1) line) (13 ∷ []) ≡ true → front ≡ take (length line - 1) line → front ≡ without_return line
return_cut line front ends is =
    let all : line ≡ front ++ 13 ∷ [] =
    sym (take-append-drop (length line - 1) line)
    ∙ ap (λ back. take (length line - 1) line ++ back) ((bytes_eq-Decides (drop (length line - 1) line) (13 ∷ [])).0 ends)
    ∙ ap (λ front. front ++ 13 ∷ []) (sym is) in
    sym (return_goes line front all)

pub no_return_cut : (line : List ℕ) → bytes_eq (drop (length line - 1) line) (13 ∷ []) ≡ false → line ≡ without_return line
no_return_cut line other = sym (no_return line none)
  where
    none : (front : List ℕ) → line ≢ front ++ 13 ∷ []
    none front e =
        let len : length line - 1 ≡ length front = omega (arith, ap length e, length-append front (13 ∷ [])) in
        let back : drop (length line - 1) line ≡ 13 ∷ [] = rw len (ap (drop (length front)) e ∙ drop-append_seam front (13 ∷ [])) in
        let ends = (bytes_eq-Decides (drop (length line - 1) line) (13 ∷ [])).1 back in
        cc

-- ---- words

-- a line whose first byte, if there is one, is no blank
abbrev begins_no_blank : List ℕ → Bool
begins_no_blank [] = true
begins_no_blank (b ∷ bs) = not (is_blank b)

after_blanks : (line : List ℕ) → begins_no_blank (drop (prefix_len is_blank line) line) ≡ true
after_blanks [] = refl
after_blanks (b ∷ bs) = by_test (after_blanks bs) (is_blank b) refl
  where
    by_test : begins_no_blank (drop (prefix_len is_blank bs) bs) ≡ true → (t : Bool) → is_blank b ≡ t → begins_no_blank (drop (cond t (1 + prefix_len is_blank bs) 0) (b ∷ bs)) ≡ true
    by_test others true is = rw one-add others
    by_test others false is = rw is refl

-- blanks at the beginning say nothing
words_after_blanks : (line : List ℕ) → words line ≡ words (drop (prefix_len is_blank line) line)
words_after_blanks [] = refl
words_after_blanks (b ∷ bs) = by_test (words_after_blanks bs) (is_blank b) refl
  where
    by_test : words bs ≡ words (drop (prefix_len is_blank bs) bs) → (t : Bool) → is_blank b ≡ t → words (b ∷ bs) ≡ words (drop (cond t (1 + prefix_len is_blank bs) 0) (b ∷ bs))
    by_test others true is = rw (one-add, is) others
    by_test others false is = refl

-- a word ends before the first blank
ended_word : (word line : List ℕ) → words_after word line ≡ word_before (word ++ take (prefix_len is_in_word line) line) (words (drop (prefix_len is_in_word line) line))
ended_word word [] = ap (λ w. word_before w []) (sym (append-nil word))
ended_word word (b ∷ bs) = by_test (λ word. ended_word word bs) (is_blank b) refl
  where
    by_test : ((word : List ℕ) → words_after word bs ≡ word_before (word ++ take (prefix_len is_in_word bs) bs) (words (drop (prefix_len is_in_word bs) bs))) → (t : Bool) → is_blank b ≡ t → cond t (word_before word (words_after [] bs)) (words_after (word ++ b ∷ []) bs) ≡ word_before (word ++ take (cond (not t) (1 + prefix_len is_in_word bs) 0) (b ∷ bs)) (words (drop (cond (not t) (1 + prefix_len is_in_word bs) 0) (b ∷ bs)))
    by_test others true is = rw (is, append-nil word) refl
    by_test others false is =
        rw one-add (others (word ++ b ∷ []) ∙ ap (λ w. word_before w (words (drop (prefix_len is_in_word bs) bs))) (append_assoc word (b ∷ []) (take (prefix_len is_in_word bs) bs)))

-- the word that a line without blanks before it begins with
word_here : (line : List ℕ) → 0 < length line → begins_no_blank line ≡ true → words line ≡ take (prefix_len is_in_word line) line ∷ words (drop (prefix_len is_in_word line) line)
word_here [] some begins = absurd (omega arith)
word_here (b ∷ bs) some begins = ended_word [] (b ∷ bs) ∙ by_test (not (is_blank b)) begins
  where
    by_test : (t : Bool) → t ≡ true → word_before (take (cond t (1 + prefix_len is_in_word bs) 0) (b ∷ bs)) (words (drop (cond t (1 + prefix_len is_in_word bs) 0) (b ∷ bs))) ≡ take (cond t (1 + prefix_len is_in_word bs) 0) (b ∷ bs) ∷ words (drop (cond t (1 + prefix_len is_in_word bs) 0) (b ∷ bs))
    by_test true is = rw one-add refl
    by_test false is = absurd (cc)

pub first_word : (line rest : List ℕ) → rest ≡ drop (prefix_len is_blank line) line → 0 < length rest → words line ≡ take (prefix_len is_in_word rest) rest ∷ words (drop (prefix_len is_in_word rest) rest)
first_word line rest is some =
    words_after_blanks line ∙ ap words (sym is) ∙ word_here rest some (ap begins_no_blank is ∙ after_blanks line)

pub no_word : (line rest : List ℕ) → rest ≡ drop (prefix_len is_blank line) line → length rest ≡ 0 → words line ≡ []
no_word line [] is none = words_after_blanks line ∙ ap words (sym is)
no_word line (b ∷ bs) is none = absurd (omega arith)

-- ---- as the code cuts

-- what a slice from the place n has
from_place : (n : ℕ) (xs : List ℕ) → take (length xs - n) (drop n xs) ≡ drop n xs
from_place n xs = take_all (length xs - n) (drop n xs) (omega (arith, length-drop n xs))

pub first_line_cut : (bytes : List ℕ) (n : ℕ) (line : List ℕ) → n ≡ prefix_len is_in_line bytes → n < length bytes → line ≡ without_return (take n bytes) → lines bytes ≡ line ∷ lines (take (length bytes - (n + 1)) (drop (n + 1) bytes))
first_line_cut bytes n line is within cut =
    let first = first_line bytes (omega arith) in
    let same : lines bytes ≡ without_return (take n bytes) ∷ lines (drop (suc n) bytes) = rw is first in
    rw (from_place (n + 1) bytes, add-one n, cut) same

pub no_word_cut : (line : List ℕ) (n : ℕ) → n ≡ prefix_len is_blank line → length (take (length line - n) (drop n line)) ≡ 0 → words line ≡ []
no_word_cut line n is none = no_word line (take (length line - n) (drop n line)) (from_place n line ∙ ap (λ n. drop n line) is) none

pub first_word_cut : (line : List ℕ) (n m : ℕ) (word rest : List ℕ) → n ≡ prefix_len is_blank line → 0 < length (take (length line - n) (drop n line)) → m ≡ prefix_len is_in_word (take (length line - n) (drop n line)) → word ≡ take m (take (length line - n) (drop n line)) → rest ≡ drop m (take (length line - n) (drop n line)) → words line ≡ word ∷ words rest
first_word_cut line n m word rest is some len front back =
    let more = take (length line - n) (drop n line) in
    let first = first_word line more (from_place n line ∙ ap (λ n. drop n line) is) some in
    let same : words line ≡ take m more ∷ words (drop m more) = rw len first in
    rw (front, back) same
