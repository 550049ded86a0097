-- White space and comments.
use Rattle.std.proofs.Common.{◌≡◌, ℕ, ◌≤◌, Bool, true, false, not, ◌&&◌, ◌||◌, eqb, List, [], ◌∷◌, ◌++◌, drop, codes, length, Some, None, sym, ap, ◌∙◌, subst, refl, arith}
use Rattle.std.specs.List.{prefix_len, take_while}
use Rattle.std.proofs.lemmas.Bool.Decides.{Decides-eqb}
use Rattle.pan_base.specs.Lexing.{IsGap, WhiteSpace, LineComment, BlockComment, ends_line, has_close}
use Rattle.pan_base.specs.Spelling.{is_space}
use Rattle.pan_lexer.specs.Pieces.{is_in_line, after_close, after_comment, after_gap}
use Rattle.pan_lexer.proofs.TestLemmas.{both_true, if_some, no_some}
use Rattle.pan_lexer.proofs.WordLemmas.{stops, front_split, front_passes, front_stops, after_front}

-- in one byte no comment ends
pub short_no_close : (bytes : List ℕ) → length bytes ≤ 1 → after_close bytes ≡ None
short_no_close [] short = refl
short_no_close (a ∷ []) short = refl
short_no_close (a ∷ b ∷ bs) short = absurd (omega arith)

-- the text begins with a gap, and goes on with the rest
pub record GapAt (bytes rest : List ℕ) : Type 0 where
  pub text : List ℕ
  pub all : bytes ≡ text ++ rest
  pub gap : IsGap text rest

-- ---- comments up to `*/`

and_false : (a : Bool) → (a && false) ≡ false
and_false true = refl
and_false false = refl

either_false : (a b : Bool) → (a || b) ≡ false → (a ≡ false) × (b ≡ false)
either_false true b e = absurd (cc)
either_false false b e = (refl, e)

-- the body of a comment that ends before this text
record Closes (bytes rest : List ℕ) : Type 0 where
  body : List ℕ
  all : bytes ≡ (body ++ codes "*/") ++ rest
  first : has_close (body ++ codes "*") ≡ false

-- a byte more in the body, which makes no `*/` with the next byte
no_close_more : (a b : ℕ) (bs rest body : List ℕ) → b ∷ bs ≡ (body ++ codes "*/") ++ rest → (eqb a 42 && eqb b 47) ≡ false → has_close (body ++ codes "*") ≡ false → has_close ((a ∷ body) ++ codes "*") ≡ false
no_close_more a b bs rest [] all no_pair first = rw (and_false (eqb a 42)) refl
no_close_more a b bs rest (c ∷ cs) all no_pair first =
    let same : b ≡ c = cc in
    let none : (eqb a 42 && eqb c 47) ≡ false = subst (λ b. (eqb a 42 && eqb b 47) ≡ false) same no_pair in
    rw (none, first) refl

closes_more : (a b : ℕ) (bs rest : List ℕ) → (eqb a 42 && eqb b 47) ≡ false → Closes (b ∷ bs) rest → Closes (a ∷ b ∷ bs) rest
closes_more a b bs rest no_pair closes = record {
  body = a ∷ closes.body;
  all = ap (λ bs. a ∷ bs) closes.all;
  first = no_close_more a b bs rest closes.body closes.all no_pair closes.first;
}

closes_here : (a b : ℕ) (bs : List ℕ) → (eqb a 42 && eqb b 47) ≡ true → Closes (a ∷ b ∷ bs) bs
closes_here a b bs pair =
    let parts = both_true (eqb a 42) (eqb b 47) pair in
    let star : a ≡ 42 = (Decides-eqb a 42).0 parts.0 in
    let slash : b ≡ 47 = (Decides-eqb b 47).0 parts.1 in
    record { body = []; all = rw (star, slash) refl; first = refl }

close_found : (bytes rest : List ℕ) → after_close bytes ≡ Some rest → Closes bytes rest
close_found [] rest e = no_some rest e
close_found (a ∷ []) rest e = no_some rest e
close_found (a ∷ b ∷ bs) rest e =
    if_some (eqb a 42 && eqb b 47) (Some bs) (after_close (b ∷ bs)) rest
    (λ is same. let h : bs ≡ rest = cc in subst (Closes (a ∷ b ∷ bs)) h (closes_here a b bs is))
    (λ no_pair same. closes_more a b bs rest no_pair (close_found (b ∷ bs) rest same))
    e

close_given : (body rest : List ℕ) → has_close (body ++ codes "*") ≡ false → after_close ((body ++ codes "*/") ++ rest) ≡ Some rest
close_given [] rest first = refl
close_given (a ∷ []) rest first = rw (and_false (eqb a 42)) refl
close_given (a ∷ b ∷ bs) rest first =
    let parts = either_false (eqb a 42 && eqb b 47) (has_close (b ∷ (bs ++ codes "*"))) first in
    rw parts.0 (close_given (b ∷ bs) rest parts.1)

-- ---- comments up to the end of a line

line_ends : (rest : List ℕ) → stops is_in_line rest ≡ true → ends_line rest ≡ true
line_ends [] e = refl
line_ends (b ∷ bs) e = by_test (eqb b 10) e
  where
    by_test : (t : Bool) → not (not t) ≡ true → t ≡ true
    by_test true e = refl
    by_test false e = absurd (cc)

line_stops : (rest : List ℕ) → ends_line rest ≡ true → stops is_in_line rest ≡ true
line_stops [] e = refl
line_stops (b ∷ bs) e = rw e refl

line_comment : (cs : List ℕ) → GapAt (47 ∷ 47 ∷ cs) (drop (prefix_len is_in_line cs) cs)
line_comment cs = record {
  text = 47 ∷ 47 ∷ take_while is_in_line cs;
  all = ap (λ cs. 47 ∷ 47 ∷ cs) (front_split is_in_line cs);
  gap = LineComment (take_while is_in_line cs) refl (front_passes is_in_line cs) (line_ends (drop (prefix_len is_in_line cs) cs) (front_stops is_in_line cs));
}

block_comment : (cs rest : List ℕ) → Closes cs rest → GapAt (47 ∷ 42 ∷ cs) rest
block_comment cs rest closes = record {
  text = 47 ∷ 42 ∷ (closes.body ++ codes "*/");
  all = ap (λ cs. 47 ∷ 42 ∷ cs) closes.all;
  gap = BlockComment closes.body refl closes.first;
}

-- ---- gaps

comment_found : (bs rest : List ℕ) → after_comment bs ≡ Some rest → GapAt (47 ∷ bs) rest
unfolding after_comment
comment_found [] rest e = no_some rest e
comment_found (c ∷ cs) rest e =
    if_some (eqb c 47) _ _ rest
    (λ is same.
    let h : drop (prefix_len is_in_line cs) cs ≡ rest = cc in
    subst (λ c. GapAt (47 ∷ c ∷ cs) rest) (sym ((Decides-eqb c 47).0 is)) (subst (GapAt (47 ∷ 47 ∷ cs)) h (line_comment cs)))
    (λ _ same. if_some (eqb c 42) _ _ rest
    (λ is same. subst (λ c. GapAt (47 ∷ c ∷ cs) rest) (sym ((Decides-eqb c 42).0 is)) (block_comment cs rest (close_found cs rest same)))
    (λ _ same. no_some rest same)
    same)
    e

space_gap : (b : ℕ) (bs : List ℕ) → is_space b ≡ true → GapAt (b ∷ bs) bs
space_gap b bs is = record { text = b ∷ []; all = refl; gap = WhiteSpace b refl is }

-- what `after_gap` gives follows a gap
pub gap_found : (bytes rest : List ℕ) → after_gap bytes ≡ Some rest → GapAt bytes rest
unfolding after_gap
gap_found [] rest e = no_some rest e
gap_found (b ∷ bs) rest e =
    if_some (is_space b) _ _ rest
    (λ is same. let h : bs ≡ rest = cc in subst (GapAt (b ∷ bs)) h (space_gap b bs is))
    (λ _ same. if_some (eqb b 47) _ _ rest
    (λ is same. subst (λ b. GapAt (b ∷ bs) rest) (sym ((Decides-eqb b 47).0 is)) (comment_found bs rest same))
    (λ _ same. no_some rest same)
    same)
    e

-- what follows a gap is what `after_gap` gives
pub gap_given : (text rest : List ℕ) → IsGap text rest → after_gap (text ++ rest) ≡ Some rest
unfolding after_gap after_comment
gap_given text rest (WhiteSpace b is space) = ap (λ text. after_gap (text ++ rest)) is ∙ rw space refl
gap_given text rest (LineComment body is all end) =
    ap (λ text. after_gap (text ++ rest)) is ∙ ap Some (after_front is_in_line body rest all (line_stops rest end))
gap_given text rest (BlockComment body is first) =
    ap (λ text. after_gap (text ++ rest)) is ∙ close_given body rest first
