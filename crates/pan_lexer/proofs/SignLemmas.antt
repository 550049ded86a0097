-- The longest sign that a text begins with.
use Rattle.std.proofs.Common.{◌≡◌, ℕ, ◌≤◌, Bool, true, false, not, ◌&&◌, ◌||◌, leb, List, [], ◌∷◌, ◌++◌, drop, take, get_or, length, Option, Some, None, sym, ap, ◌∙◌, subst, refl, arith, length-append}
use Rattle.std.specs.Prelude.{nat_eq, IfSome}
use Rattle.std.specs.List.{find, list_all, starts_with}
use Rattle.std.specs.Str.{bytes_eq}
use Rattle.std.proofs.Math.Seq.{take-append_seam}
use Rattle.std.proofs.lemmas.List.{take-append-drop}
use Rattle.std.proofs.lemmas.Slice.Eq.{bytes_eq-Decides}
use Rattle.std.proofs.lemmas.Bool.Decides.{nat_tests}
use Rattle.pan_base.specs.Tokens.{sign_text, signs, is_longest_sign}
use Rattle.pan_base.specs.declared.tokens.Sign.{Sign}
use Rattle.pan_base.specs.declared.tokens.Sign.TheVariants as sign
use Rattle.pan_lexer.specs.Pieces.{longest_first, sign_of}
use Rattle.pan_lexer.proofs.TestLemmas.{both_true, none_or_some, found_passes, found_among, each_fails, all_pass, if_some}

-- three bytes tell the sign
pub sign_by_three : (bytes : List ℕ) → sign_of (get_or bytes 0 0 ∷ get_or bytes 1 0 ∷ get_or bytes 2 0 ∷ []) ≡ sign_of bytes
unfolding sign_of
sign_by_three [] = refl
sign_by_three (a ∷ []) = refl
sign_by_three (a ∷ b ∷ []) = refl
sign_by_three (a ∷ b ∷ c ∷ ds) = refl

-- ---- every sign is in both lists

pub sign_found : (s : Sign) → sign_of (sign_text s) ≡ Some s
unfolding sign_of
sign_found = elim [
  | sign.OpenParen ↦ refl
  | sign.CloseParen ↦ refl
  | sign.OpenBrace ↦ refl
  | sign.CloseBrace ↦ refl
  | sign.Less ↦ refl
  | sign.Greater ↦ refl
  | sign.Comma ↦ refl
  | sign.Semicolon ↦ refl
  | sign.Dot ↦ refl
  | sign.Assign ↦ refl
  | sign.Plus ↦ refl
  | sign.Minus ↦ refl
  | sign.Star ↦ refl
  | sign.And ↦ refl
  | sign.Or ↦ refl
  | sign.Xor ↦ refl
  | sign.Equal ↦ refl
  | sign.NotEqual ↦ refl
  | sign.NotLess ↦ refl
  | sign.LessU ↦ refl
  | sign.NotLessU ↦ refl
  | sign.ShiftLeft ↦ refl
  | sign.ShiftRight ↦ refl
  | sign.ShiftSigned ↦ refl
  | sign.Rotate ↦ refl
]

sign_listed : (s : Sign) → find (λ t. bytes_eq (sign_text s) (sign_text t)) signs ≡ Some s
sign_listed = elim [
  | sign.OpenParen ↦ refl
  | sign.CloseParen ↦ refl
  | sign.OpenBrace ↦ refl
  | sign.CloseBrace ↦ refl
  | sign.Less ↦ refl
  | sign.Greater ↦ refl
  | sign.Comma ↦ refl
  | sign.Semicolon ↦ refl
  | sign.Dot ↦ refl
  | sign.Assign ↦ refl
  | sign.Plus ↦ refl
  | sign.Minus ↦ refl
  | sign.Star ↦ refl
  | sign.And ↦ refl
  | sign.Or ↦ refl
  | sign.Xor ↦ refl
  | sign.Equal ↦ refl
  | sign.NotEqual ↦ refl
  | sign.NotLess ↦ refl
  | sign.LessU ↦ refl
  | sign.NotLessU ↦ refl
  | sign.ShiftLeft ↦ refl
  | sign.ShiftRight ↦ refl
  | sign.ShiftSigned ↦ refl
  | sign.Rotate ↦ refl
]

each_longest_first : (q : Sign → Bool) → list_all q longest_first ≡ true → (s : Sign) → q s ≡ true
unfolding sign_of
each_longest_first q all s = found_among (λ t. starts_with nat_eq (sign_text s) (sign_text t)) q longest_first s (sign_found s) all

each_sign : (q : Sign → Bool) → list_all q signs ≡ true → (s : Sign) → q s ≡ true
each_sign q all s = found_among (λ t. bytes_eq (sign_text s) (sign_text t)) q signs s (sign_listed s) all

same_text : (s t : Sign) → sign_text s ≡ sign_text t → s ≡ t
same_text s t e =
    let both : Some s ≡ Some t = sym (sign_found s) ∙ ap sign_of e ∙ sign_found t in
    cc

-- ---- the found one is the longest

-- no later sign is longer
is_falling : List Sign → Bool
is_falling [] = true
is_falling (s ∷ ss) = list_all (λ t. leb (length (sign_text t)) (length (sign_text s))) ss && is_falling ss

-- passes only where it's no longer
no_longer : (Sign → Bool) → Sign → Sign → Bool
no_longer p s t = not (p t) || leb (length (sign_text t)) (length (sign_text s))

or_true : (a b : Bool) → b ≡ true → (a || b) ≡ true
or_true true b e = refl
or_true false b e = e

same_length : (n : ℕ) → leb n n ≡ true
same_length n = grind (arith, nat_tests)

all_or : (p : Sign → Bool) (s : Sign) (ss : List Sign) → list_all (λ t. leb (length (sign_text t)) (length (sign_text s))) ss ≡ true → list_all (no_longer p s) ss ≡ true
unfolding no_longer
all_or p s [] all = refl
all_or p s (t ∷ ts) all =
    let parts = both_true (leb (length (sign_text t)) (length (sign_text s))) _ all in
    rw (or_true (not (p t)) (leb (length (sign_text t)) (length (sign_text s))) parts.0, all_or p s ts parts.1) refl

first_longest : (p : Sign → Bool) (ss : List Sign) (s : Sign) → is_falling ss ≡ true → find p ss ≡ Some s → list_all (no_longer p s) ss ≡ true
unfolding is_falling no_longer
first_longest p [] s falls e = refl
first_longest p (t ∷ ts) s falls e =
    let parts = both_true (list_all (λ u. leb (length (sign_text u)) (length (sign_text t))) ts) (is_falling ts) falls in
    if_some (p t) (Some t) (find p ts) s
    (λ is same.
    let h : t ≡ s = cc in
    subst (λ s. list_all (no_longer p s) (t ∷ ts) ≡ true) h
    (rw (or_true (not (p t)) (leb (length (sign_text t)) (length (sign_text t))) (same_length (length (sign_text t))), all_or p t ts parts.0) refl))
    (λ no same.
    let skipped : (not (p t) || leb (length (sign_text t)) (length (sign_text s))) ≡ true = ap (λ b. not b || leb (length (sign_text t)) (length (sign_text s))) no in
    rw (skipped, first_longest p ts s parts.1 same) refl)
    e

-- the text begins with this sign, and with no longer one
pub record SignAt (bytes : List ℕ) (s : Sign) (rest : List ℕ) : Type 0 where
  pub all : bytes ≡ sign_text s ++ rest
  pub longest : is_longest_sign s rest ≡ true

begins : List ℕ → Sign → Bool
begins bytes s = starts_with nat_eq bytes (sign_text s)

begins_so : (bytes : List ℕ) (s : Sign) → begins bytes s ≡ true → sign_text s ≡ take (length (sign_text s)) bytes
unfolding begins
begins_so bytes s e = (bytes_eq-Decides (sign_text s) (take (length (sign_text s)) bytes)).0 e

begins_own : (s : Sign) (rest : List ℕ) → begins (sign_text s ++ rest) s ≡ true
unfolding begins
begins_own s rest =
    (bytes_eq-Decides (sign_text s) (take (length (sign_text s)) (sign_text s ++ rest))).1 (sym (take-append_seam (sign_text s) rest))

falling : is_falling longest_first ≡ true
unfolding is_falling
falling = refl

no_longer_signs : (bytes : List ℕ) (s : Sign) → sign_of bytes ≡ Some s → (t : Sign) → no_longer (begins bytes) s t ≡ true
unfolding sign_of begins
no_longer_signs bytes s e = each_longest_first (no_longer (begins bytes) s) (first_longest (begins bytes) longest_first s falling e)

longest_as_test : (s : Sign) (rest : List ℕ) → is_longest_sign s rest ≡ list_all (no_longer (begins (sign_text s ++ rest)) s) signs
unfolding no_longer begins
longest_as_test s rest = refl

pub sign_at : (bytes : List ℕ) (s : Sign) → sign_of bytes ≡ Some s → SignAt bytes s (drop (length (sign_text s)) bytes)
unfolding sign_of begins
sign_at bytes s e =
    let starts : begins bytes s ≡ true = found_passes (begins bytes) longest_first s e in
    let all : bytes ≡ sign_text s ++ drop (length (sign_text s)) bytes =
    sym (take-append-drop (length (sign_text s)) bytes) ∙ ap (λ front. front ++ drop (length (sign_text s)) bytes) (sym (begins_so bytes s starts)) in
    let each : list_all (no_longer (begins bytes) s) signs ≡ true = all_pass (no_longer (begins bytes) s) (no_longer_signs bytes s e) signs in
    record {
      all = all;
      longest = longest_as_test s (drop (length (sign_text s)) bytes) ∙ subst (λ text. list_all (no_longer (begins text) s) signs ≡ true) all each;
    }

at_most : (p : Sign → Bool) (s t : Sign) → p t ≡ true → no_longer p s t ≡ true → length (sign_text t) ≤ length (sign_text s)
unfolding no_longer
at_most p s t passes e =
    let least : leb (length (sign_text t)) (length (sign_text s)) ≡ true = sym (ap (λ b. not b || leb (length (sign_text t)) (length (sign_text s))) passes) ∙ e in
    grind (arith, nat_tests)

same_sign : (bytes : List ℕ) (s t : Sign) → begins bytes s ≡ true → begins bytes t ≡ true → length (sign_text s) ≡ length (sign_text t) → s ≡ t
same_sign bytes s t here there same =
    same_text s t (begins_so bytes s here ∙ ap (λ n. take n bytes) same ∙ sym (begins_so bytes t there))

pub sign_given : (s : Sign) (rest : List ℕ) → is_longest_sign s rest ≡ true → sign_of (sign_text s ++ rest) ≡ Some s
unfolding sign_of begins
sign_given s rest longest =
    let bytes : List ℕ = sign_text s ++ rest in
    let here : begins bytes s ≡ true = begins_own s rest in
    none_or_some (sign_of bytes ≡ Some s) (sign_of bytes)
    (λ e.
    let fails : not (begins bytes s) ≡ true = each_longest_first (λ t. not (begins bytes t)) (each_fails (begins bytes) longest_first e) s in
    absurd (let no_such : not true ≡ true = sym (ap not here) ∙ fails in cc))
    (λ t e.
    let there : begins bytes t ≡ true = found_passes (begins bytes) longest_first t e in
    let up : length (sign_text s) ≤ length (sign_text t) = at_most (begins bytes) t s here (no_longer_signs bytes t e s) in
    let tests : list_all (no_longer (begins bytes) s) signs ≡ true = sym (longest_as_test s rest) ∙ longest in
    let down : length (sign_text t) ≤ length (sign_text s) = at_most (begins bytes) s t there (each_sign (no_longer (begins bytes) s) tests t) in
    let same : length (sign_text s) ≡ length (sign_text t) = omega arith in
    e ∙ ap Some (sym (same_sign bytes s t here there same)))

pub sign_within : (bytes : List ℕ) (s : Sign) → sign_of bytes ≡ Some s → length (sign_text s) ≤ length bytes
sign_within bytes s e =
    omega (arith, ap length (sign_at bytes s e).all, length-append (sign_text s) (drop (length (sign_text s)) bytes))

pub sign_within_some : (bytes : List ℕ) (o : Option Sign) → o ≡ sign_of bytes → IfSome o (λ s. length (sign_text s) ≤ length bytes)
sign_within_some bytes None e = tt
sign_within_some bytes (Some s) e = sign_within bytes s (sym e)
