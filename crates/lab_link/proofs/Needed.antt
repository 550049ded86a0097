-- A turn of the growing: what is long stays needed, and where nothing grows each short line reaches.
use Rattle.std.proofs.Common.{◌≡◌, ◌≢◌, ℕ, zero, suc, ◌+◌, ◌-◌, ◌*◌, ◌<◌, ◌≤◌, refl, sym, ap, ◌∙◌, subst, List, [], ◌∷◌, length, map, get_or, set, Bool, true, false, cond, Option, inl, inr, arith}
use Rattle.std.specs.Prelude.{◌⊎◌, unwrap_or}
use Rattle.std.proofs.lemmas.List.{length-set, set-get_or}
use Rattle.std.proofs.lemmas.Option.{get_or_from_slice_get, slice_get_within}
use Rattle.std.proofs.lemmas.Bool.Decides.{nat_tests}
use Rattle.pan_stage.specs.Sums.{sum_of}
use Rattle.lab_lang.specs.declared.syntax.Line.{Line}
use Rattle.lab_lang.specs.declared.syntax.Line.TheVariants.{Label, Plain, Jump, Branch, CallTo, Address, JumpReg}
use Rattle.lab_lang.specs.Layout.{address_of, shortest, longest, address}
use Rattle.lab_link.specs.Reach.{is_within, reaches}
use Rattle.lab_link.specs.Lengths.{laid_out, shortened, IsFit, AreFit}
use Rattle.lab_link.specs.Turns.{AreCounts, lengthened}
use Rattle.lab_link.proofs.Places.{span}
use Rattle.lab_link.proofs.Counting.{before, Under, under_set, under_sum, under_equal, between, before_more, before_set, counts_of, laid_place, laid_count, counts_length, Target, target}

no_longer : (x : Line) → shortest x ≤ longest x
no_longer (Label l) = omega arith
no_longer (Plain i) = omega arith
no_longer (Jump l) = omega arith
no_longer (Branch c a b l) = omega arith
no_longer (CallTo l) = omega arith
no_longer (Address rd l) = omega arith
no_longer (JumpReg r) = omega arith

-- what never reaches can be long
always : (x : Line) (from : ℕ) (f : ℕ → Option ℕ) → shortest x ≡ longest x → reaches x from f ≡ true
always (Label l) from f e = refl
always (Plain i) from f e = refl
always (Jump l) from f e = absurd (omega arith)
always (Branch c a b l) from f e = absurd (omega arith)
always (CallTo l) from f e = absurd (omega arith)
always (Address rd l) from f e = refl
always (JumpReg r) from f e = refl

pub shortest_counts : (xs : List Line) → AreCounts xs (map shortest xs)
shortest_counts [] = tt
shortest_counts (x ∷ xs) = (inl refl, shortest_counts xs)

one_count : (b : Bool) (n s l : ℕ) → (n ≡ s) ⊎ (n ≡ l) → (cond b n l ≡ s) ⊎ (cond b n l ≡ l)
one_count true n s l h = h
one_count false n s l h = inr refl

pub turn_counts : (xs : List Line) (ns : List ℕ) (place : ℕ) (f : ℕ → Option ℕ) → AreCounts xs ns → AreCounts xs (lengthened xs (laid_out place ns) f)
turn_counts [] [] place f h = tt
turn_counts [] (n ∷ ns) place f h = absurd h
turn_counts (x ∷ xs) [] place f h = absurd h
turn_counts (x ∷ xs) (n ∷ ns) place f h = (one_count (reaches x (address_of place) f) n (shortest x) (longest x) h.0, turn_counts xs ns (place + 4 * n) f h.1)

one_under : (b : Bool) (x : Line) (n : ℕ) → (n ≡ shortest x) ⊎ (n ≡ longest x) → n ≤ cond b n (longest x)
one_under true x n h = omega arith
one_under false x n (inl e) = let h = no_longer x in omega arith
one_under false x n (inr e) = omega arith

pub turn_under : (xs : List Line) (ns : List ℕ) (place : ℕ) (f : ℕ → Option ℕ) → AreCounts xs ns → Under ns (lengthened xs (laid_out place ns) f)
turn_under [] [] place f h = tt
turn_under [] (n ∷ ns) place f h = absurd h
turn_under (x ∷ xs) [] place f h = absurd h
turn_under (x ∷ xs) (n ∷ ns) place f h = (one_under (reaches x (address_of place) f) x n h.0, turn_under xs ns (place + 4 * n) f h.1)

pub count_within : (x : Line) (n : ℕ) → (n ≡ shortest x) ⊎ (n ≡ longest x) → n ≤ longest x
count_within x n (inl e) = let h = no_longer x in omega arith
count_within x n (inr e) = omega arith

pub counts_span : (xs : List Line) (ns : List ℕ) → AreCounts xs ns → sum_of ns ≤ span xs
counts_span [] [] h = omega arith
counts_span [] (n ∷ ns) h = absurd h
counts_span (x ∷ xs) [] h = absurd h
counts_span (x ∷ xs) (n ∷ ns) h = let a = count_within x n h.0 in let b = counts_span xs ns h.1 in omega arith

pub count_at : (xs : List Line) (ns : List ℕ) (i : ℕ) (d : Line) → AreCounts xs ns → i < length xs → (get_or ns i 0 ≡ shortest (get_or xs i d)) ⊎ (get_or ns i 0 ≡ longest (get_or xs i d))
count_at [] ns i d h below = absurd (omega arith)
count_at (x ∷ xs) [] i d h below = absurd h
count_at (x ∷ xs) (n ∷ ns) zero d h below = h.0
count_at (x ∷ xs) (n ∷ ns) (suc i) d h below = count_at xs ns i d h.1 (omega arith)

-- the number of a line after a turn
turn_at : (xs : List Line) (ns : List ℕ) (place : ℕ) (f : ℕ → Option ℕ) (i : ℕ) (d : Line) → length ns ≡ length xs → i < length xs
    → get_or (lengthened xs (laid_out place ns) f) i 0 ≡ cond (reaches (get_or xs i d) (address_of (place + 4 * before i ns)) f) (get_or ns i 0) (longest (get_or xs i d))
turn_at [] ns place f i d e below = absurd (omega arith)
turn_at (x ∷ xs) [] place f i d e below = absurd (omega arith)
turn_at (x ∷ xs) (n ∷ ns) place f zero d e below = ap (λ p. cond (reaches x (address_of p) f) n (longest x)) (omega arith)
turn_at (x ∷ xs) (n ∷ ns) place f (suc i) d e below =
    turn_at xs ns (place + 4 * n) f i d (omega arith) (omega arith)
    ∙ ap (λ p. cond (reaches (get_or xs i d) (address_of p) f) (get_or ns i 0) (longest (get_or xs i d))) (omega arith)

turn_first : (xs : List Line) (ns : List ℕ) (f : ℕ → Option ℕ) (i : ℕ) (d : Line) → length ns ≡ length xs → i < length xs
    → get_or (lengthened xs (laid_out 0 ns) f) i 0 ≡ cond (reaches (get_or xs i d) (address_of (4 * before i ns)) f) (get_or ns i 0) (longest (get_or xs i d))
turn_first xs ns f i d e below =
    let z : 0 + 4 * before i ns ≡ 4 * before i ns = omega arith in
    turn_at xs ns 0 f i d e below ∙ ap (λ p. cond (reaches (get_or xs i d) (address_of p) f) (get_or ns i 0) (longest (get_or xs i d))) z

-- ---- what doesn't reach doesn't where lines are longer

-- nearer lines are in reach
nearer : (back on i j : ℕ) (ns ms : List ℕ) → Under ns ms → is_within back on (address_of (4 * before i ms)) (address_of (4 * before j ms)) ≡ true → is_within back on (address_of (4 * before i ns)) (address_of (4 * before j ns)) ≡ true
nearer back on i j ns ms u h = by_order (order i j)
  where
    order : (i j : ℕ) → (i ≤ j) ⊎ (j ≤ i)
    order zero j = inl (omega arith)
    order (suc i) zero = inr (omega arith)
    order (suc i) (suc j) = elim (order i j) as (λ _. (suc i ≤ suc j) ⊎ (suc j ≤ suc i)) [ inl le ↦ inl (omega arith) | inr le ↦ inr (omega arith) ]

    by_order : (i ≤ j) ⊎ (j ≤ i) → is_within back on (address_of (4 * before i ns)) (address_of (4 * before j ns)) ≡ true
    by_order (inl le) = let a = between ns ms i j u le in let b = before_more ns i j le in let c = before_more ms i j le in grind (arith, nat_tests)
    by_order (inr le) = let a = between ns ms j i u le in let b = before_more ns j i le in let c = before_more ms j i le in grind (arith, nat_tests)

-- whether line i, which is x, reaches where lines have these numbers of instructions
abbrev pub fits : List Line → List ℕ → ℕ → Line → Bool
fits lines ns i x = reaches x (address_of (4 * before i ns)) (address lines (laid_out 0 ns))

module _ (lines : List Line) (i : ℕ) (ns ms : List ℕ) (u : Under ns ms) (few : length ns ≡ length lines) (many : length ms ≡ length lines) where
  by_target : (back on l : ℕ) → Target lines l
      → is_within back on (address_of (4 * before i ms)) (unwrap_or (address lines (laid_out 0 ms) l) (address_of 0)) ≡ true
      → is_within back on (address_of (4 * before i ns)) (unwrap_or (address lines (laid_out 0 ns) l) (address_of 0)) ≡ true
  by_target back on l t h =
      ap (λ to. is_within back on (address_of (4 * before i ns)) to) (t.is ns few)
      ∙ nearer back on i t.line ns ms u (sym (ap (λ to. is_within back on (address_of (4 * before i ms)) to) (t.is ms many)) ∙ h)

  fits_shorter : (x : Line) → fits lines ms i x ≡ true → fits lines ns i x ≡ true
  fits_shorter (Label l) h = refl
  fits_shorter (Plain k) h = refl
  fits_shorter (Jump l) h = by_target 1048576 1048574 l (target lines l) h
  fits_shorter (Branch c a b l) h = by_target 4096 4094 l (target lines l) h
  fits_shorter (CallTo l) h = by_target 1048576 1048574 l (target lines l) h
  fits_shorter (Address rd l) h = refl
  fits_shorter (JumpReg r) h = refl

  unfit_longer : (x : Line) → fits lines ns i x ≡ false → fits lines ms i x ≡ false
  unfit_longer x h = by_case (fits lines ms i x) refl
    where
      by_case : (b : Bool) → fits lines ms i x ≡ b → b ≡ false
      by_case true is = sym (fits_shorter x is) ∙ h
      by_case false is = refl

-- each long line wouldn't reach, if it alone were short
pub record AreNeeded (lines : List Line) (ns : List ℕ) : Type 0 where
  pub needed : (i : ℕ) (d : Line) → i < length lines → shortest (get_or lines i d) < get_or ns i 0 → fits lines (set ns i (shortest (get_or lines i d))) i (get_or lines i d) ≡ false

pub one_short : (xs : List Line) (i : ℕ) (d : Line) → i < length xs → get_or (map shortest xs) i 0 ≡ shortest (get_or xs i d)
one_short [] i d below = absurd (omega arith)
one_short (x ∷ xs) zero d below = refl
one_short (x ∷ xs) (suc i) d below = one_short xs i d (omega arith)

pub none_needed : (lines : List Line) → AreNeeded lines (map shortest lines)
none_needed lines = record { needed = λ i d below long. let e = one_short lines i d below in absurd (omega arith) }

module _ (lines : List Line) (ns : List ℕ) (counts : AreCounts lines ns) where
  abbrev after : List ℕ
  after = lengthened lines (laid_out 0 ns) (address lines (laid_out 0 ns))

  few : length ns ≡ length lines
  few = counts_length lines ns counts

  many : length after ≡ length lines
  many = counts_length lines after (turn_counts lines ns 0 (address lines (laid_out 0 ns)) counts)

  under : Under ns after
  under = turn_under lines ns 0 (address lines (laid_out 0 ns)) counts

  module _ (so_far : AreNeeded lines ns) (i : ℕ) (d : Line) (below : i < length lines) (long : shortest (get_or lines i d) < get_or after i 0) where
    abbrev x : Line
    x = get_or lines i d

    abbrev n : ℕ
    n = get_or ns i 0

    longer : fits lines (set ns i (shortest x)) i x ≡ false → fits lines (set after i (shortest x)) i x ≡ false
    longer h =
        let a : length (set ns i (shortest x)) ≡ length lines = length-set ns i (shortest x) ∙ few in
        let b : length (set after i (shortest x)) ≡ length lines = length-set after i (shortest x) ∙ many in
        unfit_longer lines i (set ns i (shortest x)) (set after i (shortest x)) (under_set ns after i (shortest x) under) a b x h

    -- it was short, and is long now, as it doesn't reach
    was_short : n ≡ shortest x → (b : Bool) → fits lines ns i x ≡ b → b ≡ false
    was_short short true is =
        let grown : get_or after i 0 ≡ n = turn_first lines ns (address lines (laid_out 0 ns)) i d few below ∙ ap (λ b. cond b n (longest x)) is in
        absurd (omega arith)
    was_short short false is = refl

    by_length : (n ≤ shortest x) ⊎ (shortest x < n) → (n ≡ shortest x) ⊎ (n ≡ longest x) → fits lines (set after i (shortest x)) i x ≡ false
    by_length (inr was_long) either = longer (so_far.needed i d below was_long)
    by_length (inl small) either =
        let short : n ≡ shortest x = let h = no_longer x in elim either as (λ _. n ≡ shortest x) [ inl e ↦ e | inr e ↦ omega arith ] in
        let same : set ns i (shortest x) ≡ ns = ap (λ m. set ns i m) (sym short) ∙ set-get_or ns i 0 in
        longer (ap (λ ks. fits lines ks i x) same ∙ was_short short (fits lines ns i x) refl)

    order : (m k : ℕ) → (m ≤ k) ⊎ (k < m)
    order zero k = inl (omega arith)
    order (suc m) zero = inr (omega arith)
    order (suc m) (suc k) = elim (order m k) as (λ _. (suc m ≤ suc k) ⊎ (suc k < suc m)) [ inl le ↦ inl (omega arith) | inr le ↦ inr (omega arith) ]

    still_needed : fits lines (set after i (shortest x)) i x ≡ false
    still_needed = by_length (order n (shortest x)) (count_at lines ns i d counts below)

  pub turn_needed : AreNeeded lines ns → AreNeeded lines after
  turn_needed so_far = record { needed = λ i d below long. still_needed so_far i d below long }

  -- ---- where nothing grows

  module _ (needed : AreNeeded lines ns) (stable : after ≡ ns) where
    short_reaches : (i : ℕ) (d : Line) → i < length lines → get_or ns i 0 ≡ shortest (get_or lines i d) → (b : Bool) → fits lines ns i (get_or lines i d) ≡ b → b ≡ true
    short_reaches i d below short true is = refl
    short_reaches i d below short false is =
        let x = get_or lines i d in
        let grown : get_or after i 0 ≡ longest x = turn_first lines ns (address lines (laid_out 0 ns)) i d few below ∙ ap (λ b. cond b (get_or ns i 0) (longest x)) is in
        let same : get_or after i 0 ≡ get_or ns i 0 = ap (λ ks. get_or ks i 0) stable in
        sym is ∙ always x (address_of (4 * before i ns)) (address lines (laid_out 0 ns)) (omega arith)

    is_fit : (i : ℕ) (d : Line) (z : ℕ × ℕ) → i < length lines → IsFit lines (laid_out 0 ns) i (get_or lines i d) (get_or (laid_out 0 ns) i z)
    is_fit i d z below =
        let x = get_or lines i d in
        let place : (get_or (laid_out 0 ns) i z).0 ≡ 4 * before i ns = laid_place 0 ns i z (let e = few in omega arith) ∙ omega arith in
        let count : (get_or (laid_out 0 ns) i z).1 ≡ get_or ns i 0 = laid_count 0 ns i z (let e = few in omega arith) in
        let alone : shortened i x (laid_out 0 ns) ≡ laid_out 0 (set ns i (shortest x)) = ap (λ ks. laid_out 0 (set ks i (shortest x))) (counts_of 0 ns) in
        record {
          short = λ is. ap (λ p. reaches x (address_of p) (address lines (laid_out 0 ns))) place ∙ short_reaches i d below (sym count ∙ is) (fits lines ns i x) refl;
          long = λ more.
              ap (λ p. reaches x (address_of p) (address lines (shortened i x (laid_out 0 ns)))) (place ∙ ap (λ k. 4 * k) (sym (before_set ns i (shortest x))))
              ∙ ap (λ ys. reaches x (address_of (4 * before i (set ns i (shortest x)))) (address lines ys)) alone
              ∙ needed.needed i d below (omega arith);
        }

    pub are_fit : AreFit lines (laid_out 0 ns)
    are_fit i x y is_line is_laid =
        let below = slice_get_within lines i x is_line in
        subst (λ z. IsFit lines (laid_out 0 ns) i z y) (get_or_from_slice_get lines i x x is_line)
        (subst (IsFit lines (laid_out 0 ns) i (get_or lines i x)) (get_or_from_slice_get (laid_out 0 ns) i y y is_laid) (is_fit i x y below))

-- ---- turns

-- a layout in which each long line is needed, and its size
pub record IsTurn (lines : List Line) (layout : List (ℕ × ℕ)) (size : ℕ) : Type 0 where
  pub counts : List ℕ
  pub lawful : AreCounts lines counts
  pub laid : layout ≡ laid_out 0 counts
  pub sized : size ≡ 4 * sum_of counts
  pub needed : AreNeeded lines counts

pub first_turn : (lines : List Line) (layout : List (ℕ × ℕ)) (size : ℕ) → layout ≡ laid_out 0 (map shortest lines) → size ≡ 4 * sum_of (map shortest lines) → IsTurn lines layout size
first_turn lines layout size laid sized = record { counts = map shortest lines; lawful = shortest_counts lines; laid = laid; sized = sized; needed = none_needed lines }

module _ (lines : List Line) (layout next : List (ℕ × ℕ)) (size longer : ℕ) (h : IsTurn lines layout size) (laid : next ≡ laid_out 0 (lengthened lines layout (address lines layout)))
    (sized : longer ≡ 4 * sum_of (lengthened lines layout (address lines layout))) where
  abbrev grown : List ℕ
  grown = lengthened lines (laid_out 0 h.counts) (address lines (laid_out 0 h.counts))

  grown_is : lengthened lines layout (address lines layout) ≡ grown
  grown_is = ap (λ ys. lengthened lines ys (address lines ys)) h.laid

  longer_is : longer ≡ 4 * sum_of grown
  longer_is = sized ∙ ap (λ ns. 4 * sum_of ns) grown_is

  grows : sum_of h.counts ≤ sum_of grown
  grows = under_sum h.counts grown (turn_under lines h.counts 0 (address lines (laid_out 0 h.counts)) h.lawful)

  pub next_turn : IsTurn lines next longer
  next_turn = record {
    counts = grown;
    lawful = turn_counts lines h.counts 0 (address lines (laid_out 0 h.counts)) h.lawful;
    laid = laid ∙ ap (laid_out 0) grown_is;
    sized = longer_is;
    needed = turn_needed lines h.counts h.lawful h.needed;
  }

  -- a turn that lengthens leaves less to grow
  pub less_left : longer ≢ size → 4 * span lines - longer < 4 * span lines - size
  less_left new =
      let a = h.sized in
      let b = longer_is in
      let c = grows in
      let d = counts_span lines grown (turn_counts lines h.counts 0 (address lines (laid_out 0 h.counts)) h.lawful) in
      omega arith

  -- where it doesn't, all lines fit
  pub turns_end : longer ≡ size → AreFit lines layout
  turns_end same =
      let a = h.sized in
      let b = longer_is in
      let e : sum_of h.counts ≡ sum_of grown = omega arith in
      let stable : grown ≡ h.counts = sym (under_equal h.counts grown (turn_under lines h.counts 0 (address lines (laid_out 0 h.counts)) h.lawful) e) in
      subst (AreFit lines) (sym h.laid) (are_fit lines h.counts h.lawful h.needed stable)

pub turn_laid : (lines : List Line) (layout : List (ℕ × ℕ)) (size : ℕ) → IsTurn lines layout size → (counts : List ℕ) × AreCounts lines counts × (layout ≡ laid_out 0 counts)
turn_laid lines layout size h = (h.counts, h.lawful, h.laid)
