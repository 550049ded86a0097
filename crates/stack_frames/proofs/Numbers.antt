-- The slots that a list of homes names, put in rising order and each kept once, are those of the definition, and a slot's place is its number.
use Rattle.std.proofs.Common.{◌≡◌, ◌⊎◌, inl, inr, ℕ, zero, suc, ◌+◌, ◌<◌, ◌≤◌, List, [], ◌∷◌, length, Bool, true, false, refl, sym, ap, ◌∙◌, subst, arith}
use Rattle.std.specs.Prelude.{⊤, nat_lt, nat_le, nat_eq, ◌&&◌, ◌||◌, not, if◌then◌else◌, slice_index, Result, Ok, Err}
use Rattle.std.specs.List.{filter, dedup, dedup_from, list_any, AllPairs}
use Rattle.std.specs.List.Sorted.{IsPermutation, IsSorted, IsStrictlyIncreasing, IsBinarySearchResult}
use Rattle.std.specs.Ordering.{nat_cmp}
use Rattle.std.specs.Result.{MatchResult}
use Rattle.std.proofs.Math.Dec.{eqb}
use Rattle.std.proofs.lemmas.Bool.Decides.{nat_tests}
use Rattle.std.proofs.lemmas.List.Kept.{AllPairs-from_increasing}
use Rattle.std.proofs.lemmas.List.Sorted.{list_any-IsPermutation, searched}
use Rattle.std.proofs.lemmas.Map.Keys.{IsStrictlyIncreasing-dedup}
use Rattle.pan_flow.specs.Flow.{has}
use Rattle.word_lang.specs.Homes.{first_slot}
use Rattle.stack_frames.specs.Frames.{slots_of, below, number_in, AreSlots}

-- ---- lists in which no number stands twice

-- no number stands twice among these
abbrev AreDifferent : List ℕ → Type 0
AreDifferent [] = ⊤
AreDifferent (x ∷ xs) = (has xs x ≡ false) × AreDifferent xs

-- one number more is below n + 1 than below n, where n is among them
below_next : (xs : List ℕ) → AreDifferent xs → (n : ℕ) → below (suc n) xs ≡ (if has xs n then suc (below n xs) else below n xs)
below_next [] d n = refl
below_next (y ∷ ys) (new, d) n = by (nat_eq n y) (nat_lt y (suc n)) (nat_lt y n) (has ys n) refl refl refl refl (below_next ys d n)
  where
    by : (c a b h : Bool) → nat_eq n y ≡ c → nat_lt y (suc n) ≡ a → nat_lt y n ≡ b → has ys n ≡ h → below (suc n) ys ≡ (if h then suc (below n ys) else below n ys) → (if a then 1 + below (suc n) ys else below (suc n) ys) ≡ (if c || h then suc (if b then 1 + below n ys else below n ys) else (if b then 1 + below n ys else below n ys))
    by true a b true c e f g i = absurd (let k : n ≡ y = grind (arith, nat_tests) in cc (sym g ∙ ap (λ z. has ys z) k ∙ new))
    by true true false false c e f g i = omega (arith, i)
    by true true true false c e f g i = absurd (grind (arith, nat_tests))
    by true false b false c e f g i = absurd (grind (arith, nat_tests))
    by false true true true c e f g i = omega (arith, i)
    by false true true false c e f g i = omega (arith, i)
    by false false false true c e f g i = i
    by false false false false c e f g i = i
    by false true false h c e f g i = absurd (grind (arith, nat_tests))
    by false false true h c e f g i = absurd (grind (arith, nat_tests))

below_none : (xs : List ℕ) → below zero xs ≡ zero
below_none [] = refl
below_none (x ∷ xs) = by (nat_lt x zero) refl (below_none xs)
  where
    by : (b : Bool) → nat_lt x zero ≡ b → below zero xs ≡ zero → (if b then 1 + below zero xs else below zero xs) ≡ zero
    by true e h = absurd (grind (arith, nat_tests))
    by false e h = h

-- with the same numbers among them, as many are below each number
same_below : (xs ys : List ℕ) → AreDifferent xs → AreDifferent ys → ((n : ℕ) → has xs n ≡ has ys n) → (n : ℕ) → below n xs ≡ below n ys
same_below xs ys d e h zero = below_none xs ∙ sym (below_none ys)
same_below xs ys d e h (suc n) = below_next xs d n ∙ ap (λ b. if b then suc (below n xs) else below n xs) (h n) ∙ ap (λ k. if has ys n then suc k else k) (same_below xs ys d e h n) ∙ sym (below_next ys e n)

-- a number that is above all of these
abbrev above : List ℕ → ℕ
above [] = 0
above (x ∷ xs) = suc x + above xs

all_below : (xs : List ℕ) (n : ℕ) → above xs ≤ n → below n xs ≡ length xs
all_below [] n l = refl
all_below (x ∷ xs) n l = by (nat_lt x n) refl l (all_below xs n (omega (arith, l)))
  where
    by : (b : Bool) → nat_lt x n ≡ b → suc x + above xs ≤ n → below n xs ≡ length xs → (if b then 1 + below n xs else below n xs) ≡ suc (length xs)
    by true e l h = omega (arith, h)
    by false e l h = absurd (grind (arith, nat_tests))

same_length : (xs ys : List ℕ) → ((n : ℕ) → below n xs ≡ below n ys) → length xs ≡ length ys
same_length xs ys h = sym (all_below xs (above xs + above ys) (omega arith)) ∙ h (above xs + above ys) ∙ all_below ys (above xs + above ys) (omega arith)

-- ---- what is among them

has_only : (xs : List ℕ) (n : ℕ) → has (filter (λ x. nat_le first_slot x) xs) n ≡ (nat_le first_slot n && has xs n)
has_only [] n = by (nat_le first_slot n)
  where
    by : (b : Bool) → false ≡ (b && false)
    by true = refl
    by false = refl
has_only (x ∷ xs) n = by (nat_le first_slot x) (nat_le first_slot n) (nat_eq n x) refl refl refl (has_only xs n)
  where
    by : (a b c : Bool) → nat_le first_slot x ≡ a → nat_le first_slot n ≡ b → nat_eq n x ≡ c → has (filter (λ x. nat_le first_slot x) xs) n ≡ (b && has xs n) → has (if a then x ∷ filter (λ x. nat_le first_slot x) xs else filter (λ x. nat_le first_slot x) xs) n ≡ (b && (c || has xs n))
    by true true c e f g h = ap (λ d. nat_eq n x || d) h ∙ ap (λ d. d || has xs n) g
    by true false true e f g h = absurd (grind (arith, nat_tests))
    by true false false e f g h = ap (λ d. nat_eq n x || d) h ∙ ap (λ d. d || false) g
    by false true true e f g h = absurd (grind (arith, nat_tests))
    by false true false e f g h = h
    by false false c e f g h = h

has_slots : (xs : List ℕ) (n : ℕ) → has (slots_of xs) n ≡ (nat_le first_slot n && has xs n)
has_slots [] n = has_only [] n
has_slots (x ∷ xs) n = by (nat_le first_slot x) (has xs x) (nat_le first_slot n) (nat_eq n x) refl refl refl refl (has_slots xs n)
  where
    by : (a o b c : Bool) → nat_le first_slot x ≡ a → has xs x ≡ o → nat_le first_slot n ≡ b → nat_eq n x ≡ c → has (slots_of xs) n ≡ (b && has xs n) → has (if a && not o then x ∷ slots_of xs else slots_of xs) n ≡ (b && (c || has xs n))
    by true false true c e o f g h = ap (λ d. nat_eq n x || d) h ∙ ap (λ d. d || has xs n) g
    by true false false true e o f g h = absurd (grind (arith, nat_tests))
    by true false false false e o f g h = ap (λ d. nat_eq n x || d) h ∙ ap (λ d. d || false) g
    by true true true true e o f g h = h ∙ (let k : n ≡ x = grind (arith, nat_tests) in ap (λ z. has xs z) k) ∙ o
    by true true true false e o f g h = h
    by true true false c e o f g h = h
    by false o true true e p f g h = absurd (grind (arith, nat_tests))
    by false o true false e p f g h = h
    by false o false c e p f g h = h

has_any : (xs : List ℕ) (n : ℕ) → has xs n ≡ list_any (λ x. nat_eq n x) xs
has_any [] n = refl
has_any (x ∷ xs) n = ap (λ b. nat_eq n x || b) (has_any xs n)

has_moved : (xs ys : List ℕ) → IsPermutation xs ys → (n : ℕ) → has ys n ≡ has xs n
has_moved xs ys h n = has_any ys n ∙ sym (list_any-IsPermutation (λ x. nat_eq n x) xs ys h) ∙ sym (has_any xs n)

has_once : (x : ℕ) (xs : List ℕ) (n : ℕ) → has (dedup_from eqb x xs) n ≡ (nat_eq n x || has xs n)
has_once x [] n = refl
has_once x (y ∷ ys) n = by (eqb y x) refl (has_once x ys n) (has_once y ys n)
  where
    either : (a b : Bool) → (a || b) ≡ (a || (a || b))
    either true b = refl
    either false b = refl

    by : (b : Bool) → eqb y x ≡ b → has (dedup_from eqb x ys) n ≡ (nat_eq n x || has ys n) → has (dedup_from eqb y ys) n ≡ (nat_eq n y || has ys n) → has (if b then dedup_from eqb x ys else x ∷ dedup_from eqb y ys) n ≡ (nat_eq n x || (nat_eq n y || has ys n))
    by true e h k = h ∙ either (nat_eq n x) (has ys n) ∙ (let is : x ≡ y = grind (arith, nat_tests) in ap (λ z. nat_eq n x || (nat_eq n z || has ys n)) is)
    by false e h k = ap (λ b. nat_eq n x || b) k

has_each : (xs : List ℕ) (n : ℕ) → has (dedup eqb xs) n ≡ has xs n
has_each [] n = refl
has_each (x ∷ xs) n = has_once x xs n

-- ---- none of them stands twice

different_slots : (xs : List ℕ) → AreDifferent (slots_of xs)
different_slots [] = _
different_slots (x ∷ xs) = by (nat_le first_slot x) (has xs x) refl refl (different_slots xs)
  where
    by : (a b : Bool) → nat_le first_slot x ≡ a → has xs x ≡ b → AreDifferent (slots_of xs) → AreDifferent (if a && not b then x ∷ slots_of xs else slots_of xs)
    by true false e f d = (has_slots xs x ∙ ap (λ b. b && has xs x) e ∙ f, d)
    by true true e f d = d
    by false b e f d = d

lower : (x : ℕ) (xs : List ℕ) → ((k : ℕ) → k < length xs → x < slice_index xs k) → has xs x ≡ false
lower x [] h = refl
lower x (y ∷ ys) h = by (nat_eq x y) refl (h 0 (omega arith)) (lower x ys (λ k l. h (suc k) (omega (arith, l))))
  where
    by : (b : Bool) → nat_eq x y ≡ b → x < y → has ys x ≡ false → (b || has ys x) ≡ false
    by true e l h = absurd (grind (arith, nat_tests))
    by false e l h = h

different_pairs : (xs : List ℕ) → AllPairs (λ x y. x < y) xs → AreDifferent xs
different_pairs [] h = _
different_pairs (x ∷ xs) h = (lower x xs (λ k l. h 0 (suc k) 0 (omega arith) (omega (arith, l))), different_pairs xs (λ i j d l m. h (suc i) (suc j) d (omega (arith, l)) (omega (arith, m))))

-- ---- the slots of homes

-- moved into order, and each kept once
pub slots_in_order : (homes kept sorted slots : List ℕ) → kept ≡ filter (λ x. nat_le first_slot x) homes → IsPermutation kept sorted → IsSorted nat_cmp sorted → slots ≡ dedup eqb sorted → AreSlots slots homes × IsStrictlyIncreasing slots
slots_in_order homes kept sorted slots only moved order once =
    let rising : IsStrictlyIncreasing slots = subst IsStrictlyIncreasing (sym once) (IsStrictlyIncreasing-dedup sorted order) in
    let same : (n : ℕ) → has slots n ≡ (nat_le first_slot n && has homes n) = λ n. ap (λ xs. has xs n) once ∙ has_each sorted n ∙ has_moved kept sorted moved n ∙ ap (λ xs. has xs n) only ∙ has_only homes n in
    let numbers : (n : ℕ) → below n slots ≡ below n (slots_of homes) = same_below slots (slots_of homes) (different_pairs slots (AllPairs-from_increasing slots rising)) (different_slots homes) (λ n. same n ∙ sym (has_slots homes n)) in (
      record {
        count = same_length slots (slots_of homes) numbers;
        numbers = numbers;
        members = λ x l. same x ∙ ap (λ b. b && has homes x) l;
      },
      rising,
    )

-- ---- the place of a slot

-- those before a place are lower, and the others aren't
below_place : (x : ℕ) (xs : List ℕ) (i : ℕ) → i ≤ length xs → ((k : ℕ) → k < i → slice_index xs k < x) → ((k : ℕ) → i ≤ k → k < length xs → x ≤ slice_index xs k) → below x xs ≡ i
below_place x [] i l low high = omega (arith, l)
below_place x (y ∷ ys) zero l low high = by (nat_lt y x) refl (high 0 (omega arith) (omega arith)) (below_place x ys zero (omega arith) (λ k l. absurd (omega (arith, l))) (λ k l m. high (suc k) (omega arith) (omega (arith, m))))
  where
    by : (b : Bool) → nat_lt y x ≡ b → x ≤ y → below x ys ≡ zero → (if b then 1 + below x ys else below x ys) ≡ zero
    by true e l h = absurd (grind (arith, nat_tests))
    by false e l h = h
below_place x (y ∷ ys) (suc i) l low high = by (nat_lt y x) refl (low 0 (omega arith)) (below_place x ys i (omega (arith, l)) (λ k l. low (suc k) (omega (arith, l))) (λ k l m. high (suc k) (omega (arith, l)) (omega (arith, m))))
  where
    by : (b : Bool) → nat_lt y x ≡ b → y < x → below x ys ≡ i → (if b then 1 + below x ys else below x ys) ≡ suc i
    by true e l h = omega (arith, h)
    by false e l h = absurd (grind (arith, nat_tests))

-- a slot stands there
abbrev Stands : List ℕ → ℕ → ℕ → Type 0
Stands xs x i = (i < length xs) × (slice_index xs i ≡ x)

-- it would stand there
abbrev Fits : List ℕ → ℕ → ℕ → Type 0
Fits xs x i = (i ≤ length xs) × ((k : ℕ) → k < i → slice_index xs k < x) × ((k : ℕ) → i ≤ k → k < length xs → x < slice_index xs k)

-- what a search in rising slots answers is the number, whether it is where the slot stands or where it would
pub place_is_number : (xs ys : List ℕ) (x i : ℕ) (r : Result ℕ ℕ) → IsStrictlyIncreasing xs → ys ≡ xs → IsBinarySearchResult (λ y. nat_cmp y x) ys r → (r ≡ Ok i) ⊎ (r ≡ Err i) → i ≡ number_in xs x
place_is_number xs ys x i r rising same h is = by is
  where
    pairs : AllPairs (λ a b. a < b) xs
    pairs = AllPairs-from_increasing xs rising

    up : (i j : ℕ) → j < length xs → (b : Bool) → nat_lt i j ≡ b → i ≤ j → slice_index xs i ≤ slice_index xs j
    up i j m true e l = let k = pairs i j 0 (grind (arith, nat_tests)) m in omega (arith, k)
    up i j m false e l = let k : i ≡ j = grind (arith, nat_tests) in let s = ap (λ z. slice_index xs z) k in omega (arith, s)

    found : MatchResult r (Stands xs x) (Fits xs x)
    found = searched xs x r (subst (λ zs. IsBinarySearchResult (λ y. nat_cmp y x) zs r) same h) (λ i j l m. up i j m (nat_lt i j) refl l)

    stands : Stands xs x i → i ≡ number_in xs x
    stands (l, is) = sym (below_place x xs i (omega (arith, l)) (λ k m. subst (λ z. slice_index xs k < z) is (pairs k i 0 m l)) (λ k m n. subst (λ z. z ≤ slice_index xs k) is (up i k n (nat_lt i k) refl m)))

    fits : Fits xs x i → i ≡ number_in xs x
    fits (l, low, high) = sym (below_place x xs i l low (λ k m n. let h = high k m n in omega (arith, h)))

    by : (r ≡ Ok i) ⊎ (r ≡ Err i) → i ≡ number_in xs x
    by (inl e) = stands (subst (λ r. MatchResult r (Stands xs x) (Fits xs x)) e found)
    by (inr e) = fits (subst (λ r. MatchResult r (Stands xs x) (Fits xs x)) e found)
