-- Rows of variables: what they have, numbers above them, and how many different ones they have.
use Rattle.std.proofs.Common.{◌≡◌, ◌≢◌, ◌⊎◌, inl, inr, ℕ, zero, suc, ◌+◌, ◌<◌, ◌≤◌, Bool, true, false, List, [], ◌∷◌, ◌++◌, arith, refl, sym, ap, ◌∙◌}
use Rattle.std.specs.Prelude.{max, nat_eq, ◌||◌, if◌then◌else◌}
use Rattle.std.proofs.lemmas.Bool.Decides.{nat_tests}
use Rattle.pan_flow.specs.Flow.{has}
use Rattle.pan_flow.specs.Functions.{above, different}

pub or_cases : (a b : Bool) → (a || b) ≡ true → (a ≡ true) ⊎ (b ≡ true)
or_cases true b h = inl refl
or_cases false b h = inr h

pub or_left : (a b : Bool) → a ≡ true → (a || b) ≡ true
or_left true b h = refl
or_left false b h = cc

pub or_right : (a b : Bool) → b ≡ true → (a || b) ≡ true
or_right true b h = refl
or_right false b h = h

pub same : (x y : ℕ) → nat_eq x y ≡ true → x ≡ y
same x y h = grind (arith, nat_tests)

pub itself : (x : ℕ) → nat_eq x x ≡ true
itself x = by (nat_eq x x) refl
  where
    by : (b : Bool) → nat_eq x x ≡ b → b ≡ true
    by true e = refl
    by false e = absurd (grind (arith, nat_tests))

pub test_of : (x y : ℕ) → x ≡ y → nat_eq x y ≡ true
test_of x y e = ap (λ z. nat_eq x z) (sym e) ∙ itself x

-- ---- what a row has

pub has_here : (y : ℕ) (ys : List ℕ) (z : ℕ) → z ≡ y → has (y ∷ ys) z ≡ true
has_here y ys z e = or_left (nat_eq z y) (has ys z) (test_of z y e)

pub has_there : (y : ℕ) (ys : List ℕ) (z : ℕ) → has ys z ≡ true → has (y ∷ ys) z ≡ true
has_there y ys z h = or_right (nat_eq z y) (has ys z) h

pub has_cases : (y : ℕ) (ys : List ℕ) (z : ℕ) → has (y ∷ ys) z ≡ true → (z ≡ y) ⊎ (has ys z ≡ true)
has_cases y ys z h = elim (or_cases (nat_eq z y) (has ys z) h) [ inl e ↦ inl (same z y e) | inr m ↦ inr m ]

pub has_one : (y z : ℕ) → has (y ∷ []) z ≡ true → z ≡ y
has_one y z h = elim (has_cases y [] z h) [ inl e ↦ e | inr m ↦ absurd (cc m) ]

pub has_left : (xs ys : List ℕ) (z : ℕ) → has xs z ≡ true → has (xs ++ ys) z ≡ true
has_left [] ys z h = absurd (cc h)
has_left (x ∷ xs) ys z h = elim (has_cases x xs z h) [ inl e ↦ has_here x (xs ++ ys) z e | inr m ↦ has_there x (xs ++ ys) z (has_left xs ys z m) ]

pub has_right : (xs ys : List ℕ) (z : ℕ) → has ys z ≡ true → has (xs ++ ys) z ≡ true
has_right [] ys z h = h
has_right (x ∷ xs) ys z h = has_there x (xs ++ ys) z (has_right xs ys z h)

pub has_both : (xs ys : List ℕ) (z : ℕ) → has (xs ++ ys) z ≡ true → (has xs z ≡ true) ⊎ (has ys z ≡ true)
has_both [] ys z h = inr h
has_both (x ∷ xs) ys z h = by (has_cases x (xs ++ ys) z h) (has_both xs ys z)
  where
    by : (z ≡ x) ⊎ (has (xs ++ ys) z ≡ true) → (has (xs ++ ys) z ≡ true → (has xs z ≡ true) ⊎ (has ys z ≡ true)) → (has (x ∷ xs) z ≡ true) ⊎ (has ys z ≡ true)
    by (inl e) others = inl (has_here x xs z e)
    by (inr m) others = elim (others m) [ inl l ↦ inl (has_there x xs z l) | inr r ↦ inr r ]

-- ---- numbers above a row

pub above_append : (xs ys : List ℕ) → above (xs ++ ys) ≡ max (above xs) (above ys)
above_append [] ys = omega arith
above_append (x ∷ xs) ys = ap (max (suc x)) (above_append xs ys) ∙ omega arith

pub above_left : (count : ℕ) (xs ys : List ℕ) → above (xs ++ ys) ≤ count → above xs ≤ count
above_left count xs ys l = let e = above_append xs ys in omega (arith, e, l)

pub above_right : (count : ℕ) (xs ys : List ℕ) → above (xs ++ ys) ≤ count → above ys ≤ count
above_right count xs ys l = let e = above_append xs ys in omega (arith, e, l)

-- each variable of a row is below a number that is above them
pub below : (xs : List ℕ) (z : ℕ) → has xs z ≡ true → z < above xs
below [] z h = absurd (cc h)
below (x ∷ xs) z h = by (has_cases x xs z h) (below xs z)
  where
    by : (z ≡ x) ⊎ (has xs z ≡ true) → (has xs z ≡ true → z < above xs) → z < max (suc x) (above xs)
    by (inl e) others = omega (arith, e)
    by (inr m) others = let l = others m in omega (arith, l)

pub above_each : (n : ℕ) (xs : List ℕ) → ((z : ℕ) → has xs z ≡ true → z < n) → above xs ≤ n
above_each n [] h = omega arith
above_each n (x ∷ xs) h =
    let one = h x (has_here x xs x refl) in
    let others = above_each n xs (λ z m. h z (has_there x xs z m)) in omega (arith, one, others)

-- ---- how many different ones

abbrev one_if : Bool → ℕ
one_if b = if b then 1 else 0

-- how many of the numbers below n a row has
abbrev counted : ℕ → List ℕ → ℕ
counted zero xs = 0
counted (suc n) xs = one_if (has xs n) + counted n xs

counted_few : (n : ℕ) (xs : List ℕ) → counted n xs ≤ n
counted_few zero xs = omega arith
counted_few (suc n) xs = let l = counted_few n xs in let k : one_if (has xs n) ≤ 1 = by (has xs n) in omega (arith, l, k)
  where
    by : (b : Bool) → one_if b ≤ 1
    by true = omega arith
    by false = omega arith

counted_more : (n x : ℕ) (xs : List ℕ) → counted n xs ≤ counted n (x ∷ xs)
counted_more zero x xs = omega arith
counted_more (suc n) x xs = let l = counted_more n x xs in let k = by (has xs n) (nat_eq n x) in omega (arith, l, k)
  where
    by : (b c : Bool) → one_if b ≤ one_if (c || b)
    by true true = omega arith
    by true false = omega arith
    by false true = omega arith
    by false false = omega arith

counted_new : (n x : ℕ) (xs : List ℕ) → x < n → has xs x ≡ false → suc (counted n xs) ≤ counted n (x ∷ xs)
counted_new zero x xs l h = absurd (omega (arith, l))
counted_new (suc n) x xs l h = by (nat_eq n x) refl (counted_new n x xs)
  where
    by : (c : Bool) → nat_eq n x ≡ c → (x < n → has xs x ≡ false → suc (counted n xs) ≤ counted n (x ∷ xs)) → suc (one_if (has xs n) + counted n xs) ≤ one_if (c || has xs n) + counted n (x ∷ xs)
    by true e others =
        let is : n ≡ x = same n x e in
        let none : one_if (has xs n) ≡ 0 = ap one_if (ap (has xs) is ∙ h) in
        let k = counted_more n x xs in omega (arith, none, k)
    by false e others = let ne : n ≢ x = (λ k. grind (arith, nat_tests)) in let k = others (omega (arith, l, ne)) h in omega (arith, k)

different_counted : (n : ℕ) (xs : List ℕ) → above xs ≤ n → different xs ≤ counted n xs
different_counted n [] l = omega arith
different_counted n (x ∷ xs) l = by (has xs x) refl (different_counted n xs (omega (arith, l)))
  where
    by : (b : Bool) → has xs x ≡ b → different xs ≤ counted n xs → (if b then different xs else suc (different xs)) ≤ counted n (x ∷ xs)
    by true e k = let m = counted_more n x xs in omega (arith, k, m)
    by false e k = let m = counted_new n x xs (omega (arith, l)) e in omega (arith, k, m)

-- there are no more different ones than numbers below
pub different_few : (xs : List ℕ) → different xs ≤ above xs
different_few xs = let l = different_counted (above xs) xs (omega arith) in let k = counted_few (above xs) xs in omega (arith, l, k)

-- ---- rows of which one has what the other has

counted_within : (n : ℕ) (xs ys : List ℕ) → ((z : ℕ) → has xs z ≡ true → has ys z ≡ true) → counted n xs ≤ counted n ys
counted_within zero xs ys h = omega arith
counted_within (suc n) xs ys h = let l = counted_within n xs ys h in let k = by (has xs n) (has ys n) (h n) in omega (arith, l, k)
  where
    by : (b c : Bool) → (b ≡ true → c ≡ true) → one_if b ≤ one_if c
    by true true f = omega arith
    by false true f = omega arith
    by false false f = omega arith
    by true false f = absurd (cc (f refl))

-- a variable that stands no lower adds nothing below
counted_below : (n x : ℕ) (xs : List ℕ) → n ≤ x → counted n (x ∷ xs) ≤ counted n xs
counted_below zero x xs l = omega arith
counted_below (suc n) x xs l = let k = counted_below n x xs (omega (arith, l)) in by (nat_eq n x) refl k
  where
    by : (c : Bool) → nat_eq n x ≡ c → counted n (x ∷ xs) ≤ counted n xs → one_if (c || has xs n) + counted n (x ∷ xs) ≤ one_if (has xs n) + counted n xs
    by true e k = let is = same n x e in absurd (omega (arith, l, is))
    by false e k = omega (arith, k)

-- one more adds one at most
counted_one : (n x : ℕ) (xs : List ℕ) → counted n (x ∷ xs) ≤ suc (counted n xs)
counted_one zero x xs = omega arith
counted_one (suc n) x xs = by (nat_eq n x) refl (counted_one n x xs)
  where
    few : (b : Bool) → one_if b ≤ 1
    few true = omega arith
    few false = omega arith

    by : (c : Bool) → nat_eq n x ≡ c → counted n (x ∷ xs) ≤ suc (counted n xs) → one_if (c || has xs n) + counted n (x ∷ xs) ≤ suc (one_if (has xs n) + counted n xs)
    by true e k = let is = same n x e in let l = counted_below n x xs (omega (arith, is)) in let m = few true in omega (arith, l, m)
    by false e k = omega (arith, k)

counted_different : (n : ℕ) (xs : List ℕ) → counted n xs ≤ different xs
counted_different n [] = none n
  where
    none : (n : ℕ) → counted n [] ≤ 0
    none zero = omega arith
    none (suc n) = let l = none n in omega (arith, l)
counted_different n (x ∷ xs) = by (has xs x) refl (counted_different n xs)
  where
    by : (b : Bool) → has xs x ≡ b → counted n xs ≤ different xs → counted n (x ∷ xs) ≤ (if b then different xs else suc (different xs))
    by true e l = let k = counted_within n (x ∷ xs) xs (λ z h. elim (has_cases x xs z h) [ inl is ↦ ap (has xs) is ∙ e | inr m ↦ m ]) in omega (arith, l, k)
    by false e l = let k = counted_one n x xs in omega (arith, l, k)

-- what another row has too are no more different ones
pub different_within : (xs ys : List ℕ) → ((z : ℕ) → has xs z ≡ true → has ys z ≡ true) → different xs ≤ different ys
different_within xs ys h =
    let a = different_counted (above xs) xs (omega arith) in
    let b = counted_within (above xs) xs ys h in
    let c = counted_different (above xs) ys in omega (arith, a, b, c)
