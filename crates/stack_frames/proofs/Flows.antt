-- What is live before a statement, by what is live after it; and which variables occur in its parts.
use Rattle.std.proofs.Common.{◌≡◌, ℕ, List, [], ◌∷◌, ◌++◌, Bool, true, false, refl, ap, arith}
use Rattle.std.specs.Prelude.{nat_eq, ◌||◌, ◌&&◌}
use Rattle.std.specs.List.{list_all}
use Rattle.std.proofs.lemmas.Bool.Decides.{nat_tests}
use Rattle.pan_flow.specs.Flow.{Reads, Writes, Ways, act_first, has, Live}
use Rattle.pan_flow.proofs.Ways.{live_past_read, live_past_write}

-- ---- lists

pub has_first : (x : ℕ) (xs : List ℕ) → has (x ∷ xs) x ≡ true
has_first x xs = grind (arith, nat_tests)

pub has_rest : (x y : ℕ) (xs : List ℕ) → has xs y ≡ true → has (x ∷ xs) y ≡ true
has_rest x y xs h = by (nat_eq y x)
  where
    by : (b : Bool) → (b || has xs y) ≡ true
    by true = refl
    by false = h

pub has_left : (x : ℕ) (xs ys : List ℕ) → has xs x ≡ true → has (xs ++ ys) x ≡ true
has_left x [] ys h = cc h
has_left x (y ∷ xs) ys h = by (nat_eq x y) h (has_left x xs ys)
  where
    by : (b : Bool) → (b || has xs x) ≡ true → (has xs x ≡ true → has (xs ++ ys) x ≡ true) → (b || has (xs ++ ys) x) ≡ true
    by true h on = refl
    by false h on = on h

pub has_right : (x : ℕ) (xs ys : List ℕ) → has ys x ≡ true → has (xs ++ ys) x ≡ true
has_right x [] ys h = h
has_right x (y ∷ xs) ys h = has_rest y x (xs ++ ys) (has_right x xs ys h)

-- one alone is not another
pub not_alone : (x y : ℕ) → nat_eq y x ≡ false → has (x ∷ []) y ≡ false
not_alone x y e = ap (λ b. b || false) e

pub all_left : {A : Type 0} (p : A → Bool) (xs ys : List A) → list_all p (xs ++ ys) ≡ true → list_all p xs ≡ true
all_left p [] ys h = refl
all_left p (x ∷ xs) ys h = by (p x) h (all_left p xs ys)
  where
    by : (b : Bool) → (b && list_all p (xs ++ ys)) ≡ true → (list_all p (xs ++ ys) ≡ true → list_all p xs ≡ true) → (b && list_all p xs) ≡ true
    by true h on = on h
    by false h on = h

pub all_right : {A : Type 0} (p : A → Bool) (xs ys : List A) → list_all p (xs ++ ys) ≡ true → list_all p ys ≡ true
all_right p [] ys h = h
all_right p (x ∷ xs) ys h = by (p x) h (all_right p xs ys)
  where
    by : (b : Bool) → (b && list_all p (xs ++ ys)) ≡ true → (list_all p (xs ++ ys) ≡ true → list_all p ys ≡ true) → list_all p ys ≡ true
    by true h on = on h
    by false h on = cc h

pub all_head : {A : Type 0} (p : A → Bool) (x : A) (xs : List A) → list_all p (x ∷ xs) ≡ true → p x ≡ true
all_head p x xs h = by (p x) h
  where
    by : (b : Bool) → (b && list_all p xs) ≡ true → b ≡ true
    by true h = refl
    by false h = h

pub all_tail : {A : Type 0} (p : A → Bool) (x : A) (xs : List A) → list_all p (x ∷ xs) ≡ true → list_all p xs ≡ true
all_tail p x xs h = by (p x) h
  where
    by : (b : Bool) → (b && list_all p xs) ≡ true → list_all p xs ≡ true
    by true h = h
    by false h = cc h

-- ---- ways

-- what is read, and then one is written
abbrev pub setting : ℕ → List ℕ → Ways → Ways
setting x xs after = act_first (Reads xs) (act_first (Writes (x ∷ [])) after)

pub live_past_set : (x : ℕ) (xs : List ℕ) (after : Ways) (y : ℕ) → nat_eq y x ≡ false → Live after y → Live (setting x xs after) y
live_past_set x xs after y ne l = live_past_read xs (act_first (Writes (x ∷ [])) after) y (live_past_write (x ∷ []) after y (not_alone x y ne) l)

pub live_past_write_one : (x : ℕ) (after : Ways) (y : ℕ) → nat_eq y x ≡ false → Live after y → Live (act_first (Writes (x ∷ [])) after) y
live_past_write_one x after y ne l = live_past_write (x ∷ []) after y (not_alone x y ne) l
