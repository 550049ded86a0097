-- What a mark that is set changes, and rows of functions on the way.
use Rattle.std.proofs.Common.{◌≡◌, ◌≢◌, ℕ, zero, suc, ◌+◌, ◌<◌, ◌≤◌, List, [], ◌∷◌, ◌++◌, map, length, get_or, set, drop, refl, sym, arith}
use Rattle.pan_stage.specs.Sums.{sum_of}
use Rattle.stack_bound.specs.declared.walk.Mark.{Mark}
use Rattle.stack_bound.specs.declared.walk.Mark.TheVariants.{Unseen, Open, Done}
use Rattle.stack_bound.specs.Walks.{of_unseen, AreUnseen}

-- ---- sums

pub sum_push : (ns : List ℕ) (n : ℕ) → sum_of (ns ++ n ∷ []) ≡ sum_of ns + n
sum_push [] n = omega arith
sum_push (x ∷ xs) n = let e = sum_push xs n in omega arith

pub sum_push_map : {A : Type 0} (f : A → ℕ) (xs : List A) (x : A) → sum_of (map f (xs ++ x ∷ [])) ≡ sum_of (map f xs) + f x
sum_push_map f [] x = omega arith
sum_push_map f (y ∷ ys) x = let e = sum_push_map f ys x in omega arith

pub unseen_within : (ns : List ℕ) (ms : List Mark) → of_unseen ns ms ≤ sum_of ns
unseen_within [] ms = omega arith
unseen_within (n ∷ ns) [] = omega arith
unseen_within (n ∷ ns) (Unseen ∷ ms) = let e = unseen_within ns ms in omega arith
unseen_within (n ∷ ns) (Open place ∷ ms) = let e = unseen_within ns ms in omega arith
unseen_within (n ∷ ns) (Done bytes ∷ ms) = let e = unseen_within ns ms in omega arith

-- a function that is opened was unseen
pub opened : (ns : List ℕ) (ms : List Mark) (g place : ℕ) → g < length ms → length ms ≡ length ns → get_or ms g Unseen ≡ Unseen → of_unseen ns (set ms g (Open place)) + get_or ns g 0 ≡ of_unseen ns ms
opened [] ms g place l e u = absurd (omega arith)
opened (n ∷ ns) [] g place l e u = absurd (omega arith)
opened (n ∷ ns) (Unseen ∷ ms) zero place l e u = omega arith
opened (n ∷ ns) (Open p ∷ ms) zero place l e u = absurd (cc u)
opened (n ∷ ns) (Done b ∷ ms) zero place l e u = absurd (cc u)
opened (n ∷ ns) (Unseen ∷ ms) (suc g) place l e u = let h = opened ns ms g place (omega arith) (omega arith) u in omega arith
opened (n ∷ ns) (Open p ∷ ms) (suc g) place l e u = opened ns ms g place (omega arith) (omega arith) u
opened (n ∷ ns) (Done b ∷ ms) (suc g) place l e u = opened ns ms g place (omega arith) (omega arith) u

-- one that is done isn't unseen
pub done : (ns : List ℕ) (ms : List Mark) (g bytes : ℕ) → of_unseen ns (set ms g (Done bytes)) ≤ of_unseen ns ms
done [] ms g bytes = omega arith
done (n ∷ ns) [] g bytes = omega arith
done (n ∷ ns) (Unseen ∷ ms) zero bytes = omega arith
done (n ∷ ns) (Open p ∷ ms) zero bytes = omega arith
done (n ∷ ns) (Done b ∷ ms) zero bytes = omega arith
done (n ∷ ns) (Unseen ∷ ms) (suc g) bytes = let h = done ns ms g bytes in omega arith
done (n ∷ ns) (Open p ∷ ms) (suc g) bytes = done ns ms g bytes
done (n ∷ ns) (Done b ∷ ms) (suc g) bytes = done ns ms g bytes

-- ---- rows

pub get_or_map : {A : Type 0} (f : A → ℕ) (d : A) → f d ≡ 0 → (xs : List A) (i : ℕ) → get_or (map f xs) i 0 ≡ f (get_or xs i d)
get_or_map f d e [] i = sym e
get_or_map f d e (x ∷ xs) zero = refl
get_or_map f d e (x ∷ xs) (suc i) = get_or_map f d e xs i

pub first_on : (xs : List ℕ) (y g : ℕ) → get_or ((xs ++ y ∷ []) ++ g ∷ []) 0 0 ≡ get_or (xs ++ y ∷ []) 0 0
first_on [] y g = refl
first_on (x ∷ xs) y g = refl

-- a place of the row whose function isn't the last is one of the row before
pub before_last : (xs : List ℕ) (y place f : ℕ) → place < length (xs ++ y ∷ []) → get_or (xs ++ y ∷ []) place 0 ≡ f → f ≢ y → (place < length xs) × (get_or xs place 0 ≡ f)
before_last [] y zero f l e ne = absurd (ne (sym e))
before_last [] y (suc place) f l e ne = absurd (omega arith)
before_last (x ∷ xs) y zero f l e ne = (omega arith, e)
before_last (x ∷ xs) y (suc place) f l e ne = let h = before_last xs y place f (omega arith) e ne in (let a = h.0 in omega arith, h.1)

pub unseen_push : (ms : List Mark) → AreUnseen ms → AreUnseen (ms ++ Unseen ∷ [])
unseen_push [] h zero = refl
unseen_push [] h (suc f) = refl
unseen_push (m ∷ ms) h zero = h 0
unseen_push (m ∷ ms) h (suc f) = unseen_push ms (λ i. h (suc i)) f

pub drop_numbers : {A : Type 0} (f : A → ℕ) (xs : List A) (n k : ℕ) → k ≤ length xs → drop k (map f xs ++ n ∷ []) ≡ map f (drop k xs) ++ n ∷ []
drop_numbers f xs n zero l = refl
drop_numbers f [] n (suc k) l = absurd (omega arith)
drop_numbers f (x ∷ xs) n (suc k) l = drop_numbers f xs n k (omega arith)
