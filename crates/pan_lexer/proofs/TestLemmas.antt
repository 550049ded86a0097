-- Tests, choices by them, and the first of a list that passes one.
use Rattle.std.proofs.Common.{◌≡◌, Bool, true, false, not, ◌&&◌, ◌||◌, cond, List, [], ◌∷◌, Option, Some, None, option_map, sym, subst, refl}
use Rattle.std.specs.List.{find, list_all, list_any}

-- ---- choices

-- both tests hold
pub both_true : (a b : Bool) → (a && b) ≡ true → (a ≡ true) × (b ≡ true)
both_true true b e = (refl, e)
both_true false b e = absurd (cc)

pub not_true : (b : Bool) → not b ≡ true → b ≡ false
not_true true e = sym e
not_true false e = refl

pub different : {A : Type 0} {a : A} → None ≡ Some a → ⊥
different e = cc

-- the choice gave something
pub if_some : {A P : Type 0} (t : Bool) (x y : Option A) (a : A) → (t ≡ true → x ≡ Some a → P) → (t ≡ false → y ≡ Some a → P) → cond t x y ≡ Some a → P
if_some true x y a one other e = one refl e
if_some false x y a one other e = other refl e

pub mapped_some : {A B P : Type 0} (f : A → B) (o : Option A) (b : B) → ((a : A) → o ≡ Some a → f a ≡ b → P) → option_map f o ≡ Some b → P
mapped_some f None b go e = absurd (cc)
mapped_some f (Some a) b go e = go a refl (cc)

pub no_some : {A P : Type 0} (a : A) → None ≡ Some a → P
no_some a e = absurd (cc)

pub none_or_some : {A : Type 0} (P : Type 0) (o : Option A) → (o ≡ None → P) → ((a : A) → o ≡ Some a → P) → P
none_or_some P None one other = one refl
none_or_some P (Some a) one other = other a refl

-- ---- the first that passes

module _ {X : Type 0} (p : X → Bool) where
  -- it passes
  pub found_passes : (xs : List X) (x : X) → find p xs ≡ Some x → p x ≡ true
  found_passes [] x e = no_some x e
  found_passes (y ∷ ys) x e =
      if_some (p y) (Some y) (find p ys) x
      (λ is same. let h : y ≡ x = cc in subst (λ z. p z ≡ true) h is)
      (λ _ same. found_passes ys x same)
      e

  -- what holds of each holds of it
  pub found_among : (q : X → Bool) (xs : List X) (x : X) → find p xs ≡ Some x → list_all q xs ≡ true → q x ≡ true
  found_among q [] x e all = no_some x e
  found_among q (y ∷ ys) x e all =
      let parts = both_true (q y) (list_all q ys) all in
      if_some (p y) (Some y) (find p ys) x
      (λ is same. let h : y ≡ x = cc in subst (λ z. q z ≡ true) h parts.0)
      (λ _ same. found_among q ys x same parts.1)
      e

  -- each fails
  pub each_fails : (xs : List X) → find p xs ≡ None → list_all (λ x. not (p x)) xs ≡ true
  each_fails [] e = refl
  each_fails (y ∷ ys) e = by_test (each_fails ys) (p y) e
    where
      by_test : (find p ys ≡ None → list_all (λ x. not (p x)) ys ≡ true) → (t : Bool) → cond t (Some y) (find p ys) ≡ None → (not t && list_all (λ x. not (p x)) ys) ≡ true
      by_test others true e = absurd (cc)
      by_test others false e = others e

  -- none passes
  pub none_passes : (xs : List X) → find p xs ≡ None → list_any p xs ≡ false
  none_passes [] e = refl
  none_passes (y ∷ ys) e = by_test (none_passes ys) (p y) e
    where
      by_test : (find p ys ≡ None → list_any p ys ≡ false) → (t : Bool) → cond t (Some y) (find p ys) ≡ None → (t || list_any p ys) ≡ false
      by_test others true e = absurd (cc)
      by_test others false e = others e

  pub none_found : (xs : List X) → list_any p xs ≡ false → find p xs ≡ None
  none_found [] e = refl
  none_found (y ∷ ys) e = by_test (none_found ys) (p y) e
    where
      by_test : (list_any p ys ≡ false → find p ys ≡ None) → (t : Bool) → (t || list_any p ys) ≡ false → cond t (Some y) (find p ys) ≡ None
      by_test others true e = absurd (cc)
      by_test others false e = others e

-- a test that holds of everything holds of each
pub all_pass : {X : Type 0} (q : X → Bool) → ((x : X) → q x ≡ true) → (xs : List X) → list_all q xs ≡ true
all_pass q each [] = refl
all_pass q each (x ∷ xs) = rw (each x, all_pass q each xs) refl
