-- What is found by its name has a number, at which it stands.
use Rattle.std.proofs.Common.{◌≡◌, ℕ, ◌<◌, Bool, true, false, cond, ◌||◌, List, [], ◌∷◌, length, Option, Some, None, slice_get, refl, sym, ap, arith, ◌∙◌}
use Rattle.std.specs.Prelude.{find, position, nat_lt}
use Rattle.std.specs.List.{list_any, position_or_len}
use Rattle.std.specs.Option.{is_some}
use Rattle.std.proofs.lemmas.Bool.Decides.{nat_tests}
use Rattle.std.proofs.lemmas.List.Folds.{find_at}
use Rattle.std.proofs.lemmas.Option.{slice_get_within}

pub less_true : (i n : ℕ) → i < n → nat_lt i n ≡ true
less_true i n h = grind (arith, nat_tests)

pub position_is : {X : Type 0} (p : X → Bool) (xs : List X) (i : ℕ) → position p xs ≡ Some i → slice_get xs i ≡ find p xs
position_is p xs i h = sym (find_at p xs ∙ ap (slice_get xs) (by (nat_lt (position_or_len p xs) (length xs)) h))
  where
    by : (b : Bool) → cond b (Some (position_or_len p xs)) None ≡ Some i → position_or_len p xs ≡ i
    by true h = cc
    by false h = absurd cc

pub record At {X : Type 0} (p : X → Bool) (xs : List X) (x : X) : Type 0 where
  pub number : ℕ
  pub is : position p xs ≡ Some number
  pub stands : slice_get xs number ≡ Some x

pub found_at : {X : Type 0} (p : X → Bool) (xs : List X) (x : X) → find p xs ≡ Some x → At p xs x
found_at p xs x h =
    let stands = sym (find_at p xs) ∙ h in
    record {
      number = position_or_len p xs;
      is = ap (λ b. cond b (Some (position_or_len p xs)) None) (less_true (position_or_len p xs) (length xs) (slice_get_within xs (position_or_len p xs) x stands));
      stands = stands;
    }

pub any_found : {X : Type 0} (p : X → Bool) (xs : List X) → list_any p xs ≡ true → (x : X) × (find p xs ≡ Some x)
any_found p [] h = absurd cc
any_found {X} p (x ∷ xs) h = by (p x) h (any_found p xs)
  where
    by : (b : Bool) → (b || list_any p xs) ≡ true → (list_any p xs ≡ true → (y : X) × (find p xs ≡ Some y)) → (y : X) × (cond b (Some x) (find p xs) ≡ Some y)
    by true h rest = (x, refl)
    by false h rest = rest h

pub some_is : {X : Type 0} (o : Option X) (x : X) → o ≡ Some x → is_some o ≡ true
some_is o x h = ap is_some h

pub some_of : {X : Type 0} (o : Option X) → is_some o ≡ true → (x : X) × (o ≡ Some x)
some_of None h = absurd cc
some_of (Some x) h = (x, refl)
