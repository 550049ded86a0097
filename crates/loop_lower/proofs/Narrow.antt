-- One flow is narrower than another where a variable that is live before it is live before the other. Each form of flows keeps this.
use Rattle.std.proofs.Common.{◌≡◌, ◌≢◌, ◌⊎◌, inl, inr, ℕ, Bool, true, false, List, [], ◌∷◌, ◌++◌, arith, refl}
use Rattle.std.specs.Prelude.{◌==◌, ◌||◌, ◌&&◌, not}
use Rattle.std.proofs.lemmas.Bool.Decides.{nat_tests}
use Rattle.pan_flow.specs.Flow.{Writes, Leaves, Exit, AtEnd, AtBreak, AtContinue, AtReturn, Flow, Does, Ends, Then, Either, Loop, Live, ways, behind, with_end, in_body, has}
use Rattle.pan_flow.specs.Live.{live_before}
use Rattle.pan_flow.specs.Functions.{IsWritten}
use Rattle.pan_flow.proofs.Exact.{exact}

-- ---- truth values

abbrev pub True : Bool → Type 0
True b = b ≡ true

pub or_true : (a b : Bool) → True (a || b) → True a ⊎ True b
or_true true b h = inl refl
or_true false b h = inr h

pub left_true : (a b : Bool) → True a → True (a || b)
left_true true b h = refl
left_true false b h = absurd cc

pub right_true : (a b : Bool) → True b → True (a || b)
right_true true b h = refl
right_true false b h = h

pub and_true : (a b : Bool) → True (a && b) → True a × True b
and_true true b h = (refl, h)
and_true false b h = absurd cc

pub has_append : (xs ys : List ℕ) (x : ℕ) → True (has xs x) ⊎ True (has ys x) → True (has (xs ++ ys) x)
has_append [] ys x (inl h) = absurd cc
has_append [] ys x (inr h) = h
has_append (z ∷ xs) ys x (inl h) = by (or_true (x == z) (has xs x) h) (λ h. has_append xs ys x (inl h))
  where
    by : True (x == z) ⊎ True (has xs x) → (True (has xs x) → True (has (xs ++ ys) x)) → True ((x == z) || has (xs ++ ys) x)
    by (inl e) f = left_true (x == z) _ e
    by (inr e) f = right_true (x == z) _ (f e)
has_append (z ∷ xs) ys x (inr h) = right_true (x == z) _ (has_append xs ys x (inr h))

pub end_twice : (b a : Bool) (k : Exit → Bool) → with_end b (with_end a k) ≡ with_end b k
end_twice b a k = λ i e. by e i
  where
    by : (e : Exit) → with_end b (with_end a k) e ≡ with_end b k e
    by AtEnd = refl
    by AtBreak = refl
    by AtContinue = refl
    by AtReturn = refl

-- a variable that isn't y isn't of the row of y
pub not_of_one : (x y : ℕ) → x ≢ y → True (has (y ∷ []) x) → ⊥
not_of_one x y ne h = by (x == y) refl h
  where
    by : (b : Bool) → (x == y) ≡ b → True (b || false) → ⊥
    by true e h = ne (grind (arith, nat_tests))
    by false e h = absurd cc

-- it is y, or not of the row of y
pub apart_from_one : (x y : ℕ) → True (not (has (y ∷ []) x)) → x ≢ y
apart_from_one x y h = by (x == y) refl h
  where
    by : (b : Bool) → (x == y) ≡ b → True (not (b || false)) → x ≢ y
    by true e h same = absurd cc
    by false e h same = grind (arith, nat_tests)

-- ---- flows

module _ (x : ℕ) where
  -- wherever the first is live, the second is, where that is so at the exits
  abbrev pub Narrow : Flow → Flow → Type 0
  Narrow f g = (k' k : Exit → Bool) → ((e : Exit) → True (k' e) → True (k e)) → True (live_before x f k') → True (live_before x g k)

  -- so with another thing at the end
  pub end_more : (a b : Bool) (k' k : Exit → Bool) → (True a → True b) → ((e : Exit) → True (k' e) → True (k e)) → (e : Exit) → True (with_end a k' e) → True (with_end b k e)
  end_more a b k' k h more AtEnd = h
  end_more a b k' k h more AtBreak = more AtBreak
  end_more a b k' k h more AtContinue = more AtContinue
  end_more a b k' k h more AtReturn = more AtReturn

  pub end_narrow : (e : Exit) → Narrow (Ends e) (Ends e)
  end_narrow e k' k more h = more e h

  pub writes_narrow : (xs : List ℕ) → Narrow (Does (Writes xs)) (Does (Writes xs))
  writes_narrow xs k' k more h = by (has xs x) h
    where
      by : (b : Bool) → True (not b && k' AtEnd) → True (not b && k AtEnd)
      by true h = absurd cc
      by false h = more AtEnd h

  pub leaves_narrow : (xs : List ℕ) → Narrow (Does (Leaves xs)) (Does (Leaves xs))
  leaves_narrow xs k' k more h = writes_narrow xs k' k more h

  pub either_narrow : (f' g' f g : Flow) → Narrow f' f → Narrow g' g → Narrow (Either f' g') (Either f g)
  either_narrow f' g' f g hf hg k' k more h = by (or_true (live_before x f' k') (live_before x g' k') h)
    where
      by : True (live_before x f' k') ⊎ True (live_before x g' k') → True (live_before x f k || live_before x g k)
      by (inl h) = left_true (live_before x f k) _ (hf k' k more h)
      by (inr h) = right_true (live_before x f k) _ (hg k' k more h)

  pub then_narrow : (f' g' f g : Flow) → Narrow f' f → Narrow g' g → Narrow (Then f' g') (Then f g)
  then_narrow f' g' f g hf hg k' k more h = hf (with_end (live_before x g' k') k') (with_end (live_before x g k) k) (end_more _ _ k' k (hg k' k more) more) h

  in_body_more : (k' k : Exit → Bool) → ((e : Exit) → True (k' e) → True (k e)) → (e : Exit) → True (in_body false k' e) → True (in_body false k e)
  in_body_more k' k more AtEnd h = h
  in_body_more k' k more AtBreak h = more AtEnd h
  in_body_more k' k more AtContinue h = h
  in_body_more k' k more AtReturn h = more AtReturn h

  pub loop_narrow : (f' g' f g : Flow) → Narrow f' f → Narrow g' g → Narrow (Loop f' g') (Loop f g)
  loop_narrow f' g' f g hf hg k' k more h =
      hf (with_end (k' AtEnd || live_before x g' (in_body false k')) k') (with_end (k AtEnd || live_before x g (in_body false k)) k) (end_more _ _ k' k (λ h. first (or_true (k' AtEnd) (live_before x g' (in_body false k')) h)) more) h
    where
      first : True (k' AtEnd) ⊎ True (live_before x g' (in_body false k')) → True (k AtEnd || live_before x g (in_body false k))
      first (inl h) = left_true (k AtEnd) _ (more AtEnd h)
      first (inr h) = right_true (k AtEnd) _ (hg (in_body false k') (in_body false k) (in_body_more k' k more) h)

-- a flow that is narrower than one in which all is written before it is read is such a one
pub narrow_written : (f g : Flow) → ((x : ℕ) → Narrow x f g) → IsWritten g → IsWritten f
narrow_written f g narrow h = record { none = λ x live. h.none x (found x g ((narrow x) (λ e. false) (λ e. false) (λ e l. l) (lives x f live))) }
  where
    found : (x : ℕ) (f : Flow) → live_before x f (λ e. false) ≡ true → Live (ways f behind) x
    found x f l = (exact x f (λ e. false) behind (λ e. (λ h. absurd cc, λ h. absurd h.1))).0 l

    lives : (x : ℕ) (f : Flow) → Live (ways f behind) x → live_before x f (λ e. false) ≡ true
    lives x f l = (exact x f (λ e. false) behind (λ e. (λ h. absurd cc, λ h. absurd h.1))).1 l
