-- Whether a variable is live after some act of a flow that a test picks, computed backwards.
use Rattle.std.proofs.Common.{◌≡◌, ◌≢◌, ◌⊎◌, inl, inr, ℕ, Bool, true, false, List, [], ◌∷◌, ◌++◌, refl, sym, ap, ◌∙◌}
use Rattle.std.specs.Prelude.{◌||◌, ◌&&◌, ◌==◌, not, ◌↔◌}
use Rattle.std.specs.List.{list_all}
use Rattle.std.proofs.lemmas.Bool.{eqb-true}
use Rattle.pan_flow.specs.Flow.{Act, Reads, Writes, Leaves, Exit, AtEnd, AtBreak, AtContinue, AtReturn, Flow, Does, Ends, Then, Either, Loop, Ways, After, with_end, in_body, ways, has, Live, Somewhere, written, LiveAfterWrite, LiveAfterCall, behind, Meet, Across}
use Rattle.pan_flow.specs.Functions.{variables, IsWritten}
use Rattle.pan_flow.specs.Live.{live_before}
use Rattle.pan_flow.proofs.Exact.{exact, either_exact}

-- ---- somewhere

abbrev pub somewhere : ℕ → (Act → Bool → Bool) → Flow → (Exit → Bool) → Bool
somewhere x test (Does a) k = test a (k AtEnd)
somewhere x test (Ends e) k = false
somewhere x test (Then f g) k = somewhere x test f (with_end (live_before x g k) k) || somewhere x test g k
somewhere x test (Either f g) k = somewhere x test f k || somewhere x test g k
somewhere x test (Loop f g) k =
    somewhere x test f (with_end (k AtEnd || live_before x g (in_body (live_before x (Loop f g) k) k)) k) || somewhere x test g (in_body (live_before x (Loop f g) k) k)

one_or_other : (a b : Bool) (A B : Type 0) → (a ≡ true) ↔ A → (b ≡ true) ↔ B → ((a || b) ≡ true) ↔ (A ⊎ B)
one_or_other true b A B h g = (λ e. inl (h.0 refl), λ s. refl)
one_or_other false b A B h g = (λ e. inr (g.0 e), λ s. elim s [ inl m ↦ absurd (no (h.1 m)) | inr m ↦ g.1 m ])
  where
    no : false ≡ true → ⊥
    no e = cc

module _ (x : ℕ) where
  -- the Boolean says whether the variable is live on these ways
  abbrev Tells : Bool → Ways → Type 0
  Tells b from = (b ≡ true) ↔ Live from x

  end_tells : (b : Bool) (B : Ways) (k : Exit → Bool) (K : After) → Tells b B → ((e : Exit) → Tells (k e) (K e)) → (e : Exit) → Tells (with_end b k e) (with_end B K e)
  end_tells b B k K h hs AtEnd = h
  end_tells b B k K h hs AtBreak = hs AtBreak
  end_tells b B k K h hs AtContinue = hs AtContinue
  end_tells b B k K h hs AtReturn = hs AtReturn

  body_tells : (b : Bool) (B : Ways) (k : Exit → Bool) (K : After) → Tells b B → ((e : Exit) → Tells (k e) (K e)) → (e : Exit) → Tells (in_body b k e) (in_body B K e)
  body_tells b B k K h hs AtEnd = h
  body_tells b B k K h hs AtBreak = hs AtEnd
  body_tells b B k K h hs AtContinue = h
  body_tells b B k K h hs AtReturn = hs AtReturn

  module _ (test : Act → Bool → Bool) (P : Act → Ways → Type 0) (each : (a : Act) (b : Bool) (B : Ways) → Tells b B → (test a b ≡ true) ↔ P a B) where
    somewhere_exact : (f : Flow) (k : Exit → Bool) (K : After) → ((e : Exit) → Tells (k e) (K e)) → (somewhere x test f k ≡ true) ↔ Somewhere P f K
    somewhere_exact (Does a) k K h = each a (k AtEnd) (K AtEnd) (h AtEnd)
    somewhere_exact (Ends e) k K h = (λ e. absurd cc, λ m. absurd m)
    somewhere_exact (Then f g) k K h =
        one_or_other _ _ _ _ (somewhere_exact f _ _ (end_tells _ _ k K (exact x g k K h) h)) (somewhere_exact g k K h)
    somewhere_exact (Either f g) k K h = one_or_other _ _ _ _ (somewhere_exact f k K h) (somewhere_exact g k K h)
    somewhere_exact (Loop f g) k K h =
        let head = exact x (Loop f g) k K h in
        let body = body_tells (live_before x (Loop f g) k) (ways (Loop f g) K) k K head h in
        one_or_other _ _ _ _ (somewhere_exact f _ _ (end_tells _ _ k K (either_exact x _ _ _ _ (h AtEnd) (exact x g _ _ body)) h)) (somewhere_exact g _ _ body)

  -- nothing is live behind a function
  nothing_behind : (e : Exit) → Tells false (behind e)
  nothing_behind e = (λ h. absurd cc, λ l. absurd l.1)

-- ---- live

pub live_yes : (f : Flow) (x : ℕ) → live_before x f (λ e. false) ≡ true → Live (ways f behind) x
live_yes f x h = (exact x f (λ e. false) behind (nothing_behind x)).0 h

pub live_no : (f : Flow) (x : ℕ) → live_before x f (λ e. false) ≡ false → ¬ Live (ways f behind) x
live_no f x h l = let e = (exact x f (λ e. false) behind (nothing_behind x)).1 l in cc

-- ---- across

abbrev pub is_left_by : ℕ → Act → Bool → Bool
is_left_by x (Reads ys) after = false
is_left_by x (Writes ys) after = false
is_left_by x (Leaves ys) after = not (has ys x) && after

both : (a b : Bool) (B : Type 0) → (b ≡ true) ↔ B → ((not a && b) ≡ true) ↔ ((a ≡ false) × B)
both true b B h = (λ e. absurd cc, λ m. absurd (no m.0))
  where
    no : true ≡ false → ⊥
    no e = cc
both false b B h = (λ e. (refl, h.0 e), λ m. h.1 m.1)

left_exact : (x : ℕ) (a : Act) (b : Bool) (B : Ways) → (b ≡ true) ↔ Live B x → (is_left_by x a b ≡ true) ↔ LiveAfterCall x a B
left_exact x (Reads ys) b B h = (λ e. absurd cc, λ m. absurd m)
left_exact x (Writes ys) b B h = (λ e. absurd cc, λ m. absurd m)
left_exact x (Leaves ys) b B h = both (has ys x) b (Live B x) h

abbrev pub is_across : Flow → ℕ → Bool
is_across f x = somewhere x (is_left_by x) f (λ e. false)

across_exact : (f : Flow) (x : ℕ) → (is_across f x ≡ true) ↔ Across f x
across_exact f x = somewhere_exact x (is_left_by x) (LiveAfterCall x) (left_exact x) f (λ e. false) behind (nothing_behind x)

pub across_yes : (f : Flow) (x : ℕ) → is_across f x ≡ true → Across f x
across_yes f x h = (across_exact f x).0 h

pub across_no : (f : Flow) (x : ℕ) → is_across f x ≡ false → ¬ Across f x
across_no f x h m = let e = (across_exact f x).1 m in cc

-- ---- meet

abbrev pub is_written_by : ℕ → Act → Bool → Bool
is_written_by x a after = has (written a) x && after

written_exact : (a b : ℕ) (act : Act) (c : Bool) (C : Ways) → (c ≡ true) ↔ Live C b → (is_written_by a act c ≡ true) ↔ LiveAfterWrite a b act C
written_exact a b act c C h = both_so (has (written act) a)
  where
    both_so : (d : Bool) → ((d && c) ≡ true) ↔ ((d ≡ true) × Live C b)
    both_so true = (λ e. (refl, h.0 e), λ m. h.1 m.1)
    both_so false = (λ e. absurd cc, λ m. absurd (no m.0))
      where
        no : false ≡ true → ⊥
        no e = cc

-- the second is live where the first is written
abbrev pub is_live_at : Flow → ℕ → ℕ → Bool
is_live_at f a b = somewhere b (is_written_by a) f (λ e. false)

live_at_exact : (f : Flow) (a b : ℕ) → (is_live_at f a b ≡ true) ↔ Somewhere (LiveAfterWrite a b) f behind
live_at_exact f a b = somewhere_exact b (is_written_by a) (LiveAfterWrite a b) (written_exact a b) f (λ e. false) behind (nothing_behind b)

pub meet_yes : (f : Flow) (a b : ℕ) → a ≢ b → (is_live_at f a b || is_live_at f b a) ≡ true → Meet f a b
meet_yes f a b apart h = (apart, (one_or_other _ _ _ _ (live_at_exact f a b) (live_at_exact f b a)).0 h)

pub meet_no : (f : Flow) (a b : ℕ) → (is_live_at f a b || is_live_at f b a) ≡ false → ¬ Meet f a b
meet_no f a b h m = let e = (one_or_other _ _ _ _ (live_at_exact f a b) (live_at_exact f b a)).1 m.1 in cc

-- ---- written

has_append : (xs ys : List ℕ) (x : ℕ) → has (xs ++ ys) x ≡ (has xs x || has ys x)
has_append [] ys x = refl
has_append (y ∷ xs) ys x = one (x == y) (has_append xs ys x)
  where
    one : (b : Bool) → has (xs ++ ys) x ≡ (has xs x || has ys x) → (b || has (xs ++ ys) x) ≡ ((b || has xs x) || has ys x)
    one true e = refl
    one false e = e

neither : (a b : Bool) → (a || b) ≡ false → (a ≡ false) × (b ≡ false)
neither true b h = absurd cc
neither false b h = (refl, h)

apart : (xs ys : List ℕ) (x : ℕ) → has (xs ++ ys) x ≡ false → (has xs x ≡ false) × (has ys x ≡ false)
apart xs ys x h = neither (has xs x) (has ys x) (sym (has_append xs ys x) ∙ h)

module _ (x : ℕ) where
  end_false : (b : Bool) (k : Exit → Bool) → b ≡ false → ((e : Exit) → k e ≡ false) → (e : Exit) → with_end b k e ≡ false
  end_false b k h hs AtEnd = h
  end_false b k h hs AtBreak = hs AtBreak
  end_false b k h hs AtContinue = hs AtContinue
  end_false b k h hs AtReturn = hs AtReturn

  body_false : (k : Exit → Bool) → ((e : Exit) → k e ≡ false) → (e : Exit) → in_body false k e ≡ false
  body_false k hs AtEnd = refl
  body_false k hs AtBreak = hs AtEnd
  body_false k hs AtContinue = refl
  body_false k hs AtReturn = hs AtReturn

  or_false : (a b : Bool) → a ≡ false → b ≡ false → (a || b) ≡ false
  or_false true b h g = absurd cc
  or_false false b h g = g

  and_false : (a b : Bool) → b ≡ false → (a && b) ≡ false
  and_false true b h = h
  and_false false b h = refl

  -- a variable that doesn't occur isn't live
  absent : (f : Flow) (k : Exit → Bool) → has (variables f) x ≡ false → ((e : Exit) → k e ≡ false) → live_before x f k ≡ false
  absent (Does (Reads ys)) k h hs = or_false (has ys x) (k AtEnd) h (hs AtEnd)
  absent (Does (Writes ys)) k h hs = and_false (not (has ys x)) (k AtEnd) (hs AtEnd)
  absent (Does (Leaves ys)) k h hs = and_false (not (has ys x)) (k AtEnd) (hs AtEnd)
  absent (Ends e) k h hs = hs e
  absent (Then f g) k h hs = let t = apart (variables f) (variables g) x h in absent f _ t.0 (end_false _ k (absent g k t.1 hs) hs)
  absent (Either f g) k h hs = let t = apart (variables f) (variables g) x h in or_false _ _ (absent f k t.0 hs) (absent g k t.1 hs)
  absent (Loop f g) k h hs =
      let t = apart (variables f) (variables g) x h in
      absent f _ t.0 (end_false _ k (or_false _ _ (hs AtEnd) (absent g _ t.1 (body_false k hs))) hs)

both_hold : (a b : Bool) → (a && b) ≡ true → (a ≡ true) × (b ≡ true)
both_hold true b h = (refl, h)
both_hold false b h = absurd cc

-- a test that each passes holds of one of them
picked : (test : ℕ → Bool) (xs : List ℕ) (x : ℕ) → list_all test xs ≡ true → has xs x ≡ true → test x ≡ true
picked test [] x h m = absurd cc
picked test (y ∷ ys) x h m = by_case (x == y) refl m (picked test ys x (both_hold (test y) _ h).1)
  where
    by_case : (b : Bool) → (x == y) ≡ b → (b || has ys x) ≡ true → (has ys x ≡ true → test x ≡ true) → test x ≡ true
    by_case true is m among = ap test (eqb-true x y is) ∙ (both_hold (test y) _ h).0
    by_case false is m among = among m

-- none of the variables that occur is live before the function
abbrev pub is_written : Flow → Bool
is_written f = list_all (λ x. not (live_before x f (λ e. false))) (variables f)

not_so : (b : Bool) → not b ≡ true → b ≡ false
not_so true h = absurd cc
not_so false h = refl

pub written_yes : (f : Flow) → is_written f ≡ true → IsWritten f
written_yes f h = record { none = λ x. live_no f x (by_case x (has (variables f) x) refl) }
  where
    by_case : (x : ℕ) (b : Bool) → has (variables f) x ≡ b → live_before x f (λ e. false) ≡ false
    by_case x true m = not_so _ (picked (λ x. not (live_before x f (λ e. false))) (variables f) x h m)
    by_case x false m = absent x f (λ e. false) m (λ e. refl)

pub written_no : (f : Flow) (x : ℕ) → live_before x f (λ e. false) ≡ true → ¬ IsWritten f
written_no f x h w = w.none x (live_yes f x h)
