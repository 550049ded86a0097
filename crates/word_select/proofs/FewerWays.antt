-- Ways on which no more is read: what is live before them is live before others too, and is used.
use Rattle.std.proofs.Common.{◌≡◌, inl, inr, ℕ, Bool, true, false, List, [], ◌∷◌, ◌++◌, refl, sym, ap, ◌∙◌}
use Rattle.std.specs.Prelude.{nat_eq, not, ◌&&◌, ◌||◌}
use Rattle.pan_flow.specs.Flow.{Writes, Leaves, Exit, AtEnd, AtBreak, AtContinue, AtReturn, Flow, Does, Ends, Then, Either, Loop, with_end, in_body, has}
use Rattle.pan_flow.specs.Functions.{all_in_turn, reads, sets, variables}
use Rattle.pan_flow.specs.Live.{live_before}
use Rattle.word_select.proofs.Above.{or_cases, or_left, or_right, same, has_both, has_left, has_right}
use Rattle.word_select.proofs.Alike.{AreUsed}
use Rattle.word_select.proofs.Texts.{and_cases, AllMore, live_more}

module _ (is_used : ℕ → Bool) where
  -- what is live at the exits of the first is live at those of the second, and used
  abbrev pub AllUsed : ℕ → (Exit → Bool) → (Exit → Bool) → Type 0
  AllUsed z k' k = (e : Exit) → k' e ≡ true → (k e ≡ true) × (is_used z ≡ true)

  -- the first has no other variables than the second, and what is live before it is live before the second, and used
  pub record Fewer (f' f : Flow) : Type 0 where
    pub touched : (z : ℕ) → has (variables f') z ≡ true → has (variables f) z ≡ true
    pub live : (z : ℕ) (k' k : Exit → Bool) → AllUsed z k' k → live_before z f' k' ≡ true → (live_before z f k ≡ true) × (is_used z ≡ true)

  -- ---- acts

  pub fewer_reads : (ys : List ℕ) → AreUsed is_used ys → Fewer (reads ys) (reads ys)
  fewer_reads ys all = record {
    touched = λ z h. h;
    live = λ z k' k e h. elim (or_cases (has ys z) (k' AtEnd) h) [
      | inl m ↦ (or_left (has ys z) (k AtEnd) m, all z m)
      | inr n ↦ let l = e AtEnd n in (or_right (has ys z) (k AtEnd) l.0, l.1)
    ];
  }

  pub fewer_writes : (ys : List ℕ) → Fewer (Does (Writes ys)) (Does (Writes ys))
  fewer_writes ys = record {
    touched = λ z h. h;
    live = λ z k' k e h. let m = and_cases (not (has ys z)) (k' AtEnd) h in let l = e AtEnd m.1 in (ap (λ b. b && k AtEnd) m.0 ∙ l.0, l.1);
  }

  pub fewer_leaves : (ys : List ℕ) → Fewer (Does (Leaves ys)) (Does (Leaves ys))
  fewer_leaves ys = record {
    touched = λ z h. h;
    live = λ z k' k e h. let m = and_cases (not (has ys z)) (k' AtEnd) h in let l = e AtEnd m.1 in (ap (λ b. b && k AtEnd) m.0 ∙ l.0, l.1);
  }

  pub fewer_ends : (e : Exit) → Fewer (Ends e) (Ends e)
  fewer_ends at = record { touched = λ z h. h; live = λ z k' k e h. e at h }

  -- ---- parts

  both_touched : (xs xs' ys ys' : List ℕ) → ((z : ℕ) → has xs' z ≡ true → has xs z ≡ true) → ((z : ℕ) → has ys' z ≡ true → has ys z ≡ true) → (z : ℕ) → has (xs' ++ ys') z ≡ true → has (xs ++ ys) z ≡ true
  both_touched xs xs' ys ys' f g z h = elim (has_both xs' ys' z h) [ inl m ↦ has_left xs ys z (f z m) | inr m ↦ has_right xs ys z (g z m) ]

  end_used : (z : ℕ) (a b : Bool) (k' k : Exit → Bool) → (a ≡ true → (b ≡ true) × (is_used z ≡ true)) → AllUsed z k' k → AllUsed z (with_end a k') (with_end b k)
  end_used z a b k' k h e AtEnd = h
  end_used z a b k' k h e AtBreak = e AtBreak
  end_used z a b k' k h e AtContinue = e AtContinue
  end_used z a b k' k h e AtReturn = e AtReturn

  body_used : (z : ℕ) (k' k : Exit → Bool) → AllUsed z k' k → AllUsed z (in_body false k') (in_body false k)
  body_used z k' k e AtEnd = λ h. absurd (cc h)
  body_used z k' k e AtBreak = e AtEnd
  body_used z k' k e AtContinue = λ h. absurd (cc h)
  body_used z k' k e AtReturn = e AtReturn

  either_used : (z : ℕ) (a a' b b' : Bool) → (a' ≡ true → (a ≡ true) × (is_used z ≡ true)) → (b' ≡ true → (b ≡ true) × (is_used z ≡ true)) → (a' || b') ≡ true → ((a || b) ≡ true) × (is_used z ≡ true)
  either_used z a a' b b' f g h = elim (or_cases a' b' h) [ inl m ↦ let l = f m in (or_left a b l.0, l.1) | inr m ↦ let l = g m in (or_right a b l.0, l.1) ]

  pub fewer_then : (f' f g' g : Flow) → Fewer f' f → Fewer g' g → Fewer (Then f' g') (Then f g)
  fewer_then f' f g' g one two = record {
    touched = both_touched (variables f) (variables f') (variables g) (variables g') one.touched two.touched;
    live = λ z k' k e h. one.live z (with_end (live_before z g' k') k') (with_end (live_before z g k) k) (end_used z (live_before z g' k') (live_before z g k) k' k (two.live z k' k e) e) h;
  }

  pub fewer_either : (f' f g' g : Flow) → Fewer f' f → Fewer g' g → Fewer (Either f' g') (Either f g)
  fewer_either f' f g' g one two = record {
    touched = both_touched (variables f) (variables f') (variables g) (variables g') one.touched two.touched;
    live = λ z k' k e h. either_used z (live_before z f k) (live_before z f' k') (live_before z g k) (live_before z g' k') (one.live z k' k e) (two.live z k' k e) h;
  }

  pub fewer_loop : (f' f g' g : Flow) → Fewer f' f → Fewer g' g → Fewer (Loop f' g') (Loop f g)
  fewer_loop f' f g' g one two = record {
    touched = both_touched (variables f) (variables f') (variables g) (variables g') one.touched two.touched;
    live = λ z k' k e h.
        let inner' = live_before z g' (in_body false k') in let inner = live_before z g (in_body false k) in
        one.live z (with_end (k' AtEnd || inner') k') (with_end (k AtEnd || inner) k)
        (end_used z (k' AtEnd || inner') (k AtEnd || inner) k' k (either_used z (k AtEnd) (k' AtEnd) inner inner' (e AtEnd) (two.live z (in_body false k') (in_body false k) (body_used z k' k e))) e) h;
  }

  -- ---- operations

  pub fewer_sets : (x : ℕ) (ys : List ℕ) → AreUsed is_used ys → Fewer (sets x ys) (sets x ys)
  fewer_sets x ys all = fewer_then (reads ys) (reads ys) (Does (Writes (x ∷ []))) (Does (Writes (x ∷ []))) (fewer_reads ys all) (fewer_writes (x ∷ []))

  -- what is used isn't a variable that is not
  other : (x z : ℕ) → is_used x ≡ false → is_used z ≡ true → not (has (x ∷ []) z) ≡ true
  other x z none here = by (nat_eq z x) refl
    where
      by : (b : Bool) → nat_eq z x ≡ b → not (b || false) ≡ true
      by true e = absurd (cc (sym here ∙ (ap is_used (same z x e) ∙ none)))
      by false e = refl

  -- in the place of an operation whose variable isn't used
  pub fewer_without : (x : ℕ) (ys : List ℕ) → is_used x ≡ false → Fewer (Ends AtEnd) (sets x ys)
  fewer_without x ys none = record {
    touched = λ z h. absurd (cc h);
    live = λ z k' k e h. let l = e AtEnd h in (or_right (has ys z) (not (has (x ∷ []) z) && k AtEnd) (ap (λ b. b && k AtEnd) (other x z none l.1) ∙ l.0), l.1);
  }

  pub fewer_without_const : (x : ℕ) → is_used x ≡ false → Fewer (Ends AtEnd) (Does (Writes (x ∷ [])))
  fewer_without_const x none = record {
    touched = λ z h. absurd (cc h);
    live = λ z k' k e h. let l = e AtEnd h in (ap (λ b. b && k AtEnd) (other x z none l.1) ∙ l.0, l.1);
  }

  -- ---- rows

  nothing_behind : (z : ℕ) (k' k : Exit → Bool) → AllUsed z k' k → AllUsed z (with_end (k' AtEnd) k') k
  nothing_behind z k' k e AtEnd = e AtEnd
  nothing_behind z k' k e AtBreak = e AtBreak
  nothing_behind z k' k e AtContinue = e AtContinue
  nothing_behind z k' k e AtReturn = e AtReturn

  -- one alone
  pub fewer_one : (f' f : Flow) → Fewer f' f → Fewer (Then f' (Ends AtEnd)) f
  fewer_one f' f one = record {
    touched = λ z h. elim (has_both (variables f') [] z h) [ inl m ↦ one.touched z m | inr m ↦ absurd (cc m) ];
    live = λ z k' k e h. one.live z (with_end (k' AtEnd) k') k (nothing_behind z k' k e) h;
  }

  append_touched : (fs gs : List Flow) (z : ℕ) → has (variables (all_in_turn (fs ++ gs))) z ≡ true → has (variables (all_in_turn fs) ++ variables (all_in_turn gs)) z ≡ true
  append_touched [] gs z h = h
  append_touched (f ∷ fs) gs z h =
      let rest = variables (all_in_turn fs) in let behind = variables (all_in_turn gs) in
      elim (has_both (variables f) (variables (all_in_turn (fs ++ gs))) z h) [
        | inl m ↦ has_left (variables f ++ rest) behind z (has_left (variables f) rest z m)
        | inr m ↦ elim (has_both rest behind z (append_touched fs gs z m)) [ inl n ↦ has_left (variables f ++ rest) behind z (has_right (variables f) rest z n) | inr n ↦ has_right (variables f ++ rest) behind z n ]
      ]

  append_live : (fs gs : List Flow) (z : ℕ) (k : Exit → Bool) → live_before z (all_in_turn (fs ++ gs)) k ≡ true → live_before z (Then (all_in_turn fs) (all_in_turn gs)) k ≡ true
  append_live [] gs z k h = h
  append_live (f ∷ fs) gs z k h = live_more z f _ _ (more (append_live fs gs z k)) h
    where
      later : Exit → Bool
      later = with_end (live_before z (all_in_turn gs) k) k

      more : (live_before z (all_in_turn (fs ++ gs)) k ≡ true → live_before z (all_in_turn fs) later ≡ true) → AllMore (with_end (live_before z (all_in_turn (fs ++ gs)) k) k) (with_end (live_before z (all_in_turn fs) later) later)
      more rest AtEnd = rest
      more rest AtBreak = λ m. m
      more rest AtContinue = λ m. m
      more rest AtReturn = λ m. m

  -- one row behind another
  pub fewer_append : (fs gs : List Flow) (f g : Flow) → Fewer (all_in_turn fs) f → Fewer (all_in_turn gs) g → Fewer (all_in_turn (fs ++ gs)) (Then f g)
  fewer_append fs gs f g one two =
      let both = fewer_then (all_in_turn fs) f (all_in_turn gs) g one two in
      record { touched = λ z h. both.touched z (append_touched fs gs z h); live = λ z k' k e h. both.live z k' k e (append_live fs gs z k' h) }
