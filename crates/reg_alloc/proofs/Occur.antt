-- A variable that is written or live in a function occurs in it.
use Rattle.std.proofs.Common.{◌≡◌, ◌⊎◌, inl, inr, ℕ, zero, suc, Bool, true, false, List, [], ◌∷◌, ◌++◌, refl, subst}
use Rattle.std.specs.Prelude.{◌==◌, ◌||◌}
use Rattle.pan_flow.specs.Flow.{Act, Reads, Writes, Leaves, Exit, AtEnd, AtBreak, AtContinue, AtReturn, Flow, Does, Ends, Then, Either, Loop, Ways, After, either_way, act_first, with_end, in_body, turn_ways, ways, has, ReadFirst, Live, Somewhere, written, LiveAfterWrite, LiveAfterCall, behind, Meet, Across}
use Rattle.pan_flow.specs.Functions.{variables_of_act, variables}

pub has_left : (xs ys : List ℕ) (x : ℕ) → has xs x ≡ true → has (xs ++ ys) x ≡ true
has_left [] ys x h = absurd cc
has_left (z ∷ xs) ys x h = by (has_left xs ys x) (x == z) h
  where
    by : (has xs x ≡ true → has (xs ++ ys) x ≡ true) → (b : Bool) → (b || has xs x) ≡ true → (b || has (xs ++ ys) x) ≡ true
    by later true h = refl
    by later false h = later h

pub has_right : (xs ys : List ℕ) (x : ℕ) → has ys x ≡ true → has (xs ++ ys) x ≡ true
has_right [] ys x h = h
has_right (z ∷ xs) ys x h = by (has_right xs ys x h) (x == z)
  where
    by : has (xs ++ ys) x ≡ true → (b : Bool) → (b || has (xs ++ ys) x) ≡ true
    by later true = refl
    by later false = later

module _ (x : ℕ) where
  -- the variable occurs in the statement, or is live after one of its exits
  abbrev Found : Flow → After → Type 0
  Found f k = (has (variables f) x ≡ true) ⊎ ((e : Exit) × Live (k e) x)

  act_found : (act : Act) (A : Ways) → Live (act_first act A) x → (has (variables_of_act act) x ≡ true) ⊎ Live A x
  act_found act A l = by_way l.0 l.1 l.2
    where
      first : (act : Act) (way : List Act) → (way ≡ []) ⊎ A way → ReadFirst x (act ∷ way) → (has (variables_of_act act) x ≡ true) ⊎ Live A x
      first (Reads ys) way m (inl r) = inl r
      first (Reads ys) way (inl e) (inr r) = absurd (subst (ReadFirst x) e r)
      first (Reads ys) way (inr m) (inr r) = inr (way, m, r)
      first (Writes ys) way (inl e) r = absurd (subst (ReadFirst x) e r.1)
      first (Writes ys) way (inr m) r = inr (way, m, r.1)
      first (Leaves ys) way (inl e) r = absurd (subst (ReadFirst x) e r.1)
      first (Leaves ys) way (inr m) r = inr (way, m, r.1)

      by_way : (way : List Act) → act_first act A way → ReadFirst x way → (has (variables_of_act act) x ≡ true) ⊎ Live A x
      by_way [] m r = absurd m
      by_way (b ∷ way) m r = first act way m.1 (subst (λ c. ReadFirst x (c ∷ way)) m.0 r)

  -- by what is so at the end of the first
  found_then : (f g : Flow) (a : Ways) (k : After) → (Live a x → Found g k) → Found f (with_end a k) → Found (Then f g) k
  found_then f g a k h (inl o) = inl (has_left (variables f) (variables g) x o)
  found_then f g a k h (inr (AtEnd, l)) = elim (h l) [ inl o ↦ inl (has_right (variables f) (variables g) x o) | inr m ↦ inr m ]
  found_then f g a k h (inr (AtBreak, l)) = inr (AtBreak, l)
  found_then f g a k h (inr (AtContinue, l)) = inr (AtContinue, l)
  found_then f g a k h (inr (AtReturn, l)) = inr (AtReturn, l)

  -- by what is so at the head of the loop
  found_turn : (f g : Flow) (a : Ways) (k : After) → (Live a x → Found (Loop f g) k) → Found g (in_body a k) → Found (Loop f g) k
  found_turn f g a k h (inl o) = inl (has_right (variables f) (variables g) x o)
  found_turn f g a k h (inr (AtEnd, l)) = h l
  found_turn f g a k h (inr (AtBreak, l)) = inr (AtEnd, l)
  found_turn f g a k h (inr (AtContinue, l)) = h l
  found_turn f g a k h (inr (AtReturn, l)) = inr (AtReturn, l)

  -- and at its test
  found_test : (f g : Flow) (a : Ways) (k : After) → (Live a x → Found (Loop f g) k) → ((k : After) → Live (ways g k) x → Found g k) → Found f (with_end (either_way (k AtEnd) (ways g (in_body a k))) k) → Found (Loop f g) k
  found_test f g a k h hg (inl o) = inl (has_left (variables f) (variables g) x o)
  found_test f g a k h hg (inr (AtEnd, l)) = by l.1
    where
      by : either_way (k AtEnd) (ways g (in_body a k)) l.0 → Found (Loop f g) k
      by (inl m) = inr (AtEnd, (l.0, m, l.2))
      by (inr m) = found_turn f g a k h (hg (in_body a k) (l.0, m, l.2))
  found_test f g a k h hg (inr (AtBreak, l)) = inr (AtBreak, l)
  found_test f g a k h hg (inr (AtContinue, l)) = inr (AtContinue, l)
  found_test f g a k h hg (inr (AtReturn, l)) = inr (AtReturn, l)

  turns_found : (f g : Flow) (k : After) → ((k : After) → Live (ways f k) x → Found f k) → ((k : After) → Live (ways g k) x → Found g k) → (n : ℕ) → Live (turn_ways n (ways f) (ways g) k) x → Found (Loop f g) k
  turns_found f g k hf hg zero l = absurd l.1
  turns_found f g k hf hg (suc n) l = found_test f g _ k (turns_found f g k hf hg n) hg (hf _ l)

  found_first : (f g : Flow) (k : After) → Found f k → Found (Either f g) k
  found_first f g k (inl o) = inl (has_left (variables f) (variables g) x o)
  found_first f g k (inr m) = inr m

  found_second : (f g : Flow) (k : After) → Found g k → Found (Either f g) k
  found_second f g k (inl o) = inl (has_right (variables f) (variables g) x o)
  found_second f g k (inr m) = inr m

  found_either : (f g : Flow) (k : After) → (Live (ways f k) x → Found f k) → (Live (ways g k) x → Found g k) → Live (ways (Either f g) k) x → Found (Either f g) k
  found_either f g k hf hg l = by l.1
    where
      by : either_way (ways f k) (ways g k) l.0 → Found (Either f g) k
      by (inl m) = found_first f g k (hf (l.0, m, l.2))
      by (inr m) = found_second f g k (hg (l.0, m, l.2))

  pub live_found : (f : Flow) (k : After) → Live (ways f k) x → Found f k
  live_found (Does a) k l = elim (act_found a (k AtEnd) l) [ inl o ↦ inl o | inr m ↦ inr (AtEnd, m) ]
  live_found (Ends e) k l = inr (e, l)
  live_found (Then f g) k l = found_then f g (ways g k) k (live_found g k) (live_found f _ l)
  live_found (Either f g) k l = found_either f g k (live_found f k) (live_found g k) l
  live_found (Loop f g) k l = turns_found f g k (live_found f) (live_found g) (l.1).0 (l.0, (l.1).1, l.2)

  act_written : (act : Act) (a : ℕ) → has (written act) a ≡ true → has (variables_of_act act) a ≡ true
  act_written (Reads ys) a h = absurd cc
  act_written (Writes ys) a h = h
  act_written (Leaves ys) a h = h

  -- after a write of another
  write_found : (a : ℕ) (f : Flow) (k : After) → Somewhere (LiveAfterWrite a x) f k → (has (variables f) a ≡ true) × Found f k
  write_found a (Does act) k s = (act_written act a s.0, inr (AtEnd, s.1))
  write_found a (Ends e) k s = absurd s
  write_found a (Then f g) k (inl s) =
      let t = write_found a f (with_end (ways g k) k) s in (has_left (variables f) (variables g) a t.0, found_then f g (ways g k) k (live_found g k) t.1)
  write_found a (Then f g) k (inr s) = let t = write_found a g k s in (has_right (variables f) (variables g) a t.0, found_second f g k t.1)
  write_found a (Either f g) k (inl s) = let t = write_found a f k s in (has_left (variables f) (variables g) a t.0, found_first f g k t.1)
  write_found a (Either f g) k (inr s) = let t = write_found a g k s in (has_right (variables f) (variables g) a t.0, found_second f g k t.1)
  write_found a (Loop f g) k (inl s) =
      let head = ways (Loop f g) k in
      let t = write_found a f (with_end (either_way (k AtEnd) (ways g (in_body head k))) k) s in
      (has_left (variables f) (variables g) a t.0, found_test f g head k (live_found (Loop f g) k) (live_found g) t.1)
  write_found a (Loop f g) k (inr s) =
      let head = ways (Loop f g) k in
      let t = write_found a g (in_body head k) s in (has_right (variables f) (variables g) a t.0, found_turn f g head k (live_found (Loop f g) k) t.1)

  -- after a way out of a call
  call_found : (f : Flow) (k : After) → Somewhere (LiveAfterCall x) f k → Found f k
  call_found (Does (Reads ys)) k s = absurd s
  call_found (Does (Writes ys)) k s = absurd s
  call_found (Does (Leaves ys)) k s = inr (AtEnd, s.1)
  call_found (Ends e) k s = absurd s
  call_found (Then f g) k (inl s) = found_then f g (ways g k) k (live_found g k) (call_found f (with_end (ways g k) k) s)
  call_found (Then f g) k (inr s) = found_second f g k (call_found g k s)
  call_found (Either f g) k (inl s) = found_first f g k (call_found f k s)
  call_found (Either f g) k (inr s) = found_second f g k (call_found g k s)
  call_found (Loop f g) k (inl s) =
      let head = ways (Loop f g) k in
      found_test f g head k (live_found (Loop f g) k) (live_found g) (call_found f (with_end (either_way (k AtEnd) (ways g (in_body head k))) k) s)
  call_found (Loop f g) k (inr s) =
      let head = ways (Loop f g) k in found_turn f g head k (live_found (Loop f g) k) (call_found g (in_body head k) s)

  -- nothing is live behind a function
  settled : (f : Flow) → Found f behind → has (variables f) x ≡ true
  settled f (inl o) = o
  settled f (inr m) = absurd (m.1).1

pub across_occurs : (f : Flow) (x : ℕ) → Across f x → has (variables f) x ≡ true
across_occurs f x s = settled x f (call_found x f behind s)

pub meeting_occur : (f : Flow) (a b : ℕ) → Meet f a b → (has (variables f) a ≡ true) × (has (variables f) b ≡ true)
meeting_occur f a b (ne, inl s) = let t = write_found b a f behind s in (t.0, settled b f t.1)
meeting_occur f a b (ne, inr s) = let t = write_found a b f behind s in (settled a f t.1, t.0)
