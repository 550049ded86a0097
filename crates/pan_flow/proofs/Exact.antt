-- The pass finds exactly what is live.
use Rattle.std.proofs.Common.{◌≡◌, ◌⊎◌, inl, inr, ℕ, zero, suc, Bool, true, false, List, [], ◌∷◌, refl, subst}
use Rattle.std.specs.Prelude.{◌||◌, ◌&&◌, not, ◌↔◌}
use Rattle.pan_flow.specs.Flow.{Act, Reads, Writes, Leaves, Exit, AtEnd, AtBreak, AtContinue, AtReturn, Flow, Does, Ends, Then, Either, Loop, Ways, After, nowhere, either_way, act_first, with_end, in_body, turn_ways, ways, has, ReadFirst, Live}
use Rattle.pan_flow.specs.Live.{live_before_act, live_before}
use Rattle.pan_flow.proofs.Ways.{live_read, live_past_read, live_past_write, live_past_leave}

or_cases : (a b : Bool) → (a || b) ≡ true → (a ≡ true) ⊎ (b ≡ true)
or_cases true b h = inl refl
or_cases false b h = inr h

or_left : (a b : Bool) → a ≡ true → (a || b) ≡ true
or_left true b h = refl
or_left false b h = cc

or_right : (a b : Bool) → b ≡ true → (a || b) ≡ true
or_right true b h = refl
or_right false b h = h

and_cases : (a b : Bool) → (not a && b) ≡ true → (a ≡ false) × (b ≡ true)
and_cases true b h = cc
and_cases false b h = (refl, h)

and_both : (a b : Bool) → a ≡ false → b ≡ true → (not a && b) ≡ true
and_both true b h g = cc
and_both false b h g = g

module _ (x : ℕ) where
  -- ---- what comes in at an exit goes out unchanged, or not at all

  -- where the first is so, the second is, or P holds
  abbrev OrElse : Type 0 → Bool → Bool → Type 0
  OrElse P a b = a ≡ true → (b ≡ true) ⊎ P

  act_or_else : (P : Type 0) (act : Act) (a b : Bool) → OrElse P a b → OrElse P (live_before_act x act a) (live_before_act x act b)
  act_or_else P (Reads ys) a b h l = reads (has ys x) (or_cases (has ys x) a l)
    where
      reads : (c : Bool) → (c ≡ true) ⊎ (a ≡ true) → ((c || b) ≡ true) ⊎ P
      reads c (inl e) = inl (or_left c b e)
      reads c (inr e) = elim (h e) [ inl g ↦ inl (or_right c b g) | inr p ↦ inr p ]
  act_or_else P (Writes ys) a b h l =
      let t = and_cases (has ys x) a l in elim (h t.1) [ inl g ↦ inl (and_both (has ys x) b t.0 g) | inr p ↦ inr p ]
  act_or_else P (Leaves ys) a b h l =
      let t = and_cases (has ys x) a l in elim (h t.1) [ inl g ↦ inl (and_both (has ys x) b t.0 g) | inr p ↦ inr p ]

  either_or_else : (P : Type 0) (a b c d : Bool) → OrElse P a c → OrElse P b d → OrElse P (a || b) (c || d)
  either_or_else P a b c d h g l = by_case (or_cases a b l)
    where
      by_case : (a ≡ true) ⊎ (b ≡ true) → ((c || d) ≡ true) ⊎ P
      by_case (inl e) = elim (h e) [ inl m ↦ inl (or_left c d m) | inr p ↦ inr p ]
      by_case (inr e) = elim (g e) [ inl m ↦ inl (or_right c d m) | inr p ↦ inr p ]

  with_end_or_else : (P : Type 0) (a b : Bool) (k k' : Exit → Bool) → OrElse P a b → ((e : Exit) → OrElse P (k e) (k' e)) → (e : Exit) → OrElse P (with_end a k e) (with_end b k' e)
  with_end_or_else P a b k k' h hs AtEnd = h
  with_end_or_else P a b k k' h hs AtBreak = hs AtBreak
  with_end_or_else P a b k k' h hs AtContinue = hs AtContinue
  with_end_or_else P a b k k' h hs AtReturn = hs AtReturn

  in_body_or_else : (P : Type 0) (a b : Bool) (k k' : Exit → Bool) → OrElse P a b → ((e : Exit) → OrElse P (k e) (k' e)) → (e : Exit) → OrElse P (in_body a k e) (in_body b k' e)
  in_body_or_else P a b k k' h hs AtEnd = h
  in_body_or_else P a b k k' h hs AtBreak = hs AtEnd
  in_body_or_else P a b k k' h hs AtContinue = h
  in_body_or_else P a b k k' h hs AtReturn = hs AtReturn

  pub live_or_else : (P : Type 0) (f : Flow) (k k' : Exit → Bool) → ((e : Exit) → OrElse P (k e) (k' e)) → OrElse P (live_before x f k) (live_before x f k')
  live_or_else P (Does a) k k' h = act_or_else P a (k AtEnd) (k' AtEnd) (h AtEnd)
  live_or_else P (Ends e) k k' h = h e
  live_or_else P (Then f g) k k' h = live_or_else P f _ _ (with_end_or_else P _ _ k k' (live_or_else P g k k' h) h)
  live_or_else P (Either f g) k k' h = either_or_else P _ _ _ _ (live_or_else P f k k' h) (live_or_else P g k k' h)
  live_or_else P (Loop f g) k k' h =
      live_or_else P f _ _ (with_end_or_else P _ _ k k' (either_or_else P _ _ _ _ (h AtEnd) (live_or_else P g _ _ (in_body_or_else P _ _ k k' (λ e. cc) h))) h)

  -- ---- what the pass finds is live

  -- where it is so, the variable is live
  abbrev Sound : Bool → Ways → Type 0
  Sound b from = b ≡ true → Live from x

  with_end_sound : (a : Bool) (b : Ways) (k : Exit → Bool) (K : After) → Sound a b → ((e : Exit) → Sound (k e) (K e)) → (e : Exit) → Sound (with_end a k e) (with_end b K e)
  with_end_sound a b k K h hs AtEnd = h
  with_end_sound a b k K h hs AtBreak = hs AtBreak
  with_end_sound a b k K h hs AtContinue = hs AtContinue
  with_end_sound a b k K h hs AtReturn = hs AtReturn

  in_body_sound : (a : Bool) (b : Ways) (k : Exit → Bool) (K : After) → Sound a b → ((e : Exit) → Sound (k e) (K e)) → (e : Exit) → Sound (in_body a k e) (in_body b K e)
  in_body_sound a b k K h hs AtEnd = h
  in_body_sound a b k K h hs AtBreak = hs AtEnd
  in_body_sound a b k K h hs AtContinue = h
  in_body_sound a b k K h hs AtReturn = hs AtReturn

  either_sound : (a b : Bool) (A B : Ways) → Sound a A → Sound b B → Sound (a || b) (either_way A B)
  either_sound a b A B h g l = by_case (or_cases a b l)
    where
      by_case : (a ≡ true) ⊎ (b ≡ true) → Live (either_way A B) x
      by_case (inl e) = let t = h e in (t.0, inl t.1, t.2)
      by_case (inr e) = let t = g e in (t.0, inr t.1, t.2)

  act_sound : (act : Act) (a : Bool) (A : Ways) → Sound a A → Sound (live_before_act x act a) (act_first act A)
  act_sound (Reads ys) a A h l = by_case (or_cases (has ys x) a l)
    where
      by_case : (has ys x ≡ true) ⊎ (a ≡ true) → Live (act_first (Reads ys) A) x
      by_case (inl e) = live_read ys A x e
      by_case (inr e) = live_past_read ys A x (h e)
  act_sound (Writes ys) a A h l = let t = and_cases (has ys x) a l in live_past_write ys A x t.0 (h t.1)
  act_sound (Leaves ys) a A h l = let t = and_cases (has ys x) a l in live_past_leave ys A x t.0 (h t.1)

  pub found_is_live : (f : Flow) (k : Exit → Bool) (K : After) → ((e : Exit) → Sound (k e) (K e)) → Sound (live_before x f k) (ways f K)
  found_is_live (Does a) k K h = act_sound a (k AtEnd) (K AtEnd) (h AtEnd)
  found_is_live (Ends e) k K h = h e
  found_is_live (Then f g) k K h = found_is_live f _ _ (with_end_sound _ _ k K (found_is_live g k K h) h)
  found_is_live (Either f g) k K h = either_sound _ _ _ _ (found_is_live f k K h) (found_is_live g k K h)
  found_is_live (Loop f g) k K h = λ l.
      let t = found_is_live f _ _ (with_end_sound _ (either_way (K AtEnd) (ways g (in_body nowhere K))) k K (either_sound _ _ _ _ (h AtEnd) (found_is_live g _ _ (in_body_sound false nowhere k K (λ e. cc) h))) h) l in
      (t.0, (1, t.1), t.2)

  -- ---- what is live the pass finds

  -- where the variable is live, it is so
  abbrev Complete : Bool → Ways → Type 0
  Complete b from = Live from x → b ≡ true

  with_end_complete : (a : Bool) (b : Ways) (k : Exit → Bool) (K : After) → Complete a b → ((e : Exit) → Complete (k e) (K e)) → (e : Exit) → Complete (with_end a k e) (with_end b K e)
  with_end_complete a b k K h hs AtEnd = h
  with_end_complete a b k K h hs AtBreak = hs AtBreak
  with_end_complete a b k K h hs AtContinue = hs AtContinue
  with_end_complete a b k K h hs AtReturn = hs AtReturn

  in_body_complete : (a : Bool) (b : Ways) (k : Exit → Bool) (K : After) → Complete a b → ((e : Exit) → Complete (k e) (K e)) → (e : Exit) → Complete (in_body a k e) (in_body b K e)
  in_body_complete a b k K h hs AtEnd = h
  in_body_complete a b k K h hs AtBreak = hs AtEnd
  in_body_complete a b k K h hs AtContinue = h
  in_body_complete a b k K h hs AtReturn = hs AtReturn

  either_complete : (a b : Bool) (A B : Ways) → Complete a A → Complete b B → Complete (a || b) (either_way A B)
  either_complete a b A B h g l = by_case l.1
    where
      by_case : either_way A B l.0 → (a || b) ≡ true
      by_case (inl m) = or_left a b (h (l.0, m, l.2))
      by_case (inr m) = or_right a b (g (l.0, m, l.2))

  act_complete : (act : Act) (a : Bool) (A : Ways) → Complete a A → Complete (live_before_act x act a) (act_first act A)
  act_complete act a A h l = by_way l.0 l.1 l.2
    where
      first : (act : Act) (way : List Act) → (way ≡ []) ⊎ A way → ReadFirst x (act ∷ way) → live_before_act x act a ≡ true
      first (Reads ys) way m (inl r) = or_left (has ys x) a r
      first (Reads ys) way (inl e) (inr r) = absurd (subst (ReadFirst x) e r)
      first (Reads ys) way (inr m) (inr r) = or_right (has ys x) a (h (way, m, r))
      first (Writes ys) way (inl e) r = absurd (subst (ReadFirst x) e r.1)
      first (Writes ys) way (inr m) r = and_both (has ys x) a r.0 (h (way, m, r.1))
      first (Leaves ys) way (inl e) r = absurd (subst (ReadFirst x) e r.1)
      first (Leaves ys) way (inr m) r = and_both (has ys x) a r.0 (h (way, m, r.1))

      by_way : (way : List Act) → act_first act A way → ReadFirst x way → live_before_act x act a ≡ true
      by_way [] m r = absurd m
      by_way (b ∷ way) m r = first act way m.1 (subst (λ c. ReadFirst x (c ∷ way)) m.0 r)

  settled : (b : Bool) → (b ≡ true) ⊎ (b ≡ true) → b ≡ true
  settled b (inl e) = e
  settled b (inr e) = e

  turns_complete : (f g : Flow) (k : Exit → Bool) (K : After) → ((e : Exit) → Complete (k e) (K e)) → ((k : Exit → Bool) (K : After) → ((e : Exit) → Complete (k e) (K e)) → Complete (live_before x f k) (ways f K)) → ((k : Exit → Bool) (K : After) → ((e : Exit) → Complete (k e) (K e)) → Complete (live_before x g k) (ways g K)) → (n : ℕ) → Complete (live_before x (Loop f g) k) (turn_ways n (ways f) (ways g) K)
  turns_complete f g k K h hf hg zero l = absurd l.1
  turns_complete f g k K h hf hg (suc n) l =
      let head = live_before x (Loop f g) k in
      let again = turns_complete f g k K h hf hg n in
      let found = hf (with_end (k AtEnd || live_before x g (in_body head k)) k) _ (with_end_complete _ _ k K (either_complete _ _ _ _ (h AtEnd) (hg (in_body head k) _ (in_body_complete head _ k K again h))) h) l in
      settled head (live_or_else (head ≡ true) f _ _ (with_end_or_else (head ≡ true) _ _ k k (either_or_else (head ≡ true) _ _ _ _ (λ e. inl e) (live_or_else (head ≡ true) g _ _ (in_body_or_else (head ≡ true) head false k k (λ e. inr e) (λ e h. inl h)))) (λ e h. inl h)) found)

  pub live_is_found : (f : Flow) (k : Exit → Bool) (K : After) → ((e : Exit) → Complete (k e) (K e)) → Complete (live_before x f k) (ways f K)
  live_is_found (Does a) k K h = act_complete a (k AtEnd) (K AtEnd) (h AtEnd)
  live_is_found (Ends e) k K h = h e
  live_is_found (Then f g) k K h = live_is_found f _ _ (with_end_complete _ _ k K (live_is_found g k K h) h)
  live_is_found (Either f g) k K h = either_complete _ _ _ _ (live_is_found f k K h) (live_is_found g k K h)
  live_is_found (Loop f g) k K h = λ l. turns_complete f g k K h (live_is_found f) (live_is_found g) (l.1).0 (l.0, (l.1).1, l.2)

-- where the exits are exact, so is the point before the statement
pub exact : (x : ℕ) (f : Flow) (k : Exit → Bool) (K : After) → ((e : Exit) → (k e ≡ true) ↔ Live (K e) x) → (live_before x f k ≡ true) ↔ Live (ways f K) x
exact x f k K h = (found_is_live x f k K (λ e. (h e).0), live_is_found x f k K (λ e. (h e).1))

pub either_exact : (x : ℕ) (a b : Bool) (A B : Ways) → (a ≡ true) ↔ Live A x → (b ≡ true) ↔ Live B x → ((a || b) ≡ true) ↔ Live (either_way A B) x
either_exact x a b A B h g = (either_sound x a b A B h.0 g.0, either_complete x a b A B h.1 g.1)
