-- Laws of ways: more of them after a statement are more before it, and a loop's head has the ways of a turn.
use Rattle.std.proofs.Common.{◌≡◌, ◌⊎◌, inl, inr, ℕ, zero, suc, true, false, List, [], ◌∷◌, refl}
use Rattle.pan_flow.specs.Flow.{Act, Reads, Writes, Leaves, Exit, AtEnd, AtBreak, AtContinue, AtReturn, Flow, Does, Ends, Then, Either, Loop, Ways, After, either_way, act_first, with_end, in_body, turn_ways, ways, has, Live, behind}

-- each way of the first is one of the second
abbrev pub Within : Ways → Ways → Type 0
Within a b = (way : List Act) → a way → b way

abbrev pub AllWithin : After → After → Type 0
AllWithin k k' = (e : Exit) → Within (k e) (k' e)

pub with_end_within : (a b : Ways) (k k' : After) → Within a b → AllWithin k k' → AllWithin (with_end a k) (with_end b k')
with_end_within a b k k' h hs AtEnd = h
with_end_within a b k k' h hs AtBreak = hs AtBreak
with_end_within a b k k' h hs AtContinue = hs AtContinue
with_end_within a b k k' h hs AtReturn = hs AtReturn

pub in_body_within : (a b : Ways) (k k' : After) → Within a b → AllWithin k k' → AllWithin (in_body a k) (in_body b k')
in_body_within a b k k' h hs AtEnd = h
in_body_within a b k k' h hs AtBreak = hs AtEnd
in_body_within a b k k' h hs AtContinue = h
in_body_within a b k k' h hs AtReturn = hs AtReturn

pub either_within : (a b a' b' : Ways) → Within a a' → Within b b' → Within (either_way a b) (either_way a' b')
either_within a b a' b' h hs way (inl m) = inl (h way m)
either_within a b a' b' h hs way (inr m) = inr (hs way m)

stops_or : (a b : Ways) (way : List Act) → Within a b → (way ≡ []) ⊎ a way → (way ≡ []) ⊎ b way
stops_or a b way h (inl e) = inl e
stops_or a b way h (inr m) = inr (h way m)

act_within : (act : Act) (a b : Ways) → Within a b → Within (act_first act a) (act_first act b)
act_within act a b h [] m = m
act_within act a b h (c ∷ way) m = (m.0, stops_or a b way h m.1)

-- more ways after are more before
abbrev Grows : (After → Ways) → Type 1
Grows F = (k k' : After) → AllWithin k k' → Within (F k) (F k')

turns_grow : (n : ℕ) (F G : After → Ways) → Grows F → Grows G → Grows (turn_ways n F G)
turns_grow zero F G f g k k' h way m = m
turns_grow (suc n) F G f g k k' h way m =
    f _ _ (with_end_within _ _ k k' (either_within _ _ _ _ (h AtEnd) (g _ _ (in_body_within _ _ k k' (turns_grow n F G f g k k' h) h))) h) way m

pub ways_grow : (f : Flow) → Grows (ways f)
ways_grow (Does a) k k' h way m = act_within a (k AtEnd) (k' AtEnd) (h AtEnd) way m
ways_grow (Ends e) k k' h way m = h e way m
ways_grow (Then f g) k k' h way m = ways_grow f _ _ (with_end_within _ _ k k' (ways_grow g k k' h) h) way m
ways_grow (Either f g) k k' h way m = either_within _ _ _ _ (ways_grow f k k' h) (ways_grow g k k' h) way m
ways_grow (Loop f g) k k' h way m = (m.0, turns_grow m.0 (ways f) (ways g) (ways_grow f) (ways_grow g) k k' h way m.1)

-- the ways of any of these
abbrev pub any_of : (ℕ → After) → After
any_of K e way = (n : ℕ) × K n e way

-- a way takes one exit, so it has the ways after that of one n alone
abbrev TakesOne : (After → Ways) → Type 1
TakesOne F = (K : ℕ → After) (way : List Act) → F (any_of K) way → (n : ℕ) × F (K n) way

act_takes_one : (act : Act) → TakesOne (λ k. act_first act (k AtEnd))
act_takes_one act K [] m = absurd m
act_takes_one act K (c ∷ way) m = by_rest m.1
  where
    by_rest : (way ≡ []) ⊎ any_of K AtEnd way → (n : ℕ) × act_first act (K n AtEnd) (c ∷ way)
    by_rest (inl e) = (0, (m.0, inl e))
    by_rest (inr r) = (r.0, (m.0, inr r.1))

-- the end's ways for each n
end_of_any : (A : ℕ → Ways) (K : ℕ → After) (a : Ways) → ((way : List Act) → a way → (n : ℕ) × A n way) → AllWithin (with_end a (any_of K)) (any_of (λ n. with_end (A n) (K n)))
end_of_any A K a h AtEnd way m = h way m
end_of_any A K a h AtBreak way m = m
end_of_any A K a h AtContinue way m = m
end_of_any A K a h AtReturn way m = m

-- and a body's
body_of_any : (A : ℕ → Ways) (K : ℕ → After) (a : Ways) → ((way : List Act) → a way → (n : ℕ) × A n way) → AllWithin (in_body a (any_of K)) (any_of (λ n. in_body (A n) (K n)))
body_of_any A K a h AtEnd way m = h way m
body_of_any A K a h AtBreak way m = m
body_of_any A K a h AtContinue way m = h way m
body_of_any A K a h AtReturn way m = m

either_takes_one : (A B : ℕ → Ways) (a b : Ways) → ((way : List Act) → a way → (n : ℕ) × A n way) → ((way : List Act) → b way → (n : ℕ) × B n way) → (way : List Act) → either_way a b way → (n : ℕ) × either_way (A n) (B n) way
either_takes_one A B a b h g way (inl m) = let t = h way m in (t.0, inl t.1)
either_takes_one A B a b h g way (inr m) = let t = g way m in (t.0, inr t.1)

-- a turn, with any ways at its head
abbrev pub turn_way : (After → Ways) → (After → Ways) → Ways → After → Ways
turn_way F G head k = F (with_end (either_way (k AtEnd) (G (in_body head k))) k)

turn_takes_one : (F G : After → Ways) → Grows F → TakesOne F → Grows G → TakesOne G → (A : ℕ → Ways) (K : ℕ → After) (a : Ways) → ((way : List Act) → a way → (n : ℕ) × A n way) → (way : List Act) → turn_way F G a (any_of K) way → (n : ℕ) × turn_way F G (A n) (K n) way
turn_takes_one F G fg f gg g A K a h way m =
    f (λ n. with_end (either_way (K n AtEnd) (G (in_body (A n) (K n)))) (K n)) way
    (fg _ _ (end_of_any (λ n. either_way (K n AtEnd) (G (in_body (A n) (K n)))) K _
    (either_takes_one (λ n. K n AtEnd) (λ n. G (in_body (A n) (K n))) _ _ (λ way m. m)
    (λ way m. g (λ n. in_body (A n) (K n)) way (gg _ _ (body_of_any A K a h) way m)))) way m)

turns_take_one : (n : ℕ) (F G : After → Ways) → Grows F → TakesOne F → Grows G → TakesOne G → TakesOne (turn_ways n F G)
turns_take_one zero F G fg f gg g K way m = absurd m
turns_take_one (suc n) F G fg f gg g K way m =
    turn_takes_one F G fg f gg g (λ i. turn_ways n F G (K i)) K _ (turns_take_one n F G fg f gg g K) way m

pub ways_take_one : (f : Flow) → TakesOne (ways f)
ways_take_one (Does a) K way m = act_takes_one a K way m
ways_take_one (Ends e) K way m = m
ways_take_one (Then f g) K way m =
    ways_take_one f (λ n. with_end (ways g (K n)) (K n)) way (ways_grow f _ _ (end_of_any (λ n. ways g (K n)) K _ (ways_take_one g K)) way m)
ways_take_one (Either f g) K way m = either_takes_one (λ n. ways f (K n)) (λ n. ways g (K n)) _ _ (ways_take_one f K) (ways_take_one g K) way m
ways_take_one (Loop f g) K way m =
    let t = turns_take_one m.0 (ways f) (ways g) (ways_grow f) (ways_take_one f) (ways_grow g) (ways_take_one g) K way m.1 in (t.0, (m.0, t.1))

-- a turn that comes back to the loop's head is a way of the loop
pub head_has_turn : (f g : Flow) (k : After) → Within (turn_way (ways f) (ways g) (ways (Loop f g) k) k) (ways (Loop f g) k)
head_has_turn f g k way m =
    let t = turn_takes_one (ways f) (ways g) (ways_grow f) (ways_take_one f) (ways_grow g) (ways_take_one g) (λ n. turn_ways n (ways f) (ways g) k) (λ n. k) (ways (Loop f g) k) (λ way m. m) way
    (ways_grow f _ _ (with_end_within _ _ k (any_of (λ n. k)) (either_within _ _ _ _ (λ way m. (0, m)) (ways_grow g _ _ (in_body_within _ _ k (any_of (λ n. k)) (λ way m. m) (λ e way m. (0, m))))) (λ e way m. (0, m))) way m) in
    (suc t.0, t.1)

-- ---- live variables

pub live_within : (a b : Ways) (x : ℕ) → Within a b → Live a x → Live b x
live_within a b x h l = (l.0, h l.0 l.1, l.2)

-- what an act reads is live before it
pub live_read : (ys : List ℕ) (after : Ways) (x : ℕ) → has ys x ≡ true → Live (act_first (Reads ys) after) x
live_read ys after x h = (Reads ys ∷ [], (refl, inl refl), inl h)

-- what is live after an act that doesn't write it is live before
pub live_past_read : (ys : List ℕ) (after : Ways) (x : ℕ) → Live after x → Live (act_first (Reads ys) after) x
live_past_read ys after x l = (Reads ys ∷ l.0, (refl, inr l.1), inr l.2)

pub live_past_write : (ys : List ℕ) (after : Ways) (x : ℕ) → has ys x ≡ false → Live after x → Live (act_first (Writes ys) after) x
live_past_write ys after x h l = (Writes ys ∷ l.0, (refl, inr l.1), (h, l.2))

pub live_past_leave : (ys : List ℕ) (after : Ways) (x : ℕ) → has ys x ≡ false → Live after x → Live (act_first (Leaves ys) after) x
live_past_leave ys after x h l = (Leaves ys ∷ l.0, (refl, inr l.1), (h, l.2))

-- ---- points

-- A point of a function, as what comes after the statement that ends there. (Claims by induction can range over these, and not over any ways.)
pub data Rest : Type 0 where
  Behind : Rest
  -- this statement comes next
  Next : Flow → Rest → Rest
  -- a loop with this test and body has come to the end of its test, or is in its body
  Test : Flow → Flow → Rest → Rest
  Turn : Flow → Flow → Rest → Rest

-- the ways from each exit on
abbrev pub after : Rest → After
after Behind = behind
after (Next f r) = with_end (ways f (after r)) (after r)
after (Test f g r) = with_end (either_way (after r AtEnd) (ways g (in_body (ways (Loop f g) (after r)) (after r)))) (after r)
after (Turn f g r) = in_body (ways (Loop f g) (after r)) (after r)
