-- What is live on the ways of a renamed statement is the home of a variable that is live on the statement's.
use Rattle.std.proofs.Common.{◌≡◌, ◌⊎◌, inl, inr, ℕ, zero, suc, Bool, true, false, List, [], ◌∷◌, map, arith, refl, sym, ap, subst, ◌∙◌}
use Rattle.std.specs.Prelude.{◌==◌, ◌||◌}
use Rattle.std.proofs.lemmas.Bool.Decides.{nat_tests}
use Rattle.pan_flow.specs.Flow.{Act, Reads, Writes, Leaves, Exit, AtEnd, AtBreak, AtContinue, AtReturn, Flow, Does, Ends, Then, Either, Loop, Ways, After, either_way, act_first, with_end, in_body, turn_ways, ways, has, ReadFirst, Live, Somewhere, LiveAfterCall}
use Rattle.reg_alloc.proofs.Agree.{has_this, has_later}
use Rattle.reg_alloc.proofs.Texts.{rename_act, rename_flow}

module _ (home : ℕ → ℕ) where
  -- ---- ways

  -- each way of the second is one of the first, renamed
  abbrev Image : Ways → Ways → Type 0
  Image a a' = (way' : List Act) → a' way' → (way : List Act) × a way × (way' ≡ map (rename_act home) way)

  abbrev pub Images : After → After → Type 0
  Images k k' = (e : Exit) → Image (k e) (k' e)

  with_end_image : (a a' : Ways) (k k' : After) → Image a a' → Images k k' → Images (with_end a k) (with_end a' k')
  with_end_image a a' k k' h hs AtEnd = h
  with_end_image a a' k k' h hs AtBreak = hs AtBreak
  with_end_image a a' k k' h hs AtContinue = hs AtContinue
  with_end_image a a' k k' h hs AtReturn = hs AtReturn

  in_body_image : (a a' : Ways) (k k' : After) → Image a a' → Images k k' → Images (in_body a k) (in_body a' k')
  in_body_image a a' k k' h hs AtEnd = h
  in_body_image a a' k k' h hs AtBreak = hs AtEnd
  in_body_image a a' k k' h hs AtContinue = h
  in_body_image a a' k k' h hs AtReturn = hs AtReturn

  either_image : (a b a' b' : Ways) → Image a a' → Image b b' → Image (either_way a b) (either_way a' b')
  either_image a b a' b' h g way (inl m) = let t = h way m in (t.0, inl t.1, t.2)
  either_image a b a' b' h g way (inr m) = let t = g way m in (t.0, inr t.1, t.2)

  act_image : (act : Act) (a a' : Ways) → Image a a' → Image (act_first act a) (act_first (rename_act home act) a')
  act_image act a a' h [] m = absurd m
  act_image act a a' h (c ∷ way) m = by m.1
    where
      by : (way ≡ []) ⊎ a' way → (w : List Act) × act_first act a w × (c ∷ way ≡ map (rename_act home) w)
      by (inl e) = (act ∷ [], (refl, inl refl), ap (λ x. x ∷ way) m.0 ∙ ap (λ w. rename_act home act ∷ w) e)
      by (inr r) = let t = h way r in (act ∷ t.0, (refl, inr t.1), ap (λ x. x ∷ way) m.0 ∙ ap (λ w. rename_act home act ∷ w) t.2)

  turns_image : (n : ℕ) (f g : Flow) (k k' : After) → ((k k' : After) → Images k k' → Image (ways f k) (ways (rename_flow home f) k')) → ((k k' : After) → Images k k' → Image (ways g k) (ways (rename_flow home g) k')) → Images k k'
      → Image (turn_ways n (ways f) (ways g) k) (turn_ways n (ways (rename_flow home f)) (ways (rename_flow home g)) k')
  turns_image zero f g k k' hf hg h way m = absurd m
  turns_image (suc n) f g k k' hf hg h way m =
      hf _ _ (with_end_image _ _ k k' (either_image _ _ _ _ (h AtEnd) (hg _ _ (in_body_image _ _ k k' (turns_image n f g k k' hf hg h) h))) h) way m

  pub ways_image : (f : Flow) (k k' : After) → Images k k' → Image (ways f k) (ways (rename_flow home f) k')
  ways_image (Does a) k k' h way m = act_image a (k AtEnd) (k' AtEnd) (h AtEnd) way m
  ways_image (Ends e) k k' h way m = h e way m
  ways_image (Then f g) k k' h way m = ways_image f _ _ (with_end_image _ _ k k' (ways_image g k k' h) h) way m
  ways_image (Either f g) k k' h way m = either_image _ _ _ _ (ways_image f k k' h) (ways_image g k k' h) way m
  ways_image (Loop f g) k k' h way m = let t = turns_image m.0 f g k k' (ways_image f) (ways_image g) h way m.1 in (t.0, (m.0, t.1), t.2)

  -- ---- live variables

  pub home_has : (xs : List ℕ) (y : ℕ) → has xs y ≡ true → has (map home xs) (home y) ≡ true
  home_has [] y h = absurd cc
  home_has (z ∷ xs) y h = by (home_has xs y) (y == z) refl h
    where
      by : (has xs y ≡ true → has (map home xs) (home y) ≡ true) → (b : Bool) → (y == z) ≡ b → (b || has xs y) ≡ true → has (home z ∷ map home xs) (home y) ≡ true
      by later true e h = let k : y ≡ z = grind (arith, nat_tests) in subst (λ z. has (home z ∷ map home xs) (home y) ≡ true) k (has_this (home y) (map home xs))
      by later false e h = has_later (home z) (map home xs) (home y) (later h)

  has_home : (xs : List ℕ) (x : ℕ) → has (map home xs) x ≡ true → (y : ℕ) × (home y ≡ x) × (has xs y ≡ true)
  has_home [] x h = absurd cc
  has_home (z ∷ xs) x h = by (has_home xs x) (x == home z) refl h
    where
      by : (has (map home xs) x ≡ true → (y : ℕ) × (home y ≡ x) × (has xs y ≡ true)) → (b : Bool) → (x == home z) ≡ b → (b || has (map home xs) x) ≡ true → (y : ℕ) × (home y ≡ x) × (has (z ∷ xs) y ≡ true)
      by later true e h = let k : home z ≡ x = grind (arith, nat_tests) in (z, k, has_this z xs)
      by later false e h = let t = later h in (t.0, t.1, has_later z xs t.0 t.2)

  not_home : (xs : List ℕ) (x y : ℕ) → home y ≡ x → has (map home xs) x ≡ false → has xs y ≡ false
  not_home xs x y e h = by (has xs y) (home_has xs y)
    where
      by : (b : Bool) → (b ≡ true → has (map home xs) (home y) ≡ true) → b ≡ false
      by false k = refl
      by true k = let both : true ≡ false = sym (k refl) ∙ ap (has (map home xs)) e ∙ h in cc

  read_first : (x : ℕ) (way : List Act) → ReadFirst x (map (rename_act home) way) → (y : ℕ) × (home y ≡ x) × ReadFirst y way
  read_first x [] r = absurd r
  read_first x (Reads ys ∷ way) (inl h) = let t = has_home ys x h in (t.0, t.1, inl t.2)
  read_first x (Reads ys ∷ way) (inr r) = let t = read_first x way r in (t.0, t.1, inr t.2)
  read_first x (Writes ys ∷ way) r = let t = read_first x way r.1 in (t.0, t.1, (not_home ys x t.0 t.1 r.0, t.2))
  read_first x (Leaves ys ∷ way) r = let t = read_first x way r.1 in (t.0, t.1, (not_home ys x t.0 t.1 r.0, t.2))

  pub live_image : (a a' : Ways) (x : ℕ) → Image a a' → Live a' x → (y : ℕ) × (home y ≡ x) × Live a y
  live_image a a' x h l = let t = h l.0 l.1 in let r = read_first x t.0 (subst (ReadFirst x) t.2 l.2) in (r.0, r.1, (t.0, t.1, r.2))

  -- ---- ways out of calls

  pub across_image : (x : ℕ) (f : Flow) (k k' : After) → Images k k' → Somewhere (LiveAfterCall x) (rename_flow home f) k' → (y : ℕ) × (home y ≡ x) × Somewhere (LiveAfterCall y) f k
  across_image x (Does (Reads ys)) k k' h s = absurd s
  across_image x (Does (Writes ys)) k k' h s = absurd s
  across_image x (Does (Leaves ys)) k k' h s = let t = live_image (k AtEnd) (k' AtEnd) x (h AtEnd) s.1 in (t.0, t.1, (not_home ys x t.0 t.1 s.0, t.2))
  across_image x (Ends e) k k' h s = absurd s
  across_image x (Then f g) k k' h (inl s) = let t = across_image x f _ _ (with_end_image _ _ k k' (ways_image g k k' h) h) s in (t.0, t.1, inl t.2)
  across_image x (Then f g) k k' h (inr s) = let t = across_image x g k k' h s in (t.0, t.1, inr t.2)
  across_image x (Either f g) k k' h (inl s) = let t = across_image x f k k' h s in (t.0, t.1, inl t.2)
  across_image x (Either f g) k k' h (inr s) = let t = across_image x g k k' h s in (t.0, t.1, inr t.2)
  across_image x (Loop f g) k k' h (inl s) =
      let turn = in_body_image _ _ k k' (ways_image (Loop f g) k k' h) h in
      let t = across_image x f _ _ (with_end_image _ _ k k' (either_image _ _ _ _ (h AtEnd) (ways_image g _ _ turn)) h) s in (t.0, t.1, inl t.2)
  across_image x (Loop f g) k k' h (inr s) =
      let t = across_image x g _ _ (in_body_image _ _ k k' (ways_image (Loop f g) k k' h) h) s in (t.0, t.1, inr t.2)
