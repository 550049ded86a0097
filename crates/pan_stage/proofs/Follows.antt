-- One meaning follows another: it does the same in a world that differs in the toll alone, wherever the first doesn't fail; or its stack is exhausted, where that may be. Each combinator keeps this.
use Rattle.std.proofs.Common.{◌≡◌, ℕ, zero, suc, List, [], ◌∷◌, Option, Some, None, Bool, true, false, refl, sym, ap, ◌∙◌, subst}
use Rattle.pan_base.specs.Events.{Asked, Replied, Event, Ending, Spent, Stack, Fails, fits}
use Rattle.pan_control.specs.World.{World, leaving, back_in}
use Rattle.pan_control.specs.Control.{Outcome, Normal, Broken, Continued, Returned, Raised, Over, Meaning, Callee, and_then, with_value, where_true, if_not_zero, spend_of, spend, ask_fit, ask_of, ask, on_variables, after_body, turn, turns, after_call, call, tail_call, left, world_of}
use Rattle.pan_stage.proofs.Rows.{then_normal}
use Rattle.pan_stage.proofs.Grows.{Extends, extends_self, Grown, Grows, then_on, value_grown, choice_grown, spend_grown, body_on, body_grown, turns_grow, after_call_on}

-- how the second's memory and globals come from the first's
pub record View (G G' : Type 0) : Type 0 where
  pub memory : List ℕ → List ℕ
  pub globals : G → G'

-- the same memory, and globals that are what this makes of the first's
abbrev pub keeping : {G G' : Type 0} → (G → G') → View G G'
keeping globals = record { memory = λ m. m; globals = globals }

-- the second's world beside the first's: its memory and its globals are what the view makes of the first's, and it has another toll
abbrev pub beside : {G G' : Type 0} → View G G' → ℕ → World G → World G'
beside view t w = record { memory = view.memory w.memory; globals = view.globals w.globals; replies = w.replies; trace = w.trace; fuel = w.fuel; active = w.active; own = w.own; deepest = w.deepest; toll = t }

-- What is to hold at each end of two runs: of the first's variables or results, of its world, of the second's variables or results, and of the second's toll.
pub record Ends (G G' V U X Y : Type 0) : Type 1 where
  -- the second's memory and globals, by the first's
  pub view : View G G'
  pub normal : V → World G → U → ℕ → Type 0
  pub broken : V → World G → U → ℕ → Type 0
  pub continued : V → World G → U → ℕ → Type 0
  pub returned : X → World G → Y → ℕ → Type 0
  pub raised : ℕ → X → World G → Y → ℕ → Type 0
  -- where both are over
  pub stopped : World G → ℕ → Type 0
  -- where the second's stack is exhausted in the second world, and the first comes to the first world; it stays so while the first goes on
  pub cut : World G → World G' → Type 0
  pub stays : (w w' : World G) (after : World G') → Extends w w' → cut w after → cut w' after

-- the second comes to something that is related
pub record To {G G' A B O : Type 0} (view : View G G') (R : A → World G → B → ℕ → Type 0) (a : A) (w : World G) (make : B → World G' → O) (o : O) : Type 0 where
  pub second : B
  pub toll : ℕ
  pub holds : R a w second toll
  pub is : o ≡ make second (beside view toll w)

-- the second is over in the same way
pub record Stops {G G' U Y : Type 0} (view : View G G') (S : World G → ℕ → Type 0) (e : Ending) (w : World G) (o : Outcome G' U Y) : Type 0 where
  pub toll : ℕ
  pub holds : S w toll
  pub is : o ≡ Over e (beside view toll w)

-- the second's stack is exhausted
pub record Cut {G G' U Y : Type 0} (K : World G → World G' → Type 0) (w : World G) (o : Outcome G' U Y) : Type 0 where
  pub after : World G'
  pub holds : K w after
  pub is : o ≡ Over Stack after

abbrev pub is_fails : Ending → Bool
is_fails Fails = true
is_fails _ = false

true_no : true ≡ false → ⊥
true_no e = cc e

-- other relations of the variables, or of what a function is left with
abbrev pub with_variables : {G G' V U V' U' X Y : Type 0} → (N B C : V' → World G → U' → ℕ → Type 0) → Ends G G' V U X Y → Ends G G' V' U' X Y
with_variables N B C r = record { view = r.view; normal = N; broken = B; continued = C; returned = r.returned; raised = r.raised; stopped = r.stopped; cut = r.cut; stays = r.stays }

-- of what a function leaves only its results are related
abbrev pub Nothing : {G : Type 0} → Unit {0} → World G → Unit {0} → ℕ → Type 0
Nothing a w b t = Unit {0}

-- what is to hold where a function is left, whose results are related so
abbrev pub left_with : {G G' V U X Y : Type 0} → (X → World G → Y → ℕ → Type 0) → (ℕ → X → World G → Y → ℕ → Type 0) → Ends G G' V U X Y → Ends G G' (Unit {0}) (Unit {0}) X Y
left_with Q E r = record { view = r.view; normal = Nothing; broken = Nothing; continued = Nothing; returned = Q; raised = E; stopped = r.stopped; cut = r.cut; stays = r.stays }

-- inside a loop whose head is related by H
abbrev pub inside : {G G' V U X Y : Type 0} → (V → World G → U → ℕ → Type 0) → Ends G G' V U X Y → Ends G G' V U X Y
inside H r = record r { normal = H; broken = r.normal; continued = H }

module _ {G G' V U X Y : Type 0} (r : Ends G G' V U X Y) where
  abbrev pub Matched : Outcome G V X → Outcome G' U Y → Type 0
  Matched (Normal v w) o = To r.view r.normal v w Normal o
  Matched (Broken v w) o = To r.view r.broken v w Broken o
  Matched (Continued v w) o = To r.view r.continued v w Continued o
  Matched (Returned x w) o = To r.view r.returned x w Returned o
  Matched (Raised i x w) o = To r.view (r.raised i) x w (Raised i) o
  Matched (Over e w) o = is_fails e ≡ false → Stops r.view r.stopped e w o

  -- the second ends as the first does, unless that fails; or it is cut
  pub data Same (o : Outcome G V X) (o' : Outcome G' U Y) : Type 0 where
    matched : Matched o o' → Same o o'
    cut : Cut r.cut (world_of o) o' → Same o o'

  -- from variables that are related so
  abbrev pub Follows : (V → World G → U → ℕ → Type 0) → Meaning G V X → Meaning G' U Y → Type 0
  Follows P m m' = (v : V) (w : World G) (u : U) (t : ℕ) → P v w u t → Same (m v w) (m' u (beside r.view t w))

  -- What the first does later grows. This need be known only where the second may be cut.
  abbrev pub Onward : Meaning G V X → Type 0
  Onward m = (w : World G) (after : World G') → r.cut w after → Grows m

  -- ---- the ends

  pub normal : (v : V) (w : World G) (u : U) (t : ℕ) → r.normal v w u t → Same (Normal v w) (Normal u (beside r.view t w))
  normal v w u t h = matched (record { second = u; toll = t; holds = h; is = refl })

  pub broken : (v : V) (w : World G) (u : U) (t : ℕ) → r.broken v w u t → Same (Broken v w) (Broken u (beside r.view t w))
  broken v w u t h = matched (record { second = u; toll = t; holds = h; is = refl })

  pub continued : (v : V) (w : World G) (u : U) (t : ℕ) → r.continued v w u t → Same (Continued v w) (Continued u (beside r.view t w))
  continued v w u t h = matched (record { second = u; toll = t; holds = h; is = refl })

  pub returned : (x : X) (w : World G) (y : Y) (t : ℕ) → r.returned x w y t → Same (Returned x w) (Returned y (beside r.view t w))
  returned x w y t h = matched (record { second = y; toll = t; holds = h; is = refl })

  pub raised : (i : ℕ) (x : X) (w : World G) (y : Y) (t : ℕ) → r.raised i x w y t → Same (Raised i x w) (Raised i y (beside r.view t w))
  raised i x w y t h = matched (record { second = y; toll = t; holds = h; is = refl })

  pub over : (e : Ending) (w : World G) (t : ℕ) → r.stopped w t → Same (Over e w) (Over e (beside r.view t w))
  over e w t h = matched (λ n. record { toll = t; holds = h; is = refl })

  -- where the first fails nothing is owed
  pub failed : (w : World G) (o : Outcome G' U Y) → Same (Over Fails w) o
  failed w o = matched (λ n. absurd (true_no n))

  pub same_as : (o : Outcome G V X) (a b : Outcome G' U Y) → a ≡ b → Same o b → Same o a
  same_as o a b e s = subst (Same o) (sym e) s

-- what holds stays true of what follows
to_on : {G G' A B O O' : Type 0} (view : View G G') (R : A → World G → B → ℕ → Type 0) (a : A) (w : World G) (make : B → World G' → O) (make' : B → World G' → O') (o : O) (f : O → O') → ((b : B) (w : World G') → f (make b w) ≡ make' b w) → To view R a w make o → To view R a w make' (f o)
to_on view R a w make make' o f e s = record { second = s.second; toll = s.toll; holds = s.holds; is = ap f s.is ∙ e s.second (beside view s.toll w) }

stops_on : {G G' U Y U' Y' : Type 0} (view : View G G') (S : World G → ℕ → Type 0) (e : Ending) (w : World G) (o : Outcome G' U Y) (f : Outcome G' U Y → Outcome G' U' Y') → ((e : Ending) (w : World G') → f (Over e w) ≡ Over e w) → (is_fails e ≡ false → Stops view S e w o) → is_fails e ≡ false → Stops view S e w (f o)
stops_on view S e w o f h s n = let p = s n in record { toll = p.toll; holds = p.holds; is = ap f p.is ∙ h e (beside view p.toll w) }

module _ {G G' V U X Y : Type 0} (r : Ends G G' V U X Y) where
  cut_on : {U' Y' : Type 0} (w w' : World G) (o : Outcome G' U' Y') (f : Outcome G' U' Y' → Outcome G' U Y) → ((e : Ending) (w : World G') → f (Over e w) ≡ Over e w) → ((after : World G') → r.cut w after → Extends w w') → Cut r.cut w o → Cut r.cut w' (f o)
  cut_on w w' o f h e k = record { after = k.after; holds = r.stays w w' k.after (e k.after k.holds) k.holds; is = ap f k.is ∙ h Stack k.after }

  -- ---- one after another

  pub then_same : (P : V → World G → U → ℕ → Type 0) (o : Outcome G V X) (o' : Outcome G' U Y) (m : Meaning G V X) (m' : Meaning G' U Y) → Same (record r { normal = P }) o o' → Follows r P m m' → Onward r m → Same r (and_then o m) (and_then o' m')
  then_same P o o' m m' (cut k) f g = cut (cut_on (world_of o) (world_of (and_then o m)) o' (λ o. and_then o m') (λ e w. refl) (λ after h. then_on o m (g (world_of o) after h)) k)
  then_same P (Normal v w) o' m m' (matched s) f g = subst (λ (x : Outcome G' U Y). Same r (m v w) (and_then x m')) (sym s.is) (f v w s.second s.toll s.holds)
  then_same P (Broken v w) o' m m' (matched s) f g = matched (to_on r.view r.broken v w Broken Broken o' (λ o. and_then o m') (λ b w. refl) s)
  then_same P (Continued v w) o' m m' (matched s) f g = matched (to_on r.view r.continued v w Continued Continued o' (λ o. and_then o m') (λ b w. refl) s)
  then_same P (Returned x w) o' m m' (matched s) f g = matched (to_on r.view r.returned x w Returned Returned o' (λ o. and_then o m') (λ b w. refl) s)
  then_same P (Raised i x w) o' m m' (matched s) f g = matched (to_on r.view (r.raised i) x w (Raised i) (Raised i) o' (λ o. and_then o m') (λ b w. refl) s)
  then_same P (Over e w) o' m m' (matched s) f g = matched (stops_on r.view r.stopped e w o' (λ o. and_then o m') (λ e w. refl) s)

  pub choice_same : (n : ℕ) (a b : Outcome G V X) (a' b' : Outcome G' U Y) → Same r a a' → Same r b b' → Same r (if_not_zero n a b) (if_not_zero n a' b')
  choice_same zero a b a' b' s t = t
  choice_same (suc n) a b a' b' s t = s

  -- a value of the first, unless it has none
  pub with_same : {A : Type 0} (a : Option A) (w : World G) (go : A → Outcome G V X) (o' : Outcome G' U Y) → ((x : A) → a ≡ Some x → Same r (go x) o') → Same r (with_value a w go) o'
  with_same None w go o' h = failed r w o'
  with_same (Some x) w go o' h = h x refl

  -- a value that both have, unless the first has none
  pub value_same : {A : Type 0} (a : Option A) (w : World G) (w' : World G') (go : A → Outcome G V X) (go' : A → Outcome G' U Y) → ((x : A) → a ≡ Some x → Same r (go x) (go' x)) → Same r (with_value a w go) (with_value a w' go')
  value_same None w w' go go' h = failed r w (Over Fails w')
  value_same (Some x) w w' go go' h = h x refl

  pub where_same : (b : Bool) (w : World G) (w' : World G') (o : Outcome G V X) (o' : Outcome G' U Y) → Same r o o' → Same r (where_true b w o) (where_true b w' o')
  where_same false w w' o o' s = failed r w (Over Fails w')
  where_same true w w' o o' s = s

  -- ---- fuel and requests

  spend_of_same : (n : ℕ) (w : World G) (t : ℕ) (go : World G → Outcome G V X) (go' : World G' → Outcome G' U Y) → r.stopped w t → ((n : ℕ) → Same r (go (record w { fuel = n })) (go' (beside r.view t (record w { fuel = n })))) → Same r (spend_of n w go) (spend_of n (beside r.view t w) go')
  spend_of_same zero w t go go' s h = over r Spent w t s
  spend_of_same (suc n) w t go go' s h = h n

  pub spend_same : (w : World G) (t : ℕ) (go : World G → Outcome G V X) (go' : World G' → Outcome G' U Y) → r.stopped w t → ((n : ℕ) → Same r (go (record w { fuel = n })) (go' (beside r.view t (record w { fuel = n })))) → Same r (spend w go) (spend (beside r.view t w) go')
  spend_same w t go go' s h = spend_of_same w.fuel w t go go' s h

  -- after a reply the world has other replies and a longer trace
  abbrev pub Replies : World G → (Replied → World G → Outcome G V X) → ℕ → (Replied → World G' → Outcome G' U Y) → Type 0
  Replies w go t go' = (a : Replied) (rs : List Replied) (es : List Event) → Same r (go a (record w { replies = rs; trace = es })) (go' a (beside r.view t (record w { replies = rs; trace = es })))

  fit_same : (b : Bool) (q : Asked) (a : Replied) (w : World G) (t : ℕ) (rs : List Replied) (go : Replied → World G → Outcome G V X) (go' : Replied → World G' → Outcome G' U Y) → r.stopped w t → Replies w go t go' → Same r (ask_fit b q a w rs go) (ask_fit b q a (beside r.view t w) rs go')
  fit_same false q a w t rs go go' s h = over r _ w t s
  fit_same true q a w t rs go go' s h = h a rs _

  ask_of_same : (rs : List Replied) (q : Asked) (w : World G) (t : ℕ) (go : Replied → World G → Outcome G V X) (go' : Replied → World G' → Outcome G' U Y) → r.stopped w t → Replies w go t go' → Same r (ask_of rs q w go) (ask_of rs q (beside r.view t w) go')
  ask_of_same [] q w t go go' s h = over r _ w t s
  ask_of_same (a ∷ rs) q w t go go' s h = fit_same (fits q a) q a w t rs go go' s h

  pub ask_same : (q : Asked) (w : World G) (t : ℕ) (go : Replied → World G → Outcome G V X) (go' : Replied → World G' → Outcome G' U Y) → r.stopped w t → Replies w go t go' → Same r (ask q w go) (ask q (beside r.view t w) go')
  ask_same q w t go go' s h = ask_of_same w.replies q w t go go' s h

  -- ---- what is left of variables

  -- the first's variables alone are changed where it goes on
  pub on_same : {V' : Type 0} (g : V → V') (r' : Ends G G' V' U X Y) (o : Outcome G V X) (o' : Outcome G' U Y)
      → ((v : V) (w : World G) (u : U) (t : ℕ) → r.normal v w u t → r'.normal (g v) w u t) → ((v : V) (w : World G) (u : U) (t : ℕ) → r.broken v w u t → r'.broken (g v) w u t) → ((v : V) (w : World G) (u : U) (t : ℕ) → r.continued v w u t → r'.continued (g v) w u t)
      → Same r o o' → Same (with_variables r'.normal r'.broken r'.continued r) (on_variables g o) o'
  on_same g r' (Normal v w) o' n b c (cut k) = cut k
  on_same g r' (Broken v w) o' n b c (cut k) = cut k
  on_same g r' (Continued v w) o' n b c (cut k) = cut k
  on_same g r' (Returned x w) o' n b c (cut k) = cut k
  on_same g r' (Raised i x w) o' n b c (cut k) = cut k
  on_same g r' (Over e w) o' n b c (cut k) = cut k
  on_same g r' (Normal v w) o' n b c (matched s) = matched (record { second = s.second; toll = s.toll; holds = n v w s.second s.toll s.holds; is = s.is })
  on_same g r' (Broken v w) o' n b c (matched s) = matched (record { second = s.second; toll = s.toll; holds = b v w s.second s.toll s.holds; is = s.is })
  on_same g r' (Continued v w) o' n b c (matched s) = matched (record { second = s.second; toll = s.toll; holds = c v w s.second s.toll s.holds; is = s.is })
  on_same g r' (Returned x w) o' n b c (matched s) = matched s
  on_same g r' (Raised i x w) o' n b c (matched s) = matched s
  on_same g r' (Over e w) o' n b c (matched s) = matched s

  -- what is related at each end is related by another relation
  pub record Less (r' : Ends G G' V U X Y) : Type 0 where
    pub normal : (v : V) (w : World G) (u : U) (t : ℕ) → r.normal v w u t → r'.normal v w u t
    pub broken : (v : V) (w : World G) (u : U) (t : ℕ) → r.broken v w u t → r'.broken v w u t
    pub continued : (v : V) (w : World G) (u : U) (t : ℕ) → r.continued v w u t → r'.continued v w u t
    pub returned : (x : X) (w : World G) (y : Y) (t : ℕ) → r.returned x w y t → r'.returned x w y t
    pub raised : (i : ℕ) (x : X) (w : World G) (y : Y) (t : ℕ) → r.raised i x w y t → r'.raised i x w y t
    pub stopped : (w : World G) (t : ℕ) → r.stopped w t → r'.stopped w t
    pub cut : (w : World G) (after : World G') → r.cut w after → r'.cut w after

  pub less_same : (r' : Ends G G' V U X Y) → Less r' → (o : Outcome G V X) (o' : Outcome G' U Y) → Same r o o' → Same (record r' { view = r.view }) o o'
  less_same r' l o o' (cut k) = cut (record { after = k.after; holds = l.cut (world_of o) k.after k.holds; is = k.is })
  less_same r' l (Normal v w) o' (matched s) = matched (record { second = s.second; toll = s.toll; holds = l.normal v w s.second s.toll s.holds; is = s.is })
  less_same r' l (Broken v w) o' (matched s) = matched (record { second = s.second; toll = s.toll; holds = l.broken v w s.second s.toll s.holds; is = s.is })
  less_same r' l (Continued v w) o' (matched s) = matched (record { second = s.second; toll = s.toll; holds = l.continued v w s.second s.toll s.holds; is = s.is })
  less_same r' l (Returned x w) o' (matched s) = matched (record { second = s.second; toll = s.toll; holds = l.returned x w s.second s.toll s.holds; is = s.is })
  less_same r' l (Raised i x w) o' (matched s) = matched (record { second = s.second; toll = s.toll; holds = l.raised i x w s.second s.toll s.holds; is = s.is })
  less_same r' l (Over e w) o' (matched s) = matched (λ n. let p = s n in record { toll = p.toll; holds = l.stopped w p.toll p.holds; is = p.is })

  -- ---- loops

  pub body_same : (H : V → World G → U → ℕ → Type 0) (o : Outcome G V X) (o' : Outcome G' U Y) (m : Meaning G V X) (m' : Meaning G' U Y) → Same (inside H r) o o' → Follows r H m m' → Onward r m → Same r (after_body o m) (after_body o' m')
  body_same H o o' m m' (cut k) f g = cut (cut_on (world_of o) (world_of (after_body o m)) o' (λ o. after_body o m') (λ e w. refl) (λ after h. body_on o m (g (world_of o) after h)) k)
  body_same H (Normal v w) o' m m' (matched s) f g = subst (λ (x : Outcome G' U Y). Same r (m v w) (after_body x m')) (sym s.is) (f v w s.second s.toll s.holds)
  body_same H (Broken v w) o' m m' (matched s) f g = matched (to_on r.view r.normal v w Broken Normal o' (λ o. after_body o m') (λ b w. refl) s)
  body_same H (Continued v w) o' m m' (matched s) f g = subst (λ (x : Outcome G' U Y). Same r (m v w) (after_body x m')) (sym s.is) (f v w s.second s.toll s.holds)
  body_same H (Returned x w) o' m m' (matched s) f g = matched (to_on r.view r.returned x w Returned Returned o' (λ o. after_body o m') (λ b w. refl) s)
  body_same H (Raised i x w) o' m m' (matched s) f g = matched (to_on r.view (r.raised i) x w (Raised i) (Raised i) o' (λ o. after_body o m') (λ b w. refl) s)
  body_same H (Over e w) o' m m' (matched s) f g = matched (stops_on r.view r.stopped e w o' (λ o. after_body o m') (λ e w. refl) s)

  -- At the head of a loop H holds, after the steps before the test T, where both tests give one number unless the first fails; where the body begins I holds. `r` speaks of what comes after the loop, and of what leaves for an outer loop.
  pub record Turning (H T I : V → World G → U → ℕ → Type 0) (before : Meaning G V X) (test : V → World G → Option ℕ) (body : Meaning G V X) (before' : Meaning G' U Y) (test' : U → World G' → Option ℕ) (body' : Meaning G' U Y) : Type 0 where
    pub first : Follows (record r { normal = T }) H before before'
    pub tests : (v : V) (w : World G) (u : U) (t n : ℕ) → T v w u t → test v w ≡ Some n → test' u (beside r.view t w) ≡ Some n
    pub leaves : (v : V) (w : World G) (u : U) (t : ℕ) → T v w u t → r.normal v w u t
    pub begins : (v : V) (w : World G) (u : U) (t n : ℕ) → T v w u t → I v (record w { fuel = n }) u t
    pub inner : Follows (inside H r) I body body'
    -- where no fuel is left
    pub spent : (v : V) (w : World G) (u : U) (t : ℕ) → T v w u t → r.stopped w t
    pub spent_at_head : (v : V) (w : World G) (u : U) (t : ℕ) → H v w u t → r.stopped w t
    pub before_onward : Onward r before
    pub body_onward : Onward r body

  turn_same : (H T I : V → World G → U → ℕ → Type 0) (before : Meaning G V X) (test : V → World G → Option ℕ) (body again : Meaning G V X) (before' : Meaning G' U Y) (test' : U → World G' → Option ℕ) (body' again' : Meaning G' U Y)
      → Turning H T I before test body before' test' body' → Follows r H again again' → Onward r again → Follows r H (turn before test body again) (turn before' test' body' again')
  turn_same H T I before test body again before' test' body' again' k f g v w u t h =
      then_same T (before v w) (before' u (beside r.view t w)) tested tested' (k.first v w u t h) tested_same
      (λ w after c. record { at = λ v w. value_grown (test v w) w _ (λ n. choice_grown n w _ _ (spend_grown w _ (λ w'. body_grown w' (body v w') again ((k.body_onward _ after c).at v w') (g _ after c))) (record { by = extends_self w })) })
    where
      tested : Meaning G V X
      tested v w = with_value (test v w) w (λ n. if_not_zero n (spend w (λ w. after_body (body v w) again)) (Normal v w))

      tested' : Meaning G' U Y
      tested' u w = with_value (test' u w) w (λ n. if_not_zero n (spend w (λ w. after_body (body' u w) again')) (Normal u w))

      tested_same : Follows r T tested tested'
      tested_same v w u t h =
          with_same (test v w) w _ _ (λ n is.
          subst (λ o. Same r (if_not_zero n (spend w (λ w. after_body (body v w) again)) (Normal v w)) (with_value o (beside r.view t w) (λ n. if_not_zero n (spend (beside r.view t w) (λ w. after_body (body' u w) again')) (Normal u (beside r.view t w))))) (sym (k.tests v w u t n h is))
          (choice_same n _ _ _ _
          (spend_same w t (λ w. after_body (body v w) again) (λ w. after_body (body' u w) again') (k.spent v w u t h) (λ n.
          body_same H (body v (record w { fuel = n })) (body' u (beside r.view t (record w { fuel = n }))) again again' (k.inner v (record w { fuel = n }) u t (k.begins v w u t n h)) f g))
          (normal r v w u t (k.leaves v w u t h))))

  pub turns_same : (H T I : V → World G → U → ℕ → Type 0) (d : ℕ) (before : Meaning G V X) (test : V → World G → Option ℕ) (body : Meaning G V X) (before' : Meaning G' U Y) (test' : U → World G' → Option ℕ) (body' : Meaning G' U Y)
      → Turning H T I before test body before' test' body' → Follows r H (turns d before test body) (turns d before' test' body')
  turns_same H T I zero before test body before' test' body' k =
      turn_same H T I before test body (λ v w. Over Spent w) before' test' body' (λ v w. Over Spent w) k (λ v w u t h. over r Spent w t (k.spent_at_head v w u t h)) (λ w after c. record { at = λ v w. record { by = extends_self w } })
  turns_same H T I (suc d) before test body before' test' body' k =
      turn_same H T I before test body (turns d before test body) before' test' body' (turns d before' test' body') k (turns_same H T I d before test body before' test' body' k)
      (λ w after c. turns_grow d before test body (k.before_onward w after c) (k.body_onward w after c))

  -- ---- calls

  -- what the first does after a call grows
  pub record CallOnward (gave : X → World G → Outcome G V X) (threw : ℕ → X → World G → Outcome G V X) : Type 0 where
    pub gave_grows : (w : World G) (after : World G') → r.cut w after → (x : X) (w : World G) → Grown w (gave x w)
    pub threw_grows : (w : World G) (after : World G') → r.cut w after → (i : ℕ) (x : X) (w : World G) → Grown w (threw i x w)

  -- the callee's results are related by Q, and its exceptions by E
  pub after_call_same : (Q : X → World G → Y → ℕ → Type 0) (E : ℕ → X → World G → Y → ℕ → Type 0) (caller : World G) (t : ℕ) (o : Outcome G (Unit {0}) X) (o' : Outcome G' (Unit {0}) Y) (gave : X → World G → Outcome G V X) (threw : ℕ → X → World G → Outcome G V X) (gave' : Y → World G' → Outcome G' U Y) (threw' : ℕ → Y → World G' → Outcome G' U Y)
      → Same (left_with Q E r) o o' → ((x : X) (w : World G) (y : Y) (t : ℕ) → Q x w y t → Same r (gave x (back_in caller w)) (gave' y (beside r.view t (back_in caller w)))) → ((i : ℕ) (x : X) (w : World G) (y : Y) (t : ℕ) → E i x w y t → Same r (threw i x (back_in caller w)) (threw' i y (beside r.view t (back_in caller w))))
      → CallOnward gave threw → Same r (after_call caller o gave threw) (after_call (beside r.view t caller) o' gave' threw')
  after_call_same Q E c t o o' gave threw gave' threw' (cut k) g h on = cut (cut_on (world_of o) (world_of (after_call c o gave threw)) o' (λ (o : Outcome G' (Unit {0}) Y). after_call (beside r.view t c) o gave' threw') (λ e w. refl) (λ after s. after_call_on c o gave threw (on.gave_grows (world_of o) after s) (on.threw_grows (world_of o) after s)) k)
  after_call_same Q E c t (Normal v w) o' gave threw gave' threw' (matched s) g h on = failed r w _
  after_call_same Q E c t (Broken v w) o' gave threw gave' threw' (matched s) g h on = failed r w _
  after_call_same Q E c t (Continued v w) o' gave threw gave' threw' (matched s) g h on = failed r w _
  after_call_same Q E c t (Returned x w) o' gave threw gave' threw' (matched s) g h on = subst (λ (o : Outcome G' (Unit {0}) Y). Same r (gave x (back_in c w)) (after_call (beside r.view t c) o gave' threw')) (sym s.is) (g x w s.second s.toll s.holds)
  after_call_same Q E c t (Raised i x w) o' gave threw gave' threw' (matched s) g h on = subst (λ (o : Outcome G' (Unit {0}) Y). Same r (threw i x (back_in c w)) (after_call (beside r.view t c) o gave' threw')) (sym s.is) (h i x w s.second s.toll s.holds)
  after_call_same Q E c t (Over e w) o' gave threw gave' threw' (matched s) g h on = matched (stops_on r.view r.stopped e w o' (λ (o : Outcome G' (Unit {0}) Y). after_call (beside r.view t c) o gave' threw') (λ e w. refl) s)

  pub call_same : {A A' : Type 0} (Q : X → World G → Y → ℕ → Type 0) (E : ℕ → X → World G → Y → ℕ → Type 0) (k : Callee G A X) (k' : Callee G' A' Y) (f : ℕ) (a : A) (a' : A') (w : World G) (t : ℕ) (gave : X → World G → Outcome G V X) (threw : ℕ → X → World G → Outcome G V X) (gave' : Y → World G' → Outcome G' U Y) (threw' : ℕ → Y → World G' → Outcome G' U Y)
      → r.stopped w t → ((n : ℕ) → Same (left_with Q E r) (k f a (record w { fuel = n })) (k' f a' (beside r.view t (record w { fuel = n }))))
      → ((x : X) (w' : World G) (y : Y) (t : ℕ) → Q x w' y t → Same r (gave x (back_in w w')) (gave' y (beside r.view t (back_in w w')))) → ((i : ℕ) (x : X) (w' : World G) (y : Y) (t : ℕ) → E i x w' y t → Same r (threw i x (back_in w w')) (threw' i y (beside r.view t (back_in w w'))))
      → CallOnward gave threw → Same r (call k f (Some a) w gave threw) (call k' f (Some a') (beside r.view t w) gave' threw')
  call_same Q E k k' f a a' w t gave threw gave' threw' s runs g h on =
      spend_same w t (λ w'. after_call w (k f a w') gave threw) (λ w'. after_call (beside r.view t w) (k' f a' w') gave' threw') s
      (λ n. after_call_same Q E w t (k f a (record w { fuel = n })) (k' f a' (beside r.view t (record w { fuel = n }))) gave threw gave' threw' (runs n) g h on)

  -- a function that is left goes on leaving, whatever its caller has of variables
  pub left_same : {V' U' : Type 0} (N B C : V' → World G → U' → ℕ → Type 0) (o : Outcome G V X) (o' : Outcome G' U Y) → Same r o o' → Same (with_variables N B C r) (left {U = V'} o) (left {U = U'} o')
  left_same {V'} {U'} N B C o o' (cut k) = by o k
    where
      by : (o : Outcome G V X) → Cut r.cut (world_of o) o' → Same (with_variables N B C r) (left {U = V'} o) (left {U = U'} o')
      by (Normal v w) k = failed (with_variables N B C r) w _
      by (Broken v w) k = failed (with_variables N B C r) w _
      by (Continued v w) k = failed (with_variables N B C r) w _
      by (Returned x w) k = cut (record { after = k.after; holds = k.holds; is = ap (λ o. left {U = U'} o) k.is })
      by (Raised i x w) k = cut (record { after = k.after; holds = k.holds; is = ap (λ o. left {U = U'} o) k.is })
      by (Over e w) k = cut (record { after = k.after; holds = k.holds; is = ap (λ o. left {U = U'} o) k.is })
  left_same N B C (Normal v w) o' (matched s) = failed (with_variables N B C r) w _
  left_same N B C (Broken v w) o' (matched s) = failed (with_variables N B C r) w _
  left_same N B C (Continued v w) o' (matched s) = failed (with_variables N B C r) w _
  left_same N B C (Returned x w) o' (matched s) = matched (to_on r.view r.returned x w Returned Returned o' (λ o. left o) (λ b w. refl) s)
  left_same N B C (Raised i x w) o' (matched s) = matched (to_on r.view (r.raised i) x w (Raised i) (Raised i) o' (λ o. left o) (λ b w. refl) s)
  left_same N B C (Over e w) o' (matched s) = matched (stops_on r.view r.stopped e w o' (λ o. left o) (λ e w. refl) s)

module _ {G G' V U X Y : Type 0} (r : Ends G G' V U X Y) where
  -- a call in the place of the running function
  pub tail_same : {A A' : Type 0} (k : Callee G A X) (k' : Callee G' A' Y) (f : ℕ) (a : A) (a' : A') (w : World G) (t : ℕ)
      → r.stopped w t → ((n : ℕ) → Same (left_with r.returned r.raised r) (k f a (leaving (record w { fuel = n }))) (k' f a' (beside r.view t (leaving (record w { fuel = n }))))) → Same r (tail_call k f (Some a) w) (tail_call k' f (Some a') (beside r.view t w))
  tail_same k k' f a a' w t s runs =
      spend_same r w t (λ w. left (k f a (leaving w))) (λ w. left (k' f a' (leaving w))) s
      (λ n. left_same (left_with r.returned r.raised r) r.normal r.broken r.continued (k f a (leaving (record w { fuel = n }))) (k' f a' (beside r.view t (leaving (record w { fuel = n })))) (runs n))

  -- more of the second alone
  pub more_same : (P : V → World G → U → ℕ → Type 0) (o : Outcome G V X) (o' : Outcome G' U Y) (m' : Meaning G' U Y) → Same (record r { normal = P }) o o' → Follows r P (λ v w. Normal v w) m' → Same r o (and_then o' m')
  more_same P o o' m' s f =
      subst (λ o. Same r o (and_then o' m')) (then_normal o) (then_same r P o o' (λ v w. Normal v w) m' s f (λ w after c. record { at = λ v w. record { by = extends_self w } }))
