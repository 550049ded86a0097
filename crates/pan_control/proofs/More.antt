-- With more fuel and more replies a run does the same, or goes on where it was spent or where it asks. A trace only grows.
use Rattle.std.proofs.Common.{◌≡◌, ℕ, zero, suc, ◌+◌, ◌≤◌, List, [], ◌∷◌, ◌++◌, Option, Some, None, Bool, true, false, refl, sym, ap, ◌∙◌, subst, arith, append_assoc, append-nil}
use Rattle.pan_base.specs.Events.{Asked, Foreign, Replied, Event, Ending, Exit, Uncaught, Stopped, Asks, Spent, Stack, Fault, Fails, fits}
use Rattle.pan_control.specs.World.{World, back_in, leaving}
use Rattle.pan_control.specs.Memory.{bytes_at}
use Rattle.pan_control.specs.Runs.{foreign, with_reply, tested_again}
use Rattle.pan_control.specs.Control.{Outcome, Normal, Broken, Continued, Returned, Raised, Over, Meaning, Callee, and_then, in_turn, with_value, where_true, if_not_zero, spend_of, spend, ask_fit, ask_of, ask, after_body, turn, turns, after_call, call, tail_call, left, on_variables, world_of}

-- the second begins with the first
abbrev pub IsFront : List Event → List Event → Type 0
IsFront xs ys = (zs : List Event) × (ys ≡ xs ++ zs)

pub front_refl : (xs : List Event) → IsFront xs xs
front_refl xs = ([], sym (append-nil xs))

pub front_trans : (xs ys zs : List Event) → IsFront xs ys → IsFront ys zs → IsFront xs zs
front_trans xs ys zs a b = (a.0 ++ b.0, b.1 ∙ ap (λ l. l ++ b.0) a.1 ∙ append_assoc xs a.0 b.0)

-- ---- a trace only grows

-- the trace at the end begins with the one before
abbrev pub GrowsTo : {V X G : Type 0} → World G → Outcome G V X → Type 0
GrowsTo w o = IsFront w.trace (world_of o).trace

-- each run of it only adds to the trace
abbrev pub Grows : {V X G : Type 0} → Meaning G V X → Type 0
Grows {V} {X} {G} m = (v : V) (w : World G) → GrowsTo w (m v w)

module _ {V X G : Type 0} where
  pub then_grows : (o : Outcome G V X) (m : Meaning G V X) → Grows m → IsFront (world_of o).trace (world_of (and_then o m)).trace
  then_grows (Normal v w) m g = g v w
  then_grows (Broken v w) m g = front_refl _
  then_grows (Continued v w) m g = front_refl _
  then_grows (Returned x w) m g = front_refl _
  then_grows (Raised i x w) m g = front_refl _
  then_grows (Over e w) m g = front_refl _

  pub body_grows : (o : Outcome G V X) (m : Meaning G V X) → Grows m → IsFront (world_of o).trace (world_of (after_body o m)).trace
  body_grows (Normal v w) m g = g v w
  body_grows (Broken v w) m g = front_refl _
  body_grows (Continued v w) m g = g v w
  body_grows (Returned x w) m g = front_refl _
  body_grows (Raised i x w) m g = front_refl _
  body_grows (Over e w) m g = front_refl _

  pub spend_of_grows : (f : ℕ) (w : World G) (go : World G → Outcome G V X) → ((w : World G) → GrowsTo w (go w)) → GrowsTo w (spend_of f w go)
  spend_of_grows zero w go g = front_refl _
  spend_of_grows (suc f) w go g = g (record w { fuel = f })

  pub value_grows : {A : Type 0} (a : Option A) (w : World G) (go : A → Outcome G V X) → ((a : A) → GrowsTo w (go a)) → GrowsTo w (with_value a w go)
  value_grows None w go g = front_refl _
  value_grows (Some a) w go g = g a

  pub choice_grows : (n : ℕ) (w : World G) (a b : Outcome G V X) → GrowsTo w a → GrowsTo w b → GrowsTo w (if_not_zero n a b)
  choice_grows zero w a b g h = h
  choice_grows (suc n) w a b g h = g

  pub where_grows : (b : Bool) (w : World G) (o : Outcome G V X) → GrowsTo w o → GrowsTo w (where_true b w o)
  where_grows false w o g = front_refl _
  where_grows true w o g = g

  fit_grows : (b : Bool) (q : Asked) (r : Replied) (w : World G) (rs : List Replied) (go : Replied → World G → Outcome G V X) → ((r : Replied) (w : World G) → GrowsTo w (go r w)) → GrowsTo w (ask_fit b q r w rs go)
  fit_grows false q r w rs go g = front_refl _
  fit_grows true q r w rs go g = let e : List Event = record { request = q; reply = r } ∷ [] in front_trans w.trace (w.trace ++ e) _ (e, refl) (g r (record w { replies = rs; trace = w.trace ++ e }))

  asks_grows : (rs : List Replied) (q : Asked) (w : World G) (go : Replied → World G → Outcome G V X) → ((r : Replied) (w : World G) → GrowsTo w (go r w)) → GrowsTo w (ask_of rs q w go)
  asks_grows [] q w go g = front_refl _
  asks_grows (r ∷ rs) q w go g = fit_grows (fits q r) q r w rs go g

  pub ask_grows : (q : Asked) (w : World G) (go : Replied → World G → Outcome G V X) → ((r : Replied) (w : World G) → GrowsTo w (go r w)) → GrowsTo w (ask q w go)
  ask_grows q w go g = asks_grows w.replies q w go g

  pub turn_grows : (before : Meaning G V X) (test : V → World G → Option ℕ) (body again : Meaning G V X) → Grows before → Grows body → Grows again → Grows (turn before test body again)
  turn_grows before test body again g h k v w =
      front_trans _ _ _ (g v w) (then_grows (before v w) _ (λ v w. value_grows (test v w) w _ (λ n. choice_grows n w _ _ (spend_of_grows w.fuel w _ (λ w. front_trans _ _ _ (h v w) (body_grows (body v w) again k))) (front_refl _))))

  pub turns_grows : (d : ℕ) (before : Meaning G V X) (test : V → World G → Option ℕ) (body : Meaning G V X) → Grows before → Grows body → Grows (turns d before test body)
  turns_grows zero before test body g h = turn_grows before test body _ g h (λ v w. front_refl _)
  turns_grows (suc d) before test body g h = turn_grows before test body _ g h (turns_grows d before test body g h)

  -- each only adds to the trace
  abbrev pub AllGrow : List (Meaning G V X) → Type 0
  AllGrow [] = Unit {0}
  AllGrow (m ∷ ms) = Grows m × AllGrow ms

  pub in_turn_grows : (ms : List (Meaning G V X)) → AllGrow ms → Grows (in_turn ms)
  in_turn_grows [] g v w = front_refl _
  in_turn_grows (m ∷ ms) g v w = front_trans _ _ _ (g.0 v w) (then_grows (m v w) (in_turn ms) (in_turn_grows ms g.1))

  pub after_call_grows : (caller : World G) (o : Outcome G (Unit {0}) X) (gave : X → World G → Outcome G V X) (threw : ℕ → X → World G → Outcome G V X) → ((x : X) (w : World G) → GrowsTo w (gave x w)) → ((i : ℕ) (x : X) (w : World G) → GrowsTo w (threw i x w)) → IsFront (world_of o).trace (world_of (after_call caller o gave threw)).trace
  after_call_grows caller (Normal v w) gave threw g t = front_refl _
  after_call_grows caller (Broken v w) gave threw g t = front_refl _
  after_call_grows caller (Continued v w) gave threw g t = front_refl _
  after_call_grows caller (Returned x w) gave threw g t = g x (back_in caller w)
  after_call_grows caller (Raised i x w) gave threw g t = t i x (back_in caller w)
  after_call_grows caller (Over e w) gave threw g t = front_refl _

pub left_world : (U : Type 0) {V X G : Type 0} (o : Outcome G V X) → (world_of (left {U = U} o)).trace ≡ (world_of o).trace
left_world U (Normal v w) = refl
left_world U (Broken v w) = refl
left_world U (Continued v w) = refl
left_world U (Returned x w) = refl
left_world U (Raised i x w) = refl
left_world U (Over e w) = refl

pub on_world : {V U X G : Type 0} (f : V → U) (o : Outcome G V X) → (world_of (on_variables f o)).trace ≡ (world_of o).trace
on_world f (Normal v w) = refl
on_world f (Broken v w) = refl
on_world f (Continued v w) = refl
on_world f (Returned x w) = refl
on_world f (Raised i x w) = refl
on_world f (Over e w) = refl

-- ---- more fuel and more replies

module _ (j : ℕ) (later : List Replied) where
  -- the same world with j later units and more replies to come
  abbrev pub lift : {G : Type 0} → World G → World G
  lift w = record w { fuel = w.fuel + j; replies = w.replies ++ later }

  -- what a next reply makes of a run that asks: an event where it fits, else it stops
  abbrev pub ResumedBy : {V X G : Type 0} → Bool → Asked → Replied → World G → Outcome G V X → Type 0
  ResumedBy false q r w o = o ≡ Over (Stopped q) (lift w)
  ResumedBy true q r w o = IsFront (w.trace ++ record { request = q; reply = r } ∷ []) (world_of o).trace

  abbrev pub Resumed : {V X G : Type 0} → List Replied → Asked → World G → Outcome G V X → Type 0
  Resumed [] q w o = o ≡ Over (Asks q) (lift w)
  Resumed (r ∷ rs) q w o = ResumedBy (fits q r) q r w o

  -- what more units of fuel and more replies make of a run that ended so
  abbrev pub MoreOver : {V X G : Type 0} → Ending → World G → Outcome G V X → Type 0
  MoreOver (Exit n) w o = o ≡ Over (Exit n) (lift w)
  MoreOver (Uncaught n) w o = o ≡ Over (Uncaught n) (lift w)
  MoreOver Fails w o = o ≡ Over Fails (lift w)
  MoreOver Spent w o = GrowsTo w o
  MoreOver (Asks q) w o = Resumed later q w o
  MoreOver (Stopped q) w o = o ≡ Over (Stopped q) (lift w)
  MoreOver Stack w o = o ≡ Over Stack (lift w)
  MoreOver Fault w o = o ≡ Over Fault (lift w)

  -- the second is the first with more units and replies, or goes on where the first was spent or asks
  abbrev pub More : {V X G : Type 0} → Outcome G V X → Outcome G V X → Type 0
  More (Normal v w) o = o ≡ Normal v (lift w)
  More (Broken v w) o = o ≡ Broken v (lift w)
  More (Continued v w) o = o ≡ Continued v (lift w)
  More (Returned x w) o = o ≡ Returned x (lift w)
  More (Raised i x w) o = o ≡ Raised i x (lift w)
  More (Over e w) o = MoreOver e w o

  resumed_by_on : {V X U Y G : Type 0} (f : Outcome G V X → Outcome G U Y) → ((e : Ending) (w : World G) → f (Over e w) ≡ Over e w) → ((o : Outcome G V X) → IsFront (world_of o).trace (world_of (f o)).trace)
      → (b : Bool) (q : Asked) (r : Replied) (w : World G) (o : Outcome G V X) → ResumedBy b q r w o → ResumedBy b q r w (f o)
  resumed_by_on f h g false q r w o m = ap f m ∙ h (Stopped q) (lift w)
  resumed_by_on f h g true q r w o m = front_trans _ _ _ m (g o)

  resumed_on : {V X U Y G : Type 0} (f : Outcome G V X → Outcome G U Y) → ((e : Ending) (w : World G) → f (Over e w) ≡ Over e w) → ((o : Outcome G V X) → IsFront (world_of o).trace (world_of (f o)).trace)
      → (rs : List Replied) (q : Asked) (w : World G) (o : Outcome G V X) → Resumed rs q w o → Resumed rs q w (f o)
  resumed_on f h g [] q w o m = ap f m ∙ h (Asks q) (lift w)
  resumed_on f h g (r ∷ rs) q w o m = resumed_by_on f h g (fits q r) q r w o m

  pub over_on : {V X U Y G : Type 0} (f : Outcome G V X → Outcome G U Y) → ((e : Ending) (w : World G) → f (Over e w) ≡ Over e w) → ((o : Outcome G V X) → IsFront (world_of o).trace (world_of (f o)).trace) → (e : Ending) (w : World G) (o : Outcome G V X) → MoreOver e w o → MoreOver e w (f o)
  over_on f h g (Exit n) w o m = ap f m ∙ h (Exit n) (lift w)
  over_on f h g (Uncaught n) w o m = ap f m ∙ h (Uncaught n) (lift w)
  over_on f h g (Stopped q) w o m = ap f m ∙ h (Stopped q) (lift w)
  over_on f h g (Asks q) w o m = resumed_on f h g later q w o m
  over_on f h g Spent w o m = front_trans _ _ _ m (g o)
  over_on f h g Stack w o m = ap f m ∙ h Stack (lift w)
  over_on f h g Fault w o m = ap f m ∙ h Fault (lift w)
  over_on f h g Fails w o m = ap f m ∙ h Fails (lift w)

  -- a test sees neither the fuel nor the replies
  abbrev pub Blind : {V G : Type 0} → (V → World G → Option ℕ) → Type 0
  Blind {V} {G} test = (v : V) (w : World G) → test v (lift w) ≡ test v w

  module _ {V X G : Type 0} where
    -- a meaning and the same with a higher bound
    pub record Better (m m' : Meaning G V X) : Type 0 where
      pub improves : (v : V) (w : World G) → More (m v w) (m' v (lift w))
      pub grows : Grows m'

    pub then_more : (o o' : Outcome G V X) (m m' : Meaning G V X) → More o o' → Better m m' → More (and_then o m) (and_then o' m')
    then_more (Normal v w) o' m m' s b = subst (λ (o : Outcome G V X). More (m v w) (and_then o m')) (sym s) (b.improves v w)
    then_more (Broken v w) o' m m' s b = ap (λ (o : Outcome G V X). and_then o m') s
    then_more (Continued v w) o' m m' s b = ap (λ (o : Outcome G V X). and_then o m') s
    then_more (Returned x w) o' m m' s b = ap (λ (o : Outcome G V X). and_then o m') s
    then_more (Raised i x w) o' m m' s b = ap (λ (o : Outcome G V X). and_then o m') s
    then_more (Over e w) o' m m' s b = over_on (λ (o : Outcome G V X). and_then o m') (λ e w. refl) (λ o. then_grows o m' b.grows) e w o' s

    pub body_more : (o o' : Outcome G V X) (m m' : Meaning G V X) → More o o' → Better m m' → More (after_body o m) (after_body o' m')
    body_more (Normal v w) o' m m' s b = subst (λ (o : Outcome G V X). More (m v w) (after_body o m')) (sym s) (b.improves v w)
    body_more (Broken v w) o' m m' s b = ap (λ (o : Outcome G V X). after_body o m') s
    body_more (Continued v w) o' m m' s b = subst (λ (o : Outcome G V X). More (m v w) (after_body o m')) (sym s) (b.improves v w)
    body_more (Returned x w) o' m m' s b = ap (λ (o : Outcome G V X). after_body o m') s
    body_more (Raised i x w) o' m m' s b = ap (λ (o : Outcome G V X). after_body o m') s
    body_more (Over e w) o' m m' s b = over_on (λ (o : Outcome G V X). after_body o m') (λ e w. refl) (λ o. body_grows o m' b.grows) e w o' s

    pub spend_of_more : (f : ℕ) (w : World G) (go go' : World G → Outcome G V X) → ((w : World G) → More (go w) (go' (lift w))) → ((w : World G) → GrowsTo w (go' w)) → More (spend_of f w go) (spend_of (f + j) (lift w) go')
    spend_of_more zero w go go' m g = spend_of_grows (0 + j) (lift w) go' g
    spend_of_more (suc f) w go go' m g =
        let e : suc f + j ≡ suc (f + j) = omega arith in
        subst (λ n. More (go (record w { fuel = f })) (spend_of n (lift w) go')) (sym e) (m (record w { fuel = f }))

    pub value_more : {A : Type 0} (a : Option A) (w : World G) (go go' : A → Outcome G V X) → ((a : A) → More (go a) (go' a)) → More (with_value a w go) (with_value a (lift w) go')
    value_more None w go go' m = refl
    value_more (Some a) w go go' m = m a

    pub choice_more : (n : ℕ) (a b a' b' : Outcome G V X) → More a a' → More b b' → More (if_not_zero n a b) (if_not_zero n a' b')
    choice_more zero a b a' b' s t = t
    choice_more (suc n) a b a' b' s t = s

    pub where_more : (b : Bool) (w : World G) (o o' : Outcome G V X) → More o o' → More (where_true b w o) (where_true b (lift w) o')
    where_more false w o o' m = refl
    where_more true w o o' m = m

    fit_more : (b : Bool) (q : Asked) (r : Replied) (w : World G) (rs : List Replied) (go go' : Replied → World G → Outcome G V X) → ((r : Replied) (w : World G) → More (go r w) (go' r (lift w))) → More (ask_fit b q r w rs go) (ask_fit b q r (lift w) (rs ++ later) go')
    fit_more false q r w rs go go' m = refl
    fit_more true q r w rs go go' m = m r (record w { replies = rs; trace = w.trace ++ record { request = q; reply = r } ∷ [] })

    fit_resumes : (b : Bool) (q : Asked) (r : Replied) (w : World G) (rs : List Replied) (go' : Replied → World G → Outcome G V X) → ((r : Replied) (w : World G) → GrowsTo w (go' r w)) → ResumedBy b q r w (ask_fit b q r (lift w) rs go')
    fit_resumes false q r w rs go' g = refl
    fit_resumes true q r w rs go' g = g r (record (lift w) { replies = rs; trace = w.trace ++ record { request = q; reply = r } ∷ [] })

    resumes : (rs : List Replied) (q : Asked) (w : World G) (go' : Replied → World G → Outcome G V X) → ((r : Replied) (w : World G) → GrowsTo w (go' r w)) → Resumed rs q w (ask_of rs q (lift w) go')
    resumes [] q w go' g = refl
    resumes (r ∷ rs) q w go' g = fit_resumes (fits q r) q r w rs go' g

    asks_more : (rs : List Replied) (q : Asked) (w : World G) (go go' : Replied → World G → Outcome G V X) → ((r : Replied) (w : World G) → More (go r w) (go' r (lift w))) → ((r : Replied) (w : World G) → GrowsTo w (go' r w)) → More (ask_of rs q w go) (ask_of (rs ++ later) q (lift w) go')
    asks_more [] q w go go' m g = resumes later q w go' g
    asks_more (r ∷ rs) q w go go' m g = fit_more (fits q r) q r w rs go go' m

    pub ask_more : (q : Asked) (w : World G) (go go' : Replied → World G → Outcome G V X) → ((r : Replied) (w : World G) → More (go r w) (go' r (lift w))) → ((r : Replied) (w : World G) → GrowsTo w (go' r w)) → More (ask q w go) (ask q (lift w) go')
    ask_more q w go go' m g = asks_more w.replies q w go go' m g

    turn_better : (before before' : Meaning G V X) (test : V → World G → Option ℕ) (body body' again again' : Meaning G V X) → Blind test → Better before before' → Better body body' → Better again again' → Better (turn before test body again) (turn before' test body' again')
    turn_better before before' test body body' again again' blind b c a = record {
      improves = λ v w. then_more (before v w) (before' v (lift w)) _ _ (b.improves v w) (record {
        improves = λ v w. subst (λ t. More (with_value (test v w) w (λ n. if_not_zero n (spend w (λ w. after_body (body v w) again)) (Normal v w))) (with_value t (lift w) (λ n. if_not_zero n (spend (lift w) (λ w. after_body (body' v w) again')) (Normal v (lift w))))) (sym (blind v w))
            (value_more (test v w) w _ _ (λ n. choice_more n _ _ _ _ (spend_of_more w.fuel w _ _ (λ w. body_more (body v w) (body' v (lift w)) again again' (c.improves v w) a) (λ w. front_trans _ _ _ (c.grows v w) (body_grows (body' v w) again' a.grows))) refl));
        grows = λ v w. value_grows (test v w) w _ (λ n. choice_grows n w _ _ (spend_of_grows w.fuel w _ (λ w. front_trans _ _ _ (c.grows v w) (body_grows (body' v w) again' a.grows))) (front_refl _));
      });
      grows = turn_grows before' test body' again' b.grows c.grows a.grows;
    }

    pub turns_better : (d d' : ℕ) → d ≤ d' → (before before' : Meaning G V X) (test : V → World G → Option ℕ) (body body' : Meaning G V X) → Blind test → Better before before' → Better body body' → Better (turns d before test body) (turns d' before' test body')
    turns_better zero zero le before before' test body body' blind b c = turn_better before before' test body body' _ _ blind b c (record { improves = λ v w. front_refl _; grows = λ v w. front_refl _ })
    turns_better zero (suc d') le before before' test body body' blind b c =
        turn_better before before' test body body' _ _ blind b c (record { improves = λ v w. turns_grows d' before' test body' b.grows c.grows v (lift w); grows = turns_grows d' before' test body' b.grows c.grows })
    turns_better (suc d) zero le before before' test body body' blind b c = absurd (omega arith)
    turns_better (suc d) (suc d') le before before' test body body' blind b c =
        turn_better before before' test body body' _ _ blind b c (turns_better d d' (omega arith) before before' test body body' blind b c)

    -- each is better than its partner
    abbrev pub AllBetter : List (Meaning G V X) → List (Meaning G V X) → Type 0
    AllBetter [] [] = Unit {0}
    AllBetter [] (m' ∷ ms') = ⊥
    AllBetter (m ∷ ms) [] = ⊥
    AllBetter (m ∷ ms) (m' ∷ ms') = Better m m' × AllBetter ms ms'

    pub in_turn_better : (ms ms' : List (Meaning G V X)) → AllBetter ms ms' → Better (in_turn ms) (in_turn ms')
    in_turn_better [] [] b = record { improves = λ v w. refl; grows = λ v w. front_refl _ }
    in_turn_better [] (m' ∷ ms') b = absurd b
    in_turn_better (m ∷ ms) [] b = absurd b
    in_turn_better (m ∷ ms) (m' ∷ ms') b =
        let rest = in_turn_better ms ms' b.1 in
        record {
          improves = λ v w. then_more (m v w) (m' v (lift w)) (in_turn ms) (in_turn ms') ((b.0).improves v w) rest;
          grows = λ v w. front_trans _ _ _ ((b.0).grows v w) (then_grows (m' v w) (in_turn ms') rest.grows);
        }

    -- a loop's body with the work of the next test
    pub tested_better : (weight : V → ℕ) (m m' : Meaning G V X) → Better m m' → Better (λ v w. tested_again weight (m v w)) (λ v w. tested_again weight (m' v w))
    tested_better weight m m' b = record {
      improves = λ v w. at (m v w) (m' v (lift w)) (b.improves v w);
      grows = λ v w. subst (IsFront w.trace) (sym (trace (m' v w))) (b.grows v w);
    }
      where
        trace : (o : Outcome G V X) → (world_of (tested_again weight o)).trace ≡ (world_of o).trace
        trace (Normal v w) = refl
        trace (Broken v w) = refl
        trace (Continued v w) = refl
        trace (Returned x w) = refl
        trace (Raised i x w) = refl
        trace (Over e w) = refl

        at : (o o' : Outcome G V X) → More o o' → More (tested_again weight o) (tested_again weight o')
        at (Normal v w) o' s = ap (tested_again weight) s
        at (Broken v w) o' s = ap (tested_again weight) s
        at (Continued v w) o' s = ap (tested_again weight) s
        at (Returned x w) o' s = ap (tested_again weight) s
        at (Raised i x w) o' s = ap (tested_again weight) s
        at (Over e w) o' s = over_on (tested_again weight) (λ e w. refl) (λ o. subst (IsFront (world_of o).trace) (sym (trace o)) (front_refl _)) e w o' s

    pub foreign_better : (i : ℕ) (name : List ℕ) (a l b n : ℕ) → Better (foreign i name a l b n) (foreign i name a l b n)
    foreign_better i name a l b n = record {
      improves = λ v w. value_more (bytes_at w.memory a l) w _ _ (λ x. value_more (bytes_at w.memory b n) w _ _ (λ y. ask_more (Foreign i name x y) w _ _ (λ r w. refl) (λ r w. front_refl _)));
      grows = λ v w.
          let go = λ (x y : List ℕ). let o : Outcome G V X = ask (Foreign i name x y) w (λ r w. Normal v (record w { memory = with_reply w.memory b r })) in o in
          value_grows (bytes_at w.memory a l) w (λ x. with_value (bytes_at w.memory b n) w (go x)) (λ x. value_grows (bytes_at w.memory b n) w (go x) (λ y. ask_grows (Foreign i name x y) w _ (λ r w. front_refl _)));
    }

    pub after_call_more : (caller : World G) (o o' : Outcome G (Unit {0}) X) (gave gave' : X → World G → Outcome G V X) (threw threw' : ℕ → X → World G → Outcome G V X) → More o o' → ((x : X) (w : World G) → More (gave x w) (gave' x (lift w))) → ((i : ℕ) (x : X) (w : World G) → More (threw i x w) (threw' i x (lift w))) → ((x : X) (w : World G) → GrowsTo w (gave' x w)) → ((i : ℕ) (x : X) (w : World G) → GrowsTo w (threw' i x w)) → More (after_call caller o gave threw) (after_call (lift caller) o' gave' threw')
    after_call_more caller (Normal v w) o' gave gave' threw threw' s g t gg tg = ap (λ (o : Outcome G (Unit {0}) X). after_call (lift caller) o gave' threw') s
    after_call_more caller (Broken v w) o' gave gave' threw threw' s g t gg tg = ap (λ (o : Outcome G (Unit {0}) X). after_call (lift caller) o gave' threw') s
    after_call_more caller (Continued v w) o' gave gave' threw threw' s g t gg tg = ap (λ (o : Outcome G (Unit {0}) X). after_call (lift caller) o gave' threw') s
    after_call_more caller (Returned x w) o' gave gave' threw threw' s g t gg tg = subst (λ (o : Outcome G (Unit {0}) X). More (gave x (back_in caller w)) (after_call (lift caller) o gave' threw')) (sym s) (g x (back_in caller w))
    after_call_more caller (Raised i x w) o' gave gave' threw threw' s g t gg tg = subst (λ (o : Outcome G (Unit {0}) X). More (threw i x (back_in caller w)) (after_call (lift caller) o gave' threw')) (sym s) (t i x (back_in caller w))
    after_call_more caller (Over e w) o' gave gave' threw threw' s g t gg tg = over_on (λ (o : Outcome G (Unit {0}) X). after_call (lift caller) o gave' threw') (λ e w. refl) (λ o. after_call_grows (lift caller) o gave' threw' gg tg) e w o' s

  pub left_more : (U : Type 0) {V X G : Type 0} (o o' : Outcome G V X) → More o o' → More (left {U = U} o) (left {U = U} o')
  left_more U (Normal v w) o' s = ap (left {U = U}) s
  left_more U (Broken v w) o' s = ap (left {U = U}) s
  left_more U (Continued v w) o' s = ap (left {U = U}) s
  left_more U (Returned x w) o' s = ap (left {U = U}) s
  left_more U (Raised i x w) o' s = ap (left {U = U}) s
  left_more U (Over e w) o' s = over_on (left {U = U}) (λ e w. refl) (λ o. subst (IsFront (world_of o).trace) (sym (left_world U o)) (front_refl _)) e w o' s

  pub on_more : {V U X G : Type 0} (f : V → U) (o o' : Outcome G V X) → More o o' → More (on_variables f o) (on_variables f o')
  on_more f (Normal v w) o' s = ap (on_variables f) s
  on_more f (Broken v w) o' s = ap (on_variables f) s
  on_more f (Continued v w) o' s = ap (on_variables f) s
  on_more f (Returned x w) o' s = ap (on_variables f) s
  on_more f (Raised i x w) o' s = ap (on_variables f) s
  on_more f (Over e w) o' s = over_on (on_variables f) (λ e w. refl) (λ o. subst (IsFront (world_of o).trace) (sym (on_world f o)) (front_refl _)) e w o' s

-- ---- calls

pub call_grows : {V X A G : Type 0} (c : Callee G A X) (f : ℕ) (arguments : Option A) (w : World G) (gave : X → World G → Outcome G V X) (threw : ℕ → X → World G → Outcome G V X) → ((f : ℕ) (xs : A) (w : World G) → GrowsTo w (c f xs w)) → ((x : X) (w : World G) → GrowsTo w (gave x w)) → ((i : ℕ) (x : X) (w : World G) → GrowsTo w (threw i x w)) → GrowsTo w (call c f arguments w gave threw)
call_grows c f arguments w gave threw gc gg gt =
    value_grows arguments w (λ xs. spend w (λ w'. after_call w (c f xs w') gave threw)) (λ xs. spend_of_grows w.fuel w (λ w'. after_call w (c f xs w') gave threw)
    (λ w'. front_trans _ _ _ (gc f xs w') (after_call_grows w (c f xs w') gave threw gg gt)))

pub call_more : (j : ℕ) (later : List Replied) {V X A G : Type 0} (c c' : Callee G A X) (f : ℕ) (arguments : Option A) (w : World G) (gave : X → World G → Outcome G V X) (threw threw' : ℕ → X → World G → Outcome G V X) → ((f : ℕ) (xs : A) (w : World G) → More j later (c f xs w) (c' f xs (lift j later w))) → ((f : ℕ) (xs : A) (w : World G) → GrowsTo w (c' f xs w)) → ((x : X) (w : World G) → More j later (gave x w) (gave x (lift j later w))) → ((i : ℕ) (x : X) (w : World G) → More j later (threw i x w) (threw' i x (lift j later w))) → ((x : X) (w : World G) → GrowsTo w (gave x w)) → ((i : ℕ) (x : X) (w : World G) → GrowsTo w (threw' i x w)) → More j later (call c f arguments w gave threw) (call c' f arguments (lift j later w) gave threw')
call_more j later c c' f arguments w gave threw threw' mc gc mg mt gg gt =
    value_more j later arguments w (λ xs. spend w (λ w'. after_call w (c f xs w') gave threw)) (λ xs. spend (lift j later w) (λ w'. after_call (lift j later w) (c' f xs w') gave threw')) (λ xs. spend_of_more j later w.fuel w (λ w'. after_call w (c f xs w') gave threw) (λ w'. after_call (lift j later w) (c' f xs w') gave threw')
    (λ w'. after_call_more j later w (c f xs w') (c' f xs (lift j later w')) gave gave threw threw' (mc f xs w') mg mt gg gt)
    (λ w'. front_trans _ _ _ (gc f xs w') (after_call_grows (lift j later w) (c' f xs w') gave threw' gg gt)))

pub tail_grows : (V : Type 0) {X A G : Type 0} (c : Callee G A X) (f : ℕ) (arguments : Option A) (w : World G) → ((f : ℕ) (xs : A) (w : World G) → GrowsTo w (c f xs w)) → GrowsTo w (tail_call {V = V} c f arguments w)
tail_grows V c f arguments w gc =
    value_grows arguments w (λ xs. spend w (λ w'. left {U = V} (c f xs (leaving w')))) (λ xs. spend_of_grows w.fuel w (λ w'. left {U = V} (c f xs (leaving w')))
    (λ w'. subst (IsFront w'.trace) (sym (left_world V (c f xs (leaving w')))) (gc f xs (leaving w'))))

pub tail_more : (j : ℕ) (later : List Replied) (V : Type 0) {X A G : Type 0} (c c' : Callee G A X) (f : ℕ) (arguments : Option A) (w : World G) → ((f : ℕ) (xs : A) (w : World G) → More j later (c f xs w) (c' f xs (lift j later w))) → ((f : ℕ) (xs : A) (w : World G) → GrowsTo w (c' f xs w))
    → More j later (tail_call {V = V} c f arguments w) (tail_call {V = V} c' f arguments (lift j later w))
tail_more j later V c c' f arguments w mc gc =
    value_more j later arguments w (λ xs. spend w (λ w'. left {U = V} (c f xs (leaving w')))) (λ xs. spend (lift j later w) (λ w'. left {U = V} (c' f xs (leaving w'))))
    (λ xs. spend_of_more j later w.fuel w (λ w'. left {U = V} (c f xs (leaving w'))) (λ w'. left {U = V} (c' f xs (leaving w')))
    (λ w'. left_more j later V _ _ (mc f xs (leaving w')))
    (λ w'. subst (IsFront w'.trace) (sym (left_world V (c' f xs (leaving w')))) (gc f xs (leaving w'))))
