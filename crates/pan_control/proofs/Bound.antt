-- The bound on turns and calls never shows where there is no more fuel than the bound.
use Rattle.std.proofs.Common.{◌≡◌, ℕ, zero, suc, ◌<◌, ◌≤◌, List, [], ◌∷◌, ◌++◌, Option, Some, None, Bool, true, false, refl, ap, ◌∙◌, arith}
use Rattle.pan_base.specs.Events.{Asked, Replied, fits}
use Rattle.pan_control.specs.World.{World, leaving, back_in}
use Rattle.pan_control.specs.Control.{Outcome, Normal, Broken, Continued, Returned, Raised, Over, Meaning, Callee, and_then, in_turn, with_value, if_not_zero, spend_of, spend, ask_fit, ask_of, ask, after_body, turn, turns, after_call, call, tail_call, where_true, left, on_variables, world_of}

-- no more fuel is left than there was
pub record Lower {V X G : Type 0} (w : World G) (o : Outcome G V X) : Type 0 where
  pub by : (world_of o).fuel ≤ w.fuel

-- no run of it leaves more fuel than there was
pub record Falls {V X G : Type 0} (m : Meaning G V X) : Type 0 where
  pub at : (v : V) (w : World G) → Lower w (m v w)

-- the two do the same with at most d units of fuel
pub record Steady (d : ℕ) {V X G : Type 0} (m m' : Meaning G V X) : Type 0 where
  pub same : (v : V) (w : World G) → w.fuel ≤ d → m v w ≡ m' v w
  pub falls : Falls m

module _ {V X G : Type 0} where
  pub stays : (w : World G) (o : Outcome G V X) → (world_of o).fuel ≡ w.fuel → Lower w o
  stays w o e = record { by = omega arith }

  pub lower_than : (w w' : World G) (o : Outcome G V X) → w'.fuel ≤ w.fuel → Lower w' o → Lower w o
  lower_than w w' o le l = record { by = omega (arith, l.by) }

  pub then_lower : (w : World G) (o : Outcome G V X) (m : Meaning G V X) → Lower w o → Falls m → Lower w (and_then o m)
  then_lower w (Normal v w') m l f = lower_than w w' (m v w') l.by (f.at v w')
  then_lower w (Broken v w') m l f = record { by = l.by }
  then_lower w (Continued v w') m l f = record { by = l.by }
  then_lower w (Returned x w') m l f = record { by = l.by }
  then_lower w (Raised i x w') m l f = record { by = l.by }
  then_lower w (Over e w') m l f = record { by = l.by }

  pub body_lower : (w : World G) (o : Outcome G V X) (m : Meaning G V X) → Lower w o → Falls m → Lower w (after_body o m)
  body_lower w (Normal v w') m l f = lower_than w w' (m v w') l.by (f.at v w')
  body_lower w (Broken v w') m l f = record { by = l.by }
  body_lower w (Continued v w') m l f = lower_than w w' (m v w') l.by (f.at v w')
  body_lower w (Returned x w') m l f = record { by = l.by }
  body_lower w (Raised i x w') m l f = record { by = l.by }
  body_lower w (Over e w') m l f = record { by = l.by }

  spend_of_lower : (f : ℕ) (w : World G) (go : World G → Outcome G V X) → f ≤ w.fuel → ((w : World G) → Lower w (go w)) → Lower w (spend_of f w go)
  spend_of_lower zero w go le l = record { by = omega arith }
  spend_of_lower (suc f) w go le l = lower_than w (record w { fuel = f }) (go (record w { fuel = f })) (omega arith) (l (record w { fuel = f }))

  pub spend_lower : (w : World G) (go : World G → Outcome G V X) → ((w : World G) → Lower w (go w)) → Lower w (spend w go)
  spend_lower w go l = spend_of_lower w.fuel w go (omega arith) l

  pub value_lower : {A : Type 0} (a : Option A) (w : World G) (go : A → Outcome G V X) → ((a : A) → Lower w (go a)) → Lower w (with_value a w go)
  value_lower None w go l = record { by = omega arith }
  value_lower (Some a) w go l = l a

  pub where_lower : (b : Bool) (w : World G) (o : Outcome G V X) → Lower w o → Lower w (where_true b w o)
  where_lower false w o l = record { by = omega arith }
  where_lower true w o l = l

  pub choice_lower : (n : ℕ) (w : World G) (a b : Outcome G V X) → Lower w a → Lower w b → Lower w (if_not_zero n a b)
  choice_lower zero w a b l m = m
  choice_lower (suc n) w a b l m = l

  -- ---- the same

  pub then_same : (d : ℕ) (o : Outcome G V X) (m m' : Meaning G V X) → (world_of o).fuel ≤ d → Steady d m m' → and_then o m ≡ and_then o m'
  then_same d (Normal v w) m m' le s = s.same v w le
  then_same d (Broken v w) m m' le s = refl
  then_same d (Continued v w) m m' le s = refl
  then_same d (Returned x w) m m' le s = refl
  then_same d (Raised i x w) m m' le s = refl
  then_same d (Over e w) m m' le s = refl

  pub body_same : (d : ℕ) (o : Outcome G V X) (m m' : Meaning G V X) → (world_of o).fuel ≤ d → Steady d m m' → after_body o m ≡ after_body o m'
  body_same d (Normal v w) m m' le s = s.same v w le
  body_same d (Broken v w) m m' le s = refl
  body_same d (Continued v w) m m' le s = s.same v w le
  body_same d (Returned x w) m m' le s = refl
  body_same d (Raised i x w) m m' le s = refl
  body_same d (Over e w) m m' le s = refl

  -- after a unit is spent there is less
  spend_of_same : (f d : ℕ) (w : World G) (go go' : World G → Outcome G V X) → f ≤ d → ((w : World G) → w.fuel < d → go w ≡ go' w) → spend_of f w go ≡ spend_of f w go'
  spend_of_same zero d w go go' le s = refl
  spend_of_same (suc f) d w go go' le s = s (record w { fuel = f }) (omega arith)

  pub spend_same : (d : ℕ) (w : World G) (go go' : World G → Outcome G V X) → w.fuel ≤ d → ((w : World G) → w.fuel < d → go w ≡ go' w) → spend w go ≡ spend w go'
  spend_same d w go go' le s = spend_of_same w.fuel d w go go' le s

  pub value_same : {A : Type 0} (a : Option A) (w : World G) (go go' : A → Outcome G V X) → ((a : A) → go a ≡ go' a) → with_value a w go ≡ with_value a w go'
  value_same None w go go' s = refl
  value_same (Some a) w go go' s = s a

  pub where_same : (b : Bool) (w : World G) (o o' : Outcome G V X) → o ≡ o' → where_true b w o ≡ where_true b w o'
  where_same false w o o' s = refl
  where_same true w o o' s = s

  pub choice_same : (n : ℕ) (a b a' b' : Outcome G V X) → a ≡ a' → b ≡ b' → if_not_zero n a b ≡ if_not_zero n a' b'
  choice_same zero a b a' b' s t = t
  choice_same (suc n) a b a' b' s t = s

  -- a loop whose test comes alone
  abbrev pub test_only : Meaning G V X
  test_only v w = Normal v w

  turn_falls : (test : V → World G → Option ℕ) (body again : Meaning G V X) → Falls body → Falls again → Falls (turn test_only test body again)
  turn_falls test body again f g = record { at = λ v w. value_lower (test v w) w _ (λ n. choice_lower n w _ _ (spend_lower w _ (λ w. body_lower w (body v w) again (f.at v w) g)) (stays w (Normal v w) refl)) }

  turns_fall : (d : ℕ) (test : V → World G → Option ℕ) (body : Meaning G V X) → Falls body → Falls (turns d test_only test body)
  turns_fall zero test body f = turn_falls test body (λ v w. Over _ w) f (record { at = λ v w. record { by = omega arith } })
  turns_fall (suc d) test body f = turn_falls test body (turns d test_only test body) f (turns_fall d test body f)

  -- a turn, where what follows is the same with less fuel
  pub turn_same : (d : ℕ) (test : V → World G → Option ℕ) (body body' again again' : Meaning G V X) → Steady d body body' → ((v : V) (w : World G) → w.fuel < d → again v w ≡ again' v w) → (v : V) (w : World G) → w.fuel ≤ d → turn test_only test body again v w ≡ turn test_only test body' again' v w
  turn_same zero test body body' again again' b a v w le =
      value_same (test v w) w _ _ (λ n. choice_same n _ _ _ _ (spend_same 0 w _ _ le (λ w l. absurd (omega arith))) refl)
  turn_same (suc d) test body body' again again' b a v w le =
      value_same (test v w) w _ _ (λ n. choice_same n _ _ _ _ (spend_same (suc d) w _ _ le (λ w l.
      body_less (body v w) (omega (arith, (b.falls.at v w).by)) ∙ ap (λ o. after_body o again') (b.same v w (omega arith)))) refl)
    where
      body_less : (o : Outcome G V X) → (world_of o).fuel ≤ d → after_body o again ≡ after_body o again'
      body_less (Normal v w) le = a v w (omega arith)
      body_less (Broken v w) le = refl
      body_less (Continued v w) le = a v w (omega arith)
      body_less (Returned x w) le = refl
      body_less (Raised i x w) le = refl
      body_less (Over e w) le = refl

  turns_same : (d : ℕ) (test : V → World G → Option ℕ) (body body' : Meaning G V X) → Steady d body body' → (v : V) (w : World G) → w.fuel ≤ d → turns d test_only test body v w ≡ turns (suc d) test_only test body' v w
  turns_same zero test body body' b v w le = turn_same zero test body body' _ _ b (λ v w l. absurd (omega arith)) v w le
  turns_same (suc d) test body body' b v w le =
      turn_same (suc d) test body body' _ _ b (λ v w l. turns_same d test body body' (record { same = λ v w le. b.same v w (omega arith); falls = b.falls }) v w (omega arith)) v w le

  pub turns_steady : (d : ℕ) (test : V → World G → Option ℕ) (body body' : Meaning G V X) → Steady d body body' → Steady d (turns d test_only test body) (turns (suc d) test_only test body')
  turns_steady d test body body' b = record { same = turns_same d test body body' b; falls = turns_fall d test body b.falls }

  -- each is steady
  abbrev pub AllSteady : ℕ → List (Meaning G V X) → List (Meaning G V X) → Type 0
  AllSteady d [] [] = Unit {0}
  AllSteady d [] (y ∷ ys) = ⊥
  AllSteady d (x ∷ xs) [] = ⊥
  AllSteady d (x ∷ xs) (y ∷ ys) = Steady d x y × AllSteady d xs ys

  pub in_turn_steady : (d : ℕ) (ms ms' : List (Meaning G V X)) → AllSteady d ms ms' → Steady d (in_turn ms) (in_turn ms')
  in_turn_steady d [] [] s = record { same = λ v w le. refl; falls = record { at = λ v w. record { by = omega arith } } }
  in_turn_steady d [] (y ∷ ys) s = absurd s
  in_turn_steady d (x ∷ xs) [] s = absurd s
  in_turn_steady d (x ∷ xs) (y ∷ ys) s =
      let rest = in_turn_steady d xs ys s.1 in
      let here = s.0 in
      record {
        same = λ v w le. then_same d (x v w) (in_turn xs) (in_turn ys) (omega (arith, (here.falls.at v w).by)) rest ∙ ap (λ o. and_then o (in_turn ys)) (here.same v w le);
        falls = record { at = λ v w. then_lower w (x v w) (in_turn xs) (here.falls.at v w) rest.falls };
      }

  pub after_call_lower : (w caller : World G) (o : Outcome G (Unit {0}) X) (gave : X → World G → Outcome G V X) (threw : ℕ → X → World G → Outcome G V X) → (world_of o).fuel ≤ w.fuel → ((x : X) (w : World G) → Lower w (gave x w)) → ((i : ℕ) (x : X) (w : World G) → Lower w (threw i x w)) → Lower w (after_call caller o gave threw)
  after_call_lower w caller (Normal v w') gave threw le g t = record { by = le }
  after_call_lower w caller (Broken v w') gave threw le g t = record { by = le }
  after_call_lower w caller (Continued v w') gave threw le g t = record { by = le }
  after_call_lower w caller (Returned x w') gave threw le g t = lower_than w (back_in caller w') (gave x (back_in caller w')) le (g x (back_in caller w'))
  after_call_lower w caller (Raised i x w') gave threw le g t = lower_than w (back_in caller w') (threw i x (back_in caller w')) le (t i x (back_in caller w'))
  after_call_lower w caller (Over e w') gave threw le g t = record { by = le }

  after_call_same : (d : ℕ) (caller : World G) (o : Outcome G (Unit {0}) X) (gave : X → World G → Outcome G V X) (threw threw' : ℕ → X → World G → Outcome G V X) → (world_of o).fuel ≤ d → ((i : ℕ) (x : X) (w : World G) → w.fuel ≤ d → threw i x w ≡ threw' i x w) → after_call caller o gave threw ≡ after_call caller o gave threw'
  after_call_same d caller (Normal v w) gave threw threw' le t = refl
  after_call_same d caller (Broken v w) gave threw threw' le t = refl
  after_call_same d caller (Continued v w) gave threw threw' le t = refl
  after_call_same d caller (Returned x w) gave threw threw' le t = refl
  after_call_same d caller (Raised i x w) gave threw threw' le t = t i x (back_in caller w) le
  after_call_same d caller (Over e w) gave threw threw' le t = refl

pub left_fuel : (U : Type 0) {V X G : Type 0} (o : Outcome G V X) → (world_of (left {U = U} o)).fuel ≡ (world_of o).fuel
left_fuel U (Normal v w) = refl
left_fuel U (Broken v w) = refl
left_fuel U (Continued v w) = refl
left_fuel U (Returned x w) = refl
left_fuel U (Raised i x w) = refl
left_fuel U (Over e w) = refl

-- the functions do the same with less than d units
pub record SteadyCallee (d : ℕ) {A X G : Type 0} (c c' : Callee G A X) : Type 0 where
  pub same : (f : ℕ) (xs : A) (w : World G) → w.fuel < d → c f xs w ≡ c' f xs w
  pub falls : (f : ℕ) (xs : A) (w : World G) → (world_of (c f xs w)).fuel ≤ w.fuel

module _ {V X A G : Type 0} (d : ℕ) (c c' : Callee G A X) (sc : SteadyCallee d c c') where
  pub call_same : (f : ℕ) (arguments : Option A) (w : World G) (gave : X → World G → Outcome G V X) (threw threw' : ℕ → X → World G → Outcome G V X) → w.fuel ≤ d → ((i : ℕ) (x : X) (w : World G) → w.fuel ≤ d → threw i x w ≡ threw' i x w) → call c f arguments w gave threw ≡ call c' f arguments w gave threw'
  call_same f arguments w gave threw threw' le t =
      value_same arguments w _ _ (λ xs. spend_same d w _ _ le (λ w' l.
      after_call_same d w (c f xs w') gave threw threw' (omega (arith, sc.falls f xs w')) t ∙ ap (λ o. after_call w o gave threw') (sc.same f xs w' l)))

  pub call_lower : (f : ℕ) (arguments : Option A) (w : World G) (gave : X → World G → Outcome G V X) (threw : ℕ → X → World G → Outcome G V X) → ((x : X) (w : World G) → Lower w (gave x w)) → ((i : ℕ) (x : X) (w : World G) → Lower w (threw i x w)) → Lower w (call c f arguments w gave threw)
  call_lower f arguments w gave threw g t = value_lower arguments w _ (λ xs. spend_lower w _ (λ w'. after_call_lower w' w (c f xs w') gave threw (sc.falls f xs w') g t))

  pub tail_same : (f : ℕ) (arguments : Option A) (w : World G) → w.fuel ≤ d → tail_call {V = V} c f arguments w ≡ tail_call c' f arguments w
  tail_same f arguments w le = value_same arguments w _ _ (λ xs. spend_same d w _ _ le (λ w' l. ap left (sc.same f xs (leaving w') l)))

  pub tail_lower : (f : ℕ) (arguments : Option A) (w : World G) → Lower w (tail_call {V = V} c f arguments w)
  tail_lower f arguments w =
      value_lower arguments w _ (λ xs. spend_lower w _ (λ w'. record { by = omega (arith, sc.falls f xs (leaving w'), left_fuel V (c f xs (leaving w'))) }))

pub ask_lower : {V X G : Type 0} (q : Asked) (w : World G) (go : Replied → World G → Outcome G V X) → ((r : Replied) (w : World G) → Lower w (go r w)) → Lower w (ask q w go)
ask_lower q w go l = asked w.replies
  where
    fit : (b : Bool) (r : Replied) (rs : List Replied) → Lower w (ask_fit b q r w rs go)
    fit false r rs = record { by = omega arith }
    fit true r rs = lower_than w _ _ (omega arith) (l r (record w { replies = rs; trace = w.trace ++ record { request = q; reply = r } ∷ [] }))

    asked : (rs : List Replied) → Lower w (ask_of rs q w go)
    asked [] = record { by = omega arith }
    asked (r ∷ rs) = fit (fits q r) r rs

pub on_fuel : {V U X G : Type 0} (f : V → U) (o : Outcome G V X) → (world_of (on_variables f o)).fuel ≡ (world_of o).fuel
on_fuel f (Normal v w) = refl
on_fuel f (Broken v w) = refl
on_fuel f (Continued v w) = refl
on_fuel f (Returned x w) = refl
on_fuel f (Raised i x w) = refl
on_fuel f (Over e w) = refl
