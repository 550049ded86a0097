-- What was seen stays: the trace only grows, and the most of the active costs and the toll never fall.
use Rattle.std.proofs.Common.{◌≡◌, ℕ, zero, suc, ◌≤◌, List, [], ◌∷◌, ◌++◌, Option, Some, None, Bool, true, false, refl, sym, subst, arith}
use Rattle.pan_base.specs.Events.{Asked, Replied, IsPrefix, fits}
use Rattle.pan_base.proofs.PrefixLaws.{prefix_refl, prefix_trans}
use Rattle.pan_control.specs.World.{World, entered, leaving, back_in, tolled}
use Rattle.pan_control.specs.Control.{Outcome, Normal, Broken, Continued, Returned, Raised, Over, Meaning, Callee, and_then, in_turn, with_value, if_not_zero, spend_of, spend, ask_fit, ask_of, ask, after_body, turn, turns, after_call, call, tail_call, where_true, left, world_of}

-- the second has all that was seen of the first
pub record Extends {G : Type 0} (w w' : World G) : Type 0 where
  pub trace : IsPrefix w.trace w'.trace
  pub deepest : w.deepest ≤ w'.deepest
  pub toll : w.toll ≤ w'.toll

pub extends_same : {G : Type 0} → (w w' : World G) → w'.trace ≡ w.trace → w.deepest ≤ w'.deepest → w.toll ≤ w'.toll → Extends w w'
extends_same w w' t d l = record { trace = subst (IsPrefix w.trace) (sym t) (prefix_refl w.trace); deepest = d; toll = l }

pub extends_self : {G : Type 0} → (w : World G) → Extends w w
extends_self w = extends_same w w refl (omega arith) (omega arith)

pub extends_on : {G : Type 0} → (first middle last : World G) → Extends first middle → Extends middle last → Extends first last
extends_on first middle last a b =
    record {
      trace = prefix_trans first.trace middle.trace last.trace a.trace b.trace;
      deepest = omega (arith, a.deepest, b.deepest);
      toll = omega (arith, a.toll, b.toll);
    }

-- the world at the end has all that was seen before
pub record Grown {V X G : Type 0} (w : World G) (o : Outcome G V X) : Type 0 where
  pub by : Extends w (world_of o)

-- so from every world
pub record Grows {V X G : Type 0} (m : Meaning G V X) : Type 0 where
  pub at : (v : V) (w : World G) → Grown w (m v w)

module _ {V X G : Type 0} where
  pub grown_from : (w w' : World G) (o : Outcome G V X) → Extends w w' → Grown w' o → Grown w o
  grown_from w w' o e g = record { by = extends_on w w' (world_of o) e g.by }

  -- from what came before to what came then
  pub then_on : (o : Outcome G V X) (m : Meaning G V X) → Grows m → Extends (world_of o) (world_of (and_then o m))
  then_on (Normal v w) m g = (g.at v w).by
  then_on (Broken v w) m g = extends_self w
  then_on (Continued v w) m g = extends_self w
  then_on (Returned x w) m g = extends_self w
  then_on (Raised i x w) m g = extends_self w
  then_on (Over e w) m g = extends_self w

  pub then_grown : (w : World G) (o : Outcome G V X) (m : Meaning G V X) → Grown w o → Grows m → Grown w (and_then o m)
  then_grown w o m a g = record { by = extends_on w (world_of o) (world_of (and_then o m)) a.by (then_on o m g) }

  -- each grows
  abbrev pub AllGrow : List (Meaning G V X) → Type 0
  AllGrow [] = Unit {0}
  AllGrow (m ∷ ms) = Grows m × AllGrow ms

  pub in_turn_grows : (ms : List (Meaning G V X)) → AllGrow ms → Grows (in_turn ms)
  in_turn_grows [] h = record { at = λ v w. record { by = extends_self w } }
  in_turn_grows (m ∷ ms) h = record { at = λ v w. then_grown w (m v w) (in_turn ms) ((h.0).at v w) (in_turn_grows ms h.1) }

  pub value_grown : {A : Type 0} (a : Option A) (w : World G) (go : A → Outcome G V X) → ((a : A) → Grown w (go a)) → Grown w (with_value a w go)
  value_grown None w go l = record { by = extends_self w }
  value_grown (Some a) w go l = l a

  pub where_grown : (b : Bool) (w : World G) (o : Outcome G V X) → Grown w o → Grown w (where_true b w o)
  where_grown false w o l = record { by = extends_self w }
  where_grown true w o l = l

  pub choice_grown : (n : ℕ) (w : World G) (a b : Outcome G V X) → Grown w a → Grown w b → Grown w (if_not_zero n a b)
  choice_grown zero w a b l m = m
  choice_grown (suc n) w a b l m = l

  spend_of_grown : (f : ℕ) (w : World G) (go : World G → Outcome G V X) → ((w : World G) → Grown w (go w)) → Grown w (spend_of f w go)
  spend_of_grown zero w go l = record { by = extends_self w }
  spend_of_grown (suc f) w go l = grown_from w (record w { fuel = f }) (go (record w { fuel = f })) (extends_same w (record w { fuel = f }) refl (omega arith) (omega arith)) (l (record w { fuel = f }))

  pub spend_grown : (w : World G) (go : World G → Outcome G V X) → ((w : World G) → Grown w (go w)) → Grown w (spend w go)
  spend_grown w go l = spend_of_grown w.fuel w go l

  fit_grown : (b : Bool) (q : Asked) (r : Replied) (w : World G) (rs : List Replied) (go : Replied → World G → Outcome G V X) → ((r : Replied) (w : World G) → Grown w (go r w)) → Grown w (ask_fit b q r w rs go)
  fit_grown false q r w rs go l = record { by = extends_self w }
  fit_grown true q r w rs go l =
      let w' : World G = record w { replies = rs; trace = w.trace ++ record { request = q; reply = r } ∷ [] } in
      grown_from w w' (go r w') (record { trace = record { rest = record { request = q; reply = r } ∷ []; all = refl }; deepest = omega arith; toll = omega arith }) (l r w')

  ask_of_grown : (rs : List Replied) (q : Asked) (w : World G) (go : Replied → World G → Outcome G V X) → ((r : Replied) (w : World G) → Grown w (go r w)) → Grown w (ask_of rs q w go)
  ask_of_grown [] q w go l = record { by = extends_self w }
  ask_of_grown (r ∷ rs) q w go l = fit_grown (fits q r) q r w rs go l

  pub ask_grown : (q : Asked) (w : World G) (go : Replied → World G → Outcome G V X) → ((r : Replied) (w : World G) → Grown w (go r w)) → Grown w (ask q w go)
  ask_grown q w go l = ask_of_grown w.replies q w go l

  pub body_on : (o : Outcome G V X) (m : Meaning G V X) → Grows m → Extends (world_of o) (world_of (after_body o m))
  body_on (Normal v w) m g = (g.at v w).by
  body_on (Broken v w) m g = extends_self w
  body_on (Continued v w) m g = (g.at v w).by
  body_on (Returned x w) m g = extends_self w
  body_on (Raised i x w) m g = extends_self w
  body_on (Over e w) m g = extends_self w

  pub body_grown : (w : World G) (o : Outcome G V X) (m : Meaning G V X) → Grown w o → Grows m → Grown w (after_body o m)
  body_grown w o m a g = record { by = extends_on w (world_of o) (world_of (after_body o m)) a.by (body_on o m g) }

  -- a test that fails nowhere, with the steps before it
  pub turn_grows : (before : Meaning G V X) (test : V → World G → Option ℕ) (body again : Meaning G V X) → Grows before → Grows body → Grows again → Grows (turn before test body again)
  turn_grows before test body again gb g ga =
      record {
        at = λ v w. then_grown w (before v w) (λ v w. with_value (test v w) w (λ n. if_not_zero n (spend w (λ w. after_body (body v w) again)) (Normal v w))) (gb.at v w) (record {
          at = λ v w. value_grown (test v w) w (λ n. if_not_zero n (spend w (λ w. after_body (body v w) again)) (Normal v w)) (λ n. choice_grown n w _ _ (spend_grown w _ (λ w. body_grown w (body v w) again (g.at v w) ga)) (record { by = extends_self w }));
        });
      }

  pub turns_grow : (d : ℕ) (before : Meaning G V X) (test : V → World G → Option ℕ) (body : Meaning G V X) → Grows before → Grows body → Grows (turns d before test body)
  turns_grow zero before test body gb g = turn_grows before test body _ gb g (record { at = λ v w. record { by = extends_self w } })
  turns_grow (suc d) before test body gb g = turn_grows before test body _ gb g (turns_grow d before test body gb g)

pub back_extends : {G : Type 0} → (c w : World G) → Extends w (back_in c w)
back_extends c w = extends_same w (back_in c w) refl (omega arith) (omega arith)

module _ {V X G : Type 0} where
  pub after_call_on : (c : World G) (o : Outcome G (Unit {0}) X) (gave : X → World G → Outcome G V X) (threw : ℕ → X → World G → Outcome G V X) → ((x : X) (w : World G) → Grown w (gave x w)) → ((i : ℕ) (x : X) (w : World G) → Grown w (threw i x w)) → Extends (world_of o) (world_of (after_call c o gave threw))
  after_call_on c (Normal v w) gave threw g t = extends_self w
  after_call_on c (Broken v w) gave threw g t = extends_self w
  after_call_on c (Continued v w) gave threw g t = extends_self w
  after_call_on c (Returned x w) gave threw g t = extends_on w (back_in c w) _ (back_extends c w) (g x (back_in c w)).by
  after_call_on c (Raised i x w) gave threw g t = extends_on w (back_in c w) _ (back_extends c w) (t i x (back_in c w)).by
  after_call_on c (Over e w) gave threw g t = extends_self w

  pub left_on : (U : Type 0) (o : Outcome G V X) → Extends (world_of o) (world_of (left {U = U} o))
  left_on U (Normal v w) = extends_self w
  left_on U (Broken v w) = extends_self w
  left_on U (Continued v w) = extends_self w
  left_on U (Returned x w) = extends_self w
  left_on U (Raised i x w) = extends_self w
  left_on U (Over e w) = extends_self w

-- each function grows
abbrev pub CalleeGrows : {A X G : Type 0} → Callee G A X → Type 0
CalleeGrows {A} {X} {G} c = (f : ℕ) (a : A) (w : World G) → Grown w (c f a w)

module _ {V X A G : Type 0} (c : Callee G A X) (grows : CalleeGrows c) where
  pub call_grown : (f : ℕ) (a : Option A) (w : World G) (gave : X → World G → Outcome G V X) (threw : ℕ → X → World G → Outcome G V X) → ((x : X) (w : World G) → Grown w (gave x w)) → ((i : ℕ) (x : X) (w : World G) → Grown w (threw i x w)) → Grown w (call c f a w gave threw)
  call_grown f a w gave threw g t =
      value_grown a w _ (λ a. spend_grown w _ (λ w'. record { by = extends_on w' (world_of (c f a w')) _ (grows f a w').by (after_call_on w (c f a w') gave threw g t) }))

pub leaving_extends : {G : Type 0} → (w : World G) → Extends w (leaving w)
leaving_extends w = extends_same w (leaving w) refl (omega arith) (omega arith)

pub entered_extends : {G : Type 0} → (n : ℕ) (w : World G) → Extends w (entered n w)
entered_extends n w = extends_same w (entered n w) refl (omega arith) (omega arith)

pub tolled_extends : {G : Type 0} → (n : ℕ) (w : World G) → Extends w (tolled n w)
tolled_extends n w = extends_same w (tolled n w) refl (omega arith) (omega arith)

pub tail_grown : (V : Type 0) {X A G : Type 0} (c : Callee G A X) → CalleeGrows c → (f : ℕ) (a : Option A) (w : World G) → Grown w (tail_call {V = V} c f a w)
tail_grown V c grows f a w =
    value_grown a w _ (λ a. spend_grown w _ (λ w. record { by = extends_on w (world_of (c f a (leaving w))) _ (extends_on w (leaving w) _ (leaving_extends w) (grows f a (leaving w)).by) (left_on V (c f a (leaving w))) }))
