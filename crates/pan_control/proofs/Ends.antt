-- Control structure alone ends no run in a fault or for want of a stack.
use Rattle.std.proofs.Common.{◌≢◌, ℕ, zero, suc, List, [], ◌∷◌, Option, Some, None, Bool, true, false}
use Rattle.pan_base.specs.Events.{Asked, Foreign, Replied, Ending, Spent, Stack, Fault, Fails, Asks, Stopped, fits}
use Rattle.pan_control.specs.World.{World, leaving, back_in}
use Rattle.pan_control.specs.Control.{Outcome, Normal, Broken, Continued, Returned, Raised, Over, Meaning, Callee, and_then, in_turn, with_value, where_true, if_not_zero, spend_of, ask_fit, ask_of, ask, after_body, turn, turns, after_call, call, tail_call, left, on_variables}
use Rattle.pan_control.specs.Memory.{bytes_at}
use Rattle.pan_control.specs.Runs.{with_reply, foreign, tested_again, nested, exit_of, seen}

-- neither a fault nor the end of a stack
pub record IsHigh (e : Ending) : Type 0 where
  pub no_fault : e ≢ Fault
  pub no_stack : e ≢ Stack

pub failed : IsHigh Fails
failed = record { no_fault = λ e. cc; no_stack = λ e. cc }

pub spent : IsHigh Spent
spent = record { no_fault = λ e. cc; no_stack = λ e. cc }

pub stopped : (q : Asked) → IsHigh (Stopped q)
stopped q = record { no_fault = λ e. cc; no_stack = λ e. cc }

pub asking : (q : Asked) → IsHigh (Asks q)
asking q = record { no_fault = λ e. cc; no_stack = λ e. cc }

abbrev IsHighWhereOver : {V X G : Type 0} → Outcome G V X → Type 0
IsHighWhereOver (Over e w) = IsHigh e
IsHighWhereOver _ = Unit {0}

-- where it is over, then neither in a fault nor for want of a stack
pub record EndsHigh {V X G : Type 0} (o : Outcome G V X) : Type 0 where
  pub over : IsHighWhereOver o

-- each run of it ends so
abbrev pub RunsHigh : {V X G : Type 0} → Meaning G V X → Type 0
RunsHigh {V} {X} {G} m = (v : V) (w : World G) → EndsHigh (m v w)

-- each function ends so
abbrev pub CallsHigh : {A X G : Type 0} → Callee G A X → Type 0
CallsHigh {A} {X} {G} c = (f : ℕ) (a : A) (w : World G) → EndsHigh (c f a w)

module _ {V X G : Type 0} where
  pub then_high : (o : Outcome G V X) (m : Meaning G V X) → EndsHigh o → RunsHigh m → EndsHigh (and_then o m)
  then_high (Normal v w) m h hm = hm v w
  then_high (Broken v w) m h hm = record { over = tt }
  then_high (Continued v w) m h hm = record { over = tt }
  then_high (Returned x w) m h hm = record { over = tt }
  then_high (Raised i x w) m h hm = record { over = tt }
  then_high (Over e w) m h hm = record { over = h.over }

  -- each of them ends so
  abbrev pub AllHigh : List (Meaning G V X) → Type 0
  AllHigh [] = Unit {0}
  AllHigh (m ∷ ms) = RunsHigh m × AllHigh ms

  pub in_turn_high : (ms : List (Meaning G V X)) → AllHigh ms → RunsHigh (in_turn ms)
  in_turn_high [] h v w = record { over = tt }
  in_turn_high (m ∷ ms) h v w = then_high (m v w) (in_turn ms) (h.0 v w) (in_turn_high ms h.1)

  pub value_high : {A : Type 0} (a : Option A) (w : World G) (go : A → Outcome G V X) → ((a : A) → EndsHigh (go a)) → EndsHigh (with_value a w go)
  value_high None w go h = record { over = failed }
  value_high (Some a) w go h = h a

  pub where_high : (b : Bool) (w : World G) (o : Outcome G V X) → EndsHigh o → EndsHigh (where_true b w o)
  where_high false w o h = record { over = failed }
  where_high true w o h = h

  pub choice_high : (n : ℕ) (a b : Outcome G V X) → EndsHigh a → EndsHigh b → EndsHigh (if_not_zero n a b)
  choice_high zero a b h k = k
  choice_high (suc n) a b h k = h

  spend_of_high : (f : ℕ) (w : World G) (go : World G → Outcome G V X) → ((w : World G) → EndsHigh (go w)) → EndsHigh (spend_of f w go)
  spend_of_high zero w go h = record { over = spent }
  spend_of_high (suc f) w go h = h (record w { fuel = f })

  fit_high : (b : Bool) (q : Asked) (r : Replied) (w : World G) (rs : List Replied) (go : Replied → World G → Outcome G V X) → ((r : Replied) (w : World G) → EndsHigh (go r w)) → EndsHigh (ask_fit b q r w rs go)
  fit_high false q r w rs go h = record { over = stopped q }
  fit_high true q r w rs go h = h r _

  asks_high : (rs : List Replied) (q : Asked) (w : World G) (go : Replied → World G → Outcome G V X) → ((r : Replied) (w : World G) → EndsHigh (go r w)) → EndsHigh (ask_of rs q w go)
  asks_high [] q w go h = record { over = asking q }
  asks_high (r ∷ rs) q w go h = fit_high (fits q r) q r w rs go h

  pub ask_high : (q : Asked) (w : World G) (go : Replied → World G → Outcome G V X) → ((r : Replied) (w : World G) → EndsHigh (go r w)) → EndsHigh (ask q w go)
  ask_high q w go h = asks_high w.replies q w go h

  pub foreign_high : (i : ℕ) (name : List ℕ) (conf conf_len array array_len : ℕ) → RunsHigh (foreign {V = V} {X = X} {G = G} i name conf conf_len array array_len)
  foreign_high i name a l b n v w = value_high (bytes_at w.memory a l) w _ (λ x. value_high (bytes_at w.memory b n) w _ (λ y. ask_high (Foreign i name x y) w _ (λ r w. record { over = tt })))

  -- ---- loops

  pub tested_high : (weight : V → ℕ) (o : Outcome G V X) → EndsHigh o → EndsHigh (tested_again weight o)
  tested_high weight (Normal v w) h = record { over = tt }
  tested_high weight (Broken v w) h = record { over = tt }
  tested_high weight (Continued v w) h = record { over = tt }
  tested_high weight (Returned x w) h = record { over = tt }
  tested_high weight (Raised i x w) h = record { over = tt }
  tested_high weight (Over e w) h = record { over = h.over }

  body_high : (o : Outcome G V X) (again : Meaning G V X) → EndsHigh o → RunsHigh again → EndsHigh (after_body o again)
  body_high (Normal v w) m h hm = hm v w
  body_high (Broken v w) m h hm = record { over = tt }
  body_high (Continued v w) m h hm = hm v w
  body_high (Returned x w) m h hm = record { over = tt }
  body_high (Raised i x w) m h hm = record { over = tt }
  body_high (Over e w) m h hm = record { over = h.over }

  turn_high : (before : Meaning G V X) (test : V → World G → Option ℕ) (body again : Meaning G V X) → RunsHigh before → RunsHigh body → RunsHigh again → RunsHigh (turn before test body again)
  turn_high before test body again hb h ha v w =
      then_high (before v w) _ (hb v w) (λ v w. value_high (test v w) w _ (λ n. choice_high n _ _ (spend_of_high w.fuel w _ (λ w. body_high (body v w) again (h v w) ha)) (record { over = tt })))

  pub turns_high : (d : ℕ) (before : Meaning G V X) (test : V → World G → Option ℕ) (body : Meaning G V X) → RunsHigh before → RunsHigh body → RunsHigh (turns d before test body)
  turns_high zero before test body hb h = turn_high before test body _ hb h (λ v w. record { over = spent })
  turns_high (suc d) before test body hb h = turn_high before test body _ hb h (turns_high d before test body hb h)

  -- ---- calls

  after_call_high : (caller : World G) (o : Outcome G (Unit {0}) X) (gave : X → World G → Outcome G V X) (threw : ℕ → X → World G → Outcome G V X) → EndsHigh o → ((x : X) (w : World G) → EndsHigh (gave x w)) → ((i : ℕ) (x : X) (w : World G) → EndsHigh (threw i x w)) → EndsHigh (after_call caller o gave threw)
  after_call_high caller (Normal v w) gave threw h hg ht = record { over = failed }
  after_call_high caller (Broken v w) gave threw h hg ht = record { over = failed }
  after_call_high caller (Continued v w) gave threw h hg ht = record { over = failed }
  after_call_high caller (Returned x w) gave threw h hg ht = hg x (back_in caller w)
  after_call_high caller (Raised i x w) gave threw h hg ht = ht i x (back_in caller w)
  after_call_high caller (Over e w) gave threw h hg ht = record { over = h.over }

  pub call_high : {A : Type 0} (c : Callee G A X) (f : ℕ) (arguments : Option A) (w : World G) (gave : X → World G → Outcome G V X) (threw : ℕ → X → World G → Outcome G V X) → CallsHigh c → ((x : X) (w : World G) → EndsHigh (gave x w)) → ((i : ℕ) (x : X) (w : World G) → EndsHigh (threw i x w)) → EndsHigh (call c f arguments w gave threw)
  call_high c f arguments w gave threw hc hg ht =
      value_high arguments w _ (λ a. spend_of_high w.fuel w _ (λ w'. after_call_high w (c f a w') gave threw (hc f a w') hg ht))

pub left_high : (U : Type 0) {V X G : Type 0} (o : Outcome G V X) → EndsHigh o → EndsHigh (left {U = U} o)
left_high U (Normal v w) h = record { over = failed }
left_high U (Broken v w) h = record { over = failed }
left_high U (Continued v w) h = record { over = failed }
left_high U (Returned x w) h = record { over = tt }
left_high U (Raised i x w) h = record { over = tt }
left_high U (Over e w) h = record { over = h.over }

pub on_high : {V U X G : Type 0} (f : V → U) (o : Outcome G V X) → EndsHigh o → EndsHigh (on_variables f o)
on_high f (Normal v w) h = record { over = tt }
on_high f (Broken v w) h = record { over = tt }
on_high f (Continued v w) h = record { over = tt }
on_high f (Returned x w) h = record { over = tt }
on_high f (Raised i x w) h = record { over = tt }
on_high f (Over e w) h = record { over = h.over }

pub tail_high : (V : Type 0) {A X G : Type 0} (c : Callee G A X) (f : ℕ) (arguments : Option A) (w : World G) → CallsHigh c → EndsHigh (tail_call {V = V} c f arguments w)
tail_high V c f arguments w hc = value_high arguments w _ (λ a. spend_of_high w.fuel w _ (λ w. left_high V (c f a (leaving w)) (hc f a (leaving w))))

pub nested_high : {A X G : Type 0} (enter : ℕ → Callee G A X → Callee G A X) → ((d : ℕ) (c : Callee G A X) → CallsHigh c → CallsHigh (enter d c)) → (d : ℕ) → CallsHigh (nested enter d)
nested_high enter h zero f a w = record { over = spent }
nested_high enter h (suc d) f a w = h d (nested enter d) (nested_high enter h d) f a w

-- ---- what is seen

exit_high : (o : Option ℕ) → IsHigh (exit_of o)
exit_high None = failed
exit_high (Some n) = record { no_fault = λ e. cc; no_stack = λ e. cc }

pub seen_high : {X G : Type 0} (word : X → Option ℕ) (o : Outcome G (Unit {0}) X) → EndsHigh o → IsHigh (((seen word o).behaviour).ending)
seen_high word (Normal v w) h = failed
seen_high word (Broken v w) h = failed
seen_high word (Continued v w) h = failed
seen_high word (Returned x w) h = exit_high (word x)
seen_high word (Raised i x w) h = record { no_fault = λ e. cc; no_stack = λ e. cc }
seen_high word (Over e w) h = h.over
