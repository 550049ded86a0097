-- What control structure means, for a language with globals G and variables V, whose functions return and raise an X.
use Rattle.std.specs.Prelude.{ℕ, zero, suc, List, [], ◌∷◌, ◌++◌, Option, Some, None, Bool, true, false}
use Rattle.pan_base.specs.Events.{Asked, Replied, Ending, Fails, Spent, Asks, Stopped, fits}
use Rattle.pan_control.specs.World.{World, leaving, back_in}

-- how a statement ends
pub data Outcome (G V X : Type 0) : Type 0 where
  Normal : V → World G → Outcome G V X
  Broken : V → World G → Outcome G V X
  Continued : V → World G → Outcome G V X
  Returned : X → World G → Outcome G V X
  Raised : ℕ → X → World G → Outcome G V X
  Over : Ending → World G → Outcome G V X

-- what a statement does: from the variables and the world to how it ends
abbrev pub Meaning : Type 0 → Type 0 → Type 0 → Type 0
Meaning G V X = V → World G → Outcome G V X

-- how a function leaves, by its number and its arguments A; nothing is left of its variables
abbrev pub Callee : Type 0 → Type 0 → Type 0 → Type 0
Callee G A X = ℕ → A → World G → Outcome G (Unit {0}) X

-- goes on after a normal end
abbrev pub and_then : {V X G : Type 0} → Outcome G V X → Meaning G V X → Outcome G V X
and_then (Normal v w) m = m v w
and_then (Broken v w) m = Broken v w
and_then (Continued v w) m = Continued v w
and_then (Returned x w) m = Returned x w
and_then (Raised i x w) m = Raised i x w
and_then (Over e w) m = Over e w

-- one after another
abbrev pub in_turn : {V X G : Type 0} → List (Meaning G V X) → Meaning G V X
in_turn [] = λ v w. Normal v w
in_turn (m ∷ ms) = λ v w. and_then (m v w) (in_turn ms)

-- goes on with a value, or fails
abbrev pub with_value : {V X A G : Type 0} → Option A → World G → (A → Outcome G V X) → Outcome G V X
with_value None w go = Over Fails w
with_value (Some a) w go = go a

-- goes on where the test holds, or fails
abbrev pub where_true : {V X G : Type 0} → Bool → World G → Outcome G V X → Outcome G V X
where_true false w o = Over Fails w
where_true true w o = o

-- the first unless the number is 0
abbrev pub if_not_zero : {A : Type 0} → ℕ → A → A → A
if_not_zero zero a b = b
if_not_zero (suc n) a b = a

-- takes one of this many units of fuel
abbrev pub spend_of : {V X G : Type 0} → ℕ → World G → (World G → Outcome G V X) → Outcome G V X
spend_of zero w go = Over Spent w
spend_of (suc n) w go = go (record w { fuel = n })

-- takes one unit of the fuel that is left
abbrev pub spend : {V X G : Type 0} → World G → (World G → Outcome G V X) → Outcome G V X
spend w go = spend_of w.fuel w go

-- goes on with this reply where it fits, else stops
abbrev pub ask_fit : {V X G : Type 0} → Bool → Asked → Replied → World G → List Replied → (Replied → World G → Outcome G V X) → Outcome G V X
ask_fit false q r w rs go = Over (Stopped q) w
ask_fit true q r w rs go = go r (record w { replies = rs; trace = w.trace ++ record { request = q; reply = r } ∷ [] })

-- asks, with these replies to come
abbrev pub ask_of : {V X G : Type 0} → List Replied → Asked → World G → (Replied → World G → Outcome G V X) → Outcome G V X
ask_of [] q w go = Over (Asks q) w
ask_of (r ∷ rs) q w go = ask_fit (fits q r) q r w rs go

-- takes the next reply
abbrev pub ask : {V X G : Type 0} → Asked → World G → (Replied → World G → Outcome G V X) → Outcome G V X
ask q w go = ask_of w.replies q w go

-- What a function's body leaves to the caller, without its variables. A body that ends in another way than by a return or a raise, which the check rules out, fails.
abbrev pub left : {V U X G : Type 0} → Outcome G V X → Outcome G U X
left (Normal v w) = Over Fails w
left (Broken v w) = Over Fails w
left (Continued v w) = Over Fails w
left (Returned x w) = Returned x w
left (Raised i x w) = Raised i x w
left (Over e w) = Over e w

-- what is left of the variables, where a statement goes on
abbrev pub on_variables : {V U X G : Type 0} → (V → U) → Outcome G V X → Outcome G U X
on_variables f (Normal v w) = Normal (f v) w
on_variables f (Broken v w) = Broken (f v) w
on_variables f (Continued v w) = Continued (f v) w
on_variables f (Returned x w) = Returned x w
on_variables f (Raised i x w) = Raised i x w
on_variables f (Over e w) = Over e w

-- ---- loops

-- after a loop's body
abbrev pub after_body : {V X G : Type 0} → Outcome G V X → Meaning G V X → Outcome G V X
after_body (Normal v w) again = again v w
after_body (Broken v w) again = Normal v w
after_body (Continued v w) again = again v w
after_body (Returned x w) again = Returned x w
after_body (Raised i x w) again = Raised i x w
after_body (Over e w) again = Over e w

-- A test of a loop, and where it isn't 0 a turn, which takes a unit. Before the test stands what computes it.
abbrev pub turn : {V X G : Type 0} → Meaning G V X → (V → World G → Option ℕ) → Meaning G V X → Meaning G V X → Meaning G V X
turn before test body again v w =
    and_then (before v w) (λ v w. with_value (test v w) w (λ n. if_not_zero n (spend w (λ w. after_body (body v w) again)) (Normal v w)))

-- No loop makes more turns than there is fuel: the number bounds both.
abbrev pub turns : {V X G : Type 0} → ℕ → Meaning G V X → (V → World G → Option ℕ) → Meaning G V X → Meaning G V X
turns zero before test body = turn before test body (λ v w. Over Spent w)
turns (suc d) before test body = turn before test body (turns d before test body)

-- ---- calls

-- what a call leaves to its caller: what was returned, or an exception
abbrev pub after_call : {V X G : Type 0} → World G → Outcome G (Unit {0}) X → (X → World G → Outcome G V X) → (ℕ → X → World G → Outcome G V X) → Outcome G V X
after_call caller (Normal v w) gave threw = Over Fails w
after_call caller (Broken v w) gave threw = Over Fails w
after_call caller (Continued v w) gave threw = Over Fails w
after_call caller (Returned x w) gave threw = gave x (back_in caller w)
after_call caller (Raised i x w) gave threw = threw i x (back_in caller w)
after_call caller (Over e w) gave threw = Over e w

-- A call takes a unit after its arguments are known.
abbrev pub call : {V X A G : Type 0} → Callee G A X → ℕ → Option A → World G → (X → World G → Outcome G V X) → (ℕ → X → World G → Outcome G V X) → Outcome G V X
call callee f arguments w gave threw = with_value arguments w (λ a. spend w (λ w'. after_call w (callee f a w') gave threw))

-- So does a call whose callee takes the place of the running function and leaves it as its own body would.
abbrev pub tail_call : {V X A G : Type 0} → Callee G A X → ℕ → Option A → World G → Outcome G V X
tail_call callee f arguments w = with_value arguments w (λ a. spend w (λ w. left (callee f a (leaving w))))

-- the world at the end
abbrev pub world_of : {V X G : Type 0} → Outcome G V X → World G
world_of (Normal v w) = w
world_of (Broken v w) = w
world_of (Continued v w) = w
world_of (Returned x w) = w
world_of (Raised i x w) = w
world_of (Over e w) = w
