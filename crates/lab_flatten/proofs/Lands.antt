-- The lines do what structured code does: where they land, in no fewer steps than units of fuel were taken, and in no more than the toll.
use Rattle.std.proofs.Common.{◌≡◌, ◌≢◌, ℕ, suc, ◌+◌, ◌-◌, ◌*◌, ◌^◌, ◌<◌, ◌≤◌, refl, sym, ap, ◌∙◌, Bool, true, false, List, [], ◌∷◌, ◌++◌, append_assoc, Some, arith}
use Rattle.pan_base.specs.Events.{Asked, Replied, Event, Behaviour, Ending, Stopped, Asks, Spent, Fails, only, before, fits}
use Rattle.pan_control.specs.World.{tolled}
use Rattle.pan_control.specs.Control.{Normal, Broken, Continued, Returned, Raised, Over, and_then, ask_fit, ask_of}
use Rattle.pan_base.specs.declared.events.Size.TheVariants.{B8}
use Rattle.pan_base.specs.Bytes.{number_at}
use Rattle.riscv_isa.specs.Regions.{Memory}
use Rattle.riscv_isa.specs.Step.{State, Config, Runs, Waits, Over as over, reg, request_of, resumed}
use Rattle.riscv_isa.specs.Running.{run}
use Rattle.riscv_isa.proofs.RunLaws.{run_on, run_answered, run_stopped, run_unanswered}
use Rattle.lab_lang.specs.declared.syntax.Line.{Line}
use Rattle.lab_lang.specs.Meaning.{once, asks, replied, step}
use Rattle.stack_lang.specs.Shown.{hide}
use Rattle.stack_lang.specs.Frame.{Frame}
use Rattle.stack_lang.specs.Meaning.{World, Outcome, Callee, Does, ran, asked}
use Rattle.lab_flatten.specs.Flatten.{slot_at}
use Rattle.lab_flatten.proofs.Hiding.{apart, Follows, Agree}
use Rattle.lab_flatten.proofs.Machine.{Sets, word, saved, Outer, outer_on, Kept, kept_on, sets_kept, follows_kept, Ready, Begins, ready_kept}
use Rattle.lab_flatten.proofs.Lines.{settled, At, Goes, line_goes, Moved}

-- what is seen of a run that has come to this world and goes on so
abbrev pub shown : World → Behaviour → Behaviour
shown w b = record { events = w.trace ++ b.events; ending = b.ending }

shown_before : (w : World) (q : Asked) (r : Replied) (rs : List Replied) (b : Behaviour)
    → shown w (before q r b) ≡ shown (record w { replies = rs; trace = w.trace ++ record { request = q; reply = r } ∷ [] }) b
shown_before w q r rs b = ap (λ (es : List Event). record { events = es; ending = b.ending }) (sym (append_assoc w.trace (record { request = q; reply = r } ∷ []) b.events))

-- what a function with a frame of this size has, and the machine
pub record Sees (front size : ℕ) (v : Frame) (u : State) : Type 0 where
  pub seen : hide u ≡ v.seen
  pub room : reg u 2 ≡ 0x20000000 + v.room
  pub slots : (j n : ℕ) → 8 * (front + j + 1) ≤ size → v.slots j ≡ Some n → word u (reg u 2 + slot_at front j) ≡ n

-- x9 is not seen
pub sets_sees : (r n front size : ℕ) (v : Frame) (t u : State) → Sets r n t u → 2 ≢ r → Sees front size v t → Sees front size v u
sets_sees r n front size v t u s two h = record {
  seen = s.seen ∙ h.seen;
  room = s.other 2 two ∙ h.room;
  slots = λ j m le is. ap (word u) (ap (λ a. a + slot_at front j) (s.other 2 two)) ∙ word_same (reg t 2 + slot_at front j) ∙ h.slots j m le is;
}
  where
    word_same : (a : ℕ) → word u a ≡ word t a
    word_same a = ap (λ (m : Memory). number_at B8 m.stack (a - 0x20000000)) s.memory

-- after an instruction that keeps the stack
pub follows_sees : (front size : ℕ) (v : Frame) (t u : State) → Follows t u → Sees front size v t → Sees front size (record v { seen = hide u }) u
unfolding reg
follows_sees front size v t u f h = record {
  seen = refl;
  room = f.sp ∙ h.room;
  slots = λ j n le is. ap (word u) (ap (λ a. a + slot_at front j) f.sp) ∙ ap (λ xs. number_at B8 xs (reg t 2 + slot_at front j - 0x20000000)) f.stack ∙ h.slots j n le is;
}

module _ (lines : List Line) (layout : List (ℕ × ℕ)) where
  -- ---- where runs come to

  abbrev pub run_from : ℕ → State → List Replied → Behaviour
  run_from k t rs = run asks replied (step lines layout) k (settled t) rs

  -- whatever comes after, in some steps more
  abbrev pub Steps : State → World → State → World → Type 0
  Steps t w u w' = (k : ℕ) → (j : ℕ) × (k + w.fuel ≤ j + w'.fuel) × (j + w.toll ≤ k + w'.toll)
      × (shown w (run_from j t w.replies) ≡ shown w' (run_from k u w'.replies))

  pub steps_on : (t : State) (w : World) (u : State) (w1 : World) (v : State) (w2 : World) → Steps t w u w1 → Steps u w1 v w2 → Steps t w v w2
  steps_on t w u w1 v w2 a b k = let y = b k in let x = a y.0 in (x.0, omega (arith, x.1, y.1), omega (arith, x.2, y.2), x.3 ∙ y.3)

  pub steps_goes : (t : State) (w : World) (u : State) (w' : World) (n : ℕ) → Goes lines layout t u n → w'.replies ≡ w.replies → w'.trace ≡ w.trace → w.fuel ≤ n + w'.fuel → n + w.toll ≤ w'.toll → Steps t w u w'
  steps_goes t w u w' n g replies trace fuel toll k = (
    n + k,
    omega (arith, fuel),
    omega (arith, toll),
    ap (shown w) (run_on asks replied (step lines layout) n k (settled t) (settled u) w.replies g.leads)
        ∙ ap (λ rs. shown w (run_from k u rs)) (sym replies)
        ∙ ap (λ (es : List Event). record { events = es ++ (run_from k u w'.replies).events; ending = (run_from k u w'.replies).ending }) (sym trace),
  )

  pub record Comes (front size : ℕ) (t : State) (w : World) (v : Frame) (w' : World) (on : ℕ) : Type 0 where
    pub state : State
    pub sees : Sees front size v state
    pub pc : state.pc ≡ on
    pub kept : Kept front size t state
    pub by : Steps t w state w'

  -- a function is left, to the address, with the stack pointer there
  pub record Returns (top to : ℕ) (t : State) (w : World) (x : Frame) (w' : World) : Type 0 where
    pub state : State
    pub seen : hide state ≡ x.seen
    pub pc : state.pc ≡ to
    pub sp : reg state 2 ≡ top
    pub outer : Outer top t state
    pub by : Steps t w state w'

  pub record Stops (t : State) (w : World) (e : Ending) (w' : World) : Type 0 where
    pub steps : ℕ
    pub enough : w.fuel ≤ steps + w'.fuel
    pub within : steps + w.toll ≤ w'.toll
    pub is : shown w (run_from steps t w.replies) ≡ shown w' (only e)

  pub stops_by : (t : State) (w : World) (u : State) (w1 : World) (e : Ending) (w2 : World) → Steps t w u w1 → Stops u w1 e w2 → Stops t w e w2
  stops_by t w u w1 e w2 a b = let x = a b.steps in record { steps = x.0; enough = omega (arith, x.1, b.enough); within = omega (arith, x.2, b.within); is = x.3 ∙ b.is }

  -- no fuel is left
  pub stops_spent : (t : State) (w w' : World) → w'.fuel ≡ w.fuel → w'.toll ≡ w.toll → w'.trace ≡ w.trace → Stops t w Spent w'
  unfolding run
  stops_spent t w w' fuel toll trace = record { steps = 0; enough = omega (arith, fuel); within = omega (arith, toll); is = ap (λ (es : List Event). record { events = es ++ []; ending = Spent }) (sym trace) }

  pub moved_comes : (front size : ℕ) (t : State) (to most : ℕ) (v : Frame) (w w' : World) → Moved lines layout t to most → Sees front size v t → w'.replies ≡ w.replies → w'.trace ≡ w.trace → w.fuel ≤ 1 + w'.fuel → most + w.toll ≤ w'.toll → Comes front size t w v w' to
  moved_comes front size t to most v w w' m h replies trace fuel toll =
      let some = m.some in let few = m.few in
      record {
        state = m.state;
        sees = sets_sees 9 m.nine front size v t m.state m.sets (apart 2 9 refl) h;
        pc = m.pc;
        kept = sets_kept 9 m.nine front size t m.state m.sets (apart 4 9 refl) (apart 8 9 refl) (apart 2 9 refl) (apart 1 9 refl);
        by = steps_goes t w m.state w' m.steps m.goes replies trace (omega arith) (omega arith);
      }

  module _ (unwind_at : ℕ) where
    -- it comes to the code that goes to the newest record, with the exception in x1
    pub record Threw (top : ℕ) (t : State) (w : World) (i : ℕ) (x : Frame) (w' : World) : Type 0 where
      pub state : State
      pub seen : hide state ≡ x.seen
      pub pc : state.pc ≡ unwind_at
      pub code : reg state 1 ≡ i
      pub small : i < 2 ^ 64
      pub outer : Outer top t state
      pub by : Steps t w state w'

    -- it lands where this outcome goes: on, out of the loop, to its next turn, or out of the function
    abbrev pub Lands : ℕ → ℕ → Outcome Frame Frame → State → World → ℕ → ℕ → ℕ → Type 0
    Lands front size (Normal v w') t w on out again = Comes front size t w v w' on
    Lands front size (Broken v w') t w on out again = Comes front size t w v w' out
    Lands front size (Continued v w') t w on out again = Comes front size t w v w' again
    Lands front size (Returned x w') t w on out again = Returns (reg t 2 + size) (saved front t) t w x w'
    Lands front size (Raised i x w') t w on out again = Threw (reg t 2 + size) t w i x w'
    Lands front size (Over e w') t w on out again = e ≢ Fails → Stops t w e w'

    -- a function that was entered from this state leaves
    abbrev pub Leaves : Outcome (Unit {0}) Frame → State → World → Type 0
    Leaves (Normal v w') t w = Unit {0}
    Leaves (Broken v w') t w = Unit {0}
    Leaves (Continued v w') t w = Unit {0}
    Leaves (Returned x w') t w = Returns (reg t 2) (reg t 1) t w x w'
    Leaves (Raised i x w') t w = Threw (reg t 2) t w i x w'
    Leaves (Over e w') t w = e ≢ Fails → Stops t w e w'

    -- the functions' lines do what the callee says
    abbrev pub Enters : Callee → Type 0
    Enters g = (f entry : ℕ) → At lines layout f entry → (t : State) → t.pc ≡ entry → Begins t → (v : Frame) → hide t ≡ v.seen → reg t 2 ≡ 0x20000000 + v.room → (w : World) → Leaves (g f v w) t w

    pub comes_on : (front size : ℕ) (t : State) (w : World) (v1 : Frame) (w1 : World) (at1 : ℕ) (v2 : Frame) (w2 : World) (at2 : ℕ) (a : Comes front size t w v1 w1 at1) → Comes front size a.state w1 v2 w2 at2 → Comes front size t w v2 w2 at2
    comes_on front size t w v1 w1 at1 v2 w2 at2 a b = record {
      state = b.state;
      sees = b.sees;
      pc = b.pc;
      kept = kept_on front size t a.state b.state a.kept b.kept;
      by = steps_on t w a.state w1 b.state w2 a.by b.by;
    }

    pub returns_on : (front size : ℕ) (t : State) (w : World) (u : State) (w1 : World) (x : Frame) (w2 : World) → Kept front size t u → Steps t w u w1 → Returns (reg u 2 + size) (saved front u) u w1 x w2 → Returns (reg t 2 + size) (saved front t) t w x w2
    returns_on front size t w u w1 x w2 k a b =
        let sp = k.sp in
        record {
          state = b.state;
          seen = b.seen;
          pc = b.pc ∙ k.link;
          sp = b.sp ∙ ap (λ n. n + size) sp;
          outer = outer_on (reg t 2 + size) (reg u 2 + size) t u b.state k.outer b.outer (omega (arith, sp));
          by = steps_on t w u w1 b.state w2 a b.by;
        }

    pub threw_on : (top top' : ℕ) (t : State) (w : World) (u : State) (w1 : World) (i : ℕ) (x : Frame) (w2 : World) → Outer top t u → top' ≤ top → Steps t w u w1 → Threw top' u w1 i x w2 → Threw top t w i x w2
    threw_on top top' t w u w1 i x w2 o le a b = record {
      state = b.state;
      seen = b.seen;
      pc = b.pc;
      code = b.code;
      small = b.small;
      outer = outer_on top top' t u b.state o b.outer le;
      by = steps_on t w u w1 b.state w2 a b.by;
    }

    pub lands_by : (front size : ℕ) (o : Outcome Frame Frame) (t : State) (w : World) (u : State) (w1 : World) (on out again : ℕ) → Kept front size t u → Steps t w u w1 → Lands front size o u w1 on out again → Lands front size o t w on out again
    lands_by front size (Normal v w2) t w u w1 on out again k a b = record { state = b.state; sees = b.sees; pc = b.pc; kept = kept_on front size t u b.state k b.kept; by = steps_on t w u w1 b.state w2 a b.by }
    lands_by front size (Broken v w2) t w u w1 on out again k a b = record { state = b.state; sees = b.sees; pc = b.pc; kept = kept_on front size t u b.state k b.kept; by = steps_on t w u w1 b.state w2 a b.by }
    lands_by front size (Continued v w2) t w u w1 on out again k a b = record { state = b.state; sees = b.sees; pc = b.pc; kept = kept_on front size t u b.state k b.kept; by = steps_on t w u w1 b.state w2 a b.by }
    lands_by front size (Returned x w2) t w u w1 on out again k a b = returns_on front size t w u w1 x w2 k a b
    lands_by front size (Raised i x w2) t w u w1 on out again k a b = let sp = k.sp in threw_on (reg t 2 + size) (reg u 2 + size) t w u w1 i x w2 k.outer (omega (arith, sp)) a b
    lands_by front size (Over e w2) t w u w1 on out again k a b = λ ok. stops_by t w u w1 e w2 a (b ok)

    -- from each state at this place the meaning lands
    abbrev pub LandsFrom : ℕ → ℕ → Does → ℕ → ℕ → ℕ → ℕ → Type 0
    LandsFrom front size m at on out again = (t : State) (v : Frame) → t.pc ≡ at → Ready front size t → Sees front size v t → (w : World) → Lands front size (m v w) t w on out again

    pub after_comes : (front size : ℕ) (m : Does) (t : State) (w : World) (v1 : Frame) (w1 : World) (mid on out again : ℕ) → Ready front size t → Comes front size t w v1 w1 mid → LandsFrom front size m mid on out again
        → Lands front size (m v1 w1) t w on out again
    after_comes front size m t w v1 w1 mid on out again r a b =
        lands_by front size (m v1 w1) t w a.state w1 on out again a.kept a.by (b a.state v1 a.pc (ready_kept front size t a.state r a.kept) a.sees w1)

    pub then_lands : (front size : ℕ) (o : Outcome Frame Frame) (m : Does) (t : State) (w : World) (mid on out again : ℕ) → Ready front size t → Lands front size o t w mid out again → LandsFrom front size m mid on out again
        → Lands front size (and_then o m) t w on out again
    then_lands front size (Normal v1 w1) m t w mid on out again r a b = after_comes front size m t w v1 w1 mid on out again r a b
    then_lands front size (Broken v1 w1) m t w mid on out again r a b = a
    then_lands front size (Continued v1 w1) m t w mid on out again r a b = a
    then_lands front size (Returned v1 w1) m t w mid on out again r a b = a
    then_lands front size (Raised i v1 w1) m t w mid on out again r a b = a
    then_lands front size (Over e w1) m t w mid on out again r a b = a

    -- ---- an instruction of structured code

    module _ (front size : ℕ) (t : State) (v : Frame) (h : Sees front size v t) (w : World) (out again : ℕ) where
      -- what the machine has after it
      after_sees : (s u : State) → hide s ≡ hide u → Follows t u → Sees front size (record v { seen = hide s }) u
      after_sees s u e f = let h' = follows_sees front size v t u f h in record { seen = sym e; room = h'.room; slots = h'.slots }

      -- one that runs on
      pub ran_lands : (c d : Config) → step lines layout (settled t) ≡ once d → Agree t c d → Lands front size (ran v c (tolled 1 w)) t w (t.pc + 4) out again
      ran_lands (Runs s) (Runs u) e a = record {
        state = u;
        sees = after_sees s u a.0 a.1;
        pc = (a.1).pc;
        kept = follows_kept front size t u a.1;
        by = steps_goes t w u (tolled 1 w) 1 (line_goes lines layout t u 0 1 refl e) refl refl (omega arith) (omega arith);
      }
      ran_lands (Runs s) (Waits q u) e a = absurd a
      ran_lands (Runs s) (over f) e a = absurd a
      ran_lands (Waits p s) d e a = λ ok. absurd (ok refl)
      ran_lands (over e) d e' a = λ ok. absurd (ok refl)

      -- one that asks, in a world where it is counted
      pub asked_lands : (w1 : World) → w1.replies ≡ w.replies → w1.trace ≡ w.trace → w1.fuel ≡ w.fuel → 1 + w.toll ≤ w1.toll
          → (c d : Config) → step lines layout (settled t) ≡ once d → Agree t c d → Lands front size (asked v c w1) t w (t.pc + 4) out again
      asked_lands w1 replies trace fuel toll (Waits p s) (Waits q u) e a = by_replies w1.replies refl
        where
          fits_q : (r : Replied) (b : Bool) → fits (request_of p s) r ≡ b → fits (request_of q u) r ≡ b
          fits_q r b fit = ap (λ q'. fits q' r) (sym a.0) ∙ fit

          -- what was seen before is the same
          seen_in : (b : Behaviour) → shown w b ≡ shown w1 b
          seen_in b = ap (λ (es : List Event). record { events = es ++ b.events; ending = b.ending }) (sym trace)

          by_fit : (b : Bool) (r : Replied) (rs : List Replied) → w1.replies ≡ r ∷ rs → fits (request_of p s) r ≡ b
              → Lands front size (ask_fit b (request_of p s) r w1 rs (λ r w. Normal (record v { seen = hide (resumed p s r) }) w)) t w (t.pc + 4) out again
          by_fit true r rs is fit =
              let agree = (a.1) r (fits_q r true fit) in
              record {
                state = resumed q u r;
                sees = after_sees (resumed p s r) (resumed q u r) agree.0 agree.1;
                pc = (agree.1).pc;
                kept = follows_kept front size t (resumed q u r) agree.1;
                by = λ k. (
                  suc k,
                  omega (arith, fuel),
                  omega (arith, toll),
                  ap (λ rs. shown w (run_from (suc k) t rs)) (sym replies ∙ is) ∙ ap (shown w) (run_answered asks replied (step lines layout) k q (settled t) (settled u) r rs e (fits_q r true fit))
                      ∙ ap (λ q'. shown w (before q' r (run_from k (resumed q u r) rs))) (sym a.0)
                      ∙ seen_in (before (request_of p s) r (run_from k (resumed q u r) rs)) ∙ shown_before w1 (request_of p s) r rs (run_from k (resumed q u r) rs),
                );
              }
          by_fit false r rs is fit = λ ok. record {
            steps = 1;
            enough = omega (arith, fuel);
            within = toll;
            is = ap (λ rs. shown w (run_from 1 t rs)) (sym replies ∙ is) ∙ ap (shown w) (run_stopped asks replied (step lines layout) 0 q (settled t) (settled u) r rs e (fits_q r false fit))
                ∙ ap (λ q'. shown w (only (Stopped q'))) (sym a.0) ∙ seen_in (only (Stopped (request_of p s)));
          }

          by_replies : (rs : List Replied) → w1.replies ≡ rs → Lands front size (ask_of rs (request_of p s) w1 (λ r w. Normal (record v { seen = hide (resumed p s r) }) w)) t w (t.pc + 4) out again
          by_replies [] is = λ ok. record {
            steps = 1;
            enough = omega (arith, fuel);
            within = toll;
            is = ap (λ rs. shown w (run_from 1 t rs)) (sym replies ∙ is) ∙ ap (shown w) (run_unanswered asks replied (step lines layout) 0 q (settled t) (settled u) e) ∙ ap (λ q'. shown w (only (Asks q'))) (sym a.0)
                ∙ seen_in (only (Asks (request_of p s)));
          }
          by_replies (r ∷ rs) is = by_fit (fits (request_of p s) r) r rs is refl
      asked_lands w1 replies trace fuel toll (Waits p s) (Runs u) e a = absurd a
      asked_lands w1 replies trace fuel toll (Waits p s) (over f) e a = absurd a
      asked_lands w1 replies trace fuel toll (Runs s) d e a = λ ok. absurd (ok refl)
      asked_lands w1 replies trace fuel toll (over e) d e' a = λ ok. absurd (ok refl)
