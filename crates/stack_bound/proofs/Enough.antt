-- A stack that is as deep as each path of calls is never exhausted.
use Rattle.std.proofs.Common.{◌≡◌, ◌≢◌, ℕ, zero, suc, ◌+◌, ◌-◌, ◌%◌, ◌^◌, ◌≤◌, List, [], ◌∷◌, ◌++◌, map, Option, Some, None, Bool, true, false, cond, refl, sym, ap, subst, arith}
use Rattle.std.specs.Prelude.{nat_eq, nat_le, slice_get, slice_index}
use Rattle.std.specs.List.{Contains, flat_map}
use Rattle.std.proofs.lemmas.Bool.Decides.{nat_tests}
use Rattle.std.proofs.lemmas.List.Elements.{Contains-append_left, Contains-append_right}
use Rattle.pan_base.specs.Words.{compare, truth}
use Rattle.pan_base.specs.Events.{Asked, Replied, Spent, Stack, Fails, fits}
use Rattle.pan_control.specs.World.{World as WorldOf, leaving, back_in, tolled, entered}
use Rattle.pan_control.specs.Control.{Outcome as OutcomeOf, Meaning, Normal, Broken, Continued, Returned, Raised, Over, and_then, in_turn, with_value, if_not_zero, spend_of, spend, ask_fit, ask_of, after_body, turn, turns, after_call, left}
use Rattle.pan_control.specs.Runs.{exit_of, seen}
use Rattle.pan_stage.specs.declared.program.Program.{Program}
use Rattle.riscv_isa.specs.Step.{Config, Runs, Waits, Over as over, reg, act}
use Rattle.stack_lang.specs.Frame.{Frame, back_with, framed, unframed}
use Rattle.stack_lang.specs.Meaning.{World, Outcome, Callee, Does, ran, asked, more, after, run_layer, run, body_of, leaves, main_leaves}
use Rattle.stack_lang.specs.declared.syntax.StackFun.{StackFun}
use Rattle.stack_lang.specs.declared.syntax.Stmt.{Stmt, Stmt-F, roll-Stmt, map-Stmt}
use Rattle.stack_lang.specs.declared.syntax.Stmt.TheOpen as stmt
use Rattle.stack_lang.specs.Text.{sites}
use Rattle.stack_lang.proofs.Equations.{stmt_induct, run_roll}
use Rattle.stack_bound.specs.Depth.{IsCallPath, bytes, IsDeepest}
use Rattle.stack_bound.specs.Calls.{calls_of, calls_at, calls_in}
use Rattle.stack_bound.specs.Bounds.{all_sites, frame_of, Suffices}
use Rattle.stack_bound.specs.declared.calls.Call.{Call}
use Rattle.stack_bound.proofs.Rules.{calls_if_at, calls_while_at, calls_called_at, calls_guarded_at, calls_tail_at, calls_seq_at}

-- ---- outcomes

-- where it goes on the variables have P, and where it is over, then not for want of a stack
abbrev KeptIn : {G V X : Type 0} → (V → Type 0) → OutcomeOf G V X → Type 0
KeptIn P (Normal v w) = P v
KeptIn P (Broken v w) = P v
KeptIn P (Continued v w) = P v
KeptIn P (Returned x w) = Unit {0}
KeptIn P (Raised i x w) = Unit {0}
KeptIn P (Over e w) = e ≢ Stack

pub record Keeps {G V X : Type 0} (P : V → Type 0) (o : OutcomeOf G V X) : Type 0 where
  pub kept : KeptIn P o

abbrev pub KeepsFrom : {G V X : Type 0} → (V → Type 0) → Meaning G V X → Type 0
KeepsFrom {G} {V} {X} P m = (v : V) (w : WorldOf G) → P v → Keeps P (m v w)

not_failing : Fails ≢ Stack
not_failing e = cc

not_spent : Spent ≢ Stack
not_spent e = cc

module _ {G V X : Type 0} (P : V → Type 0) where
  pub then_keeps : (o : OutcomeOf G V X) (m : Meaning G V X) → Keeps P o → KeepsFrom P m → Keeps P (and_then o m)
  then_keeps (Normal v w) m h k = k v w h.kept
  then_keeps (Broken v w) m h k = record { kept = h.kept }
  then_keeps (Continued v w) m h k = record { kept = h.kept }
  then_keeps (Returned x w) m h k = record { kept = tt }
  then_keeps (Raised i x w) m h k = record { kept = tt }
  then_keeps (Over e w) m h k = record { kept = h.kept }

  pub spend_keeps : (f : ℕ) (w : WorldOf G) (go : WorldOf G → OutcomeOf G V X) → ((w : WorldOf G) → Keeps P (go w)) → Keeps P (spend_of f w go)
  spend_keeps zero w go h = record { kept = not_spent }
  spend_keeps (suc f) w go h = h (record w { fuel = f })

  pub value_keeps : {A : Type 0} (a : Option A) (w : WorldOf G) (go : A → OutcomeOf G V X) → ((a : A) → Keeps P (go a)) → Keeps P (with_value a w go)
  value_keeps None w go h = record { kept = not_failing }
  value_keeps (Some a) w go h = h a

  pub choice_keeps : (n : ℕ) (a b : OutcomeOf G V X) → Keeps P a → Keeps P b → Keeps P (if_not_zero n a b)
  choice_keeps zero a b h k = k
  choice_keeps (suc n) a b h k = h

  fit_keeps : (b : Bool) (q : Asked) (r : Replied) (w : WorldOf G) (rs : List Replied) (go : Replied → WorldOf G → OutcomeOf G V X) → ((r : Replied) (w : WorldOf G) → Keeps P (go r w)) → Keeps P (ask_fit b q r w rs go)
  fit_keeps false q r w rs go h = record { kept = λ e. cc }
  fit_keeps true q r w rs go h = h r _

  pub ask_keeps : (rs : List Replied) (q : Asked) (w : WorldOf G) (go : Replied → WorldOf G → OutcomeOf G V X) → ((r : Replied) (w : WorldOf G) → Keeps P (go r w)) → Keeps P (ask_of rs q w go)
  ask_keeps [] q w go h = record { kept = λ e. cc }
  ask_keeps (r ∷ rs) q w go h = fit_keeps (fits q r) q r w rs go h

  body_keeps : (o : OutcomeOf G V X) (again : Meaning G V X) → Keeps P o → KeepsFrom P again → Keeps P (after_body o again)
  body_keeps (Normal v w) m h k = k v w h.kept
  body_keeps (Broken v w) m h k = record { kept = h.kept }
  body_keeps (Continued v w) m h k = k v w h.kept
  body_keeps (Returned x w) m h k = record { kept = tt }
  body_keeps (Raised i x w) m h k = record { kept = tt }
  body_keeps (Over e w) m h k = record { kept = h.kept }

  turn_keeps : (before : Meaning G V X) (test : V → WorldOf G → ℕ) (body again : Meaning G V X) → KeepsFrom P before → KeepsFrom P body → KeepsFrom P again → KeepsFrom P (turn before (λ v w. Some (test v w)) body again)
  turn_keeps before test body again hb h ha v w p =
      then_keeps (before v w) _ (hb v w p) (λ v w p. choice_keeps (test v w) _ _ (spend_keeps w.fuel w _ (λ w. body_keeps (body v w) again (h v w p) ha)) (record { kept = p }))

  pub turns_keep : (d : ℕ) (before : Meaning G V X) (test : V → WorldOf G → ℕ) (body : Meaning G V X) → KeepsFrom P before → KeepsFrom P body → KeepsFrom P (turns d before (λ v w. Some (test v w)) body)
  turns_keep zero before test body hb h = turn_keeps before test body _ hb h (λ v w p. record { kept = not_spent })
  turns_keep (suc d) before test body hb h = turn_keeps before test body _ hb h (turns_keep d before test body hb h)

  -- each of them does
  abbrev pub Each : List (Meaning G V X) → Type 0
  Each [] = Unit {0}
  Each (m ∷ ms) = KeepsFrom P m × Each ms

  pub in_turn_keeps : (ms : List (Meaning G V X)) → Each ms → KeepsFrom P (in_turn ms)
  in_turn_keeps [] h v w p = record { kept = p }
  in_turn_keeps (m ∷ ms) h v w p = then_keeps (m v w) (in_turn ms) (h.0 v w p) (in_turn_keeps ms h.1)

  -- a call of what doesn't end for want of a stack
  pub called_keeps : (caller : WorldOf G) (o : OutcomeOf G (Unit {0}) X) (gave : X → WorldOf G → OutcomeOf G V X) (threw : ℕ → X → WorldOf G → OutcomeOf G V X)
      → Keeps (λ u. Unit {0}) o → ((x : X) (w : WorldOf G) → Keeps P (gave x w)) → ((i : ℕ) (x : X) (w : WorldOf G) → Keeps P (threw i x w)) → Keeps P (after_call caller o gave threw)
  called_keeps caller (Normal v w) gave threw h g t = record { kept = not_failing }
  called_keeps caller (Broken v w) gave threw h g t = record { kept = not_failing }
  called_keeps caller (Continued v w) gave threw h g t = record { kept = not_failing }
  called_keeps caller (Returned x w) gave threw h g t = g x (back_in caller w)
  called_keeps caller (Raised i x w) gave threw h g t = t i x (back_in caller w)
  called_keeps caller (Over e w) gave threw h g t = record { kept = h.kept }

pub left_keeps : {G V U X : Type 0} (P : V → Type 0) (Q : U → Type 0) (o : OutcomeOf G V X) → Keeps P o → Keeps Q (left {U = U} o)
left_keeps P Q (Normal v w) h = record { kept = not_failing }
left_keeps P Q (Broken v w) h = record { kept = not_failing }
left_keeps P Q (Continued v w) h = record { kept = not_failing }
left_keeps P Q (Returned x w) h = record { kept = tt }
left_keeps P Q (Raised i x w) h = record { kept = tt }
left_keeps P Q (Over e w) h = record { kept = h.kept }

-- ---- calls in a row

first_in : (c : Call) (cs : List Call) → Contains (c ∷ cs) c
first_in c cs = (0, omega arith, refl)

later_in : (x : Call) (xs : List Call) (c : Call) → Contains xs c → Contains (x ∷ xs) c
later_in x xs c h = let l = h.1 in (suc h.0, omega arith, h.2)

-- ---- statements

-- there is so much room below the frame
pub record HasRoom (room : ℕ) (v : Frame) : Type 0 where
  pub below : room ≤ v.room

module _ (calls : ℕ → List Call) (frame : ℕ → ℕ) where
  -- no path from f takes more than so much
  abbrev pub Covers : ℕ → ℕ → Type 0
  Covers f room = (cs : List Call) → IsCallPath calls f cs → bytes calls frame f cs ≤ room

  abbrev pub CalleeKeeps : Callee → Type 0
  CalleeKeeps callee = (f : ℕ) (v : Frame) (w : World) → Covers f v.room → Keeps (λ u. Unit {0}) (callee f v w)

  -- there is room for each of some calls, in a function with a frame of this size, which a tail call gives up
  abbrev pub AreCovered : ℕ → ℕ → List Call → Type 0
  AreCovered size room cs = (c : Call) → Contains cs c → Covers c.function (cond c.tail (room + size) room)

  module _ (size room d : ℕ) (callee : Callee) (u : CalleeKeeps callee) where
    abbrev Room : Frame → Type 0
    Room = HasRoom room

    abbrev StmtKeeps : Stmt → Type 0
    StmtKeeps x = AreCovered size room (calls_in x) → KeepsFrom Room (run size d callee x)

    ran_keeps : (v : Frame) (c : Config) (w : World) → Room v → Keeps Room (ran v c w)
    ran_keeps v (Runs t) w p = record { kept = record { below = p.below } }
    ran_keeps v (Waits q t) w p = record { kept = not_failing }
    ran_keeps v (over e) w p = record { kept = not_failing }

    asked_keeps : (v : Frame) (c : Config) (w : World) → Room v → Keeps Room (asked v c w)
    asked_keeps v (Runs t) w p = record { kept = not_failing }
    asked_keeps v (Waits q t) w p = ask_keeps Room w.replies _ w _ (λ r w'. record { kept = record { below = p.below } })
    asked_keeps v (over e) w p = record { kept = not_failing }

    abbrev Part : Type 0
    Part = (x : Stmt) × StmtKeeps x

    abbrev stmts_of : List Part → List Stmt
    stmts_of ps = map (λ (p : Part). p.0) ps

    abbrev all_of : List Part → List Does
    all_of ps = map (run size d callee) (stmts_of ps)

    each_keeps : (ps : List Part) → AreCovered size room (flat_map calls_in (stmts_of ps)) → Each Room (all_of ps)
    each_keeps [] k = tt
    each_keeps (p ∷ ps) k =
        (p.1 (λ c h. k c (Contains-append_left (calls_in p.0) (flat_map calls_in (stmts_of ps)) c h)), each_keeps ps (λ c h. k c (Contains-append_right (calls_in p.0) (flat_map calls_in (stmts_of ps)) c h)))

    -- so much more is done
    more_keeps : (n : ℕ) → KeepsFrom Room (more n)
    more_keeps n v w p = record { kept = p }

    call_keeps : (f n : ℕ) (v : Frame) (w : World) (gave : Frame → World → Outcome Frame Frame) (threw : ℕ → Frame → World → Outcome Frame Frame) → Covers f v.room
        → ((x : Frame) (w : World) → Keeps Room (gave x w)) → ((i : ℕ) (x : Frame) (w : World) → Keeps Room (threw i x w))
        → Keeps Room (spend w (λ w'. after_call w (after n callee f v w') gave threw))
    call_keeps f n v w gave threw c g t = spend_keeps Room w.fuel w _ (λ w'. called_keeps Room w (after n callee f v w') gave threw (u f v (tolled n w') c) g t)

    wider : (f a b : ℕ) → a ≤ b → Covers f a → Covers f b
    wider f a b le c cs p = let h = c cs p in omega arith

    abbrev parts : Stmt-F Part → Stmt-F Stmt
    parts y = map-Stmt Part Stmt (λ p. p.0) y

    layer_keeps : (y : Stmt-F Part) → AreCovered size room (calls_in (roll-Stmt (parts y))) → KeepsFrom Room (run_layer size d callee (map-Stmt Stmt Does (run size d callee) (parts y)))
    layer_keeps (stmt.Seq all) k v w p = in_turn_keeps Room (all_of all) (each_keeps all (subst (AreCovered size room) (calls_seq_at (stmts_of all)) k)) v w p
    layer_keeps (stmt.Plain i) k v w p = ran_keeps v (act i v.seen) (tolled 1 w) p
    layer_keeps (stmt.Get r j) k v w p = value_keeps Room (v.slots j) w _ (λ n. record { kept = record { below = p.below } })
    layer_keeps (stmt.Put j r) k v w p = record { kept = record { below = p.below } }
    layer_keeps (stmt.SharedLoad n rd rs1 imm) k v w p = asked_keeps v _ (tolled 1 w) p
    layer_keeps (stmt.SharedStore n rs1 rs2 imm) k v w p = asked_keeps v _ (tolled 1 w) p
    layer_keeps (stmt.Foreign i) k v w p = asked_keeps v _ (tolled 3 w) p
    layer_keeps (stmt.If c a b first second) k v w p = by (compare c (reg v.seen a) (reg v.seen b))
      where
        covered : AreCovered size room (calls_in first.0 ++ calls_in second.0)
        covered = subst (AreCovered size room) (calls_if_at c a b first.0 second.0) k

        by : (q : Bool) → Keeps Room (cond q (run size d callee first.0 v (tolled 3 w)) (and_then (run size d callee second.0 v (tolled 3 w)) (more 2)))
        by true = first.1 (λ x h. covered x (Contains-append_left (calls_in first.0) (calls_in second.0) x h)) v (tolled 3 w) p
        by false =
            then_keeps Room (run size d callee second.0 v (tolled 3 w)) (more 2)
            (second.1 (λ x h. covered x (Contains-append_right (calls_in first.0) (calls_in second.0) x h)) v (tolled 3 w) p) (more_keeps 2)
    layer_keeps (stmt.While before c a b body) k v w p =
        turns_keep Room d (λ v w. and_then (in_turn (all_of before) v w) (more 3)) (λ (v : Frame) (w : World). truth c (reg v.seen a) (reg v.seen b)) (run size d callee body.0)
        (λ v w p. then_keeps Room (in_turn (all_of before) v w) (more 3) (in_turn_keeps Room (all_of before) (each_keeps before (λ x h. covered x (Contains-append_left (flat_map calls_in (stmts_of before)) (calls_in body.0) x h))) v w p) (more_keeps 3))
        (body.1 (λ x h. covered x (Contains-append_right (flat_map calls_in (stmts_of before)) (calls_in body.0) x h))) v (tolled 2 w) p
      where
        covered : AreCovered size room (flat_map calls_in (stmts_of before) ++ calls_in body.0)
        covered = subst (AreCovered size room) (calls_while_at (stmts_of before) c a b body.0) k
    layer_keeps stmt.Break k v w p = record { kept = p }
    layer_keeps stmt.Continue k v w p = record { kept = p }
    layer_keeps (stmt.Call f returned None) k v w p =
        call_keeps f 2 v w _ _ (wider f room v.room p.below (covered (record { function = f; tail = false }) (first_in (record { function = f; tail = false }) (calls_in returned.0))))
        (λ x w. returned.1 (λ c h. covered c (later_in (record { function = f; tail = false }) (calls_in returned.0) c h)) (back_with v x) w (record { below = p.below }))
        (λ i x w. record { kept = tt })
      where
        covered : AreCovered size room (record { function = f; tail = false } ∷ calls_in returned.0)
        covered = subst (AreCovered size room) (calls_called_at f returned.0) k
    layer_keeps (stmt.Call f returned (Some h)) k v w p =
        call_keeps f 7 v w _ _ (wider f room v.room p.below (covered (record { function = f; tail = false }) (first_in (record { function = f; tail = false }) (calls_in returned.0 ++ calls_in (h.body).0))))
        (λ x w.
        then_keeps Room (run size d callee returned.0 (back_with v x) (tolled 1 w)) (more 2)
        (returned.1 (λ c i. covered c (later_in (record { function = f; tail = false }) (calls_in returned.0 ++ calls_in (h.body).0) c (Contains-append_left (calls_in returned.0) (calls_in (h.body).0) c i))) (back_with v x) (tolled 1 w) (record { below = p.below }))
        (more_keeps 2))
        (λ i x w. by i x w (nat_eq i h.exception))
      where
        covered : AreCovered size room (record { function = f; tail = false } ∷ (calls_in returned.0 ++ calls_in (h.body).0))
        covered = subst (AreCovered size room) (calls_guarded_at f returned.0 (record { exception = h.exception; body = (h.body).0 })) k

        by : (i : ℕ) (x : Frame) (w : World) → (q : Bool) → Keeps Room (cond q (run size d callee (h.body).0 (back_with v x) (tolled 7 w)) (Raised i x (tolled 9 w)))
        by i x w true =
            (h.body).1 (λ c j. covered c (later_in (record { function = f; tail = false }) (calls_in returned.0 ++ calls_in (h.body).0) c (Contains-append_right (calls_in returned.0) (calls_in (h.body).0) c j))) (back_with v x) (tolled 7 w) (record { below = p.below })
        by i x w false = record { kept = tt }
    layer_keeps (stmt.TailCall f) k v w p =
        spend_keeps Room w.fuel w _ (λ w'.
        left_keeps (λ u. Unit {0}) Room _ (u f (unframed size v) (tolled 6 (leaving w')) (wider f (room + size) (v.room + size) (let le = p.below in omega arith) (covered (record { function = f; tail = true }) (first_in (record { function = f; tail = true }) [])))))
      where
        covered : AreCovered size room (record { function = f; tail = true } ∷ [])
        covered = subst (AreCovered size room) (calls_tail_at f) k
    layer_keeps stmt.Return k v w p = record { kept = tt }
    layer_keeps (stmt.Raise i) k v w p = record { kept = tt }

    pub run_keeps : (x : Stmt) → StmtKeeps x
    run_keeps = stmt_induct StmtKeeps (λ y k v w p. subst (λ (m : Does). Keeps Room (m v w)) (sym (run_roll size d callee (parts y))) (layer_keeps y k v w p))

-- ---- functions

-- what the calls and the frame of a function are, by its number
is_at : (fs : List StackFun) (f : ℕ) (g : StackFun) → slice_get fs f ≡ Some g → (calls_at (map (λ (h : StackFun). sites h.body) fs) f ≡ calls_in g.body) × (slice_index (map (λ (h : StackFun). h.frame) fs) f ≡ g.frame)
unfolding calls_in
is_at [] f g e = absurd (cc e)
is_at (x ∷ xs) zero g e = let is : x ≡ g = cc e in (ap (λ (h : StackFun). calls_of (sites h.body)) is, ap (λ (h : StackFun). h.frame) is)
is_at (x ∷ xs) (suc f) g e = is_at xs f g e

-- below a call there is room for what the whole path leaves
below_call : (t : Bool) (own size below room : ℕ) → own ≡ size → own ≤ room → cond t below (own + below) ≤ room → below ≤ cond t (room - size + size) (room - size)
below_call true own size below room is le h = omega arith
below_call false own size below room is le h = omega arith

module _ (p : Program StackFun) where
  abbrev calls : ℕ → List Call
  calls = calls_at (all_sites p)

  abbrev AllKeep : ℕ → Type 0
  AllKeep d = CalleeKeeps calls (frame_of p) (leaves p.functions d)

  leaves_keep : (d : ℕ) → AllKeep d
  leaves_keep zero f v w c = record { kept = not_spent }
  leaves_keep (suc d) f v w c = by (slice_get p.functions f) refl (leaves_keep d)
    where
      by : (o : Option StackFun) → slice_get p.functions f ≡ o → AllKeep d → Keeps (λ u. Unit {0}) (with_value o w (λ g. body_of (nat_le g.frame v.room) d (leaves p.functions d) g v w))
      by None e u = record { kept = not_failing }
      by (Some g) e u = enters (nat_le g.frame v.room) refl
        where
          calls_are : calls f ≡ calls_in g.body
          calls_are = (is_at p.functions f g e).0

          frame_is : frame_of p f ≡ g.frame
          frame_is = (is_at p.functions f g e).1

          fits_in : frame_of p f ≤ v.room
          fits_in = c [] tt

          covered : AreCovered calls (frame_of p) g.frame (v.room - g.frame) (calls_in g.body)
          covered x h cs path =
              below_call x.tail (frame_of p f) g.frame (bytes calls (frame_of p) x.function cs) v.room frame_is fits_in (c (x ∷ cs) (subst (λ ys. Contains ys x) (sym calls_are) h, path))

          enters : (b : Bool) → nat_le g.frame v.room ≡ b → Keeps (λ u. Unit {0}) (body_of b d (leaves p.functions d) g v w)
          enters false q = let a : g.frame ≤ v.room = omega (arith, fits_in, frame_is) in absurd (grind (arith, nat_tests))
          enters true q =
              left_keeps (HasRoom (v.room - g.frame)) (λ u. Unit {0}) _
              (run_keeps calls (frame_of p) g.frame (v.room - g.frame) d (leaves p.functions d) u g.body covered (framed g.frame v) (entered g.cost (tolled 6 w)) (record { below = (let le : v.room - g.frame ≤ v.room - g.frame = omega arith in le) }))

exit_no_stack : (o : Option ℕ) → exit_of o ≢ Stack
exit_no_stack None e = cc
exit_no_stack (Some n) e = cc

seen_no_stack : (word : Frame → Option ℕ) (o : Outcome (Unit {0}) Frame) → Keeps (λ u. Unit {0}) o → (((seen word o).behaviour).ending) ≢ Stack
seen_no_stack word (Normal v w) h = not_failing
seen_no_stack word (Broken v w) h = not_failing
seen_no_stack word (Continued v w) h = not_failing
seen_no_stack word (Returned x w) h = exit_no_stack (word x)
seen_no_stack word (Raised i x w) h = λ e. cc
seen_no_stack word (Over e w) h = h.kept

-- a stack as deep as each path of calls from main is enough
pub suffices : (p : Program StackFun) (n : ℕ) → IsDeepest (calls_at (all_sites p)) (frame_of p) p.main n → Suffices p n
suffices p n deepest size m r fuel le =
    seen_no_stack (λ (v : Frame). Some (reg v.seen 10 % 2 ^ 64)) (main_leaves p size m r fuel) (leaves_keep p (suc fuel) p.main _ _ (λ cs path. let h = deepest.most cs path in omega arith))
