-- A run ends for want of fuel only where none is left: the bound on turns and calls never shows.
use Rattle.std.proofs.Common.{◌≡◌, ℕ, zero, suc, ◌<◌, ◌≤◌, List, [], ◌∷◌, map, Option, Some, None, Bool, true, false, cond, refl, sym, subst, arith}
use Rattle.std.specs.Prelude.{nat_eq, nat_le, slice_get}
use Rattle.pan_base.specs.Words.{compare, truth}
use Rattle.pan_base.specs.Events.{Asked, Replied, Spent, Fails, fits}
use Rattle.pan_control.specs.World.{World as WorldOf, leaving, back_in, tolled, entered}
use Rattle.pan_control.specs.Control.{Outcome as OutcomeOf, Meaning, Normal, Broken, Continued, Returned, Raised, Over, and_then, in_turn, with_value, if_not_zero, spend_of, spend, ask_fit, ask_of, after_body, turn, turns, after_call, left, world_of}
use Rattle.riscv_isa.specs.Step.{Config, Runs, Waits, Over as over, reg, act}
use Rattle.stack_lang.specs.Frame.{Frame, back_with, framed}
use Rattle.stack_lang.specs.Meaning.{World, Outcome, Callee, Does, ran, asked, more, after, run_layer, run, body_of, leaves}
use Rattle.stack_lang.specs.declared.syntax.StackFun.{StackFun}
use Rattle.stack_lang.specs.declared.syntax.Stmt.{Stmt, Stmt-F, map-Stmt}
use Rattle.stack_lang.specs.declared.syntax.Stmt.TheOpen as stmt
use Rattle.stack_lang.proofs.Equations.{stmt_induct, run_roll}

-- where it is spent no fuel is left
abbrev pub NoneIfSpent : {G V X : Type 0} → OutcomeOf G V X → Type 0
NoneIfSpent (Over e w) = e ≡ Spent → w.fuel ≡ 0
NoneIfSpent _ = Unit {0}

-- a run from so much fuel leaves no more, and none where it is spent
pub record Uses {G V X : Type 0} (fuel : ℕ) (o : OutcomeOf G V X) : Type 0 where
  pub left : (world_of o).fuel ≤ fuel
  pub none : NoneIfSpent o

-- so does each run from at most d units
abbrev pub UsesUpTo : ℕ → {G V X : Type 0} → Meaning G V X → Type 0
UsesUpTo d {G} {V} {X} m = (v : V) (w : WorldOf G) → w.fuel ≤ d → Uses w.fuel (m v w)

module _ {G V X : Type 0} where
  pub fewer : (m n : ℕ) (o : OutcomeOf G V X) → m ≤ n → Uses m o → Uses n o
  fewer m n o le u = record { left = omega (arith, u.left); none = u.none }

  -- a run that fails
  abbrev pub failing : WorldOf G → OutcomeOf G V X
  failing w = Over Fails w

  pub fails : (w : WorldOf G) (n : ℕ) → w.fuel ≤ n → Uses n (failing w)
  fails w n le = record { left = le; none = λ e. absurd (cc e) }

  pub then_uses : (d n : ℕ) (o : OutcomeOf G V X) (m : Meaning G V X) → n ≤ d → Uses n o → UsesUpTo d m → Uses n (and_then o m)
  then_uses d n (Normal v w) m le u h = fewer w.fuel n (m v w) u.left (h v w (omega (arith, u.left)))
  then_uses d n (Broken v w) m le u h = record { left = u.left; none = tt }
  then_uses d n (Continued v w) m le u h = record { left = u.left; none = tt }
  then_uses d n (Returned x w) m le u h = record { left = u.left; none = tt }
  then_uses d n (Raised i x w) m le u h = record { left = u.left; none = tt }
  then_uses d n (Over e w) m le u h = record { left = u.left; none = u.none }

  spend_of_uses : (f : ℕ) (w : WorldOf G) (go : WorldOf G → OutcomeOf G V X) → w.fuel ≡ f → ((w' : WorldOf G) → w'.fuel < w.fuel → Uses w'.fuel (go w')) → Uses w.fuel (spend_of f w go)
  spend_of_uses zero w go is h = record { left = omega arith; none = λ e. is }
  spend_of_uses (suc f) w go is h = fewer f w.fuel (go (record w { fuel = f })) (omega arith) (h (record w { fuel = f }) (omega arith))

  pub spend_uses : (w : WorldOf G) (go : WorldOf G → OutcomeOf G V X) → ((w' : WorldOf G) → w'.fuel < w.fuel → Uses w'.fuel (go w')) → Uses w.fuel (spend w go)
  spend_uses w go h = spend_of_uses w.fuel w go refl h

  pub ask_uses : (rs : List Replied) (q : Asked) (w : WorldOf G) (go : Replied → WorldOf G → OutcomeOf G V X) → ((r : Replied) (w' : WorldOf G) → w'.fuel ≡ w.fuel → Uses w.fuel (go r w')) → Uses w.fuel (ask_of rs q w go)
  ask_uses [] q w go h = record { left = omega arith; none = λ e. absurd (cc e) }
  ask_uses (r ∷ rs) q w go h = by (fits q r)
    where
      by : (b : Bool) → Uses w.fuel (ask_fit b q r w rs go)
      by false = record { left = omega arith; none = λ e. absurd (cc e) }
      by true = h r _ refl

  pub body_uses : (d n : ℕ) (o : OutcomeOf G V X) (again : Meaning G V X) → n ≤ d → Uses n o → UsesUpTo d again → Uses n (after_body o again)
  body_uses d n (Normal v w) m le u h = fewer w.fuel n (m v w) u.left (h v w (omega (arith, u.left)))
  body_uses d n (Broken v w) m le u h = record { left = u.left; none = tt }
  body_uses d n (Continued v w) m le u h = fewer w.fuel n (m v w) u.left (h v w (omega (arith, u.left)))
  body_uses d n (Returned x w) m le u h = record { left = u.left; none = tt }
  body_uses d n (Raised i x w) m le u h = record { left = u.left; none = tt }
  body_uses d n (Over e w) m le u h = record { left = u.left; none = u.none }

  -- a turn, where the next one is run with less
  turn_uses : (d : ℕ) (before : Meaning G V X) (test : V → WorldOf G → ℕ) (body again : Meaning G V X) → UsesUpTo d before → UsesUpTo d body → ((v : V) (w : WorldOf G) → w.fuel < d → Uses w.fuel (again v w)) → UsesUpTo d (turn before (λ v w. Some (test v w)) body again)
  turn_uses d before test body again hb h ha v w le = then_uses d w.fuel (before v w) _ le (hb v w le) (λ v w le. by (test v w) v w le)
    where
      by : (n : ℕ) (v : V) (w : WorldOf G) → w.fuel ≤ d → Uses w.fuel (if_not_zero n (spend w (λ w. after_body (body v w) again)) (Normal v w))
      by zero v w le = record { left = omega arith; none = tt }
      by (suc n) v w le = spend_uses w _ (λ w' less. body_less w'.fuel (body v w') (omega arith) (h v w' (omega arith)))
        where
          body_less : (n : ℕ) (o : OutcomeOf G V X) → n < d → Uses n o → Uses n (after_body o again)
          body_less n (Normal v w) less u = fewer w.fuel n (again v w) u.left (ha v w (omega (arith, u.left)))
          body_less n (Broken v w) less u = record { left = u.left; none = tt }
          body_less n (Continued v w) less u = fewer w.fuel n (again v w) u.left (ha v w (omega (arith, u.left)))
          body_less n (Returned x w) less u = record { left = u.left; none = tt }
          body_less n (Raised i x w) less u = record { left = u.left; none = tt }
          body_less n (Over e w) less u = record { left = u.left; none = u.none }

  pub turns_use : (k d : ℕ) (before : Meaning G V X) (test : V → WorldOf G → ℕ) (body : Meaning G V X) → k ≤ d → UsesUpTo d before → UsesUpTo d body → UsesUpTo k (turns k before (λ v w. Some (test v w)) body)
  turns_use zero d before test body le hb h = turn_uses zero before test body _ (λ v w l. hb v w (omega arith)) (λ v w l. h v w (omega arith)) (λ v w less. absurd (omega arith))
  turns_use (suc k) d before test body le hb h =
      let next = turns_use k d before test body (omega arith) hb h in
      turn_uses (suc k) before test body _ (λ v w l. hb v w (omega arith)) (λ v w l. h v w (omega arith)) (λ v w less. next v w (omega arith))

  pub called_uses : (caller : WorldOf G) (n : ℕ) (o : OutcomeOf G (Unit {0}) X) (gave : X → WorldOf G → OutcomeOf G V X) (threw : ℕ → X → WorldOf G → OutcomeOf G V X) → Uses n o
      → ((x : X) (w : WorldOf G) → w.fuel ≤ n → Uses n (gave x w)) → ((i : ℕ) (x : X) (w : WorldOf G) → w.fuel ≤ n → Uses n (threw i x w)) → Uses n (after_call caller o gave threw)
  called_uses caller n (Normal v w) gave threw u g t = fails w n u.left
  called_uses caller n (Broken v w) gave threw u g t = fails w n u.left
  called_uses caller n (Continued v w) gave threw u g t = fails w n u.left
  called_uses caller n (Returned x w) gave threw u g t = g x (back_in caller w) u.left
  called_uses caller n (Raised i x w) gave threw u g t = t i x (back_in caller w) u.left
  called_uses caller n (Over e w) gave threw u g t = record { left = u.left; none = u.none }

  -- each does so
  abbrev pub Each : ℕ → List (Meaning G V X) → Type 0
  Each d [] = Unit {0}
  Each d (m ∷ ms) = UsesUpTo d m × Each d ms

  pub in_turn_uses : (d : ℕ) (ms : List (Meaning G V X)) → Each d ms → UsesUpTo d (in_turn ms)
  in_turn_uses d [] h v w le = record { left = omega arith; none = tt }
  in_turn_uses d (m ∷ ms) h v w le = then_uses d w.fuel (m v w) (in_turn ms) le (h.0 v w le) (in_turn_uses d ms h.1)

pub left_uses : {G V U X : Type 0} (n : ℕ) (o : OutcomeOf G V X) → Uses n o → Uses n (left {U = U} o)
left_uses n (Normal v w) u = fails w n u.left
left_uses n (Broken v w) u = fails w n u.left
left_uses n (Continued v w) u = fails w n u.left
left_uses n (Returned x w) u = record { left = u.left; none = tt }
left_uses n (Raised i x w) u = record { left = u.left; none = tt }
left_uses n (Over e w) u = record { left = u.left; none = u.none }

-- ---- statements

-- each function does so from less than d units
abbrev pub CalleeUses : ℕ → Callee → Type 0
CalleeUses d callee = (f : ℕ) (v : Frame) (w : World) → w.fuel < d → Uses w.fuel (callee f v w)

ran_uses : (v : Frame) (c : Config) (w : World) → Uses w.fuel (ran v c w)
ran_uses v (Runs s) w = record { left = omega arith; none = tt }
ran_uses v (Waits p s) w = fails w w.fuel (omega arith)
ran_uses v (over e) w = fails w w.fuel (omega arith)

asked_uses : (v : Frame) (c : Config) (w : World) → Uses w.fuel (asked v c w)
asked_uses v (Runs s) w = fails w w.fuel (omega arith)
asked_uses v (Waits p s) w = ask_uses w.replies _ w _ (λ r w' e. record { left = omega arith; none = tt })
asked_uses v (over e) w = fails w w.fuel (omega arith)

got_uses : (o : Option ℕ) (w : World) (go : ℕ → Outcome Frame Frame) → ((n : ℕ) → Uses w.fuel (go n)) → Uses w.fuel (with_value o w go)
got_uses None w go h = fails w w.fuel (omega arith)
got_uses (Some n) w go h = h n

module _ (size d : ℕ) (callee : Callee) (u : CalleeUses d callee) where
  abbrev pub StmtUses : Stmt → Type 0
  StmtUses s = UsesUpTo d (run size d callee s)

  abbrev all_of : List ((s : Stmt) × StmtUses s) → List Does
  all_of ss = map (run size d callee) (map (λ p. p.0) ss)

  each_uses : (ss : List ((s : Stmt) × StmtUses s)) → Each d (all_of ss)
  each_uses [] = tt
  each_uses (s ∷ ss) = (s.1, each_uses ss)

  abbrev parts : Stmt-F ((s : Stmt) × StmtUses s) → Stmt-F Does
  parts y = map-Stmt Stmt Does (run size d callee) (map-Stmt ((s : Stmt) × StmtUses s) Stmt (λ p. p.0) y)

  call_uses : (f : ℕ) (n : ℕ) (v : Frame) (w : World) (gave : Frame → World → Outcome Frame Frame) (threw : ℕ → Frame → World → Outcome Frame Frame) → w.fuel ≤ d
      → ((x : Frame) (w : World) → w.fuel ≤ d → Uses w.fuel (gave x w)) → ((i : ℕ) (x : Frame) (w : World) → w.fuel ≤ d → Uses w.fuel (threw i x w))
      → Uses w.fuel (spend w (λ w'. after_call w (after n callee f v w') gave threw))
  call_uses f n v w gave threw le g t =
      spend_uses w _ (λ w' less.
      called_uses w w'.fuel (after n callee f v w') gave threw (u f v (tolled n w') (omega arith)) (λ x w'' l. fewer w''.fuel w'.fuel (gave x w'') l (g x w'' (omega arith))) (λ i x w'' l. fewer w''.fuel w'.fuel (threw i x w'') l (t i x w'' (omega arith))))

  layer_uses : (y : Stmt-F ((s : Stmt) × StmtUses s)) → UsesUpTo d (run_layer size d callee (parts y))
  layer_uses (stmt.Seq all) v w le = in_turn_uses d (all_of all) (each_uses all) v w le
  layer_uses (stmt.Plain i) v w le = ran_uses v (act i v.seen) (tolled 1 w)
  layer_uses (stmt.Get r k) v w le = got_uses (v.slots k) w _ (λ n. record { left = omega arith; none = tt })
  layer_uses (stmt.Put k r) v w le = record { left = omega arith; none = tt }
  layer_uses (stmt.SharedLoad n rd rs1 imm) v w le = asked_uses v _ (tolled 1 w)
  layer_uses (stmt.SharedStore n rs1 rs2 imm) v w le = asked_uses v _ (tolled 1 w)
  layer_uses (stmt.Foreign i) v w le = asked_uses v _ (tolled 3 w)
  layer_uses (stmt.If c a b first second) v w le = by (compare c (reg v.seen a) (reg v.seen b))
    where
      by : (q : Bool) → Uses w.fuel (cond q (run size d callee first.0 v (tolled 3 w)) (and_then (run size d callee second.0 v (tolled 3 w)) (more 2)))
      by true = first.1 v (tolled 3 w) le
      by false = then_uses d w.fuel (run size d callee second.0 v (tolled 3 w)) (more 2) le (second.1 v (tolled 3 w) le) (λ v w l. record { left = omega arith; none = tt })
  layer_uses (stmt.While before c a b body) v w le =
      turns_use d d (λ v w. and_then (in_turn (all_of before) v w) (more 3)) (λ (v : Frame) (w : World). truth c (reg v.seen a) (reg v.seen b)) (run size d callee body.0) (omega arith)
      (λ v w l. then_uses d w.fuel (in_turn (all_of before) v w) (more 3) l (in_turn_uses d (all_of before) (each_uses before) v w l) (λ v w l. record { left = omega arith; none = tt }))
      body.1 v (tolled 2 w) le
  layer_uses stmt.Break v w le = record { left = omega arith; none = tt }
  layer_uses stmt.Continue v w le = record { left = omega arith; none = tt }
  layer_uses (stmt.Call f returned None) v w le = call_uses f 2 v w _ _ le (λ x w l. returned.1 (back_with v x) w l) (λ i x w l. record { left = omega arith; none = tt })
  layer_uses (stmt.Call f returned (Some h)) v w le =
      call_uses f 7 v w _ _ le
      (λ x w l. then_uses d w.fuel (run size d callee returned.0 (back_with v x) (tolled 1 w)) (more 2) l (returned.1 (back_with v x) (tolled 1 w) l) (λ v w l. record { left = omega arith; none = tt }))
      (λ i x w l. by i x w l (nat_eq i h.exception))
    where
      by : (i : ℕ) (x : Frame) (w : World) → w.fuel ≤ d → (q : Bool) → Uses w.fuel (cond q (run size d callee (h.body).0 (back_with v x) (tolled 7 w)) (Raised i x (tolled 9 w)))
      by i x w l true = (h.body).1 (back_with v x) (tolled 7 w) l
      by i x w l false = record { left = omega arith; none = tt }
  layer_uses (stmt.TailCall f) v w le = spend_uses w _ (λ w' less. left_uses w'.fuel _ (u f _ (tolled 6 (leaving w')) (omega arith)))
  layer_uses stmt.Return v w le = record { left = omega arith; none = tt }
  layer_uses (stmt.Raise i) v w le = record { left = omega arith; none = tt }

  pub run_uses : (s : Stmt) → StmtUses s
  run_uses = stmt_induct StmtUses (λ y. subst (UsesUpTo d) (sym (run_roll size d callee (map-Stmt ((s : Stmt) × StmtUses s) Stmt (λ p. p.0) y))) (layer_uses y))

-- ---- functions

pub leaves_use : (fs : List StackFun) (d : ℕ) → CalleeUses d (leaves fs d)
leaves_use fs zero f v w less = absurd (omega arith)
leaves_use fs (suc d) f v w less = by (slice_get fs f) (leaves_use fs d)
  where
    by : (o : Option StackFun) → CalleeUses d (leaves fs d) → Uses w.fuel (with_value o w (λ g. body_of (nat_le g.frame v.room) d (leaves fs d) g v w))
    by None u = fails w w.fuel (omega arith)
    by (Some g) u = entered_uses (nat_le g.frame v.room)
      where
        entered_uses : (b : Bool) → Uses w.fuel (body_of b d (leaves fs d) g v w)
        entered_uses false = record { left = omega arith; none = λ e. absurd (cc e) }
        entered_uses true = left_uses w.fuel _ (run_uses g.frame d (leaves fs d) u g.body (framed g.frame v) (entered g.cost (tolled 6 w)) (omega arith))
