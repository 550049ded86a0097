-- A call under a handler in its place, tail calls, returns, raises and slots.
use Rattle.std.proofs.Common.{◌≡◌, ℕ, pos, zero, suc, ◌+◌, ◌-◌, ◌*◌, ◌%◌, ◌^◌, ◌<◌, ◌≤◌, refl, sym, ap, ◌∙◌, subst, Bool, true, false, cond, List, [], ◌∷◌, ◌++◌, length, Option, Some, None, inl, inr, arith}
use Rattle.std.specs.Prelude.{◌⊎◌, nat_eq}
use Rattle.std.proofs.lemmas.Bool.Decides.{nat_tests}
use Rattle.pan_base.specs.declared.operators.Cmp.TheVariants.{Ne}
use Rattle.pan_base.specs.declared.operators.LOp.TheVariants.{Ld}
use Rattle.pan_base.specs.declared.operators.SOp.TheVariants.{Sd}
use Rattle.pan_base.specs.declared.operators.IOp.TheVariants.{Addi}
use Rattle.pan_control.specs.World.{tolled, leaving}
use Rattle.pan_control.specs.Control.{Normal, Broken, Continued, Returned, Raised, Over, and_then, spend_of, after_call, left, with_value, tail_call}
use Rattle.riscv_isa.specs.declared.instr.Instr.TheVariants as instr
use Rattle.pan_base.specs.declared.events.Size.TheVariants.{B8}
use Rattle.pan_base.specs.Bytes.{number_at}
use Rattle.pan_base.specs.Results.{plus}
use Rattle.riscv_isa.specs.Step.{State, reg, with_reg, next}
use Rattle.lab_lang.specs.declared.syntax.Line.{Line}
use Rattle.lab_lang.specs.declared.syntax.Line.TheVariants as line
use Rattle.stack_lang.specs.Shown.{hide, IsVisible, IsWritable}
use Rattle.stack_lang.specs.declared.syntax.Catch.{Catch}
use Rattle.stack_lang.specs.Frame.{Frame, with_register, with_slot, back_with}
use Rattle.stack_lang.specs.Meaning.{World, Outcome, Callee, Does, more, after, caught, calls}
use Rattle.lab_flatten.specs.Flatten.{slot_at, reach, base, rest, off, pushed, unwind_lines}
use Rattle.lab_flatten.proofs.Hiding.{apart, hidden_1, hide_hide, reg_hide, with_reg_seen, shown_of, Follows, follows_reg}
use Rattle.lab_flatten.proofs.Machine.{sets_reg, sets_pc, word, map_kept, loads_word, stored, stores_word, Stored, stored_is, stored_keeps, plus_small, Outer, outer_on, sets_outer, stored_outer, kept_on, sets_kept, follows_kept, saved, saved_same, IsFrame, Ready, Begins, frame_word}
use Rattle.lab_flatten.proofs.Lines.{At, Here, Stands, stands_split, stands_at, past_label, goes_on, step_plain, step_reg, Moved, jump_moved, call_moved, jump_back, reached, Unframed, unframed}
use Rattle.lab_flatten.proofs.Lands.{Sees, sets_sees, Steps, steps_on, steps_goes, Comes, stops_by, stops_spent, moved_comes, Lands, Leaves, Enters, threw_on, LandsFrom, then_lands}
use Rattle.lab_flatten.proofs.Calls.{reg_zero, word_same, is_word_same, Pushed, pushes, Caller, begins_of, guarded_left}

module _ (lines : List Line) (layout : List (ℕ × ℕ)) (unwind_at : ℕ) where
  abbrev From : ℕ → ℕ → Does → ℕ → ℕ → ℕ → ℕ → Type 0
  From front size m at on out again = LandsFrom lines layout unwind_at front size m at on out again

  abbrev To : ℕ → ℕ → Outcome Frame Frame → State → World → ℕ → ℕ → ℕ → Type 0
  To front size o t w on out again = Lands lines layout unwind_at front size o t w on out again

  -- a jump with its part of the toll
  pub jump_lands : (front size l n at to : ℕ) (t : State) (v : Frame) (w : World) → t.pc ≡ at → Ready front size t → Sees front size v t → Here lines layout (line.Jump l) n at → At lines layout l to → Comes lines layout front size t w v (tolled 2 w) to
  jump_lands front size l n at to t v w e r s here there =
      moved_comes lines layout front size t to 2 v w (tolled 2 w) (jump_moved lines layout t l n to r.count (subst (Here lines layout (line.Jump l) n) (sym e) here) there) s refl refl (omega arith) (omega arith)

  -- ---- a call under a handler

  module _ (unwind uncaught unwind_end : ℕ) (unwind_stands : Stands lines layout unwind_at (unwind_lines unwind uncaught) unwind_end) (front size : ℕ) (frame : IsFrame front size) (three : 3 ≤ front) where
    pushed_caller : (handler : ℕ) (t : State) → Ready front size t → (p : Pushed lines layout handler t) → Caller lines layout p.state
    pushed_caller handler t r p =
        let sp = p.sp in let newest = p.newest in
        let wide = frame.wide in
        record {
          map = map_kept t.memory (p.state).memory r.map p.sizes;
          count = p.count ∙ r.count;
          whole = ap (λ n. n % 8) sp ∙ r.whole;
          low = let h = r.low in omega arith;
          limit = p.limit ∙ r.limit;
          top = let h = r.frame in let l = (p.sizes).stack in omega arith;
          newest = let h = r.frame in let l = (r.map).stack in omega arith;
        }

    pub guarded_call : (d : ℕ) (g : Callee) → Enters lines layout unwind_at g → (f n entry at to out again : ℕ) (xs ys : List Line) (ms : Does) (h : Catch Does) → h.exception < 2 ^ 11
        → Stands lines layout at (pushed n (line.CallTo f ∷ line.Plain (instr.L Ld 8 2 (pos 8)) ∷ (xs ++ line.Jump (n + 1) ∷ line.Label n ∷ line.Plain (instr.I Addi 9 0 (pos h.exception)) ∷ line.Branch Ne 1 9 unwind ∷ (ys ++ line.Label (n + 1) ∷ [])))) to
        → At lines layout f entry
        → ((at to : ℕ) → Stands lines layout at xs to → From front size ms at to out again) → ((at : ℕ) → Stands lines layout at ys to → From front size h.body at to out again)
        → From front size (calls size d g f ms (Some h)) at to out again
    guarded_call d g enters f n entry at to out again xs ys ms h few stands there land_s land_h t v e r s w = by w.fuel refl
      where
        no_more : (at n : ℕ) → n ≡ 0 → at + 4 * n ≡ at
        no_more at n e = omega arith

        by : (k : ℕ) → w.fuel ≡ k → To front size (spend_of k w (λ w'. after_call w (after 7 g f v w') (λ x w. and_then (ms (back_with v x) (tolled 1 w)) (more 2)) (caught h v))) t w to out again
        by zero fuel = λ ok. stops_spent lines layout t w w refl refl refl
        by (suc k) fuel =
            let h2 = stands.2 in let h3 = h2.2 in let h4 = h3.2 in let h5 = h4.2 in
            let p0 = at + 4 * stands.0 + 4 * h2.0 + 4 * h3.0 + 4 * h4.0 in
            let e1 = (stands.1).0 in let e2 = (h2.1).0 in let e3 = (h3.1).0 in let e4 = (h4.1).0 in
            let nc = h5.0 in
            let h6 = h5.2 in
            let e6 = (h6.1).0 in
            let x = stands_split lines layout (p0 + 4 * nc + 4 * h6.0) xs (line.Jump (n + 1) ∷ line.Label n ∷ line.Plain (instr.I Addi 9 0 (pos h.exception)) ∷ line.Branch Ne 1 9 unwind ∷ (ys ++ line.Label (n + 1) ∷ [])) to h6.2 in
            let mid = x.0 in
            let nj = (x.2).0 in
            let lab = (x.2).2 in
            let handler = mid + 4 * nj in
            let at_handler : At lines layout n handler = (lab.1).1 in
            let aligned : handler % 4 ≡ 0 = (lab.1).2 in
            let small : handler < 2 ^ 64 = (lab.1).3 in
            let hs = past_label lines layout n handler (line.Plain (instr.I Addi 9 0 (pos h.exception)) ∷ line.Branch Ne 1 9 unwind ∷ (ys ++ line.Label (n + 1) ∷ [])) to lab in
            let e7 = (hs.1).0 in
            let hb = hs.2 in
            let y = stands_split lines layout (handler + 4 * hs.0 + 4 * hb.0) ys (line.Label (n + 1) ∷ []) to hb.2 in
            let end : y.0 ≡ to = sym (no_more y.0 (y.2).0 ((y.2).1).0) ∙ (y.2).2 in
            let at_end : At lines layout (n + 1) to = ((y.2).1).1 ∙ ap (λ a. Some a) end in
            let p = pushes lines layout front size n handler to (line.CallTo f ∷ line.Plain (instr.L Ld 8 2 (pos 8)) ∷ (xs ++ line.Jump (n + 1) ∷ line.Label n ∷ line.Plain (instr.I Addi 9 0 (pos h.exception)) ∷ line.Branch Ne 1 9 unwind ∷ (ys ++ line.Label (n + 1) ∷ []))) t frame three r
            (stands_at lines layout at t.pc (pushed n (line.CallTo f ∷ line.Plain (instr.L Ld 8 2 (pos 8)) ∷ (xs ++ line.Jump (n + 1) ∷ line.Label n ∷ line.Plain (instr.I Addi 9 0 (pos h.exception)) ∷ line.Branch Ne 1 9 unwind ∷ (ys ++ line.Label (n + 1) ∷ [])))) to (sym e) stands) at_handler small in
            let q = p.state in
            let pc : q.pc ≡ p0 = (let a = p.pc in omega arith) in
            let here : Here lines layout (line.CallTo f) nc q.pc = subst (λ a. Here lines layout (line.CallTo f) nc a) (sym pc) h5.1 in
            let caller = pushed_caller handler t r p in
            let c = call_moved lines layout q f nc entry caller.count here there in
            let back = q.pc + 4 * nc in
            let w3 = tolled 7 (record w { fuel = k }) in
            let some = c.some in let few_steps = c.few in
            let restored : p0 + 4 * nc ≡ back = ap (λ a. a + 4 * nc) (sym pc) in
            let goes_s : From front size (λ v w. and_then (ms v w) (more 2)) (back + 4) to out again = λ t v e' r s w.
            let begin : t.pc ≡ p0 + 4 * nc + 4 * h6.0 = omega (arith, e', restored, e6) in
            then_lands lines layout unwind_at front size (ms v w) (more 2) t w mid to out again r (land_s (p0 + 4 * nc + 4 * h6.0) mid x.1 t v begin r s w)
            (λ t v e r s w. jump_lands front size (n + 1) nj mid to t v w e r s (x.2).1 at_end) in
            let goes_h : From front size h.body (handler + 4 + 4 * hb.0) to out again = λ t v e' r s w.
            let begin : t.pc ≡ handler + 4 * hs.0 + 4 * hb.0 = omega (arith, e', e7) in
            land_h (handler + 4 * hs.0 + 4 * hb.0) (subst (λ a. Stands lines layout (handler + 4 * hs.0 + 4 * hb.0) ys a) end y.1) t v begin r s w in
            guarded_left lines layout unwind_at unwind uncaught unwind_end unwind_stands front size frame three v t r s w w3 handler back entry p c
            (steps_goes lines layout t w c.state w3 (5 + c.steps) (goes_on lines layout t q c.state 5 c.steps p.goes c.goes) refl refl (omega arith) (omega arith))
            aligned small to out again ms h few (xs ++ line.Jump (n + 1) ∷ line.Label n ∷ line.Plain (instr.I Addi 9 0 (pos h.exception)) ∷ line.Branch Ne 1 9 unwind ∷ (ys ++ line.Label (n + 1) ∷ [])) to
            (stands_at lines layout (p0 + 4 * nc) back (line.Plain (instr.L Ld 8 2 (pos 8)) ∷ (xs ++ line.Jump (n + 1) ∷ line.Label n ∷ line.Plain (instr.I Addi 9 0 (pos h.exception)) ∷ line.Branch Ne 1 9 unwind ∷ (ys ++ line.Label (n + 1) ∷ []))) to restored h6)
            goes_s (ys ++ line.Label (n + 1) ∷ []) to nc hs goes_h
            (g f v w3) (enters f entry there c.state c.pc (begins_of lines layout q c.state back caller c.sets here.2 here.3) v ((c.sets).seen ∙ p.seen ∙ s.seen) ((c.sets).other 2 (apart 2 1 refl) ∙ p.sp ∙ s.room) w3)

  -- ---- a tail call, a return, a raise

  module _ (front size : ℕ) (frame : IsFrame front size) where
    unframed_begins : (t : State) (xs : List Line) (end to most : ℕ) → Ready front size t → (u : Unframed lines layout front size t xs end) → (m : Moved lines layout u.state to most) → Begins m.state
    unframed_begins t xs end to most r u m =
        let o = u.outer in
        let s = m.sets in
        let sp : reg (m.state) 2 ≡ reg t 2 + size = s.other 2 (apart 2 9 refl) ∙ u.sp in
        let link : reg (m.state) 1 ≡ saved front t = s.other 1 (apart 1 9 refl) ∙ u.link in
        let out = outer_on (reg t 2 + size) (reg t 2 + size) t u.state m.state o (sets_outer 9 m.nine (reg t 2 + size) u.state m.state s (apart 4 9 refl) (apart 8 9 refl)) (omega arith) in
        let even = frame.whole in
        record {
          map = map_kept t.memory (m.state).memory r.map out.sizes;
          count = out.count ∙ r.count;
          whole = let h = r.whole in omega arith;
          low = let h = r.low in omega arith;
          limit = out.limit ∙ r.limit;
          top = let h = r.frame in let l = (out.sizes).stack in omega arith;
          link = ap (λ n. n % 4) link ∙ r.back;
          link_word = let h = r.back_word in omega arith;
          newest = let h = r.newest in let e = out.newest in omega arith;
        }

    tail_left : (t e : State) (w w3 : World) (to out again : ℕ) → Outer (reg t 2 + size) t e → reg e 2 ≡ reg t 2 + size → reg e 1 ≡ saved front t → Steps lines layout t w e w3
        → (o : Outcome (Unit {0}) Frame) → Leaves lines layout unwind_at o e w3 → To front size (left o) t w to out again
    tail_left t e w w3 to out again outer sp link a (Normal x w') b = λ ok. absurd (ok refl)
    tail_left t e w w3 to out again outer sp link a (Broken x w') b = λ ok. absurd (ok refl)
    tail_left t e w w3 to out again outer sp link a (Continued x w') b = λ ok. absurd (ok refl)
    tail_left t e w w3 to out again outer sp link a (Returned x w') b = record {
      state = b.state;
      seen = b.seen;
      pc = b.pc ∙ link;
      sp = b.sp ∙ sp;
      outer = outer_on (reg t 2 + size) (reg e 2) t e b.state outer b.outer (omega (arith, sp));
      by = steps_on lines layout t w e w3 b.state w' a b.by;
    }
    tail_left t e w w3 to out again outer sp link a (Raised i x w') b = threw_on lines layout unwind_at (reg t 2 + size) (reg e 2) t w e w3 i x w' outer (omega (arith, sp)) a b
    tail_left t e w w3 to out again outer sp link a (Over e' w') b = λ ok. stops_by lines layout t w e w3 e' w' a (b ok)

    pub tail_lands : (g : Callee) → Enters lines layout unwind_at g → (f entry at to out again : ℕ) → Stands lines layout at (off front size (line.Jump f ∷ [])) to → At lines layout f entry
        → From front size (λ v w. tail_call (after 6 g) f (Some (record v { room = v.room + size })) w) at to out again
    tail_lands g enters f entry at to out again stands there t v e r s w = by w.fuel refl
      where
        by : (k : ℕ) → w.fuel ≡ k → To front size (spend_of k w (λ w. left (after 6 g f (record v { room = v.room + size }) (leaving w)))) t w to out again
        by zero fuel = λ ok. stops_spent lines layout t w w refl refl refl
        by (suc k) fuel =
            let u = unframed lines layout front size t (line.Jump f ∷ []) to frame r (stands_at lines layout at t.pc (off front size (line.Jump f ∷ [])) to (sym e) stands) in
            let count : length (u.state).registers ≡ 32 = (u.outer).count ∙ r.count in
            let m = jump_moved lines layout u.state f (u.stands).0 entry count (u.stands).1 there in
            let y = m.state in
            let sp : reg y 2 ≡ reg t 2 + size = (m.sets).other 2 (apart 2 9 refl) ∙ u.sp in
            let link : reg y 1 ≡ saved front t = (m.sets).other 1 (apart 1 9 refl) ∙ u.link in
            let outer = outer_on (reg t 2 + size) (reg t 2 + size) t u.state y u.outer (sets_outer 9 m.nine (reg t 2 + size) u.state y m.sets (apart 4 9 refl) (apart 8 9 refl)) (omega arith) in
            let w3 = tolled 6 (leaving (record w { fuel = k })) in
            let few = u.few in let most = m.few in let some = m.some in
            let room = s.room in
            tail_left t y w w3 to out again outer sp link
            (steps_goes lines layout t w y w3 (u.steps + m.steps) (goes_on lines layout t u.state y u.steps m.steps u.goes m.goes) refl refl (omega arith) (omega arith))
            (g f (record v { room = v.room + size }) w3) (enters f entry there y m.pc (unframed_begins t (line.Jump f ∷ []) to entry 2 r u m) (record v { room = v.room + size }) ((m.sets).seen ∙ u.seen ∙ s.seen) (omega arith) w3)

    pub return_lands : (at to out again : ℕ) → Stands lines layout at (off front size (line.JumpReg 1 ∷ [])) to → From front size (λ v w. Returned v (tolled 5 w)) at to out again
    return_lands at to out again stands t v e r s w =
        let u = unframed lines layout front size t (line.JumpReg 1 ∷ []) to frame r (stands_at lines layout at t.pc (off front size (line.JumpReg 1 ∷ [])) to (sym e) stands) in
        let y = record u.state { pc = saved front t } in
        let z = sets_pc 9 u.state (saved front t) in
        let g = jump_back lines layout u.state 1 (saved front t) to [] u.stands u.link r.back r.back_word in
        let few = u.few in
        record {
          state = y;
          seen = z.seen ∙ u.seen ∙ s.seen;
          pc = refl;
          sp = z.other 2 (apart 2 9 refl) ∙ u.sp;
          outer = outer_on (reg t 2 + size) (reg t 2 + size) t u.state y u.outer (sets_outer 9 (reg u.state 9) (reg t 2 + size) u.state y z (apart 4 9 refl) (apart 8 9 refl)) (omega arith);
          by = steps_goes lines layout t w y (tolled 5 w) (u.steps + 1) (goes_on lines layout t u.state y u.steps 1 u.goes g) refl refl (omega arith) (omega arith);
        }

  pub raise_lands : (front size i unwind at to out again : ℕ) → i < 2 ^ 11 → At lines layout unwind unwind_at → Stands lines layout at (line.Plain (instr.I Addi 1 0 (pos i)) ∷ line.Jump unwind ∷ []) to → From front size (λ v w. Raised i v (tolled 3 w)) at to out again
  raise_lands front size i unwind at to out again few there stands t v e r s w =
      let n = plus (reg t 0) (pos i) in
      let u = next (with_reg t 1 n) in
      let z = sets_reg 1 hidden_1 t n (next (with_reg t 1 n)).pc r.count in
      let st = step_reg lines layout (instr.I Addi 1 0 (pos i)) (line.Jump unwind ∷ []) to t 1 n (stands_at lines layout at t.pc (line.Plain (instr.I Addi 1 0 (pos i)) ∷ line.Jump unwind ∷ []) to (sym e) stands) refl in
      let m = jump_moved lines layout u unwind (st.1).0 unwind_at (z.count ∙ r.count) (st.1).1 there in
      let most = m.few in
      record {
        state = m.state;
        seen = (m.sets).seen ∙ z.seen ∙ s.seen;
        pc = m.pc;
        small = omega (arith, few);
        code = (m.sets).other 1 (apart 1 9 refl) ∙ z.value ∙ ap (λ n. plus n (pos i)) (reg_zero t) ∙ plus_small 0 i (omega (arith, few)) ∙ none;
        outer = outer_on (reg t 2 + size) (reg t 2 + size) t u m.state (sets_outer 1 n (reg t 2 + size) t u z (apart 4 1 refl) (apart 8 1 refl)) (sets_outer 9 m.nine (reg t 2 + size) u m.state m.sets (apart 4 9 refl) (apart 8 9 refl)) (omega arith);
        by = steps_goes lines layout t w m.state (tolled 3 w) (1 + m.steps) (goes_on lines layout t u m.state 1 m.steps st.0 m.goes) refl refl (omega arith) (omega arith);
      }
    where
      none : 0 + i ≡ i
      none = omega arith

  -- ---- slots

  module _ (front size : ℕ) (frame : IsFrame front size) where
    low_of : (t : State) → Ready front size t → reg t 2 ≤ 0x40000000
    low_of t r = let a = r.frame in let b = (r.map).stack in omega arith

    pub get_lands : (r k at to out again : ℕ) → IsWritable r → 8 * (front + k + 1) ≤ size → Stands lines layout at (reach (slot_at front k) ++ line.Plain (instr.L Ld r (base (slot_at front k)) (rest (slot_at front k))) ∷ []) to
        → From front size (λ v w. with_value (v.slots k) w (λ n. Normal (with_register v r n) (tolled 3 w))) at to out again
    get_lands r k at to out again writable inside stands t v e ready s w = by (v.slots k) refl
      where
        by : (o : Option ℕ) → v.slots k ≡ o → To front size (with_value o w (λ n. Normal (with_register v r n) (tolled 3 w))) t w to out again
        by None is = λ ok. absurd (ok refl)
        by (Some n) is =
            let d = slot_at front k in
            let most = frame.most in
            let m = reached lines layout d t (line.Plain (instr.L Ld r (base d) (rest d)) ∷ []) to ready.count (low_of t ready) (omega arith) (stands_at lines layout at t.pc (reach d ++ line.Plain (instr.L Ld r (base d) (rest d)) ∷ []) to (sym e) stands) in
            let q = m.state in
            let a = reg t 2 + d in
            let n' = word q a in
            let value : n' ≡ n = word_same t q a (m.sets).memory ∙ s.slots k n inside is in
            let st = step_reg lines layout (instr.L Ld r (base d) (rest d)) [] to q r n' m.stands (loads_word q r (base d) (rest d) a (is_word_same t q a (m.sets).memory (frame_word front size d t ready (omega arith) (omega arith))) m.place) in
            let u = next (with_reg q r n') in
            let f = follows_reg q r n' writable in
            let sq = sets_sees 9 m.nine front size v t q m.sets (apart 2 9 refl) s in
            let twice : hide q ≡ hide v.seen = (m.sets).seen ∙ sym (hide_hide t) ∙ ap hide s.seen in
            let few = m.few in
            record {
              state = u;
              sees = after_get q u sq f (with_reg_seen r n' (shown_of r writable) q v.seen twice ∙ ap (λ n. hide (with_reg v.seen r n)) value);
              pc = st.1;
              kept = kept_on front size t q u (sets_kept 9 m.nine front size t q m.sets (apart 4 9 refl) (apart 8 9 refl) (apart 2 9 refl) (apart 1 9 refl)) (follows_kept front size q u f);
              by = steps_goes lines layout t w u (tolled 3 w) (m.steps + 1) (goes_on lines layout t q u m.steps 1 m.goes st.0) refl refl (omega arith) (omega arith);
            }
          where
            after_get : (q u : State) → Sees front size v q → Follows q u → hide u ≡ hide (with_reg v.seen r n) → Sees front size (with_register v r n) u
            after_get q u sq f seen = record {
              seen = seen;
              room = (follows_kept front size q u f).sp ∙ sq.room;
              slots = λ j n le is. ap (λ a. word u (a + slot_at front j)) (follows_kept front size q u f).sp ∙ word_stack q u (reg q 2 + slot_at front j) f.stack ∙ sq.slots j n le is;
            }
              where
                word_stack : (q u : State) (a : ℕ) → (u.memory).stack ≡ (q.memory).stack → word u a ≡ word q a
                word_stack q u a e = ap (λ xs. number_at B8 xs (a - 0x20000000)) e

    pub put_lands : (k r at to out again : ℕ) → IsVisible r → 8 * (front + k + 1) ≤ size → Stands lines layout at (reach (slot_at front k) ++ line.Plain (instr.S Sd (base (slot_at front k)) r (rest (slot_at front k))) ∷ []) to
        → From front size (λ v w. Normal (with_slot v k (reg v.seen r)) (tolled 3 w)) at to out again
    put_lands k r at to out again visible inside stands t v e ready s w =
        let d = slot_at front k in
        let most = frame.most in
        let m = reached lines layout d t (line.Plain (instr.S Sd (base d) r (rest d)) ∷ []) to ready.count (low_of t ready) (omega arith) (stands_at lines layout at t.pc (reach d ++ line.Plain (instr.S Sd (base d) r (rest d)) ∷ []) to (sym e) stands) in
        let q = m.state in
        let a = reg t 2 + d in
        let iw = is_word_same t q a (m.sets).memory (frame_word front size d t ready (omega arith) (omega arith)) in
        let n = reg q r in
        let value : n ≡ reg v.seen r = (m.sets).other r visible.1 ∙ sym (reg_hide t r visible) ∙ ap (λ y. reg y r) s.seen in
        let u = stored q a n in
        let z = stored_is q a n iw in
        let st = step_plain lines layout (instr.S Sd (base d) r (rest d)) [] to q u m.stands (stores_word q (base d) r (rest d) a iw m.place) refl in
        let sq = sets_sees 9 m.nine front size v t q m.sets (apart 2 9 refl) s in
        let sp : reg q 2 ≡ reg t 2 = (m.sets).other 2 (apart 2 9 refl) in
        let low = ready.low in
        let few = m.few in
        record {
          state = u;
          sees = record {
            seen = z.seen ∙ sq.seen;
            room = z.regs 2 ∙ sq.room;
            slots = λ j i le is. slot_of q u n z sq (z.regs 2) sp value low j i le (nat_eq j k) refl is;
          };
          pc = st.1;
          kept = kept_on front size t q u (sets_kept 9 m.nine front size t q m.sets (apart 4 9 refl) (apart 8 9 refl) (apart 2 9 refl) (apart 1 9 refl))
              (record { outer = stored_outer a n (reg q 2 + size) q u z (omega arith); sp = z.regs 2; link = saved_same front q u (λ none. z.regs 1) (λ some. ap (word u) (z.regs 2) ∙ stored_keeps a n (reg q 2) q u z (omega arith) (inl (omega arith))) });
          by = steps_goes lines layout t w u (tolled 3 w) (m.steps + 1) (goes_on lines layout t q u m.steps 1 m.goes st.0) refl refl (omega arith) (omega arith);
        }
      where
        some_same : (a b : ℕ) → Some a ≡ Some b → a ≡ b
        some_same a b e = cc

        slot_of : (q u : State) (n : ℕ) → Stored (reg t 2 + slot_at front k) n q u → Sees front size v q → reg u 2 ≡ reg q 2 → reg q 2 ≡ reg t 2 → n ≡ reg v.seen r → 0x20000000 ≤ reg t 2 → (j i : ℕ) → 8 * (front + j + 1) ≤ size → (b : Bool) → nat_eq j k ≡ b → cond b (Some (reg v.seen r % 2 ^ 64)) (v.slots j) ≡ Some i → word u (reg u 2 + slot_at front j) ≡ i
        slot_of q u n z sq same sp value low j i le true eq is =
            let jk : j ≡ k = grind (arith, nat_tests) in
            let place : reg u 2 + slot_at front j ≡ reg t 2 + slot_at front k = omega arith in
            ap (word u) place ∙ z.here ∙ ap (λ n. n % 2 ^ 64) value ∙ some_same (reg v.seen r % 2 ^ 64) i is
        slot_of q u n z sq same sp value low j i le false eq is =
            let jk : (j < k) ⊎ (k < j) = grind (arith, nat_tests) in
            let place : reg u 2 + slot_at front j ≡ reg q 2 + slot_at front j = omega arith in
            ap (word u) place ∙ stored_keeps (reg t 2 + slot_at front k) n (reg q 2 + slot_at front j) q u z (omega arith) (far jk) ∙ sq.slots j i le is
          where
            far : (j < k) ⊎ (k < j) → (reg q 2 + slot_at front j + 8 ≤ reg t 2 + slot_at front k) ⊎ (reg t 2 + slot_at front k + 8 ≤ reg q 2 + slot_at front j)
            far (inl l) = inl (omega arith)
            far (inr l) = inr (omega arith)
