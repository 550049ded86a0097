-- The lines of functions do what the functions do, at every layout.
use Rattle.std.proofs.Common.{◌≡◌, ℕ, pos, zero, suc, ◌+◌, ◌-◌, ◌*◌, ◌%◌, ◌^◌, ◌<◌, ◌≤◌, refl, sym, ap, ◌∙◌, subst, Bool, true, false, cond, List, [], ◌∷◌, ◌++◌, append_assoc, length, drop, Option, Some, None, arith}
use Rattle.std.specs.Prelude.{slice_get, nat_eq, nat_le}
use Rattle.std.specs.List.{All}
use Rattle.std.proofs.lemmas.List.Elements.{recursion_from_All}
use Rattle.std.proofs.lemmas.Bool.Decides.{nat_tests}
use Rattle.pan_base.specs.Words.{compare}
use Rattle.pan_base.specs.Events.{Ending, Stack, Event}
use Rattle.pan_base.specs.declared.operators.Cmp.TheVariants.{Ltu}
use Rattle.pan_base.specs.declared.operators.SOp.TheVariants.{Sd}
use Rattle.pan_base.specs.declared.operators.IOp.TheVariants.{Addi}
use Rattle.pan_control.specs.World.{tolled, entered}
use Rattle.pan_control.specs.Control.{Normal, Broken, Continued, Returned, Raised, Over, with_value, left}
use Rattle.pan_stage.specs.declared.program.Program.{Program}
use Rattle.riscv_isa.specs.declared.instr.Instr.TheVariants as instr
use Rattle.pan_base.specs.Results.{plus}
use Rattle.riscv_isa.specs.Step.{State, Over as over, reg, with_reg, next, ecall, ended}
use Rattle.riscv_isa.proofs.RunLaws.{run_over}
use Rattle.riscv_isa.specs.Regions.{Memory}
use Rattle.riscv_isa.proofs.Fetching.{with_reg_32}
use Rattle.lab_lang.specs.declared.syntax.Line.{Line}
use Rattle.lab_lang.specs.declared.syntax.Line.TheVariants as line
use Rattle.lab_lang.specs.Layout.{address}
use Rattle.lab_lang.specs.Meaning.{once, asks, replied, act_laid, step}
use Rattle.stack_lang.specs.Shown.{hide}
use Rattle.stack_lang.specs.Frames.{front_words}
use Rattle.stack_lang.specs.declared.syntax.StackFun.{StackFun}
use Rattle.stack_lang.specs.Frame.{Frame}
use Rattle.stack_lang.specs.Meaning.{World, Outcome, Callee, run, enter, body_of, leaves}
use Rattle.stack_lang.specs.Text.{mentions}
use Rattle.stack_lang.specs.WellFormed.{IsRight, scope_of}
use Rattle.lab_flatten.specs.Flatten.{where_some, below, front_lines, flat, function_lines, stub_lines, unwind_lines}
use Rattle.lab_flatten.proofs.Hiding.{apart, SameSizes, same_sizes, hidden_2}
use Rattle.lab_flatten.proofs.Machine.{reg_same, reg_other, sets_reg, sets_pc, word, SameFrom, IsMap, map_kept, IsWord, stored, stores_word, stored_is, plus_zero, reg_pc, sizes_on, sizes_is, Outer, outer_on, saved, IsFrame, Ready, Begins}
use Rattle.lab_flatten.proofs.Lines.{At, settled, Stands, stands_at, past_label, Goes, goes_none, goes_on, constant, step_plain, step_reg, branch_moved, branch_passed, lowered}
use Rattle.lab_flatten.proofs.Lands.{shown, Sees, Steps, steps_on, steps_goes, Stops, stops_by, stops_spent, Lands, Leaves, Enters, threw_on}
use Rattle.lab_flatten.proofs.Simulation.{flattened}

module _ (lines : List Line) (layout : List (ℕ × ℕ)) where
  -- ---- ends

  -- an ECALL that ends the run
  pub ends : (e : Ending) (xs : List Line) (to : ℕ) (t : State) → Stands lines layout t.pc (line.Plain instr.Ecall ∷ xs) to → reg t 17 ≡ 0 → ended (reg t 10) (reg t 11) ≡ e → (w w' : World) → w'.trace ≡ w.trace → w.fuel ≤ 1 + w'.fuel → 1 + w.toll ≤ w'.toll → Stops lines layout t w e w'
  ends e xs to t h seventeen is w w' trace fuel toll = record {
    steps = 1;
    enough = fuel;
    within = toll;
    is = ap (shown w) (run_over asks replied (step lines layout) 0 (settled t) e w.replies (ap (λ o. act_laid o (address lines layout) t) (h.1).1 ∙ ap (λ n. once (ecall n t)) seventeen ∙ ap (λ e. once (over e)) is))
        ∙ ap (λ (es : List Event). record { events = es ++ []; ending = e }) (sym trace);
  }

  -- the end for want of stack
  stub_stops : (stub to : ℕ) (t : State) → Stands lines layout t.pc (stub_lines stub) to → length t.registers ≡ 32 → (w w' : World) → w'.replies ≡ w.replies → w'.trace ≡ w.trace → w'.fuel ≡ w.fuel → 3 + w.toll ≤ w'.toll → Stops lines layout t w Stack w'
  stub_stops stub to t h count w w' replies trace fuel toll =
      let b = past_label lines layout stub t.pc (line.Plain (instr.I Addi 17 0 (pos 0)) ∷ line.Plain (instr.I Addi 10 0 (pos 2)) ∷ line.Plain instr.Ecall ∷ []) to h in
      let g1 = constant lines layout 17 0 (line.Plain (instr.I Addi 10 0 (pos 2)) ∷ line.Plain instr.Ecall ∷ []) to t (omega arith) b in
      let u1 = next (with_reg t 17 0) in
      let c1 : length u1.registers ≡ 32 = count_of t 17 0 count in
      let g2 = constant lines layout 10 2 (line.Plain instr.Ecall ∷ []) to u1 (omega arith) g1.1 in
      let u2 = next (with_reg u1 10 2) in
      let w1 = tolled 2 w in
      let seventeen : reg u2 17 ≡ 0 = next_reg (with_reg u1 10 2) 17 ∙ reg_other u1 10 2 17 (apart 17 10 refl) ∙ next_reg (with_reg t 17 0) 17 ∙ reg_same t 17 0 refl (omega arith) count in
      let ten : reg u2 10 ≡ 2 = next_reg (with_reg u1 10 2) 10 ∙ reg_same u1 10 2 refl (omega arith) c1 in
      stops_by lines layout t w u2 w1 Stack w' (steps_goes lines layout t w u2 w1 (1 + 1) (goes_on lines layout t u1 u2 1 1 g1.0 g2.0) refl refl (omega arith) (omega arith))
      (ends Stack [] to u2 g2.1 seventeen (ap (λ n. ended n (reg u2 11)) ten) w1 w' trace (omega arith) (omega arith))
    where
      next_reg : (s : State) (q : ℕ) → reg (next s) q ≡ reg s q
      next_reg s q = reg_pc s (s.pc + 4) q

      count_of : (t : State) (r n : ℕ) → length t.registers ≡ 32 → length (next (with_reg t r n)).registers ≡ 32
      count_of t r n c = with_reg_32 t r n c

  module _ (unwind_at : ℕ) where
    -- ---- a function's entry

    -- x2 is below the frame
    record Lowered (n : ℕ) (t : State) (xs : List Line) (to : ℕ) : Type 0 where
      state : State
      seen : hide state ≡ hide t
      memory : state.memory ≡ t.memory
      count : length state.registers ≡ length t.registers
      sp : reg state 2 ≡ reg t 2 - n
      one : reg state 1 ≡ reg t 1
      limit : reg state 4 ≡ reg t 4
      newest : reg state 8 ≡ reg t 8
      steps : ℕ
      few : steps ≤ 5
      goes : Goes lines layout t state steps
      stands : Stands lines layout state.pc xs to

    abbrev lines_below : ℕ → ℕ → List Line
    lines_below n stub = below n ++ line.Branch Ltu 9 4 stub ∷ line.Plain (instr.I Addi 2 9 (pos 0)) ∷ []

    made_below : (n : ℕ) → n ≤ 0x7F000 → (t : State) → Begins t → (room : ℕ) → reg t 2 ≡ 0x20000000 + room → n ≤ room → (stub stub_at : ℕ) → At lines layout stub stub_at → (xs : List Line) (to : ℕ)
        → Stands lines layout t.pc (where_some n (lines_below n stub) ++ xs) to → Lowered n t xs to
    made_below n most t h room high fits stub stub_at there xs to stands = by (nat_eq n 0) refl
      where
        fine : (a b : ℕ) → b ≤ a → compare Ltu a b ≡ false
        fine a b le = grind (arith, nat_tests)

        by : (b : Bool) → nat_eq n 0 ≡ b → Lowered n t xs to
        by true is =
            let none : n ≡ 0 = grind (arith, nat_tests) in
            record { state = t; seen = refl; memory = refl; count = refl; sp = omega (arith, none); one = refl; limit = refl; newest = refl; steps = 0; few = omega arith; goes = goes_none lines layout t; stands = subst (λ b. Stands lines layout t.pc (cond b [] (lines_below n stub) ++ xs) to) is stands }
        by false is =
            let some : 0 < n = grind (arith, nat_tests) in
            let rest = line.Branch Ltu 9 4 stub ∷ line.Plain (instr.I Addi 2 9 (pos 0)) ∷ [] in
            let begin : Stands lines layout t.pc (below n ++ (rest ++ xs)) to = subst (λ ys. Stands lines layout t.pc ys to) (append_assoc (below n) rest xs) (subst (λ b. Stands lines layout t.pc (cond b [] (lines_below n stub) ++ xs) to) is stands) in
            let l = lowered lines layout n t (rest ++ xs) to h.count h.low (let a = h.top in let b = (h.map).stack in omega arith) some most begin in
            let u1 = l.state in
            let c1 : length u1.registers ≡ 32 = (l.sets).count ∙ h.count in
            let four : reg u1 4 ≡ 0x20000000 = (l.sets).other 4 (apart 4 9 refl) ∙ h.limit in
            let nine = (l.sets).value in
            let nb = (l.stands).0 in
            let test : compare Ltu (reg u1 9) (reg u1 4) ≡ false = fine (reg u1 9) (reg u1 4) (omega arith) in
            let u2 = record u1 { pc = u1.pc + 4 * nb } in
            let g2 = branch_passed lines layout u1 Ltu 9 4 stub nb stub_at (l.stands).1 there test in
            let s2 = sets_pc 9 u1 (u1.pc + 4 * nb) in
            let m = plus (reg u2 9) (pos 0) in
            let u3 = next (with_reg u2 2 m) in
            let s3 = sets_reg 2 hidden_2 u2 m (next (with_reg u2 2 m)).pc c1 in
            let g3 = step_reg lines layout (instr.I Addi 2 9 (pos 0)) xs to u2 2 m (l.stands).2 refl in
            let top = h.top in let wide = (h.map).stack in
            record {
              state = u3;
              seen = s3.seen ∙ s2.seen ∙ (l.sets).seen;
              memory = s3.memory ∙ (l.sets).memory;
              count = s3.count ∙ (l.sets).count;
              sp = s3.value ∙ ap (λ n. plus n (pos 0)) (s2.value ∙ nine) ∙ plus_zero (reg t 2 - n) (omega arith);
              one = s3.other 1 (apart 1 2 refl) ∙ s2.other 1 (apart 1 9 refl) ∙ (l.sets).other 1 (apart 1 9 refl);
              limit = s3.other 4 (apart 4 2 refl) ∙ s2.other 4 (apart 4 9 refl) ∙ (l.sets).other 4 (apart 4 9 refl);
              newest = s3.other 8 (apart 8 2 refl) ∙ s2.other 8 (apart 8 9 refl) ∙ (l.sets).other 8 (apart 8 9 refl);
              steps = l.steps + (1 + 1);
              few = (let x = l.few in omega arith);
              goes = goes_on lines layout t u1 u3 l.steps (1 + 1) l.goes (goes_on lines layout u1 u2 u3 1 1 g2 g3.0);
              stands = g3.1;
            }

    -- the return address is where the running function has it
    record Put (front : ℕ) (t : State) (xs : List Line) (to : ℕ) : Type 0 where
      state : State
      seen : hide state ≡ hide t
      sizes : SameSizes t.memory state.memory
      count : length state.registers ≡ length t.registers
      sp : reg state 2 ≡ reg t 2
      limit : reg state 4 ≡ reg t 4
      newest : reg state 8 ≡ reg t 8
      above : SameFrom (reg t 2 + 8 * front) t state
      back : saved front state ≡ reg t 1
      steps : ℕ
      few : steps ≤ 1
      goes : Goes lines layout t state steps
      stands : Stands lines layout state.pc xs to

    made_link : (front : ℕ) (t : State) → (0 < front → IsWord t (reg t 2)) → reg t 1 < 2 ^ 64 → (xs : List Line) (to : ℕ) → Stands lines layout t.pc (where_some front (line.Plain (instr.S Sd 2 1 (pos 0)) ∷ []) ++ xs) to → Put front t xs to
    made_link front t word_at little xs to stands = by (nat_eq front 0) refl
      where
        small : (n : ℕ) → n < 2 ^ 64 → n % 2 ^ 64 ≡ n
        small n s = omega arith

        by : (b : Bool) → nat_eq front 0 ≡ b → Put front t xs to
        by true is =
            record {
              state = t;
              seen = refl;
              sizes = same_sizes t.memory;
              count = refl;
              sp = refl;
              limit = refl;
              newest = refl;
              above = λ m le. refl;
              back = ap (λ b. cond b (reg t 1) (word t (reg t 2))) is;
              steps = 0;
              few = omega arith;
              goes = goes_none lines layout t;
              stands = subst (λ b. Stands lines layout t.pc (cond b [] (line.Plain (instr.S Sd 2 1 (pos 0)) ∷ []) ++ xs) to) is stands;
            }
        by false is =
            let some : 0 < front = grind (arith, nat_tests) in
            let w = word_at some in
            let low = w.low in let high = w.high in let wide = (w.map).stack in
            let u = stored t (reg t 2) (reg t 1) in
            let d = stored_is t (reg t 2) (reg t 1) w in
            let g = step_plain lines layout (instr.S Sd 2 1 (pos 0)) xs to t u (subst (λ b. Stands lines layout t.pc (cond b [] (line.Plain (instr.S Sd 2 1 (pos 0)) ∷ []) ++ xs) to) is stands) (stores_word t 2 1 (pos 0) (reg t 2) w (plus_zero (reg t 2) (omega arith))) refl in
            record {
              state = u;
              seen = d.seen;
              sizes = d.sizes;
              count = d.count;
              sp = d.regs 2;
              limit = d.regs 4;
              newest = d.regs 8;
              above = λ m le. d.above m (omega arith);
              back = ap (λ b. cond b (reg u 1) (word u (reg u 2))) is ∙ ap (word u) (d.regs 2) ∙ d.here ∙ small (reg t 1) little;
              steps = 1;
              few = omega arith;
              goes = g.0;
              stands = g.1;
            }

    -- the frame stands
    record Framed (front n : ℕ) (v : Frame) (t : State) (xs : List Line) (to : ℕ) : Type 0 where
      state : State
      ready : Ready front n state
      sees : Sees front n (record v { slots = λ k. None; room = v.room - n }) state
      outer : Outer (reg t 2) t state
      top : reg state 2 + n ≡ reg t 2
      back : saved front state ≡ reg t 1
      steps : ℕ
      few : steps ≤ 6
      goes : Goes lines layout t state steps
      stands : Stands lines layout state.pc xs to

    framed : (front n : ℕ) → IsFrame front n → (t : State) → Begins t → (v : Frame) → hide t ≡ v.seen → reg t 2 ≡ 0x20000000 + v.room → n ≤ v.room → (stub stub_at : ℕ) → At lines layout stub stub_at → (xs : List Line) (to : ℕ)
        → Stands lines layout t.pc (front_lines front n stub ++ xs) to → Framed front n v t xs to
    framed front n frame t h v seen room fits stub stub_at there xs to stands =
        let wide = frame.wide in let most = frame.most in let even = frame.whole in
        let link = where_some front (line.Plain (instr.S Sd 2 1 (pos 0)) ∷ []) in
        let begin : Stands lines layout t.pc (where_some n (lines_below n stub) ++ (link ++ xs)) to = subst (λ ys. Stands lines layout t.pc ys to) (append_assoc (where_some n (lines_below n stub)) link xs) stands in
        let l = made_below n most t h v.room room fits stub stub_at there (link ++ xs) to begin in
        let u = l.state in
        let sp : reg u 2 ≡ reg t 2 - n = l.sp in
        let one = l.one in
        let word_at : 0 < front → IsWord u (reg u 2) = λ some. record {
          map = subst IsMap (sym l.memory) h.map;
          whole = let x = h.whole in omega arith;
          low = omega arith;
          high = let x = h.top in let e : length (u.memory).stack ≡ length (t.memory).stack = ap (λ (m : Memory). length m.stack) l.memory in omega arith;
        } in
        let link_word = h.link_word in
        let p = made_link front u word_at (omega arith) xs to l.stands in
        let z = p.state in
        let sp2 = p.sp in
        let sizes = sizes_on t.memory u.memory z.memory (sizes_is t.memory u.memory l.memory) p.sizes in
        let count : length z.registers ≡ length t.registers = p.count ∙ l.count in
        let limit : reg z 4 ≡ reg t 4 = p.limit ∙ l.limit in
        let newest : reg z 8 ≡ reg t 8 = p.newest ∙ l.newest in
        let back : saved front z ≡ reg t 1 = p.back ∙ one in
        record {
          state = z;
          ready = record {
            map = map_kept t.memory z.memory h.map sizes;
            count = count ∙ h.count;
            whole = let x = h.whole in omega arith;
            low = omega arith;
            limit = limit ∙ h.limit;
            frame = let x = h.top in let y = sizes.stack in omega arith;
            back = ap (λ n. n % 4) back ∙ h.link;
            back_word = omega arith;
            newest = let x = h.newest in omega arith;
          };
          sees = record { seen = p.seen ∙ l.seen ∙ seen; room = omega arith; slots = λ j i le is. absurd (none_some i is) };
          outer = record {
            sizes = sizes;
            count = count;
            limit = limit;
            newest = newest;
            above = λ k le. p.above k (omega arith) ∙ ap (λ (y : Memory). drop k y.stack) l.memory;
          };
          top = omega arith;
          back = back;
          steps = l.steps + p.steps;
          few = (let x = l.few in let y = p.few in omega arith);
          goes = goes_on lines layout t u z l.steps p.steps l.goes p.goes;
          stands = p.stands;
        }
      where
        none_some : (i : ℕ) → None ≡ Some i → ⊥
        none_some i e = cc

    -- a function's body, in its frame
    left_leaves : (front n : ℕ) (t : State) (w w3 : World) (u : State) → Steps lines layout t w u w3 → Outer (reg t 2) t u → reg u 2 + n ≡ reg t 2 → saved front u ≡ reg t 1 → (o : Outcome Frame Frame) (to out again : ℕ)
        → Lands lines layout unwind_at front n o u w3 to out again → Leaves lines layout unwind_at (left o) t w
    left_leaves front n t w w3 u a outer top back (Normal x w') to out again b = λ ok. absurd (ok refl)
    left_leaves front n t w w3 u a outer top back (Broken x w') to out again b = λ ok. absurd (ok refl)
    left_leaves front n t w w3 u a outer top back (Continued x w') to out again b = λ ok. absurd (ok refl)
    left_leaves front n t w w3 u a outer top back (Returned x w') to out again b = record {
      state = b.state;
      seen = b.seen;
      pc = b.pc ∙ back;
      sp = b.sp ∙ top;
      outer = outer_on (reg t 2) (reg u 2 + n) t u b.state outer b.outer (omega (arith, top));
      by = steps_on lines layout t w u w3 b.state w' a b.by;
    }
    left_leaves front n t w w3 u a outer top back (Raised i x w') to out again b = threw_on lines layout unwind_at (reg t 2) (reg u 2 + n) t w u w3 i x w' outer (omega (arith, top)) a b
    left_leaves front n t w w3 u a outer top back (Over e w') to out again b = λ ok. stops_by lines layout t w u w3 e w' a (b ok)

    -- ---- a function

    module _ (unwind uncaught unwind_end : ℕ) (unwind_stands : Stands lines layout unwind_at (unwind_lines unwind uncaught) unwind_end) (stub stub_at stub_to : ℕ) (stub_stands : Stands lines layout stub_at (stub_lines stub) stub_to)
        (d functions exceptions names : ℕ) (few_exceptions : exceptions ≤ 1024) (few_names : names ≤ 1024) (g : Callee) (enters : Enters lines layout unwind_at g) (places : (f : ℕ) → f < functions → (entry : ℕ) × At lines layout f entry) where
      enters_body : (fn : StackFun) → IsFrame (front_words fn) fn.frame → All (IsRight (record { frame = fn.frame; front = front_words fn; functions = functions; exceptions = exceptions; names = names })) (mentions fn.body) → (f n entry to : ℕ) → Stands lines layout entry (function_lines f n stub unwind fn) to
          → (t : State) → t.pc ≡ entry → Begins t → (v : Frame) → hide t ≡ v.seen → reg t 2 ≡ 0x20000000 + v.room → (w : World) → Leaves lines layout unwind_at (enter d g fn v w) t w
      enters_body fn frame right f n entry to stands t e h v seen room w = by (nat_le fn.frame v.room) refl
        where
          at_stub : At lines layout stub stub_at
          at_stub = (stub_stands.1).1

          begin : Stands lines layout t.pc (front_lines (front_words fn) fn.frame stub ++ (flat (front_words fn) fn.frame unwind fn.body).lines n stub stub false) to
          begin = stands_at lines layout entry t.pc (front_lines (front_words fn) fn.frame stub ++ (flat (front_words fn) fn.frame unwind fn.body).lines n stub stub false) to (sym e) (past_label lines layout f entry (front_lines (front_words fn) fn.frame stub ++ (flat (front_words fn) fn.frame unwind fn.body).lines n stub stub false) to stands)

          -- where there is no room there is a frame
          lowering : nat_eq fn.frame 0 ≡ false → Stands lines layout t.pc (below fn.frame ++ line.Branch Ltu 9 4 stub ∷ line.Plain (instr.I Addi 2 9 (pos 0)) ∷ (where_some (front_words fn) (line.Plain (instr.S Sd 2 1 (pos 0)) ∷ []) ++ (flat (front_words fn) fn.frame unwind fn.body).lines n stub stub false)) to
          lowering is =
              let link = where_some (front_words fn) (line.Plain (instr.S Sd 2 1 (pos 0)) ∷ []) in
              let rest = line.Branch Ltu 9 4 stub ∷ line.Plain (instr.I Addi 2 9 (pos 0)) ∷ [] in
              subst (λ ys. Stands lines layout t.pc ys to) (append_assoc (below fn.frame ++ rest) link ((flat (front_words fn) fn.frame unwind fn.body).lines n stub stub false) ∙ append_assoc (below fn.frame) rest (link ++ (flat (front_words fn) fn.frame unwind fn.body).lines n stub stub false)) (subst (λ b. Stands lines layout t.pc ((cond b [] (below fn.frame ++ rest) ++ link) ++ (flat (front_words fn) fn.frame unwind fn.body).lines n stub stub false) to) is begin)

          same_most : (n : ℕ) → n ≤ n
          same_most n = omega arith

          taken : (a b : ℕ) → a < b → compare Ltu a b ≡ true
          taken a b le = grind (arith, nat_tests)

          by : (c : Bool) → nat_le fn.frame v.room ≡ c → Leaves lines layout unwind_at (body_of c d g fn v w) t w
          by true is =
              let fits : fn.frame ≤ v.room = grind (arith, nat_tests) in
              let u = framed (front_words fn) fn.frame frame t h v seen room fits stub stub_at at_stub ((flat (front_words fn) fn.frame unwind fn.body).lines n stub stub false) to begin in
              let w3 = entered fn.cost (tolled 6 w) in
              let few = u.few in
              left_leaves (front_words fn) fn.frame t w w3 u.state (steps_goes lines layout t w u.state w3 u.steps u.goes refl refl (omega arith) (omega arith)) u.outer u.top u.back
              (run fn.frame d g fn.body (record v { slots = λ k. None; room = v.room - fn.frame }) w3) to stub_at stub_at
              (flattened lines layout unwind_at (front_words fn) fn.frame unwind uncaught unwind_end unwind_stands frame d functions exceptions names few_exceptions few_names g enters places fn.body (recursion_from_All (IsRight (record { frame = fn.frame; front = front_words fn; functions = functions; exceptions = exceptions; names = names })) (mentions fn.body) right) (same_most (front_words fn)) n stub stub (u.state).pc to stub_at stub_at false u.stands at_stub at_stub (λ is. absurd (cc is))
              u.state (record v { slots = λ k. None; room = v.room - fn.frame }) refl u.ready u.sees w3)
          by false is = λ ok.
              let short : v.room < fn.frame = grind (arith, nat_tests) in
              let most = frame.most in
              let some : nat_eq fn.frame 0 ≡ false = grind (arith, nat_tests) in
              let low : 0x20000000 ≤ reg t 2 = h.low in
              let high : reg t 2 ≤ 0x40000000 = (let a = h.top in let b = (h.map).stack in omega arith) in
              let l = lowered lines layout fn.frame t (line.Branch Ltu 9 4 stub ∷ line.Plain (instr.I Addi 2 9 (pos 0)) ∷ (where_some (front_words fn) (line.Plain (instr.S Sd 2 1 (pos 0)) ∷ []) ++ (flat (front_words fn) fn.frame unwind fn.body).lines n stub stub false)) to h.count low high (omega arith) most (lowering some) in
              let u1 = l.state in
              let c1 : length u1.registers ≡ 32 = (l.sets).count ∙ h.count in
              let four : reg u1 4 ≡ 0x20000000 = (l.sets).other 4 (apart 4 9 refl) ∙ h.limit in
              let nine = (l.sets).value in
              let m = branch_moved lines layout u1 Ltu 9 4 stub (l.stands).0 stub_at true c1 (l.stands).1 at_stub (taken (reg u1 9) (reg u1 4) (omega arith)) in
              let w1 = tolled 6 w in
              let few = l.few in let least = m.few in
              stops_by lines layout t w m.state w1 Stack (tolled 9 w) (steps_goes lines layout t w m.state w1 (l.steps + m.steps) (goes_on lines layout t u1 m.state l.steps m.steps l.goes m.goes) refl refl (omega arith) (omega arith))
              (stub_stops stub stub_to m.state (stands_at lines layout stub_at (m.state).pc (stub_lines stub) stub_to (sym m.pc) stub_stands) ((m.sets).count ∙ c1) w1 (tolled 9 w) refl refl refl (omega arith))

    -- ---- all functions

    -- the functions' lines stand somewhere, and their labels tell where
    pub record AllStand (fs : List StackFun) (stub unwind uncaught : ℕ) : Type 0 where
      pub stub_at : ℕ
      pub stub_to : ℕ
      pub stub_stands : Stands lines layout stub_at (stub_lines stub) stub_to
      pub unwind_end : ℕ
      pub unwind_stands : Stands lines layout unwind_at (unwind_lines unwind uncaught) unwind_end
      pub places : (f : ℕ) → f < length fs → (entry : ℕ) × At lines layout f entry
      pub stand : (f : ℕ) (fn : StackFun) → slice_get fs f ≡ Some fn → (label : ℕ) × (entry : ℕ) × (to : ℕ) × Stands lines layout entry (function_lines f label stub unwind fn) to

    some_same : (a b : ℕ) → Some a ≡ Some b → a ≡ b
    some_same a b e = cc

    module _ (p : Program StackFun) (few_exceptions : length p.exceptions ≤ 1024) (few_names : length p.names ≤ 1024)
        (fine : (f : ℕ) (fn : StackFun) → slice_get p.functions f ≡ Some fn → IsFrame (front_words fn) fn.frame × All (IsRight (scope_of p fn)) (mentions fn.body)) (stub unwind uncaught : ℕ) (all : AllStand p.functions stub unwind uncaught) where
      pub all_enter : (d : ℕ) → Enters lines layout unwind_at (leaves p.functions d)
      all_enter zero f entry at t e h v seen room w = λ ok. stops_spent lines layout t w w refl refl refl
      all_enter (suc d) f entry at t e h v seen room w = by_body (slice_get p.functions f) refl (all_enter d)
        where
          by_body : (o : Option StackFun) → slice_get p.functions f ≡ o → Enters lines layout unwind_at (leaves p.functions d) → Leaves lines layout unwind_at (with_value o w (λ fn. enter d (leaves p.functions d) fn v w)) t w
          by_body None is enters = λ ok. absurd (ok refl)
          by_body (Some fn) is enters =
              let s = all.stand f fn is in
              let same : entry ≡ s.1 = some_same entry s.1 (sym at ∙ ((s.3).1).1) in
              let ok = fine f fn is in
              enters_body unwind uncaught all.unwind_end all.unwind_stands stub all.stub_at all.stub_to all.stub_stands d (length p.functions) (length p.exceptions) (length p.names) few_exceptions few_names (leaves p.functions d) enters all.places fn ok.0 ok.1 f
              s.0 s.1 s.2 s.3 t (e ∙ same) h v seen room w
