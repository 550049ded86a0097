-- Calls, with and without a handler, tail calls, returns and raises.
use Rattle.std.proofs.Common.{◌≡◌, ◌≢◌, ℕ, pos, negsuc, zero, suc, ◌+◌, ◌-◌, ◌*◌, ◌%◌, ◌^◌, ◌<◌, ◌≤◌, refl, sym, ap, ◌∙◌, subst, Bool, true, false, cond, List, [], ◌∷◌, length, drop, None, inl, arith}
use Rattle.std.specs.Prelude.{nat_eq, not}
use Rattle.std.proofs.lemmas.Bool.Decides.{nat_tests}
use Rattle.pan_base.specs.Words.{compare}
use Rattle.pan_base.specs.declared.events.Size.TheVariants.{B8}
use Rattle.pan_base.specs.declared.operators.Cmp.TheVariants.{Eq, Ne}
use Rattle.pan_base.specs.declared.operators.LOp.TheVariants.{Ld}
use Rattle.pan_base.specs.declared.operators.SOp.TheVariants.{Sd}
use Rattle.pan_base.specs.declared.operators.IOp.TheVariants.{Addi}
use Rattle.pan_control.specs.World.{tolled, back_in}
use Rattle.pan_control.specs.Control.{Normal, Broken, Continued, Returned, Raised, Over, and_then, spend_of, after_call}
use Rattle.riscv_isa.specs.declared.instr.Instr.TheVariants as instr
use Rattle.pan_base.specs.Bytes.{number_at}
use Rattle.riscv_isa.specs.Regions.{Memory}
use Rattle.pan_base.specs.Results.{plus}
use Rattle.riscv_isa.specs.Step.{State, reg, with_reg, next}
use Rattle.lab_lang.specs.declared.syntax.Line.{Line}
use Rattle.lab_lang.specs.declared.syntax.Line.TheVariants as line
use Rattle.stack_lang.specs.Shown.{hide}
use Rattle.stack_lang.specs.declared.syntax.Catch.{Catch}
use Rattle.stack_lang.specs.Frame.{Frame, back_with}
use Rattle.stack_lang.specs.Meaning.{World, Outcome, Callee, Does, more, after, caught, calls}
use Rattle.lab_flatten.specs.Flatten.{slot_at, pushed, unwind_lines}
use Rattle.lab_flatten.proofs.Hiding.{apart, SameSizes, hidden_2, hidden_8, hidden_9}
use Rattle.lab_flatten.proofs.Machine.{Sets, sets_reg, sets_pc, word, SameFrom, same_word, IsMap, map_kept, IsWord, loads_word, stored, stores_word, stored_is, stored_keeps, plus_zero, plus_small, plus_down, Outer, sizes_on, sizes_is, outer_on, sets_outer, Kept, saved_same, IsFrame, Ready, Begins, frame_word}
use Rattle.lab_flatten.proofs.Lines.{At, Here, Stands, stands_at, past_label, Goes, goes_on, step_plain, step_reg, branch_moved, Called, call_moved, address_goes, jump_back}
use Rattle.lab_flatten.proofs.Lands.{Sees, Steps, steps_on, steps_goes, Returns, stops_by, stops_spent, Threw, Lands, Leaves, Enters, LandsFrom, after_comes}

pub reg_zero : (t : State) → reg t 0 ≡ 0
unfolding reg
reg_zero t = refl

pub word_same : (t u : State) (a : ℕ) → u.memory ≡ t.memory → word u a ≡ word t a
word_same t u a e = ap (λ (m : Memory). number_at B8 m.stack (a - 0x20000000)) e

pub is_word_same : (t u : State) (a : ℕ) → u.memory ≡ t.memory → IsWord t a → IsWord u a
is_word_same t u a e w = record { map = subst IsMap (sym e) w.map; whole = w.whole; low = w.low; high = subst (λ (m : Memory). a + 8 ≤ 0x20000000 + length m.stack) (sym e) w.high }

is_word_sized : (t u : State) (a : ℕ) → SameSizes t.memory u.memory → IsWord t a → IsWord u a
is_word_sized t u a s w = record { map = map_kept t.memory u.memory w.map s; whole = w.whole; low = w.low; high = let e = s.stack in let h = w.high in omega arith }

-- a caller's frame as it was, and the machine as a callee left it
pub record Home (front size : ℕ) (t : State) (x : Frame) (u : State) : Type 0 where
  pub seen : hide u ≡ x.seen
  pub sp : reg u 2 ≡ reg t 2
  pub outer : Outer (reg t 2 + size) t u
  pub words : (b : ℕ) → reg t 2 + 8 * front ≤ b → word u b ≡ word t b
  pub link : word u (reg t 2) ≡ word t (reg t 2)

pub home_kept : (front size : ℕ) (t : State) (x : Frame) (u : State) → 0 < front → Home front size t x u → Kept front size t u
home_kept front size t x u some h = record { outer = h.outer; sp = h.sp; link = saved_same front t u (λ none. absurd (omega (arith, none, some))) (λ more. ap (word u) h.sp ∙ h.link) }

pub home_sees : (front size : ℕ) (t : State) (v x : Frame) (u : State) → Sees front size v t → Home front size t x u → Sees front size (back_with v x) u
home_sees front size t v x u s h = record {
  seen = h.seen;
  room = h.sp ∙ s.room;
  slots = λ j n le is. ap (λ a. word u (a + slot_at front j)) h.sp ∙ h.words (reg t 2 + slot_at front j) (omega arith) ∙ s.slots j n le is;
}

home_sets : (r n front size : ℕ) (t : State) (x : Frame) (u u' : State) → Sets r n u u' → 2 ≢ r → 4 ≢ r → 8 ≢ r → Home front size t x u → Home front size t x u'
home_sets r n front size t x u u' s two four eight h = record {
  seen = s.seen ∙ h.seen;
  sp = s.other 2 two ∙ h.sp;
  outer = outer_on (reg t 2 + size) (reg t 2 + size) t u u' h.outer (sets_outer r n (reg t 2 + size) u u' s four eight) (omega arith);
  words = λ b le. word_same u u' b s.memory ∙ h.words b le;
  link = word_same u u' (reg t 2) s.memory ∙ h.link;
}

module _ (lines : List Line) (layout : List (ℕ × ℕ)) where
  -- ---- to the newest record

  pub record Unwound (h : ℕ) (s : State) : Type 0 where
    pub state : State
    pub seen : hide state ≡ hide s
    pub memory : state.memory ≡ s.memory
    pub count : length state.registers ≡ length s.registers
    pub limit : reg state 4 ≡ reg s 4
    pub code : reg state 1 ≡ reg s 1
    pub sp : reg state 2 ≡ h - 8
    pub newest : reg state 8 ≡ word s h
    pub pc : state.pc ≡ word s (h + 8)
    pub steps : ℕ
    pub few : steps ≤ 5
    pub goes : Goes lines layout s state steps

  pub unwound : (unwind uncaught end h : ℕ) (s : State) → length s.registers ≡ 32 → Stands lines layout s.pc (unwind_lines unwind uncaught) end → reg s 8 ≡ h → 8 ≤ h → h < 2 ^ 63 → IsWord s h → IsWord s (h + 8)
      → word s (h + 8) % 4 ≡ 0 → word s (h + 8) < 2 ^ 64 → Unwound h s
  unwound unwind uncaught end h s count stands is big small w w8 whole little =
      let ends = line.Label uncaught ∷ line.Plain (instr.I Addi 17 0 (pos 0)) ∷ line.Plain (instr.I Addi 10 0 (pos 1)) ∷ line.Plain (instr.I Addi 11 1 (pos 0)) ∷ line.Plain instr.Ecall ∷ [] in
      let tail = line.Plain (instr.L Ld 9 8 (pos 8)) ∷ line.Plain (instr.I Addi 2 8 (negsuc 7)) ∷ line.Plain (instr.L Ld 8 8 (pos 0)) ∷ line.JumpReg 9 ∷ ends in
      let b = past_label lines layout unwind s.pc (line.Branch Eq 8 0 uncaught ∷ tail) end stands in
      let r1 = b.2 in let r2 = r1.2 in let r3 = r2.2 in let r4 = r3.2 in let lab = r4.2 in
      let test : compare Eq (reg s 8) (reg s 0) ≡ false = not_zero (reg s 8) (reg s 0) is (reg_zero s) in
      let m = branch_moved lines layout s Eq 8 0 uncaught b.0 (s.pc + 4 * b.0 + 4 * r1.0 + 4 * r2.0 + 4 * r3.0 + 4 * r4.0) false count b.1 (lab.1).1 test in
      let u0 = m.state in
      let c0 = (m.sets).count ∙ count in
      let eight0 : reg u0 8 ≡ h = (m.sets).other 8 (apart 8 9 refl) ∙ is in
      let n1 = word u0 (h + 8) in
      let u1 = next (with_reg u0 9 n1) in
      let s1 = sets_reg 9 hidden_9 u0 n1 (next (with_reg u0 9 n1)).pc c0 in
      let g1 = step_reg lines layout (instr.L Ld 9 8 (pos 8)) (line.Plain (instr.I Addi 2 8 (negsuc 7)) ∷ line.Plain (instr.L Ld 8 8 (pos 0)) ∷ line.JumpReg 9 ∷ ends) end u0 9 n1 (stands_at lines layout (s.pc + 4 * b.0) u0.pc tail end (sym m.pc) r1)
      (loads_word u0 9 8 (pos 8) (h + 8) (is_word_same s u0 (h + 8) (m.sets).memory w8) (ap (λ n. plus n (pos 8)) eight0 ∙ plus_small h 8 (omega arith))) in
      let c1 = s1.count ∙ c0 in
      let eight1 : reg u1 8 ≡ h = s1.other 8 (apart 8 9 refl) ∙ eight0 in
      let n2 = plus (reg u1 8) (negsuc 7) in
      let u2 = next (with_reg u1 2 n2) in
      let s2 = sets_reg 2 hidden_2 u1 n2 (next (with_reg u1 2 n2)).pc c1 in
      let g2 = step_reg lines layout (instr.I Addi 2 8 (negsuc 7)) (line.Plain (instr.L Ld 8 8 (pos 0)) ∷ line.JumpReg 9 ∷ ends) end u1 2 n2 g1.1 refl in
      let c2 = s2.count ∙ c1 in
      let eight2 : reg u2 8 ≡ h = s2.other 8 (apart 8 2 refl) ∙ eight1 in
      let mem2 : u2.memory ≡ s.memory = s2.memory ∙ s1.memory ∙ (m.sets).memory in
      let n3 = word u2 h in
      let u3 = next (with_reg u2 8 n3) in
      let s3 = sets_reg 8 hidden_8 u2 n3 (next (with_reg u2 8 n3)).pc c2 in
      let g3 = step_reg lines layout (instr.L Ld 8 8 (pos 0)) (line.JumpReg 9 ∷ ends) end u2 8 n3 g2.1
      (loads_word u2 8 8 (pos 0) h (is_word_same s u2 h mem2 w) (ap (λ n. plus n (pos 0)) eight2 ∙ plus_zero h (omega arith))) in
      let to = word s (h + 8) in
      let nine : reg u3 9 ≡ to = s3.other 9 (apart 9 8 refl) ∙ s2.other 9 (apart 9 2 refl) ∙ s1.value ∙ word_same s u0 (h + 8) (m.sets).memory in
      let g4 = jump_back lines layout u3 9 to end ends g3.1 nine whole little in
      let s4 = sets_pc 9 u3 to in
      record {
        state = record u3 { pc = to };
        seen = s3.seen ∙ s2.seen ∙ s1.seen ∙ (m.sets).seen;
        memory = s3.memory ∙ mem2;
        count = s3.count ∙ s2.count ∙ s1.count ∙ (m.sets).count;
        limit = s4.other 4 (apart 4 9 refl) ∙ s3.other 4 (apart 4 8 refl) ∙ s2.other 4 (apart 4 2 refl) ∙ s1.other 4 (apart 4 9 refl) ∙ (m.sets).other 4 (apart 4 9 refl);
        code = s4.other 1 (apart 1 9 refl) ∙ s3.other 1 (apart 1 8 refl) ∙ s2.other 1 (apart 1 2 refl) ∙ s1.other 1 (apart 1 9 refl) ∙ (m.sets).other 1 (apart 1 9 refl);
        sp = s4.other 2 (apart 2 9 refl) ∙ s3.other 2 (apart 2 8 refl) ∙ s2.value ∙ ap (λ n. plus n (negsuc 7)) eight1 ∙ plus_down h 8 (omega arith) big (omega arith) (omega arith);
        newest = s4.other 8 (apart 8 9 refl) ∙ s3.value ∙ word_same s u2 h mem2;
        pc = refl;
        steps = m.steps + (1 + (1 + (1 + 1)));
        few = (let x = m.few in omega arith);
        goes = goes_on lines layout s u0 (record u3 { pc = to }) m.steps (1 + (1 + (1 + 1))) m.goes
            (goes_on lines layout u0 u1 (record u3 { pc = to }) 1 (1 + (1 + 1)) g1.0 (goes_on lines layout u1 u2 (record u3 { pc = to }) 1 (1 + 1) g2.0 (goes_on lines layout u2 u3 (record u3 { pc = to }) 1 1 g3.0 g4)));
      }
    where
      not_zero : (n m : ℕ) → n ≡ h → m ≡ 0 → compare Eq n m ≡ false
      not_zero n m e z = grind (arith, nat_tests)

  -- ---- a record in the frame

  pub record Pushed (handler : ℕ) (t : State) : Type 0 where
    pub state : State
    pub seen : hide state ≡ hide t
    pub sizes : SameSizes t.memory state.memory
    pub count : length state.registers ≡ length t.registers
    pub limit : reg state 4 ≡ reg t 4
    pub sp : reg state 2 ≡ reg t 2
    pub newest : reg state 8 ≡ reg t 2 + 8
    pub former : word state (reg t 2 + 8) ≡ reg t 8
    pub code : word state (reg t 2 + 16) ≡ handler
    pub link : word state (reg t 2) ≡ word t (reg t 2)
    pub above : SameFrom (reg t 2 + 24) t state
    pub pc : state.pc ≡ t.pc + 20
    pub goes : Goes lines layout t state 5

  pub pushes : (front size n handler end : ℕ) (xs : List Line) (t : State) → IsFrame front size → 3 ≤ front → Ready front size t → Stands lines layout t.pc (pushed n xs) end → At lines layout n handler → handler < 2 ^ 64 → Pushed handler t
  pushes front size n handler end xs t f three r h there small =
      let sp = reg t 2 in
      let low : sp ≤ 0x40000000 = (let a = r.frame in let b = (r.map).stack in omega arith) in
      let wide = f.wide in
      let w8 = frame_word front size 8 t r refl (omega arith) in
      let u1 = stored t (sp + 8) (reg t 8) in
      let d1 = stored_is t (sp + 8) (reg t 8) w8 in
      let g1 = step_plain lines layout (instr.S Sd 2 8 (pos 8)) (line.Address 9 n ∷ line.Plain (instr.S Sd 2 9 (pos 16)) ∷ line.Plain (instr.I Addi 8 2 (pos 8)) ∷ xs) end t u1 h
      (stores_word t 2 8 (pos 8) (sp + 8) w8 (plus_small sp 8 (omega arith))) refl in
      let u2 = record (with_reg u1 9 handler) { pc = u1.pc + 8 } in
      let s2 = sets_reg 9 hidden_9 u1 handler (u1.pc + 8) r.count in
      let g2 = address_goes lines layout u1 n handler end (line.Plain (instr.S Sd 2 9 (pos 16)) ∷ line.Plain (instr.I Addi 8 2 (pos 8)) ∷ xs) g1.1 there in
      let sp2 : reg u2 2 ≡ sp = s2.other 2 (apart 2 9 refl) ∙ d1.regs 2 in
      let w16 : IsWord u2 (sp + 16) = is_word_same u1 u2 (sp + 16) s2.memory (is_word_sized t u1 (sp + 16) d1.sizes (frame_word front size 16 t r refl (omega arith))) in
      let u3 = stored u2 (sp + 16) (reg u2 9) in
      let d3 = stored_is u2 (sp + 16) (reg u2 9) w16 in
      let g3 = step_plain lines layout (instr.S Sd 2 9 (pos 16)) (line.Plain (instr.I Addi 8 2 (pos 8)) ∷ xs) end u2 u3 g2.1
      (stores_word u2 2 9 (pos 16) (sp + 16) w16 (ap (λ n. plus n (pos 16)) sp2 ∙ plus_small sp 16 (omega arith))) refl in
      let sp3 : reg u3 2 ≡ sp = d3.regs 2 ∙ sp2 in
      let n4 = plus (reg u3 2) (pos 8) in
      let u4 = next (with_reg u3 8 n4) in
      let c3 = d3.count ∙ s2.count ∙ d1.count ∙ r.count in
      let s4 = sets_reg 8 hidden_8 u3 n4 (next (with_reg u3 8 n4)).pc c3 in
      let g4 = step_reg lines layout (instr.I Addi 8 2 (pos 8)) xs end u3 8 n4 g3.1 refl in
      let at_low = r.low in
      let newest = r.newest in
      record {
        state = u4;
        seen = s4.seen ∙ d3.seen ∙ s2.seen ∙ d1.seen;
        sizes = sizes_on t.memory u1.memory u4.memory d1.sizes (sizes_on u1.memory u2.memory u4.memory (sizes_is u1.memory u2.memory s2.memory) (sizes_on u2.memory u3.memory u4.memory d3.sizes (sizes_is u3.memory u4.memory s4.memory)));
        count = s4.count ∙ d3.count ∙ s2.count ∙ d1.count;
        limit = s4.other 4 (apart 4 8 refl) ∙ d3.regs 4 ∙ s2.other 4 (apart 4 9 refl) ∙ d1.regs 4;
        sp = s4.other 2 (apart 2 8 refl) ∙ sp3;
        newest = s4.value ∙ ap (λ n. plus n (pos 8)) sp3 ∙ plus_small sp 8 (omega arith);
        former = word_same u3 u4 (sp + 8) s4.memory ∙ stored_keeps (sp + 16) (reg u2 9) (sp + 8) u2 u3 d3 (omega arith) (inl (omega arith)) ∙ word_same u1 u2 (sp + 8) s2.memory ∙ d1.here ∙ mod_small (reg t 8) newest;
        code = word_same u3 u4 (sp + 16) s4.memory ∙ d3.here ∙ ap (λ n. n % 2 ^ 64) s2.value ∙ mod_small handler small;
        link = word_same u3 u4 sp s4.memory ∙ stored_keeps (sp + 16) (reg u2 9) sp u2 u3 d3 at_low (inl (omega arith)) ∙ word_same u1 u2 sp s2.memory ∙ stored_keeps (sp + 8) (reg t 8) sp t u1 d1 at_low (inl (omega arith));
        above = λ m le. ap (λ (y : Memory). drop m y.stack) s4.memory ∙ d3.above m (omega arith) ∙ ap (λ (y : Memory). drop m y.stack) s2.memory ∙ d1.above m (omega arith);
        pc = omega arith;
        goes = goes_on lines layout t u1 u4 1 (2 + (1 + 1)) g1.0 (goes_on lines layout u1 u2 u4 2 (1 + 1) g2.0 (goes_on lines layout u2 u3 u4 1 1 g3.0 g4.0));
      }
    where
      mod_small : (n : ℕ) → n < 2 ^ 64 → n % 2 ^ 64 ≡ n
      mod_small n s = omega arith

  -- ---- callers

  -- a state in which a function can be entered, but for the return address
  pub record Caller (p : State) : Type 0 where
    pub map : IsMap p.memory
    pub count : length p.registers ≡ 32
    pub whole : reg p 2 % 8 ≡ 0
    pub low : 0x20000000 ≤ reg p 2
    pub limit : reg p 4 ≡ 0x20000000
    pub top : reg p 2 ≤ 0x20000000 + length (p.memory).stack
    pub newest : reg p 8 < 2 ^ 64

  pub ready_caller : (front size : ℕ) (t : State) → Ready front size t → Caller t
  ready_caller front size t r = record { map = r.map; count = r.count; whole = r.whole; low = r.low; limit = r.limit; top = (let h = r.frame in omega arith); newest = r.newest }

  pub begins_of : (p c : State) (back : ℕ) → Caller p → Sets 1 back p c → back % 4 ≡ 0 → back < 2 ^ 64 → Begins c
  begins_of p c back r s whole small =
      let two = s.other 2 (apart 2 1 refl) in
      let sizes = sizes_is p.memory c.memory s.memory in
      record {
        map = map_kept p.memory c.memory r.map sizes;
        count = s.count ∙ r.count;
        whole = ap (λ n. n % 8) two ∙ r.whole;
        low = let h = r.low in omega arith;
        limit = s.other 4 (apart 4 1 refl) ∙ r.limit;
        top = let h = r.top in let l = sizes.stack in omega arith;
        link = ap (λ n. n % 4) s.value ∙ whole;
        link_word = let v = s.value in omega arith;
        newest = let e = s.other 8 (apart 8 1 refl) in let h = r.newest in omega arith;
      }

  module _ (unwind_at : ℕ) where
    -- ---- a call

    -- after a callee the caller's frame is as it was
    called_home : (front size back to : ℕ) (t : State) (x : Frame) (c : Called lines layout t back to) (u : State) → Ready front size t → hide u ≡ x.seen → reg u 2 ≡ reg (c.state) 2 → Outer (reg (c.state) 2) c.state u → Home front size t x u
    called_home front size back to t x c u r seen sp outer =
        let s = c.sets in
        let two = s.other 2 (apart 2 1 refl) in
        let low = r.low in
        record {
          seen = seen;
          sp = sp ∙ two;
          outer = outer_on (reg t 2 + size) (reg (c.state) 2) t c.state u (sets_outer 1 back (reg t 2 + size) t c.state s (apart 4 1 refl) (apart 8 1 refl)) outer (omega arith);
          words = λ b le. same_word (reg (c.state) 2) b c.state u outer.above (omega arith) (omega arith) ∙ word_same t c.state b s.memory;
          link = same_word (reg (c.state) 2) (reg t 2) c.state u outer.above (omega arith) low ∙ word_same t c.state (reg t 2) s.memory;
        }

    plain_left : (front size back to on out again : ℕ) → 0 < front → (ms : Does) (v : Frame) (t : State) (w w3 : World) (c : Called lines layout t back to) → Ready front size t → Sees front size v t → Steps lines layout t w c.state w3 → LandsFrom lines layout unwind_at front size ms back on out again
        → (o : Outcome (Unit {0}) Frame) → Leaves lines layout unwind_at o c.state w3 → Lands lines layout unwind_at front size (after_call w o (λ x w. ms (back_with v x) w) (λ i x w. Raised i x w)) t w on out again
    plain_left front size back to on out again some ms v t w w3 c r s a land (Normal x w') b = λ ok. absurd (ok refl)
    plain_left front size back to on out again some ms v t w w3 c r s a land (Broken x w') b = λ ok. absurd (ok refl)
    plain_left front size back to on out again some ms v t w w3 c r s a land (Continued x w') b = λ ok. absurd (ok refl)
    plain_left front size back to on out again some ms v t w w3 c r s a land (Returned x w') b =
        let h = called_home front size back to t x c b.state r b.seen b.sp b.outer in
        after_comes lines layout unwind_at front size ms t w (back_with v x) (back_in w w') back on out again r
        (record { state = b.state; sees = home_sees front size t v x b.state s h; pc = b.pc ∙ (c.sets).value; kept = home_kept front size t x b.state some h; by = steps_on lines layout t w c.state w3 b.state (back_in w w') a b.by }) land
    plain_left front size back to on out again some ms v t w w3 c r s a land (Raised i x w') b =
        let two = (c.sets).other 2 (apart 2 1 refl) in
        record {
          state = b.state;
          seen = b.seen;
          pc = b.pc;
          code = b.code;
          small = b.small;
          outer = outer_on (reg t 2 + size) (reg (c.state) 2) t c.state b.state (sets_outer 1 back (reg t 2 + size) t c.state c.sets (apart 4 1 refl) (apart 8 1 refl)) b.outer (omega arith);
          by = steps_on lines layout t w c.state w3 b.state (back_in w w') a b.by;
        }
    plain_left front size back to on out again some ms v t w w3 c r s a land (Over e w') b = λ ok. stops_by lines layout t w c.state w3 e w' a (b ok)

    here_at : (f n at at' : ℕ) → at' ≡ at → Here lines layout (line.CallTo f) n at → Here lines layout (line.CallTo f) n at'
    here_at f n at at' e h = subst (λ a. Here lines layout (line.CallTo f) n a) (sym e) h

    pub plain_call : (front size d : ℕ) → 0 < front → (g : Callee) → Enters lines layout unwind_at g → (f n entry at on out again : ℕ) (ms : Does) → Here lines layout (line.CallTo f) n at → At lines layout f entry
        → LandsFrom lines layout unwind_at front size ms (at + 4 * n) on out again → LandsFrom lines layout unwind_at front size (calls size d g f ms None) at on out again
    plain_call front size d more g enters f n entry at on out again ms here there land t v e r s w = by w.fuel refl
      where
        by : (k : ℕ) → w.fuel ≡ k → Lands lines layout unwind_at front size (spend_of k w (λ w'. after_call w (after 2 g f v w') (λ x w. ms (back_with v x) w) (λ i x w. Raised i x w))) t w on out again
        by zero fuel = λ ok. stops_spent lines layout t w w refl refl refl
        by (suc k) fuel =
            let w3 = tolled 2 (record w { fuel = k }) in
            let here' = here_at f n at t.pc e here in
            let c = call_moved lines layout t f n entry r.count here' there in
            let some = c.some in let few = c.few in
            let back : t.pc + 4 * n ≡ at + 4 * n = ap (λ a. a + 4 * n) e in
            plain_left front size (t.pc + 4 * n) entry on out again more ms v t w w3 c r s
            (steps_goes lines layout t w c.state w3 c.steps c.goes refl refl (omega arith) (omega arith))
            (subst (λ a. LandsFrom lines layout unwind_at front size ms a on out again) (sym back) land)
            (g f v w3) (enters f entry there c.state c.pc (begins_of t c.state (t.pc + 4 * n) (ready_caller front size t r) c.sets here'.2 here'.3) v ((c.sets).seen ∙ s.seen) ((c.sets).other 2 (apart 2 1 refl) ∙ s.room) w3)

    -- ---- a call under a handler

    -- after a callee the record is as it was, and all above it
    record Guard (handler : ℕ) (t u : State) : Type 0 where
      sizes : SameSizes t.memory u.memory
      count : length u.registers ≡ length t.registers
      limit : reg u 4 ≡ reg t 4
      newest : reg u 8 ≡ reg t 2 + 8
      former : word u (reg t 2 + 8) ≡ reg t 8
      code : word u (reg t 2 + 16) ≡ handler
      link : word u (reg t 2) ≡ word t (reg t 2)
      above : SameFrom (reg t 2 + 24) t u

    guard_of : (front size handler back to : ℕ) (t : State) (p : Pushed handler t) (c : Called lines layout p.state back to) (u : State) → Ready front size t → Outer (reg (c.state) 2) c.state u → Guard handler t u
    guard_of front size handler back to t p c u r o =
        let s = c.sets in
        let two : reg (c.state) 2 ≡ reg t 2 = s.other 2 (apart 2 1 refl) ∙ p.sp in
        let low = r.low in
        let same : (b : ℕ) → reg t 2 ≤ b → word u b ≡ word p.state b = λ b le. same_word (reg (c.state) 2) b c.state u o.above (omega arith) (omega arith) ∙ word_same p.state c.state b s.memory in
        record {
          sizes = sizes_on t.memory p.state.memory u.memory p.sizes (sizes_on p.state.memory c.state.memory u.memory (sizes_is p.state.memory c.state.memory s.memory) o.sizes);
          count = o.count ∙ s.count ∙ p.count;
          limit = o.limit ∙ s.other 4 (apart 4 1 refl) ∙ p.limit;
          newest = o.newest ∙ s.other 8 (apart 8 1 refl) ∙ p.newest;
          former = same (reg t 2 + 8) (omega arith) ∙ p.former;
          code = same (reg t 2 + 16) (omega arith) ∙ p.code;
          link = same (reg t 2) (omega arith) ∙ p.link;
          above = λ m le. o.above m (omega arith) ∙ ap (λ (y : Memory). drop m y.stack) s.memory ∙ p.above m le;
        }

    guard_home : (front size handler : ℕ) (t u : State) (x : Frame) (u' : State) → 3 ≤ front → 8 * front ≤ size → 0x20000000 ≤ reg t 2 → Guard handler t u → hide u' ≡ x.seen → reg u' 2 ≡ reg t 2 → u'.memory ≡ u.memory → length u'.registers ≡ length u.registers → reg u' 4 ≡ reg u 4 → reg u' 8 ≡ reg t 8 → Home front size t x u'
    guard_home front size handler t u x u' three wide low g seen sp mem count limit newest = record {
      seen = seen;
      sp = sp;
      outer = record {
        sizes = sizes_on t.memory u.memory u'.memory g.sizes (sizes_is u.memory u'.memory mem);
        count = count ∙ g.count;
        limit = limit ∙ g.limit;
        newest = newest;
        above = λ m le. ap (λ (y : Memory). drop m y.stack) mem ∙ g.above m (omega arith);
      };
      words = λ b le. word_same u u' b mem ∙ same_word (reg t 2 + 24) b t u g.above (omega arith) (omega arith);
      link = word_same u u' (reg t 2) mem ∙ g.link;
    }

    guard_word : (front size handler d : ℕ) (t u : State) → Ready front size t → Guard handler t u → d % 8 ≡ 0 → d + 8 ≤ size → IsWord u (reg t 2 + d)
    guard_word front size handler d t u r g whole le = is_word_sized t u (reg t 2 + d) g.sizes (frame_word front size d t r whole le)

    -- the code of a handler, and what stands for it
    module _ (unwind uncaught unwind_end : ℕ) (unwind_stands : Stands lines layout unwind_at (unwind_lines unwind uncaught) unwind_end)
        (front size : ℕ) (frame : IsFrame front size) (three : 3 ≤ front) (v : Frame) (t : State) (r : Ready front size t) (s : Sees front size v t) (w w3 : World) (handler back to : ℕ) (p : Pushed handler t) (c : Called lines layout p.state back to) (a : Steps lines layout t w c.state w3)
        (aligned : handler % 4 ≡ 0) (small : handler < 2 ^ 64) (on out again : ℕ) (ms : Does) (h : Catch Does) (few_exceptions : h.exception < 2 ^ 11)
        (xs : List Line) (xs_to : ℕ) (restores : Stands lines layout back (line.Plain (instr.L Ld 8 2 (pos 8)) ∷ xs) xs_to)
        (land_s : LandsFrom lines layout unwind_at front size (λ v w. and_then (ms v w) (more 2)) (back + 4) on out again)
        (ys : List Line) (ys_to nb : ℕ) (handles : Stands lines layout handler (line.Plain (instr.I Addi 9 0 (pos h.exception)) ∷ line.Branch Ne 1 9 unwind ∷ ys) ys_to)
        (land_h : LandsFrom lines layout unwind_at front size h.body (handler + 4 + 4 * ((handles.2).0)) on out again) where
      sp : ℕ
      sp = reg t 2

      returned_left : (x : Frame) (w' : World) → Returns lines layout (reg (c.state) 2) (reg (c.state) 1) c.state w3 x w' → Lands lines layout unwind_at front size (and_then (ms (back_with v x) (tolled 1 (back_in w w'))) (more 2)) t w on out again
      unfolding sp
      returned_left x w' b =
          let u = b.state in
          let wide = frame.wide in
          let g = guard_of front size handler back to t p c u r b.outer in
          let two : reg u 2 ≡ sp = b.sp ∙ (c.sets).other 2 (apart 2 1 refl) ∙ p.sp in
          let low : reg t 2 ≤ 0x40000000 = (let x = r.frame in let y = (r.map).stack in omega arith) in
          let n = word u (sp + 8) in
          let u2 = next (with_reg u 8 n) in
          let count : length u.registers ≡ 32 = g.count ∙ r.count in
          let s2 = sets_reg 8 hidden_8 u n (next (with_reg u 8 n)).pc count in
          let pc : u.pc ≡ back = b.pc ∙ (c.sets).value in
          let st = step_reg lines layout (instr.L Ld 8 2 (pos 8)) xs xs_to u 8 n (stands_at lines layout back u.pc (line.Plain (instr.L Ld 8 2 (pos 8)) ∷ xs) xs_to (sym pc) restores)
          (loads_word u 8 2 (pos 8) (sp + 8) (guard_word front size handler 8 t u r g refl (omega arith)) (ap (λ n. plus n (pos 8)) two ∙ plus_small sp 8 (omega arith))) in
          let h2 = guard_home front size handler t u x u2 three wide r.low g (s2.seen ∙ b.seen) (s2.other 2 (apart 2 8 refl) ∙ two) s2.memory s2.count (s2.other 4 (apart 4 8 refl)) (s2.value ∙ g.former) in
          let pc2 : u2.pc ≡ back + 4 = pc_of u n pc in
          after_comes lines layout unwind_at front size (λ v w. and_then (ms v w) (more 2)) t w (back_with v x) (tolled 1 (back_in w w')) (back + 4) on out again r
          (record {
            state = u2;
            sees = home_sees front size t v x u2 s h2;
            pc = pc2;
            kept = home_kept front size t x u2 (omega (arith, three)) h2;
            by = steps_on lines layout t w u (back_in w w') u2 (tolled 1 (back_in w w')) (steps_on lines layout t w c.state w3 u (back_in w w') a b.by)
                (steps_goes lines layout u (back_in w w') u2 (tolled 1 (back_in w w')) 1 st.0 refl refl (omega arith) (omega arith));
          }) land_s
        where
          pc_of : (u : State) (n : ℕ) → u.pc ≡ back → (next (with_reg u 8 n)).pc ≡ back + 4
          pc_of u n e = ap (λ a. a + 4) e

      raised_left : (i : ℕ) (x : Frame) (w' : World) → Threw lines layout unwind_at (reg (c.state) 2) c.state w3 i x w' → Lands lines layout unwind_at front size (caught h v i x (back_in w w')) t w on out again
      unfolding sp
      raised_left i x w' b =
          let u = b.state in
          let wide = frame.wide in
          let g = guard_of front size handler back to t p c u r b.outer in
          let at_low = r.low in
          let low : reg t 2 ≤ 0x40000000 = (let x = r.frame in let y = (r.map).stack in omega arith) in
          let count : length u.registers ≡ 32 = g.count ∙ r.count in
          let sum : sp + 8 + 8 ≡ sp + 16 = omega arith in
          let code : word u (sp + 8 + 8) ≡ handler = ap (word u) sum ∙ g.code in
          let z = unwound unwind uncaught unwind_end (sp + 8) u count (stands_at lines layout unwind_at u.pc (unwind_lines unwind uncaught) unwind_end (sym b.pc) unwind_stands) g.newest (omega arith) (omega arith)
          (guard_word front size handler 8 t u r g refl (omega arith)) (subst (λ a. IsWord u a) (sym sum) (guard_word front size handler 16 t u r g refl (omega arith))) (ap (λ n. n % 4) code ∙ aligned) (omega (arith, code, small)) in
          let y = z.state in
          let ycount : length y.registers ≡ 32 = z.count ∙ count in
          let ypc : y.pc ≡ handler = z.pc ∙ code in
          let n = plus (reg y 0) (pos h.exception) in
          let y2 = next (with_reg y 9 n) in
          let s2 = sets_reg 9 hidden_9 y n (next (with_reg y 9 n)).pc ycount in
          let st = step_reg lines layout (instr.I Addi 9 0 (pos h.exception)) (line.Branch Ne 1 9 unwind ∷ ys) ys_to y 9 n (stands_at lines layout handler y.pc (line.Plain (instr.I Addi 9 0 (pos h.exception)) ∷ line.Branch Ne 1 9 unwind ∷ ys) ys_to (sym ypc) handles) refl in
          let back_sp : sp + 8 - 8 ≡ sp = omega arith in
          let h1 = guard_home front size handler t u x y three wide r.low g (z.seen ∙ b.seen) (z.sp ∙ back_sp) z.memory z.count z.limit (z.newest ∙ g.former) in
          let h2 = home_sets 9 n front size t x y y2 s2 (apart 2 9 refl) (apart 4 9 refl) (apart 8 9 refl) h1 in
          let nine : reg y2 9 ≡ h.exception = s2.value ∙ ap (λ n. plus n (pos h.exception)) (reg_zero y) ∙ plus_small 0 h.exception (omega (arith, few_exceptions)) ∙ none h.exception in
          let one : reg y2 1 ≡ i = s2.other 1 (apart 1 9 refl) ∙ z.code ∙ b.code in
          let few = z.few in
          let before : Steps lines layout t w y2 (tolled 6 (back_in w w')) =
          steps_on lines layout t w u (back_in w w') y2 (tolled 6 (back_in w w')) (steps_on lines layout t w c.state w3 u (back_in w w') a b.by)
          (steps_goes lines layout u (back_in w w') y2 (tolled 6 (back_in w w')) (z.steps + 1) (goes_on lines layout u y y2 z.steps 1 z.goes st.0) refl refl (omega arith) (omega arith)) in
          by y2 h2 one nine (s2.count ∙ ycount) (ap (λ a. a + 4) ypc) before (nat_eq i h.exception) refl
        where
          none : (n : ℕ) → 0 + n ≡ n
          none n = omega arith

          at_unwind : At lines layout unwind unwind_at
          at_unwind = (unwind_stands.1).1

          by : (y2 : State) → Home front size t x y2 → reg y2 1 ≡ i → reg y2 9 ≡ h.exception → length y2.registers ≡ 32 → y2.pc ≡ handler + 4 → Steps lines layout t w y2 (tolled 6 (back_in w w')) → (q : Bool) → nat_eq i h.exception ≡ q
              → Lands lines layout unwind_at front size (cond q (h.body (back_with v x) (tolled 7 (back_in w w'))) (Raised i x (tolled 9 (back_in w w')))) t w on out again
          by y2 home one nine count pc before true is =
              let hb = handles.2 in
              let n1 = (handles.1).0 in
              let here : handler + 4 * handles.0 ≡ y2.pc = omega (arith, n1, pc) in
              let test : compare Ne (reg y2 1) (reg y2 9) ≡ false = (let k : nat_eq (reg y2 1) (reg y2 9) ≡ true = ap (λ n. nat_eq n (reg y2 9)) one ∙ ap (λ n. nat_eq i n) nine ∙ is in ap not k) in
              let m = branch_moved lines layout y2 Ne 1 9 unwind hb.0 unwind_at false count (subst (λ a. Here lines layout (line.Branch Ne 1 9 unwind) hb.0 a) here hb.1) at_unwind test in
              let home2 = home_sets 9 m.nine front size t x y2 m.state m.sets (apart 2 9 refl) (apart 4 9 refl) (apart 8 9 refl) home in
              let few = m.few in let some = m.some in
              after_comes lines layout unwind_at front size h.body t w (back_with v x) (tolled 7 (back_in w w')) (handler + 4 + 4 * hb.0) on out again r
              (record {
                state = m.state;
                sees = home_sees front size t v x m.state s home2;
                pc = m.pc ∙ ap (λ a. a + 4 * hb.0) pc;
                kept = home_kept front size t x m.state (omega (arith, three)) home2;
                by = steps_on lines layout t w y2 (tolled 6 (back_in w w')) m.state (tolled 7 (back_in w w')) before
                    (steps_goes lines layout y2 (tolled 6 (back_in w w')) m.state (tolled 7 (back_in w w')) m.steps m.goes refl refl (omega arith) (omega arith));
              }) land_h
          by y2 home one nine count pc before false is =
              let hb = handles.2 in
              let n1 = (handles.1).0 in
              let here : handler + 4 * handles.0 ≡ y2.pc = omega (arith, n1, pc) in
              let test : compare Ne (reg y2 1) (reg y2 9) ≡ true = (let k : nat_eq (reg y2 1) (reg y2 9) ≡ false = ap (λ n. nat_eq n (reg y2 9)) one ∙ ap (λ n. nat_eq i n) nine ∙ is in ap not k) in
              let m = branch_moved lines layout y2 Ne 1 9 unwind hb.0 unwind_at true count (subst (λ a. Here lines layout (line.Branch Ne 1 9 unwind) hb.0 a) here hb.1) at_unwind test in
              let home2 = home_sets 9 m.nine front size t x y2 m.state m.sets (apart 2 9 refl) (apart 4 9 refl) (apart 8 9 refl) home in
              let few = m.few in
              record {
                state = m.state;
                seen = home2.seen;
                pc = m.pc;
                code = (m.sets).other 1 (apart 1 9 refl) ∙ one;
                small = b.small;
                outer = home2.outer;
                by = steps_on lines layout t w y2 (tolled 6 (back_in w w')) m.state (tolled 9 (back_in w w')) before
                    (steps_goes lines layout y2 (tolled 6 (back_in w w')) m.state (tolled 9 (back_in w w')) m.steps m.goes refl refl (omega arith) (omega arith));
              }

      pub guarded_left : (o : Outcome (Unit {0}) Frame) → Leaves lines layout unwind_at o c.state w3 → Lands lines layout unwind_at front size (after_call w o (λ x w. and_then (ms (back_with v x) (tolled 1 w)) (more 2)) (caught h v)) t w on out again
      guarded_left (Normal x w') b = λ ok. absurd (ok refl)
      guarded_left (Broken x w') b = λ ok. absurd (ok refl)
      guarded_left (Continued x w') b = λ ok. absurd (ok refl)
      guarded_left (Returned x w') b = returned_left x w' b
      guarded_left (Raised i x w') b = raised_left i x w' b
      guarded_left (Over e w') b = λ ok. stops_by lines layout t w c.state w3 e w' a (b ok)
