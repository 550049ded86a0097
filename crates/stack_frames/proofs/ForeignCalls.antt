-- Calls of foreign functions: the machine asks what the stage over homes asks, and has the same local memory afterwards.
use Rattle.std.proofs.Common.{◌≡◌, ◌≢◌, ℕ, ◌+◌, ◌-◌, ◌<◌, ◌≤◌, List, [], ◌∷◌, length, take, drop, Some, None, Bool, true, false, refl, sym, ap, ◌∙◌, arith}
use Rattle.std.specs.Prelude.{nat_le, nat_lt, nat_eq, ◌&&◌, unwrap_or, slice_get, if◌then◌else◌}
use Rattle.std.specs.List.{list_all}
use Rattle.std.proofs.lemmas.Bool.{and_parts}
use Rattle.std.proofs.lemmas.Bool.Decides.{nat_tests}
use Rattle.std.proofs.lemmas.List.{length-take}
use Rattle.std.proofs.lemmas.Option.{slice_get_within}
use Rattle.pan_base.specs.Bytes.{part, with_part}
use Rattle.pan_base.specs.Events.{Replied, Event, Foreign, Value, Done, Bytes, Stop, fits}
use Rattle.pan_base.specs.Words.{base_address}
use Rattle.pan_base.proofs.ByteLaws.{part_length, with_part_is_small}
use Rattle.pan_control.specs.Memory.{is_local, bytes_at}
use Rattle.pan_control.specs.Control.{Normal, with_value, ask}
use Rattle.pan_control.specs.Runs.{with_reply, foreign}
use Rattle.pan_stage.specs.Data.{World}
use Rattle.pan_stage.specs.Locals.{Locals}
use Rattle.pan_stage.proofs.Follows.{beside, matched, with_same}
use Rattle.riscv_isa.specs.declared.instr.Instr.TheVariants as instr
use Rattle.riscv_isa.specs.declared.pending.Pending.TheVariants as pending
use Rattle.riscv_isa.specs.declared.place.Region.TheVariants as region
use Rattle.riscv_isa.specs.Regions.{Memory, with_bytes, is_in}
use Rattle.riscv_isa.specs.Step.{State, Config, Waits, Over as Ended, reg, with_reg, next, act, buffer, ecall, replaced}
use Rattle.pan_base.specs.Events.{Fault}
use Rattle.riscv_isa.proofs.Memories.{all_bytes}
use Rattle.riscv_isa.proofs.Fixed.{as_many}
use Rattle.riscv_isa.proofs.Registers.{written as reg_is, unwritten as reg_stays}
use Rattle.stack_lang.specs.Frame.{Frame, with_register}
use Rattle.stack_lang.specs.Shown.{hide}
use Rattle.stack_lang.specs.Meaning.{asked, aimed}
use Rattle.stack_lang.specs.declared.syntax.Stmt.TheVariants as s
use Rattle.stack_lang.specs.declared.syntax.Stmt.TheOpen as o_s
use Rattle.stack_frames.proofs.Masked.{with_count, reg_over, memory_over}
use Rattle.stack_frames.proofs.Machine.{Machine, register_machine, memory_machine}
use Rattle.stack_frames.proofs.Homes.{spare_low, spare_17, kept_on, register_kept, memory_kept}
use Rattle.stack_frames.proofs.Rows.{stack_at}
use Rattle.stack_frames.proofs.Asking.{ask_fits}
use Rattle.stack_frames.proofs.Following.{view, Setting, KeptIn, does, Held, ends, SameAt, kept_held, last, code}

-- ---- the machine asks

-- what a call of a foreign function leads to, by its number and the registers of its buffers
abbrev called : State → (number conf conf_len array array_len : ℕ) → Config
called t n a b c d =
    if nat_lt n (length t.names) && is_in region.Local t.memory a b && is_in region.Local t.memory c d then Waits (pending.Foreign n (buffer a b) (buffer c d)) (next t) else Ended Fault

module _ (t : State) (count : length t.registers ≡ 32) (n a b c d : ℕ) (ra : reg t 10 ≡ a) (rb : reg t 11 ≡ b) (rc : reg t 12 ≡ c) (rd : reg t 13 ≡ d) where
  differs : (x y : ℕ) → x < y → y ≢ x
  differs x y l e = omega (arith, l, e)

  apart_from : (x : ℕ) → x < 14 → reg (aimed n t) x ≡ reg t x
  apart_from x l = reg_stays (with_reg t 14 n) 17 x 1 (differs x 17 (omega (arith, l))) ∙ reg_stays t 14 x n (differs x 14 l)

  aimed_calls : act instr.Ecall (aimed n t) ≡ called (aimed n t) n a b c d
  aimed_calls =
      ap (λ k. ecall k (aimed n t)) (reg_is (with_reg t 14 n) 17 1 (differs 0 17 (omega arith)) (let e = with_count t 14 n in omega (arith, e, count)))
      ∙ ap (λ k. called (aimed n t) k (reg (aimed n t) 10) (reg (aimed n t) 11) (reg (aimed n t) 12) (reg (aimed n t) 13))
      (reg_stays (with_reg t 14 n) 17 14 1 (differs 14 17 (omega arith)) ∙ reg_is t 14 n (differs 0 14 (omega arith)) (omega (arith, count)))
      ∙ ap (λ k. called (aimed n t) n k (reg (aimed n t) 11) (reg (aimed n t) 12) (reg (aimed n t) 13)) (apart_from 10 (omega arith) ∙ ra)
      ∙ ap (λ k. called (aimed n t) n a k (reg (aimed n t) 12) (reg (aimed n t) 13)) (apart_from 11 (omega arith) ∙ rb)
      ∙ ap (λ k. called (aimed n t) n a b k (reg (aimed n t) 13)) (apart_from 12 (omega arith) ∙ rc)
      ∙ ap (λ k. called (aimed n t) n a b c k) (apart_from 13 (omega arith) ∙ rd)

  pub aimed_waits : nat_lt n (length t.names) ≡ true → is_in region.Local t.memory a b ≡ true → is_in region.Local t.memory c d ≡ true → act instr.Ecall (aimed n t) ≡ Waits (pending.Foreign n (buffer a b) (buffer c d)) (next (aimed n t))
  aimed_waits x y z = aimed_calls ∙ by (nat_lt n (length t.names)) (is_in region.Local t.memory a b) (is_in region.Local t.memory c d) x y z
    where
      by : (x y z : Bool) → x ≡ true → y ≡ true → z ≡ true → (if x && y && z then Waits (pending.Foreign n (buffer a b) (buffer c d)) (next (aimed n t)) else Ended Fault) ≡ Waits (pending.Foreign n (buffer a b) (buffer c d)) (next (aimed n t))
      by true true true e f g = refl
      by false y z e f g = cc e
      by true false z e f g = cc f
      by true true false e f g = cc g

-- bytes of local memory, where there are so many
record HasBytes (m : List ℕ) (addr count : ℕ) (bytes : List ℕ) : Type 0 where
  inside : is_local m addr count ≡ true
  are : bytes ≡ take count (drop (addr - base_address) m)

has_bytes : (m : List ℕ) (addr count : ℕ) (bytes : List ℕ) → bytes_at m addr count ≡ Some bytes → HasBytes m addr count bytes
has_bytes m addr count bytes = by (is_local m addr count) refl
  where
    by : (b : Bool) → is_local m addr count ≡ b → (if b then Some (take count (drop (addr - base_address) m)) else None) ≡ Some bytes → HasBytes m addr count bytes
    by true i e = record { inside = i; are = sym (some e) }
      where
        some : {A : Type 0} {a b : A} → Some a ≡ Some b → a ≡ b
        some e = cc e
    by false i e = absurd (cc e)

module _ (at : Setting) (N B C L : ℕ → Type 0) (c : ℕ) (f : (y : ℕ) → N y → L y) (number conf conf_len array array_len : ℕ) (v : Locals) (w : World) (u : Frame) (t : ℕ) (r : Held at L v w u)
    (r10 : reg u.seen 10 ≡ conf) (r11 : reg u.seen 11 ≡ conf_len) (r12 : reg u.seen 12 ≡ array) (r13 : reg u.seen 13 ≡ array_len) where
  -- the machine after a reply that has these bytes
  abbrev memory_with : List ℕ → Memory
  memory_with bytes = with_bytes region.Local (with_part ((u.seen).memory).local (array - base_address) bytes) (u.seen).memory

  abbrev with_numbers : Frame
  with_numbers = with_register (with_register u 14 number) 17 1

  abbrev after : List ℕ → Frame
  after bytes = record with_numbers { seen = hide (record with_numbers.seen { memory = memory_with bytes }) }

  seen_after : (bytes : List ℕ) → hide (record (aimed number u.seen) { memory = memory_with bytes }) ≡ (after bytes).seen
  seen_after bytes =
      sym (memory_over (with_reg (hide (with_reg u.seen 14 number)) 17 1) (memory_with bytes)
      ∙ sym (memory_over (with_reg (hide (with_reg u.seen 14 number)) 17 1) (memory_with bytes))
      ∙ ap (λ z. hide (record z { memory = memory_with bytes })) (reg_over (with_reg u.seen 14 number) 17 1 spare_17.usable)
      ∙ memory_over (aimed number u.seen) (memory_with bytes))

  kept_after : (bytes : List ℕ) → KeptIn at u (after bytes)
  kept_after bytes =
      kept_on at.names at.slot at.named at.numbered u with_numbers (after bytes)
      (kept_on at.names at.slot at.named at.numbered u (with_register u 14 number) with_numbers
      (register_kept at.names at.slot at.named at.numbered 14 number u (spare_low 14 (omega arith) (omega arith))) (register_kept at.names at.slot at.named at.numbered 17 1 (with_register u 14 number) spare_17))
      (memory_kept at.names at.slot at.named at.numbered (memory_with bytes) with_numbers)

  machine_numbers : Machine at.names w.globals w.memory with_numbers.seen
  machine_numbers =
      register_machine at.names w.globals w.memory (with_register u 14 number).seen (register_machine at.names w.globals w.memory u.seen r.machine 14 number (spare_low 14 (omega arith) (omega arith)).usable) 17 1 spare_17.usable

  module _ (bytes before : List ℕ) (has_array : HasBytes w.memory array array_len before) (fit : (nat_eq (length bytes) (length before) && list_all (λ b. nat_lt b 256) bytes) ≡ true) where
    fits_in : array - base_address + length bytes ≤ length w.memory
    fits_in =
        let i = has_array.inside in
        let e : length bytes ≡ length before = as_many before bytes fit in
        let k : length before ≤ array_len = shorter array_len (drop (array - base_address) w.memory) before has_array.are in
        let low : base_address ≤ array = grind (arith, nat_tests) in
        let high : array + array_len ≤ base_address + length w.memory = grind (arith, nat_tests) in
        omega (arith, e, k, low, high)
      where
        shorter : (n : ℕ) (xs ys : List ℕ) → ys ≡ take n xs → length ys ≤ n
        shorter n xs ys e = let h : length ys ≡ length (take n xs) = ap (λ (l : List ℕ). length l) e in let k = length-take n xs in omega (arith, h, k)

    same_memory : with_part ((u.seen).memory).local (array - base_address) bytes ≡ with_reply w.memory array (Bytes bytes)
    same_memory = ap (λ m. with_part m (array - base_address) bytes) (r.machine).local_are

    machine_after : Machine at.names w.globals (with_reply w.memory array (Bytes bytes)) (after bytes).seen
    machine_after =
        let m = machine_numbers in
        let k : length (with_part w.memory (array - base_address) bytes) ≡ length w.memory = part_length w.memory (array - base_address) bytes fits_in in
        memory_machine at.names w.globals w.memory with_numbers.seen m w.globals (with_reply w.memory array (Bytes bytes)) (memory_with bytes) (r.machine).block (r.machine).globals_are same_memory m.few
        (let small = m.small in omega (arith, k, small)) m.global_bytes
        (with_part_is_small w.memory (array - base_address) bytes m.local_bytes (all_bytes bytes (and_parts (nat_eq (length bytes) (length before)) (list_all (λ b. nat_lt b 256) bytes) fit).1))

  -- a call whose buffers stand in their registers
  pub foreign_same : t + 3 + c ≤ w.toll → SameAt at N B C c (with_value (slice_get at.names number) w (λ name. foreign number name conf conf_len array array_len v w)) (code at (s.Foreign number ∷ []) u (beside view t w))
  foreign_same le =
      with_same (ends at N B C c) (slice_get at.names number) w _ _ (λ name named.
      with_same (ends at N B C c) (bytes_at w.memory conf conf_len) w _ _ (λ cs is_conf.
      with_same (ends at N B C c) (bytes_at w.memory array array_len) w _ _ (λ arr is_array.
      let hc = has_bytes w.memory conf conf_len cs is_conf in
      let ha = has_bytes w.memory array array_len arr is_array in
      last at N B C c _ (s.Foreign number) u (beside view t w) (ask (Foreign number name cs arr) (beside view (t + 3) w) (λ a w. Normal (record u { seen = hide (replaced (buffer array array_len) (next (aimed number u.seen)) a) }) w))
      (foreign_asks name cs arr named hc ha)
      (ask_fits (ends at N B C c) (Foreign number name cs arr) w (t + 3) (λ a w. Normal v (record w { memory = with_reply w.memory array a })) (λ a w. Normal (record u { seen = hide (replaced (buffer array array_len) (next (aimed number u.seen)) a) }) w)
      (omega (arith, le)) (replied name cs arr ha)))))
    where
      local_inside : (addr count : ℕ) → is_local w.memory addr count ≡ true → is_in region.Local (u.seen).memory addr count ≡ true
      local_inside addr count h = ap (λ (m : List ℕ). nat_le base_address addr && nat_le (addr + count) (base_address + length m)) (r.machine).local_are ∙ h

      numbered : (name : List ℕ) → slice_get at.names number ≡ Some name → nat_lt number (length (u.seen).names) ≡ true
      numbered name e = ap (λ (ns : List (List ℕ)). nat_lt number (length ns)) (r.machine).names_are ∙ (let l = slice_get_within at.names number name e in grind (arith, nat_tests))

      request : (name cs arr : List ℕ) → slice_get at.names number ≡ Some name → HasBytes w.memory conf conf_len cs → HasBytes w.memory array array_len arr
          → Foreign number (unwrap_or (slice_get (u.seen).names number) []) (part ((u.seen).memory).local (conf - base_address) conf_len) (part ((u.seen).memory).local (array - base_address) array_len) ≡ Foreign number name cs arr
      request name cs arr e hc ha =
          ap (λ (ns : List (List ℕ)). Foreign number (unwrap_or (slice_get ns number) []) (part ((u.seen).memory).local (conf - base_address) conf_len) (part ((u.seen).memory).local (array - base_address) array_len)) (r.machine).names_are
          ∙ ap (λ o. Foreign number (unwrap_or o []) (part ((u.seen).memory).local (conf - base_address) conf_len) (part ((u.seen).memory).local (array - base_address) array_len)) e
          ∙ ap (λ m. Foreign number name (part m (conf - base_address) conf_len) (part m (array - base_address) array_len)) (r.machine).local_are
          ∙ ap (λ x. Foreign number name x (part w.memory (array - base_address) array_len)) (sym hc.are)
          ∙ ap (λ x. Foreign number name cs x) (sym ha.are)

      foreign_asks : (name cs arr : List ℕ) → slice_get at.names number ≡ Some name → HasBytes w.memory conf conf_len cs → HasBytes w.memory array array_len arr
          → does at (s.Foreign number) u (beside view t w) ≡ ask (Foreign number name cs arr) (beside view (t + 3) w) (λ a w. Normal (record u { seen = hide (replaced (buffer array array_len) (next (aimed number u.seen)) a) }) w)
      foreign_asks name cs arr e hc ha =
          stack_at at.size at.turns at.stack_callee (o_s.Foreign number) (s.Foreign number) (s.rolls-Foreign number) u (beside view t w)
          ∙ ap (λ k. asked u k (beside view (t + 3) w)) (aimed_waits u.seen (r.machine).count number conf conf_len array array_len r10 r11 r12 r13 (numbered name e) (local_inside conf conf_len hc.inside) (local_inside array array_len ha.inside))
          ∙ ap (λ q. ask q (beside view (t + 3) w) (λ a w. Normal (record u { seen = hide (replaced (buffer array array_len) (next (aimed number u.seen)) a) }) w)) (request name cs arr e hc ha)

      replied : (name cs arr : List ℕ) → HasBytes w.memory array array_len arr → (reply : Replied) (rs : List Replied) (es : List Event) → fits (Foreign number name cs arr) reply ≡ true
          → SameAt at N B C c (Normal v (record w { memory = with_reply w.memory array reply; replies = rs; trace = es })) (Normal (record u { seen = hide (replaced (buffer array array_len) (next (aimed number u.seen)) reply) }) (beside view (t + 3) (record w { replies = rs; trace = es })))
      replied name cs arr ha (Value n) rs es fit = absurd (cc fit)
      replied name cs arr ha Done rs es fit = absurd (cc fit)
      replied name cs arr ha Stop rs es fit = absurd (cc fit)
      replied name cs arr ha (Bytes bytes) rs es fit =
          let w2 : World = record w { memory = with_reply w.memory array (Bytes bytes); replies = rs; trace = es } in
          matched (record {
            second = after bytes;
            toll = t + 3;
            holds = (kept_held at L N v w w2 u (after bytes) f (kept_after bytes) (machine_after bytes arr ha fit) refl refl r, omega (arith, le));
            is = ap (λ z. Normal (record u { seen = z }) (beside view (t + 3) w2)) (seen_after bytes);
          })
