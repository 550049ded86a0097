-- An instruction of structured code does the same to what is seen of a state as to the state.
use Rattle.std.proofs.Common.{◌≡◌, ◌≢◌, ℕ, ◌+◌, ◌-◌, ◌%◌, ◌<◌, ◌≤◌, refl, sym, ap, ◌∙◌, subst, List, [], length, set, get_or, Bool, true, false, eqb, cond, inl, inr, arith}
use Rattle.std.specs.Prelude.{◌⊎◌, nat_lt, nat_eq, ◌&&◌, ◌==◌}
use Rattle.std.proofs.lemmas.List.{set-set, set_comm, get_or-set_other, length-set}
use Rattle.std.proofs.lemmas.Grind.{common_steps}
use Rattle.std.proofs.lemmas.Bool.Decides.{nat_tests}
use Rattle.pan_base.specs.Events.{Replied, Value, Done, Bytes, Stop, Ending, Fault, fits, byte_count}
use Rattle.pan_base.specs.declared.events.Size.{Size}
use Rattle.pan_base.specs.declared.events.Size.TheVariants.{B1, B2, B4, B8}
use Rattle.pan_base.specs.declared.operators.LOp.{LOp}
use Rattle.riscv_isa.specs.declared.instr.Instr.{Instr}
use Rattle.riscv_isa.specs.declared.instr.Instr.TheVariants as instr
use Rattle.riscv_isa.specs.declared.pending.Buffer.{Buffer}
use Rattle.riscv_isa.specs.declared.pending.Pending.TheVariants as pending
use Rattle.riscv_isa.specs.declared.place.Place.{Place}
use Rattle.riscv_isa.specs.declared.place.Place.TheVariants as place
use Rattle.riscv_isa.specs.declared.place.Region.TheVariants as region
use Rattle.pan_base.specs.Bytes.{is_within, with_number, part, with_part}
use Rattle.riscv_isa.specs.Regions.{Memory, begin, bytes_of, is_in, place_of, with_bytes}
use Rattle.pan_base.specs.Results.{plus, r_result, i_result, sh_result, u_result, l_result, loads, stores}
use Rattle.riscv_isa.specs.Step.{State, Config, Runs, Waits, Over, reg, with_reg, next, act, load, store, foreign, buffer, ecall, ended, request_of, loaded, replaced, resumed}
use Rattle.stack_lang.specs.Shown.{mask, hide, IsVisible, IsWritable, IsShown}

pub apart : (a b : ℕ) → eqb a b ≡ false → a ≢ b
apart a b h = grind (arith, nat_tests)

-- ---- registers

pub mask_set : (xs : List ℕ) (r n : ℕ) → IsVisible r → set (mask xs) r n ≡ mask (set xs r n)
mask_set xs r n v =
    let x1 = set xs 1 0 in
    let x9 = set x1 9 0 in
    let x2 = set x9 2 0 in
    set_comm x2 8 r 0 n (λ e. v.3 (sym e))
    ∙ ap (λ ys. set ys 8 0) (set_comm x9 2 r 0 n (λ e. v.2 (sym e)) ∙ ap (λ ys. set ys 2 0) (set_comm x1 9 r 0 n (λ e. v.1 (sym e)) ∙ ap (λ ys. set ys 9 0) (set_comm xs 1 r 0 n (λ e. v.0 (sym e)))))

-- a register that is not seen
pub record Hidden (r : ℕ) : Type 0 where
  pub masked : (xs : List ℕ) (n : ℕ) → mask (set xs r n) ≡ mask xs
  pub some : eqb r 0 ≡ false
  pub below : r < 32
  pub limit : 4 ≢ r

pub hidden_1 : Hidden 1
hidden_1 = record { masked = λ xs n. ap (λ ys. set (set (set ys 9 0) 2 0) 8 0) (set-set xs 1 n 0); some = refl; below = omega arith; limit = apart 4 1 refl }

pub hidden_9 : Hidden 9
hidden_9 = record {
  masked = λ xs n. ap (λ ys. set (set ys 2 0) 8 0) (ap (λ ys. set ys 9 0) (set_comm xs 9 1 n 0 (apart 9 1 refl)) ∙ set-set (set xs 1 0) 9 n 0);
  some = refl;
  below = omega arith;
  limit = apart 4 9 refl;
}

pub hidden_2 : Hidden 2
hidden_2 = record {
  masked = λ xs n. ap (λ ys. set ys 8 0) (ap (λ ys. set ys 2 0) (ap (λ ys. set ys 9 0) (set_comm xs 2 1 n 0 (apart 2 1 refl)) ∙ set_comm (set xs 1 0) 2 9 n 0 (apart 2 9 refl)) ∙ set-set (set (set xs 1 0) 9 0) 2 n 0);
  some = refl;
  below = omega arith;
  limit = apart 4 2 refl;
}

pub hidden_8 : Hidden 8
hidden_8 = record {
  masked = λ xs n.
      ap (λ ys. set ys 8 0) (ap (λ ys. set ys 2 0) (ap (λ ys. set ys 9 0) (set_comm xs 8 1 n 0 (apart 8 1 refl)) ∙ set_comm (set xs 1 0) 8 9 n 0 (apart 8 9 refl)) ∙ set_comm (set (set xs 1 0) 9 0) 8 2 n 0 (apart 8 2 refl))
      ∙ set-set (set (set (set xs 1 0) 9 0) 2 0) 8 n 0;
  some = refl;
  below = omega arith;
  limit = apart 4 8 refl;
}

mask_mask : (xs : List ℕ) → mask (mask xs) ≡ mask xs
mask_mask xs =
    let x1 = set xs 1 0 in
    let x9 = set x1 9 0 in
    let x2 = set x9 2 0 in
    hidden_8.masked x2 0 ∙ hidden_2.masked x9 0 ∙ hidden_9.masked x1 0 ∙ hidden_1.masked xs 0

pub hide_hide : (t : State) → hide (hide t) ≡ hide t
hide_hide t = ap (λ r. record (hide t) { registers = r }) (mask_mask t.registers)

pub reg_hide : (t : State) (r : ℕ) → IsVisible r → reg (hide t) r ≡ reg t r
unfolding reg
reg_hide t r v =
    let x1 = set t.registers 1 0 in
    let x9 = set x1 9 0 in
    ap (λ n. cond (eqb r 0) 0 n) (get_or-set_other (set x9 2 0) 8 r 0 0 v.3 ∙ get_or-set_other x9 2 r 0 0 v.2 ∙ get_or-set_other x1 9 r 0 0 v.1 ∙ get_or-set_other t.registers 1 r 0 0 v.0)

-- what is seen of two states with a value in a register, where the same is seen of both
module _ (r n : ℕ) (v : IsVisible r) where
  abbrev written : State → State
  written h = record h { registers = set h.registers r n }

  written_seen : (t : State) → hide (written t) ≡ written (hide t)
  written_seen t = ap (λ xs. record (hide t) { registers = xs }) (sym (mask_set t.registers r n v))

  seen_of : (b : Bool) (s t : State) → hide s ≡ hide t → hide (record s { registers = cond b s.registers (set s.registers r n) }) ≡ hide (record t { registers = cond b t.registers (set t.registers r n) })
  seen_of true s t e = e
  seen_of false s t e = written_seen s ∙ ap written e ∙ sym (written_seen t)

  pub with_reg_seen : (s t : State) → hide s ≡ hide t → hide (with_reg s r n) ≡ hide (with_reg t r n)
  with_reg_seen s t e = seen_of (eqb r 0) s t e

pub with_reg_hide : (t : State) (r n : ℕ) → IsVisible r → hide (with_reg (hide t) r n) ≡ hide (with_reg t r n)
with_reg_hide t r n v = with_reg_seen r n v (hide t) t (hide_hide t)

-- the same with other contents of memory
seen_memory : (t : State) (m : Memory) → hide (record (hide t) { memory = record m { stack = [] } }) ≡ hide (record t { memory = m })
seen_memory t m = ap (λ r. record (hide (record t { memory = m })) { registers = r }) (mask_mask t.registers)

-- ---- the next instruction

-- the regions have the same sizes
pub record SameSizes (m n : Memory) : Type 0 where
  pub block : length n.block ≡ length m.block
  pub globals : length n.globals ≡ length m.globals
  pub local : length n.local ≡ length m.local
  pub stack : length n.stack ≡ length m.stack

pub same_sizes : (m : Memory) → SameSizes m m
same_sizes m = record { block = refl; globals = refl; local = refl; stack = refl }

-- a state at the next instruction, with the same stack and stack pointer
pub record Follows (t u : State) : Type 0 where
  pub pc : u.pc ≡ t.pc + 4
  pub stack : (u.memory).stack ≡ t.memory.stack
  pub sp : get_or u.registers 2 0 ≡ get_or t.registers 2 0
  pub link : get_or u.registers 1 0 ≡ get_or t.registers 1 0
  pub newest : get_or u.registers 8 0 ≡ get_or t.registers 8 0
  pub limit : get_or u.registers 4 0 ≡ get_or t.registers 4 0
  pub count : length u.registers ≡ length t.registers
  pub sizes : SameSizes t.memory u.memory

pub shown_of : (r : ℕ) → IsWritable r → IsVisible r
shown_of r v = (v.0, v.1, v.2, v.3)

module _ (t : State) (r n : ℕ) (v : IsWritable r) where
  follows_of : (b : Bool) → Follows t (next (record t { registers = cond b t.registers (set t.registers r n) }))
  follows_of true = record { pc = refl; stack = refl; sp = refl; link = refl; newest = refl; limit = refl; count = refl; sizes = same_sizes t.memory }
  follows_of false = record { pc = refl; stack = refl; sp = (let a : 2 ≢ r = λ e. v.2 (sym e) in get_or-set_other t.registers r 2 n 0 a); link = (let a : 1 ≢ r = λ e. v.0 (sym e) in get_or-set_other t.registers r 1 n 0 a); newest = (let a : 8 ≢ r = λ e. v.3 (sym e) in get_or-set_other t.registers r 8 n 0 a); limit = (let a : 4 ≢ r = λ e. v.4 (sym e) in get_or-set_other t.registers r 4 n 0 a); count = length-set t.registers r n; sizes = same_sizes t.memory }

  pub follows_reg : Follows t (next (with_reg t r n))
  follows_reg = follows_of (eqb r 0)

  -- the same where the state is at the next instruction before it is written
  follows_then : (b : Bool) → Follows t (record (next t) { registers = cond b t.registers (set t.registers r n) })
  follows_then true = record { pc = refl; stack = refl; sp = refl; link = refl; newest = refl; limit = refl; count = refl; sizes = same_sizes t.memory }
  follows_then false = record { pc = refl; stack = refl; sp = (let a : 2 ≢ r = λ e. v.2 (sym e) in get_or-set_other t.registers r 2 n 0 a); link = (let a : 1 ≢ r = λ e. v.0 (sym e) in get_or-set_other t.registers r 1 n 0 a); newest = (let a : 8 ≢ r = λ e. v.3 (sym e) in get_or-set_other t.registers r 8 n 0 a); limit = (let a : 4 ≢ r = λ e. v.4 (sym e) in get_or-set_other t.registers r 4 n 0 a); count = length-set t.registers r n; sizes = same_sizes t.memory }

  pub follows_next : Follows t (with_reg (next t) r n)
  follows_next = follows_then (eqb r 0)

pub stays : (t : State) → Follows t (next t)
stays t = record { pc = refl; stack = refl; sp = refl; link = refl; newest = refl; limit = refl; count = refl; sizes = same_sizes t.memory }

-- What an instruction does to what is seen of t, and to t itself. Where the first is a fault nothing is said.
abbrev pub Agree : State → Config → Config → Type 0
Agree t (Runs s) (Runs u) = (hide s ≡ hide u) × Follows t u
Agree t (Runs s) (Waits q u) = ⊥
Agree t (Runs s) (Over f) = ⊥
Agree t (Waits p s) (Runs u) = ⊥
Agree t (Waits p s) (Waits q u) = (request_of p s ≡ request_of q u) × ((r : Replied) → fits (request_of q u) r ≡ true → (hide (resumed p s r) ≡ hide (resumed q u r)) × Follows t (resumed q u r))
Agree t (Waits p s) (Over f) = ⊥
Agree t (Over e) (Runs u) = e ≡ Fault
Agree t (Over e) (Waits q u) = e ≡ Fault
Agree t (Over e) (Over f) = (e ≡ Fault) ⊎ (e ≡ f)

fault_agrees : (t : State) (c : Config) → Agree t (Over Fault) c
fault_agrees t (Runs u) = refl
fault_agrees t (Waits q u) = refl
fault_agrees t (Over f) = inl refl

-- ---- places

module _ (t : State) (small : length t.memory.stack ≤ 0x20000000) where
  -- an access in the window is not in the stack
  window_apart : (addr size : ℕ) → is_within 0x40000000 0x40000000 addr size ≡ true → 0 < size → is_within 0x20000000 (length t.memory.stack) addr size ≡ false
  window_apart addr size h some = grind (arith, nat_tests)

  empty_stack : (addr size : ℕ) → 0 < size → is_within 0x20000000 0 addr size ≡ false
  empty_stack addr size some = grind (arith, nat_tests)

  module _ (P : Place → Place → Type 0) (addr size : ℕ) (some : 0 < size)
      (block : is_in region.Block t.memory addr size ≡ true → P (place.In region.Block (addr - begin region.Block)) (place.In region.Block (addr - begin region.Block)))
      (globals : is_in region.Globals t.memory addr size ≡ true → P (place.In region.Globals (addr - begin region.Globals)) (place.In region.Globals (addr - begin region.Globals)))
      (local : is_in region.Local t.memory addr size ≡ true → P (place.In region.Local (addr - begin region.Local)) (place.In region.Local (addr - begin region.Local)))
      (window : P place.Window place.Window) (nowhere : (p : Place) → P place.Nowhere p) where
    after_stack : (w s e : Bool) (at : ℕ) → e ≡ false → (w ≡ true → s ≡ false)
        → P (cond e (place.In region.Stack at) (cond w place.Window place.Nowhere)) (cond s (place.In region.Stack at) (cond w place.Window place.Nowhere))
    after_stack true s e at none apart = subst (λ e. P (cond e (place.In region.Stack at) place.Window) (cond s (place.In region.Stack at) place.Window)) (sym none)
        (subst (λ s. P place.Window (cond s (place.In region.Stack at) place.Window)) (sym (apart refl)) window)
    after_stack false s e at none apart = subst (λ e. P (cond e (place.In region.Stack at) place.Nowhere) (cond s (place.In region.Stack at) place.Nowhere)) (sym none) (nowhere _)

    regions : (a b g l w s e : Bool) → is_in region.Block t.memory addr size ≡ b → is_in region.Globals t.memory addr size ≡ g → is_in region.Local t.memory addr size ≡ l → e ≡ false → (w ≡ true → s ≡ false)
        → P (cond a (cond b (place.In region.Block (addr - begin region.Block)) (cond g (place.In region.Globals (addr - begin region.Globals)) (cond l (place.In region.Local (addr - begin region.Local)) (cond e (place.In region.Stack (addr - begin region.Stack)) (cond w place.Window place.Nowhere))))) place.Nowhere)
        (cond a (cond b (place.In region.Block (addr - begin region.Block)) (cond g (place.In region.Globals (addr - begin region.Globals)) (cond l (place.In region.Local (addr - begin region.Local)) (cond s (place.In region.Stack (addr - begin region.Stack)) (cond w place.Window place.Nowhere))))) place.Nowhere)
    regions false b g l w s e hb hg hl none apart = nowhere place.Nowhere
    regions true true g l w s e hb hg hl none apart = block hb
    regions true false true l w s e hb hg hl none apart = globals hg
    regions true false false true w s e hb hg hl none apart = local hl
    regions true false false false w s e hb hg hl none apart = after_stack w s e (addr - begin region.Stack) none apart

    -- where an access goes for what is seen of the state, and for the state
    pub places : P (place_of (hide t).memory addr size) (place_of t.memory addr size)
    unfolding place_of
    places =
        regions (addr % size == 0) (is_in region.Block t.memory addr size) (is_in region.Globals t.memory addr size) (is_in region.Local t.memory addr size) (is_within 0x40000000 0x40000000 addr size)
        (is_within 0x20000000 (length t.memory.stack) addr size) (is_within 0x20000000 0 addr size)
        refl refl refl (empty_stack addr size some) (λ h. window_apart addr size h some)

  some_bytes : (size : Size) → 0 < byte_count size
  some_bytes B1 = omega arith
  some_bytes B2 = omega arith
  some_bytes B4 = omega arith
  some_bytes B8 = omega arith

  load_agrees : (op : LOp) (rd addr : ℕ) → IsWritable rd → Agree t (load (place_of (hide t).memory addr (byte_count (loads op))) op rd addr (hide t)) (load (place_of t.memory addr (byte_count (loads op))) op rd addr t)
  load_agrees op rd addr v =
      places (λ p q. Agree t (load p op rd addr (hide t)) (load q op rd addr t)) addr (byte_count (loads op)) (some_bytes (loads op))
      (λ h. (with_reg_hide t rd _ (shown_of rd v), follows_reg t rd _ v)) (λ h. (with_reg_hide t rd _ (shown_of rd v), follows_reg t rd _ v)) (λ h. (with_reg_hide t rd _ (shown_of rd v), follows_reg t rd _ v))
      (refl, λ r fit. by_reply r)
      (λ p. fault_agrees t (load p op rd addr t))
    where
      by_reply : (r : Replied) → (hide (loaded op rd (next (hide t)) r) ≡ hide (loaded op rd (next t) r)) × Follows t (loaded op rd (next t) r)
      by_reply (Value n) = (with_reg_seen rd (l_result op n) (shown_of rd v) (next (hide t)) (next t) (hide_hide t), follows_next t rd (l_result op n) v)
      by_reply Done = (hide_hide t, stays t)
      by_reply (Bytes bytes) = (hide_hide t, stays t)
      by_reply Stop = (hide_hide t, stays t)

  -- a write in a region keeps its size
  pub number_long : (size : Size) (bytes : List ℕ) (at n : ℕ) → at + byte_count size ≤ length bytes → length (with_number size bytes at n) ≡ length bytes
  number_long B1 bytes at n h = grind (arith, common_steps)
  number_long B2 bytes at n h = grind (arith, common_steps)
  number_long B4 bytes at n h = grind (arith, common_steps)
  number_long B8 bytes at n h = grind (arith, common_steps)

  within : (from count addr size : ℕ) → is_within from count addr size ≡ true → addr - from + size ≤ count
  within from count addr size h = grind (arith, nat_tests)

  store_agrees : (size : Size) (addr value : ℕ) → Agree t (store (place_of (hide t).memory addr (byte_count size)) size addr value (hide t)) (store (place_of t.memory addr (byte_count size)) size addr value t)
  store_agrees size addr value =
      places (λ p q. Agree t (store p size addr value (hide t)) (store q size addr value t)) addr (byte_count size) (some_bytes size)
      (λ h. (
        seen_memory t (with_bytes region.Block (with_number size (bytes_of region.Block t.memory) (addr - begin region.Block) value) t.memory),
        record { pc = refl; stack = refl; sp = refl; link = refl; newest = refl; limit = refl; count = refl; sizes = record { block = number_long size _ _ value (within _ _ addr (byte_count size) h); globals = refl; local = refl; stack = refl } },
      ))
      (λ h. (
        seen_memory t (with_bytes region.Globals (with_number size (bytes_of region.Globals t.memory) (addr - begin region.Globals) value) t.memory),
        record { pc = refl; stack = refl; sp = refl; link = refl; newest = refl; limit = refl; count = refl; sizes = record { block = refl; globals = number_long size _ _ value (within _ _ addr (byte_count size) h); local = refl; stack = refl } },
      ))
      (λ h. (
        seen_memory t (with_bytes region.Local (with_number size (bytes_of region.Local t.memory) (addr - begin region.Local) value) t.memory),
        record { pc = refl; stack = refl; sp = refl; link = refl; newest = refl; limit = refl; count = refl; sizes = record { block = refl; globals = refl; local = number_long size _ _ value (within _ _ addr (byte_count size) h); stack = refl } },
      ))
      (refl, λ r fit. (hide_hide t, stays t))
      (λ p. fault_agrees t (store p size addr value t))

  part_long : (bytes new : List ℕ) (at : ℕ) → at + length new ≤ length bytes → length (with_part bytes at new) ≡ length bytes
  part_long bytes new at h = grind (arith, common_steps)

  fits_long : (bytes local : List ℕ) (at count : ℕ) (b : Bool) → (nat_eq (length bytes) (length (part local at count)) && b) ≡ true → at + count ≤ length local → length bytes ≡ count
  fits_long bytes local at count b fit h =
      let e : length bytes ≡ length (part local at count) = grind (arith, nat_tests) in
      let f : length (part local at count) ≡ count = grind (arith, common_steps) in
      e ∙ f

  foreign_agrees : (b : Bool) (number : ℕ) (conf array : Buffer) → (b ≡ true → array.at + array.count ≤ length t.memory.local)
      → Agree t (cond b (Waits (pending.Foreign number conf array) (next (hide t))) (Over Fault)) (cond b (Waits (pending.Foreign number conf array) (next t)) (Over Fault))
  foreign_agrees true number conf array inside = (refl, by_reply)
    where
      by_reply : (r : Replied) → fits (request_of (pending.Foreign number conf array) (next t)) r ≡ true → (hide (replaced array (next (hide t)) r) ≡ hide (replaced array (next t) r)) × Follows t (replaced array (next t) r)
      by_reply (Value n) fit = (hide_hide t, stays t)
      by_reply Done fit = (hide_hide t, stays t)
      by_reply (Bytes bytes) fit = (
        seen_memory t (with_bytes region.Local (with_part t.memory.local array.at bytes) t.memory),
        record {
          pc = refl;
          stack = refl;
          sp = refl;
          link = refl;
          newest = refl;
          limit = refl;
          count = refl;
          sizes = record {
            block = refl;
            globals = refl;
            stack = refl;
            local = (let n = fits_long bytes t.memory.local array.at array.count _ fit (inside refl) in let m = inside refl in part_long t.memory.local bytes array.at (omega arith));
          };
        },
      )
      by_reply Stop fit = (hide_hide t, stays t)
  foreign_agrees false number conf array inside = inl refl

  and_last : (a b c : Bool) → (a && b && c) ≡ true → c ≡ true
  and_last true true c h = h
  and_last true false c h = absurd (cc)
  and_last false b c h = absurd (cc)

  visible : (r : ℕ) → eqb r 1 ≡ false → eqb r 9 ≡ false → eqb r 2 ≡ false → eqb r 8 ≡ false → IsVisible r
  visible r a b c d = (apart r 1 a, apart r 9 b, apart r 2 c, apart r 8 d)

  -- a call of a foreign function, by the values of its registers
  abbrev foreign_by : ℕ → ℕ → ℕ → ℕ → ℕ → State → Config
  foreign_by number p l q m s =
      cond (nat_lt number (length s.names) && is_in region.Local s.memory p l && is_in region.Local s.memory q m) (Waits (pending.Foreign number (buffer p l) (buffer q m)) (next s)) (Over Fault)

  foreign_seen : foreign (hide t) ≡ foreign_by (reg t 14) (reg t 10) (reg t 11) (reg t 12) (reg t 13) (hide t)
  foreign_seen =
      ap (λ n. foreign_by n (reg (hide t) 10) (reg (hide t) 11) (reg (hide t) 12) (reg (hide t) 13) (hide t)) (reg_hide t 14 (visible 14 refl refl refl refl))
      ∙ ap (λ n. foreign_by (reg t 14) n (reg (hide t) 11) (reg (hide t) 12) (reg (hide t) 13) (hide t)) (reg_hide t 10 (visible 10 refl refl refl refl))
      ∙ ap (λ n. foreign_by (reg t 14) (reg t 10) n (reg (hide t) 12) (reg (hide t) 13) (hide t)) (reg_hide t 11 (visible 11 refl refl refl refl))
      ∙ ap (λ n. foreign_by (reg t 14) (reg t 10) (reg t 11) n (reg (hide t) 13) (hide t)) (reg_hide t 12 (visible 12 refl refl refl refl))
      ∙ ap (λ n. foreign_by (reg t 14) (reg t 10) (reg t 11) (reg t 12) n (hide t)) (reg_hide t 13 (visible 13 refl refl refl refl))

  -- a call of the environment, by what it does
  ecall_of : (a b : Bool) (e : Ending) → Agree t (cond a (Over e) (cond b (foreign (hide t)) (Over Fault))) (cond a (Over e) (cond b (foreign t) (Over Fault)))
  ecall_of true b e = inr refl
  ecall_of false true e =
      subst (λ c. Agree t c (foreign t)) (sym foreign_seen)
      (foreign_agrees (nat_lt (reg t 14) (length t.names) && is_in region.Local t.memory (reg t 10) (reg t 11) && is_in region.Local t.memory (reg t 12) (reg t 13)) (reg t 14) (buffer (reg t 10) (reg t 11)) (buffer (reg t 12) (reg t 13))
      (λ h. within _ _ (reg t 12) (reg t 13) (and_last (nat_lt (reg t 14) (length t.names)) (is_in region.Local t.memory (reg t 10) (reg t 11)) (is_in region.Local t.memory (reg t 12) (reg t 13)) h)))
  ecall_of false false e = inl refl

  pub ecall_agrees : Agree t (act instr.Ecall (hide t)) (act instr.Ecall t)
  ecall_agrees =
      let go : ℕ → ℕ → ℕ → Config = λ n a b. cond (n == 0) (Over (ended a b)) (cond (n == 1) (foreign (hide t)) (Over Fault)) in
      let e : ecall (reg (hide t) 17) (hide t) ≡ go (reg t 17) (reg t 10) (reg t 11) =
      ap (λ n. go n (reg (hide t) 10) (reg (hide t) 11)) (reg_hide t 17 (visible 17 refl refl refl refl)) ∙ ap (λ n. go (reg t 17) n (reg (hide t) 11)) (reg_hide t 10 (visible 10 refl refl refl refl))
      ∙ ap (λ n. go (reg t 17) (reg t 10) n) (reg_hide t 11 (visible 11 refl refl refl refl)) in
      subst (λ c. Agree t c (ecall (reg t 17) t)) (sym e) (ecall_of (reg t 17 == 0) (reg t 17 == 1) (ended (reg t 10) (reg t 11)))

  -- an instruction that writes a register
  writes : (rd a b : ℕ) → IsWritable rd → a ≡ b → Agree t (Runs (next (with_reg (hide t) rd a))) (Runs (next (with_reg t rd b)))
  writes rd a b v e = (ap (λ n. hide (with_reg (hide t) rd n)) e ∙ with_reg_hide t rd b (shown_of rd v), follows_reg t rd b v)

  pub act_agrees : (i : Instr) → IsShown i → Agree t (act i (hide t)) (act i t)
  act_agrees (instr.R op rd rs1 rs2) h = writes rd _ _ h.0 (ap (λ a. r_result op a (reg (hide t) rs2)) (reg_hide t rs1 h.1) ∙ ap (λ b. r_result op (reg t rs1) b) (reg_hide t rs2 h.2))
  act_agrees (instr.I op rd rs1 imm) h = writes rd _ _ h.0 (ap (λ a. i_result op a imm) (reg_hide t rs1 h.1))
  act_agrees (instr.Sh op rd rs1 amount) h = writes rd _ _ h.0 (ap (λ a. sh_result op a amount) (reg_hide t rs1 h.1))
  act_agrees (instr.U op rd high) h = writes rd _ _ h.1 (ap (λ o. u_result o 0 high) h.0 ∙ ap (λ o. u_result o t.pc high) (sym h.0))
  act_agrees (instr.L op rd rs1 imm) h =
      subst (λ a. Agree t (load (place_of (hide t).memory (plus a imm) (byte_count (loads op))) op rd (plus a imm) (hide t)) (act (instr.L op rd rs1 imm) t)) (sym (reg_hide t rs1 h.1))
      (load_agrees op rd (plus (reg t rs1) imm) h.0)
  act_agrees (instr.S op rs1 rs2 imm) h =
      subst (λ a. Agree t (store (place_of (hide t).memory (plus a imm) (byte_count (stores op))) (stores op) (plus a imm) (reg (hide t) rs2) (hide t)) (act (instr.S op rs1 rs2 imm) t)) (sym (reg_hide t rs1 h.0))
      (subst (λ v. Agree t (store (place_of (hide t).memory (plus (reg t rs1) imm) (byte_count (stores op))) (stores op) (plus (reg t rs1) imm) v (hide t)) (act (instr.S op rs1 rs2 imm) t)) (sym (reg_hide t rs2 h.1))
      (store_agrees (stores op) (plus (reg t rs1) imm) (reg t rs2)))
  act_agrees (instr.Fence high rd) h = (hide_hide t, stays t)
  act_agrees instr.Ecall h = absurd h
  act_agrees instr.Ebreak h = inl refl
  act_agrees (instr.B op rs1 rs2 imm) h = absurd h
  act_agrees (instr.Jal rd imm) h = absurd h
  act_agrees (instr.Jalr rd rs1 imm) h = absurd h
