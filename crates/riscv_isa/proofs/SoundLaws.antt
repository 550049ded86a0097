-- Steps keep states sound.
use Rattle.std.proofs.Common.{◌≡◌, ℕ, ℤ, pos, negsuc, ◌+◌, ◌-◌, ◌*◌, ◌/◌, ◌%◌, ◌^◌, ◌<◌, ◌≤◌, zero, suc, refl, sym, ap, ◌∙◌, subst, List, length, take, drop, replicate, Bool, true, false, eqb, leb, cond, Option, Some, None, arith, inl, inr}
use Rattle.std.specs.Prelude.{◌≤ℤ◌, ◌&&◌, nat_lt, nat_le, slice_index, slice_set}
use Rattle.std.specs.List.{list_all}
use Rattle.std.specs.Int.{w32, from_le_bytes}
use Rattle.std.proofs.lemmas.Bool.{and_parts, leb-true, ltb-true, cases_lt, cases_eq}
use Rattle.std.proofs.lemmas.List.{get_or-set_same, get_or-set_other, get_or_past, length-set, length-replicate}
use Rattle.pan_base.specs.declared.events.Size.{Size}
use Rattle.pan_base.specs.declared.events.Size.TheVariants.{B4}
use Rattle.pan_base.specs.declared.operators.LOp.{LOp}
use Rattle.pan_base.specs.Bytes.{number_at, part}
use Rattle.pan_base.specs.Events.{Replied, Value, Done, Bytes, Stop, Ending, Fault, Fits, byte_count}
use Rattle.pan_base.specs.Results.{immediate, plus, loads, stores}
use Rattle.pan_base.specs.Words.{IsBytes, IsWord, compare}
use Rattle.pan_base.proofs.ByteLaws.{number_is_small, with_number_is_small, with_part_is_small}
use Rattle.pan_base.proofs.ResultLaws.{plus_is_word, r_result_is_word, i_result_is_word, sh_result_is_word, u_result_is_word, l_result_is_word}
use Rattle.riscv_isa.specs.declared.instr.Instr.{Instr}
use Rattle.riscv_isa.specs.declared.instr.Instr.TheVariants as instr
use Rattle.riscv_isa.specs.declared.pending.Buffer.{Buffer}
use Rattle.riscv_isa.specs.declared.pending.Pending.TheVariants as pending
use Rattle.riscv_isa.specs.declared.place.Place.{Place}
use Rattle.riscv_isa.specs.declared.place.Place.TheVariants as place
use Rattle.riscv_isa.specs.declared.place.Region.{Region}
use Rattle.riscv_isa.specs.declared.place.Region.TheVariants.{Block, Globals, Local, Stack}
use Rattle.riscv_isa.specs.Regions.{bytes_of, with_bytes, place_of}
use Rattle.riscv_isa.specs.Running.{Leads}
use Rattle.riscv_isa.specs.Sound.{IsSound, IsFixed, GoesOnIn}
use Rattle.riscv_isa.specs.Step.{State, Config, Runs, Waits, Over, reg, with_reg, next, linked, load, store, foreign, ended, act, act_some, decoded_some, fetched, step, request_of, resumed, loaded, replaced}
use Rattle.riscv_isa.specs.Image.{ImageParts, IsLawfulImage}
use Rattle.pan_base.specs.Lawful.{IsLawfulMemory, IsLawfulStack}
use Rattle.riscv_isa.specs.Machine.{booted}
use Rattle.riscv_isa.specs.Table.{InRange}
use Rattle.riscv_isa.proofs.Fixed.{act_fixes, AreBytesFor}
use Rattle.riscv_isa.proofs.Memories.{everywhere, stay_apart, all_bytes}
use Rattle.riscv_isa.proofs.Ranges.{decoded_in_range}

-- what an instruction may change of a sound state: the registers are words, as is the program counter, and regions hold bytes
record Stays (t : State) : Type 0 where
  count : length t.registers ≡ 32
  words : (i : ℕ) → IsWord (slice_index t.registers i)
  pc : IsWord t.pc
  bytes : (r : Region) → IsBytes (bytes_of r t.memory)

sound_by : (s t : State) → IsSound s → IsFixed s t → Stays t → IsSound t
sound_by s t h f g = record {
  count = g.count;
  words = g.words;
  pc = g.pc;
  most = subst (λ (c : List ℕ). length c ≤ 268439552) (sym f.code) h.most;
  code = subst IsBytes (sym f.code) h.code;
  apart = stay_apart s.memory t.memory h.apart f.sizes;
  bytes = g.bytes;
}

stays : (s : State) → IsSound s → Stays s
stays s h = record { count = h.count; words = h.words; pc = h.pc; bytes = h.bytes }

-- ---- registers

set_words : (xs : List ℕ) (i n : ℕ) → ((j : ℕ) → IsWord (slice_index xs j)) → IsWord n → (j : ℕ) → IsWord (slice_index (slice_set xs i n) j)
set_words xs i n old new j =
    elim (cases_eq j i) [
      | inl e ↦ elim (cases_lt i (length xs)) [
        | inl lt ↦ (let here : slice_index (slice_set xs i n) j ≡ n = ap (slice_index (slice_set xs i n)) e ∙ get_or-set_same xs i n 0 lt in subst IsWord (sym here) new)
        | inr past ↦ (let there : slice_index (slice_set xs i n) j ≡ 0 = get_or_past (slice_set xs i n) j 0 (omega (arith, length-set xs i n)) in subst IsWord (sym there) (omega arith))
      ]
      | inr apart ↦ subst IsWord (sym (get_or-set_other xs i j n 0 apart)) (old j)
    ]

choice_words : (b : Bool) (xs ys : List ℕ) → ((j : ℕ) → IsWord (slice_index xs j)) → ((j : ℕ) → IsWord (slice_index ys j)) → (j : ℕ) → IsWord (slice_index (cond b xs ys) j)
choice_words true xs ys p q = p
choice_words false xs ys p q = q

choice_length : (b : Bool) (xs ys : List ℕ) → length xs ≡ 32 → length ys ≡ 32 → length (cond b xs ys) ≡ 32
choice_length true xs ys p q = p
choice_length false xs ys p q = q

pub reg_is_word : (s : State) (i : ℕ) → IsSound s → IsWord (reg s i)
unfolding reg
reg_is_word s i h = by_zero (eqb i 0)
  where
    by_zero : (b : Bool) → IsWord (cond b 0 (slice_index s.registers i))
    by_zero true = omega arith
    by_zero false = h.words i

reg_stays : (t : State) (rd n : ℕ) → Stays t → IsWord n → Stays (with_reg t rd n)
reg_stays t rd n h small = record {
  count = choice_length (eqb rd 0) t.registers _ h.count (length-set t.registers rd n ∙ h.count);
  words = choice_words (eqb rd 0) t.registers _ h.words (set_words t.registers rd n h.words small);
  pc = h.pc;
  bytes = h.bytes;
}

pc_stays : (t : State) (at : ℕ) → Stays t → IsWord at → Stays (record t { pc = at })
pc_stays t at h small = record { count = h.count; words = h.words; pc = small; bytes = h.bytes }

bytes_stay : (t : State) (r : Region) (bs : List ℕ) → Stays t → IsBytes bs → Stays (record t { memory = with_bytes r bs t.memory })
bytes_stay t r bs h are = record { count = h.count; words = h.words; pc = h.pc; bytes = everywhere (λ q ys. IsBytes ys) r bs t.memory are h.bytes }

-- ---- instructions

jump_stays : (b : Bool) (t : State) → Stays t → GoesOnIn Stays (cond b (Runs t) (Over Fault))
jump_stays true t h = h
jump_stays false t h = tt

loaded_stays : (op : LOp) (rd : ℕ) (t : State) (r : Replied) (addr : ℕ) → Stays t → Fits (request_of (pending.Load op rd addr) t) r → Stays (loaded op rd t r)
loaded_stays op rd t (Value n) addr h fit = reg_stays t rd _ h (l_result_is_word op n (ltb-true _ _ fit))
loaded_stays op rd t Done addr h fit = h
loaded_stays op rd t (Bytes bytes) addr h fit = h
loaded_stays op rd t Stop addr h fit = h

load_stays : (p : Place) (op : LOp) (rd addr : ℕ) (s : State) → Stays s → IsWord (s.pc + 4) → GoesOnIn Stays (load p op rd addr s)
load_stays (place.In region at) op rd addr s h on = pc_stays (with_reg s rd _) (s.pc + 4) (reg_stays s rd _ h (l_result_is_word op _ (number_is_small (loads op) (bytes_of region s.memory) at (h.bytes region)))) on
load_stays place.Window op rd addr s h on = λ r fit. loaded_stays op rd (next s) r addr (pc_stays s (s.pc + 4) h on) fit
load_stays place.Nowhere op rd addr s h on = tt

store_stays : (p : Place) (size : Size) (addr value : ℕ) (s : State) → Stays s → IsWord (s.pc + 4) → GoesOnIn Stays (store p size addr value s)
store_stays (place.In region at) size addr value s h on = pc_stays _ (s.pc + 4) (bytes_stay s region _ h (with_number_is_small size (bytes_of region s.memory) at value (h.bytes region))) on
store_stays place.Window size addr value s h on = λ r fit. pc_stays s (s.pc + 4) h on
store_stays place.Nowhere size addr value s h on = tt

fit_bytes : (array bytes : List ℕ) → AreBytesFor array bytes → IsBytes bytes
fit_bytes array bytes fit = all_bytes bytes (and_parts (eqb (length bytes) (length array)) (list_all (λ b. nat_lt b 256) bytes) fit).1

replaced_stays : (number : ℕ) (conf array : Buffer) (t : State) (r : Replied) → Stays t → Fits (request_of (pending.Foreign number conf array) t) r → Stays (replaced array t r)
replaced_stays number conf array t (Value n) h fit = h
replaced_stays number conf array t Done h fit = h
replaced_stays number conf array t Stop h fit = h
replaced_stays number conf array t (Bytes bytes) h fit =
    bytes_stay t Local _ h (with_part_is_small t.memory.local array.at bytes (h.bytes Local) (fit_bytes (part t.memory.local array.at array.count) bytes fit))

foreign_stays : (b : Bool) (number : ℕ) (conf array : Buffer) (s : State) → Stays s → IsWord (s.pc + 4) → GoesOnIn Stays (cond b (Waits (pending.Foreign number conf array) (next s)) (Over Fault))
foreign_stays true number conf array s h on = λ r fit. replaced_stays number conf array (next s) r (pc_stays s (s.pc + 4) h on) fit
foreign_stays false number conf array s h on = tt

ecall_stays : (a b : Bool) (e : Ending) (s : State) → Stays s → IsWord (s.pc + 4) → GoesOnIn Stays (cond a (Over e) (cond b (foreign s) (Over Fault)))
ecall_stays true b e s h on = tt
ecall_stays false true e s h on = foreign_stays _ (reg s 14) _ _ s h on
ecall_stays false false e s h on = tt

branch_stays : (b c : Bool) (t u : State) → Stays t → Stays u → GoesOnIn Stays (cond b (cond c (Runs t) (Over Fault)) (Runs u))
branch_stays true c t u h g = jump_stays c t h
branch_stays false c t u h g = g

immediate_is_small : (imm : ℤ) → imm ≤ℤ pos 2047 → IsWord (immediate imm)
immediate_is_small (pos n) most = grind (arith)
immediate_is_small (negsuc n) most = omega arith

-- a result goes into a register
result_stays : (s : State) (rd n : ℕ) → Stays s → IsWord (s.pc + 4) → IsWord n → Stays (next (with_reg s rd n))
result_stays s rd n h on small = pc_stays (with_reg s rd n) (s.pc + 4) (reg_stays s rd n h small) on

link_stays : (s : State) (rd to : ℕ) → Stays s → IsWord (s.pc + 4) → IsWord to → Stays (record (linked rd s) { pc = to })
link_stays s rd to h on small = pc_stays (linked rd s) to (reg_stays s rd (s.pc + 4) h on) small

act_stays : (i : Instr) (s : State) → IsSound s → IsWord (s.pc + 4) → InRange i → GoesOnIn Stays (act i s)
act_stays (instr.R op rd rs1 rs2) s h on k = result_stays s rd _ (stays s h) on (r_result_is_word op _ _ (reg_is_word s rs1 h) (reg_is_word s rs2 h))
act_stays (instr.I op rd rs1 imm) s h on k = result_stays s rd _ (stays s h) on (i_result_is_word op _ imm (reg_is_word s rs1 h) (immediate_is_small imm k.3))
act_stays (instr.Sh op rd rs1 amount) s h on k = result_stays s rd _ (stays s h) on (sh_result_is_word op _ amount (reg_is_word s rs1 h))
act_stays (instr.U op rd high) s h on k = result_stays s rd _ (stays s h) on (u_result_is_word op s.pc high k.1)
act_stays (instr.L op rd rs1 imm) s h on k = load_stays (place_of s.memory (plus (reg s rs1) imm) (byte_count (loads op))) op rd (plus (reg s rs1) imm) s (stays s h) on
act_stays (instr.S op rs1 rs2 imm) s h on k = store_stays (place_of s.memory (plus (reg s rs1) imm) (byte_count (stores op))) (stores op) (plus (reg s rs1) imm) (reg s rs2) s (stays s h) on
act_stays (instr.B op rs1 rs2 imm) s h on k = branch_stays (compare op (reg s rs1) (reg s rs2)) (eqb (plus s.pc imm % 4) 0) _ (next s) (pc_stays s (plus s.pc imm) (stays s h) (plus_is_word s.pc imm)) (pc_stays s (s.pc + 4) (stays s h) on)
act_stays (instr.Jal rd imm) s h on k = jump_stays (eqb (plus s.pc imm % 4) 0) _ (link_stays s rd (plus s.pc imm) (stays s h) on (plus_is_word s.pc imm))
act_stays (instr.Jalr rd rs1 imm) s h on k = jump_stays (eqb (plus (reg s rs1) imm / 2 * 2 % 4) 0) _ (link_stays s rd (plus (reg s rs1) imm / 2 * 2) (stays s h) on (let small = plus_is_word (reg s rs1) imm in omega arith))
act_stays (instr.Fence high rd) s h on k = pc_stays s (s.pc + 4) (stays s h) on
act_stays instr.Ecall s h on k = ecall_stays (eqb (reg s 17) 0) (eqb (reg s 17) 1) (ended (reg s 10) (reg s 11)) s (stays s h) on
act_stays instr.Ebreak s h on k = tt

both : (s : State) (c : Config) → IsSound s → GoesOnIn (IsFixed s) c → GoesOnIn Stays c → GoesOnIn IsSound c
both s (Runs t) h f g = sound_by s t h f g
both s (Waits p t) h f g = λ r fit. sound_by s (resumed p t r) h (f r fit) (g r fit)
both s (Over e) h f g = tt

pub act_sound : (i : Instr) (s : State) → IsSound s → IsWord (s.pc + 4) → InRange i → GoesOnIn IsSound (act i s)
act_sound i s h on k = both s (act i s) h (act_fixes i s) (act_stays i s h on k)

-- ---- steps

-- what is fetched is a word of 32 bits, and the next instruction has an address
record Fetches (s : State) (w : ℕ) : Type 0 where
  small : w < 2 ^ 32
  next_one : IsWord (s.pc + 4)

fetch_by : (b : Bool) (s : State) (w : ℕ) → (nat_le 0x100000000 s.pc && nat_le (s.pc + 4) (0x100000000 + length s.code)) ≡ b
    → cond b (Some (from_le_bytes w32 (take 4 (drop (s.pc - 0x100000000) s.code)))) None ≡ Some w → IsSound s → Fetches s w
fetch_by true s w inside is h =
    let p = and_parts (leb 0x100000000 s.pc) (leb (s.pc + 4) (0x100000000 + length s.code)) inside in
    let below = leb-true _ _ p.1 in
    let most = h.most in
    let e : number_at B4 s.code (s.pc - 0x100000000) ≡ w = cc in
    record { small = subst (λ n. n < 2 ^ 32) e (number_is_small B4 s.code (s.pc - 0x100000000) h.code); next_one = omega arith }
fetch_by false s w inside is h = absurd cc

act_fetched : (w : Option ℕ) (i : Option Instr) (s : State) → IsSound s → fetched s ≡ w → decoded_some w ≡ i → GoesOnIn IsSound (act_some i s)
act_fetched w None s h at is = tt
act_fetched None (Some i) s h at is = absurd cc
act_fetched (Some w) (Some i) s h at is = let f = fetch_by _ s w refl at h in act_sound i s h f.next_one (decoded_in_range w i f.small is)

pub step_sound : (s : State) → IsSound s → GoesOnIn IsSound (step s)
unfolding step
step_sound s h = act_fetched (fetched s) (decoded_some (fetched s)) s h refl refl

pub leads_sound : (n : ℕ) (s t : State) → IsSound s → Leads step n s t → IsSound t
leads_sound zero s t h e = subst IsSound e h
leads_sound (suc n) s t h (u, is, more) = leads_sound n u t (subst (GoesOnIn IsSound) is (step_sound s h)) more

-- ---- the start

zero_words : (n j : ℕ) → IsWord (slice_index (replicate n 0) j)
zero_words zero j = omega arith
zero_words (suc n) zero = omega arith
zero_words (suc n) (suc j) = zero_words n j

zero_bytes : (n j : ℕ) → slice_index (replicate n 0) j < 256
zero_bytes zero j = omega arith
zero_bytes (suc n) zero = omega arith
zero_bytes (suc n) (suc j) = zero_bytes n j

-- the registers with the end of the stack
abbrev with_end : ℕ → List ℕ
with_end stack = slice_set (replicate 32 0) 2 (0x20000000 + stack)

pub booted_sound : (parts : ImageParts) (memory : List ℕ) (stack : ℕ) → IsLawfulImage parts → IsLawfulMemory memory → IsLawfulStack stack → IsSound (booted parts memory stack)
booted_sound parts memory stack image local room = record {
  count = refl;
  words = set_words (slice_set (with_end stack) 3 0x08000000) 4 0x20000000 (set_words (with_end stack) 3 0x08000000 (set_words (replicate 32 0) 2 (0x20000000 + stack) (zero_words 32) (let h = room.most in omega arith)) (omega arith)) (omega arith);
  pc = omega arith;
  most = image.most;
  code = image.bytes;
  apart = record {
    block = omega arith;
    globals = omega arith;
    local = let h = local.most in omega arith;
    stack = let h = room.most in omega (arith, length-replicate {A = ℕ} stack 0);
  };
  bytes = by_region;
}
  where
    by_region : (r : Region) → IsBytes (bytes_of r (booted parts memory stack).memory)
    by_region Block = zero_bytes 1024
    by_region Globals = λ j. omega arith
    by_region Local = local.bytes
    by_region Stack = zero_bytes stack
