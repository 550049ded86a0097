-- The machine acts the instruction that its code holds at pc, and what an instruction does has nothing to do with the code.
use Rattle.std.proofs.Common.{◌≡◌, ◌≢◌, ℕ, suc, ◌+◌, ◌-◌, ◌*◌, ◌/◌, ◌%◌, ◌^◌, ◌<◌, refl, sym, ap, ◌∙◌, subst, List, [], ◌∷◌, ◌++◌, append_assoc, length, take, drop, Bool, true, false, eqb, cond, Some, arith, le-leb}
use Rattle.std.specs.Int.{w32, to_le_bytes, from_le_bytes}
use Rattle.std.specs.Prelude.{nat_le}
use Rattle.std.proofs.lemmas.List.{drop_at, length-append, length-set}
use Rattle.std.proofs.lemmas.Nat.{from_le_bytes-to_le_bytes_4}
use Rattle.pan_base.specs.Events.{Asked, Replied, Value, Done, Bytes, Stop, Behaviour, Ending, Asks, only, Fails, Fault, fits, byte_count}
use Rattle.pan_base.specs.declared.events.Size.{Size}
use Rattle.pan_base.specs.declared.operators.LOp.{LOp}
use Rattle.pan_base.specs.declared.operators.ShiftOp.{ShiftOp}
use Rattle.pan_base.specs.declared.operators.ShiftOp.TheVariants as shift_op
use Rattle.pan_base.specs.Words.{compare}
use Rattle.riscv_isa.specs.declared.instr.Instr.{Instr}
use Rattle.riscv_isa.specs.declared.instr.Instr.TheVariants as instr
use Rattle.riscv_isa.specs.declared.pending.Buffer.{Buffer}
use Rattle.riscv_isa.specs.declared.pending.Pending.{Pending}
use Rattle.riscv_isa.specs.declared.pending.Pending.TheVariants as pending
use Rattle.riscv_isa.specs.declared.place.Place.{Place}
use Rattle.riscv_isa.specs.declared.place.Place.TheVariants as place
use Rattle.riscv_isa.specs.Table.{Instruction, ShRow}
use Rattle.riscv_isa.specs.Held.{word_at, IsAt, AreAt, Spells}
use Rattle.riscv_isa.specs.Regions.{place_of}
use Rattle.riscv_isa.specs.Sound.{GoesOnIn}
use Rattle.riscv_isa.specs.Step.{State, Config, Runs, Waits, Over, with_reg, reg, plus, next, jump, linked, act, act_some, decoded_some, step, load, store, foreign, ecall, ended, request_of, loaded, replaced, resumed}
use Rattle.pan_base.specs.Results.{loads, stores}
use Rattle.riscv_isa.specs.Running.{run as run_of, taken}
use Rattle.riscv_isa.specs.Machine.{continue, run}
use Rattle.riscv_isa.proofs.DecodedLaws.{reads}

-- ---- the word at pc

pub stepped : (s : State) (i : Instr) → IsAt i s.code s.pc → step s ≡ act i s
unfolding step
stepped s i h = ap (λ f. act_some (decoded_some f) s) h.held ∙ ap (λ d. act_some d s) (reads h.word i h.stands)

shift_small : (op : ShiftOp) (w rd rs1 amount : ℕ) → ShRow op w rd rs1 amount → w < 2 ^ 32
shift_small shift_op.Slli w rd rs1 amount h = h.word
shift_small shift_op.Srli w rd rs1 amount h = h.word
shift_small shift_op.Srai w rd rs1 amount h = h.word
shift_small shift_op.Slliw w rd rs1 amount h = h.word
shift_small shift_op.Srliw w rd rs1 amount h = h.word
shift_small shift_op.Sraiw w rd rs1 amount h = h.word

pub word_small : (w : ℕ) (i : Instr) → Instruction w i → w < 2 ^ 32
word_small w (instr.R op rd rs1 rs2) h = h.word
word_small w (instr.I op rd rs1 imm) h = h.word
word_small w (instr.Sh op rd rs1 amount) h = shift_small op w rd rs1 amount h
word_small w (instr.S op rs1 rs2 imm) h = h.word
word_small w (instr.U op rd high) h = h.word
word_small w (instr.L op rd rs1 imm) h = h.word
word_small w (instr.B op rs1 rs2 imm) h = h.word
word_small w (instr.Jal rd imm) h = h.word
word_small w (instr.Jalr rd rs1 imm) h = h.word
word_small w (instr.Fence high rd) h = h.word
word_small w instr.Ecall h = omega arith
word_small w instr.Ebreak h = omega arith

held_word : (code front rest : List ℕ) (at w : ℕ) → w < 2 ^ 32 → code ≡ front ++ (to_le_bytes w32 w ++ rest) → at ≡ 0x100000000 + length front
    → word_at code at ≡ Some w
held_word code front rest at w small is here =
    let skipped : drop (at - 0x100000000) code ≡ to_le_bytes w32 w ++ rest = ap (λ c. drop (at - 0x100000000) c) is ∙ drop_at front _ _ (omega arith) in
    let word : from_le_bytes w32 (take 4 (drop (at - 0x100000000) code)) ≡ w =
    ap (λ b. from_le_bytes w32 (take 4 b)) skipped ∙ from_le_bytes-to_le_bytes_4 w small in
    let size : length code ≡ length front + (4 + length rest) = ap length is ∙ ap (λ n. n) (simp length-append) in
    let low : nat_le 0x100000000 at ≡ true = le-leb _ _ (omega arith) in
    let high : nat_le (at + 4) (0x100000000 + length code) ≡ true = le-leb _ _ (omega arith) in
    rw (low, high, word) refl

-- code that spells instructions holds them
pub spelled_at : (is : List Instr) (code front bytes : List ℕ) (at : ℕ) → Spells bytes is → code ≡ front ++ bytes → at ≡ 0x100000000 + length front → AreAt is code at
spelled_at [] code front bytes at h all here = tt
spelled_at (i ∷ is) code front bytes at (w, rest, parts, stands, more) all here =
    let all' : code ≡ front ++ (to_le_bytes w32 w ++ rest) = all ∙ ap (λ b. front ++ b) parts in (
      record { word = w; stands = stands; held = held_word code front rest at w (word_small w i stands) all' here },
      spelled_at is code (front ++ to_le_bytes w32 w) rest (at + 4) more (all' ∙ sym (append_assoc front (to_le_bytes w32 w) rest)) (omega (arith, here, length-append front (to_le_bytes w32 w))),
    )

pub at_append : (is js : List Instr) (code : List ℕ) (at : ℕ) → AreAt (is ++ js) code at → AreAt is code at × AreAt js code (at + 4 * length is)
at_append [] js code at h = (tt, subst (AreAt js code) (omega arith) h)
at_append (i ∷ is) js code at h =
    let r = at_append is js code (at + 4) h.1 in
    ((h.0, r.0), subst (AreAt js code) (omega arith) r.1)

-- ---- what an instruction does, with any code

abbrev pub with_code : List ℕ → State → State
with_code code s = record s { code = code }

abbrev pub config_with : List ℕ → Config → Config
config_with code (Runs s) = Runs (with_code code s)
config_with code (Waits p s) = Waits p (with_code code s)
config_with code (Over e) = Over e

module _ (code : List ℕ) where
  config_choice : (b : Bool) (c d : Config) → cond b (config_with code c) (config_with code d) ≡ config_with code (cond b c d)
  config_choice true c d = refl
  config_choice false c d = refl

  jump_with : (target : ℕ) (s : State) → jump target (with_code code s) ≡ config_with code (jump target s)
  jump_with target s = config_choice (eqb (target % 4) 0) (Runs (record s { pc = target })) (Over Fault)

  load_with : (p : Place) (op : LOp) (rd addr : ℕ) (s : State) → load p op rd addr (with_code code s) ≡ config_with code (load p op rd addr s)
  load_with (place.In region at) op rd addr s = refl
  load_with place.Window op rd addr s = refl
  load_with place.Nowhere op rd addr s = refl

  store_with : (p : Place) (size : Size) (addr value : ℕ) (s : State) → store p size addr value (with_code code s) ≡ config_with code (store p size addr value s)
  store_with (place.In region at) size addr value s = refl
  store_with place.Window size addr value s = refl
  store_with place.Nowhere size addr value s = refl

  foreign_with : (s : State) → foreign (with_code code s) ≡ config_with code (foreign s)
  unfolding reg
  foreign_with s = config_choice _ (Waits _ (next s)) (Over Fault)

  ecall_of : (a b : Bool) (e : Ending) (s : State) → cond a (Over e) (cond b (foreign (with_code code s)) (Over Fault)) ≡ config_with code (cond a (Over e) (cond b (foreign s) (Over Fault)))
  ecall_of true b e s = refl
  ecall_of false true e s = foreign_with s
  ecall_of false false e s = refl

  ecall_with : (s : State) → ecall (reg (with_code code s) 17) (with_code code s) ≡ config_with code (ecall (reg s 17) s)
  unfolding reg
  ecall_with s = ecall_of (eqb (reg s 17) 0) (eqb (reg s 17) 1) (ended (reg s 10) (reg s 11)) s

  pub act_with : (i : Instr) (s : State) → act i (with_code code s) ≡ config_with code (act i s)
  unfolding reg
  act_with (instr.R op rd rs1 rs2) s = refl
  act_with (instr.I op rd rs1 imm) s = refl
  act_with (instr.Sh op rd rs1 amount) s = refl
  act_with (instr.U op rd high) s = refl
  act_with (instr.L op rd rs1 imm) s = load_with (place_of s.memory (plus (reg s rs1) imm) (byte_count (loads op))) op rd (plus (reg s rs1) imm) s
  act_with (instr.S op rs1 rs2 imm) s = store_with (place_of s.memory (plus (reg s rs1) imm) (byte_count (stores op))) (stores op) (plus (reg s rs1) imm) (reg s rs2) s
  act_with (instr.B op rs1 rs2 imm) s =
      ap (λ c. cond (compare op (reg s rs1) (reg s rs2)) c (Runs (next (with_code code s)))) (jump_with (plus s.pc imm) s) ∙ config_choice _ (jump (plus s.pc imm) s) (Runs (next s))
  act_with (instr.Jal rd imm) s = jump_with _ (linked rd s)
  act_with (instr.Jalr rd rs1 imm) s = jump_with _ (linked rd s)
  act_with (instr.Fence high rd) s = refl
  act_with instr.Ecall s = ecall_with s
  act_with instr.Ebreak s = refl

  request_with : (p : Pending) (s : State) → request_of p (with_code code s) ≡ request_of p s
  request_with (pending.Load op rd addr) s = refl
  request_with (pending.Store size addr value) s = refl
  request_with (pending.Foreign number conf array) s = refl

  loaded_with : (op : LOp) (rd : ℕ) (s : State) (r : Replied) → loaded op rd (with_code code s) r ≡ with_code code (loaded op rd s r)
  loaded_with op rd s (Value n) = refl
  loaded_with op rd s Done = refl
  loaded_with op rd s (Bytes bytes) = refl
  loaded_with op rd s Stop = refl

  replaced_with : (array : Buffer) (s : State) (r : Replied) → replaced array (with_code code s) r ≡ with_code code (replaced array s r)
  replaced_with array s (Value n) = refl
  replaced_with array s Done = refl
  replaced_with array s (Bytes bytes) = refl
  replaced_with array s Stop = refl

  resumed_with : (p : Pending) (s : State) (r : Replied) → resumed p (with_code code s) r ≡ with_code code (resumed p s r)
  resumed_with (pending.Load op rd addr) s r = loaded_with op rd s r
  resumed_with (pending.Store size addr value) s r = refl
  resumed_with (pending.Foreign number conf array) s r = replaced_with array s r

  continue_with : (c : Config) (f : State → List Replied → Behaviour) (replies : List Replied) → continue (config_with code c) f replies ≡ continue c (λ t. f (with_code code t)) replies
  continue_with (Runs s) f replies = refl
  continue_with (Over e) f replies = refl
  continue_with (Waits p s) f [] = ap (λ q. continue_asks q) (request_with p s)
    where
      continue_asks : Asked → Behaviour
      continue_asks q = only (Asks q)
  continue_with (Waits p s) f (r ∷ replies) =
      ap (λ q. taken (fits q r) q r (f (resumed p (with_code code s) r) replies)) (request_with p s)
      ∙ ap (λ t. taken (fits (request_of p s) r) (request_of p s) r (f t replies)) (resumed_with p s r)

  -- A machine with this code that comes to an instruction of it does as the instruction says, on states without the code.
  pub run_with : (k : ℕ) (s : State) (i : Instr) (replies : List Replied) → IsAt i code s.pc
      → run (suc k) (with_code code s) replies ≡ continue (act i s) (λ t. run k (with_code code t)) replies
  unfolding run_of
  run_with k s i replies h =
      ap (λ c. continue c (run k) replies) (stepped (with_code code s) i h ∙ act_with i s) ∙ continue_with (act i s) (run k) replies

-- ---- where it goes on

abbrev pub Has32 : State → Type 0
Has32 s = length s.registers ≡ 32

choice_32 : (b : Bool) (xs ys : List ℕ) → length xs ≡ 32 → length ys ≡ 32 → length (cond b xs ys) ≡ 32
choice_32 true xs ys p q = p
choice_32 false xs ys p q = q

pub with_reg_32 : (s : State) (i n : ℕ) → Has32 s → Has32 (with_reg s i n)
with_reg_32 s i n h = choice_32 (eqb i 0) s.registers _ h (length-set s.registers i n ∙ h)

jump_32 : (b : Bool) (target : ℕ) (s : State) → Has32 s → GoesOnIn Has32 (cond b (Runs (record s { pc = target })) (Over Fault))
jump_32 true target s h = h
jump_32 false target s h = tt

load_32 : (p : Place) (op : LOp) (rd addr : ℕ) (s : State) → Has32 s → GoesOnIn Has32 (load p op rd addr s)
load_32 (place.In region at) op rd addr s h = with_reg_32 s rd _ h
load_32 place.Window op rd addr s h = λ r fit. by_reply r
  where
    by_reply : (r : Replied) → Has32 (loaded op rd (next s) r)
    by_reply (Value n) = with_reg_32 (next s) rd _ h
    by_reply Done = h
    by_reply (Bytes bytes) = h
    by_reply Stop = h
load_32 place.Nowhere op rd addr s h = tt

store_32 : (p : Place) (size : Size) (addr value : ℕ) (s : State) → Has32 s → GoesOnIn Has32 (store p size addr value s)
store_32 (place.In region at) size addr value s h = h
store_32 place.Window size addr value s h = λ r fit. h
store_32 place.Nowhere size addr value s h = tt

foreign_32 : (b : Bool) (number : ℕ) (conf array : Buffer) (s : State) → Has32 s → GoesOnIn Has32 (cond b (Waits (pending.Foreign number conf array) (next s)) (Over Fault))
foreign_32 true number conf array s h = λ r fit. by_reply r
  where
    by_reply : (r : Replied) → Has32 (replaced array (next s) r)
    by_reply (Value n) = h
    by_reply Done = h
    by_reply (Bytes bytes) = h
    by_reply Stop = h
foreign_32 false number conf array s h = tt

ecall_32 : (a b : Bool) (e : Ending) (s : State) → Has32 s → GoesOnIn Has32 (cond a (Over e) (cond b (foreign s) (Over Fault)))
ecall_32 true b e s h = tt
ecall_32 false true e s h = foreign_32 _ (reg s 14) _ _ s h
ecall_32 false false e s h = tt

branch_32 : (b c : Bool) (target : ℕ) (s : State) → Has32 s → GoesOnIn Has32 (cond b (cond c (Runs (record s { pc = target })) (Over Fault)) (Runs (next s)))
branch_32 true c target s h = jump_32 c target s h
branch_32 false c target s h = h

-- an instruction keeps the number of registers
pub act_32 : (i : Instr) (s : State) → Has32 s → GoesOnIn Has32 (act i s)
act_32 (instr.R op rd rs1 rs2) s h = with_reg_32 s rd _ h
act_32 (instr.I op rd rs1 imm) s h = with_reg_32 s rd _ h
act_32 (instr.Sh op rd rs1 amount) s h = with_reg_32 s rd _ h
act_32 (instr.U op rd high) s h = with_reg_32 s rd _ h
act_32 (instr.L op rd rs1 imm) s h = load_32 (place_of s.memory (plus (reg s rs1) imm) (byte_count (loads op))) op rd (plus (reg s rs1) imm) s h
act_32 (instr.S op rs1 rs2 imm) s h = store_32 (place_of s.memory (plus (reg s rs1) imm) (byte_count (stores op))) (stores op) (plus (reg s rs1) imm) (reg s rs2) s h
act_32 (instr.B op rs1 rs2 imm) s h = branch_32 (compare op (reg s rs1) (reg s rs2)) (eqb (plus s.pc imm % 4) 0) (plus s.pc imm) s h
act_32 (instr.Jal rd imm) s h = jump_32 (eqb (plus s.pc imm % 4) 0) (plus s.pc imm) (linked rd s) (with_reg_32 s rd _ h)
act_32 (instr.Jalr rd rs1 imm) s h = jump_32 (eqb (plus (reg s rs1) imm / 2 * 2 % 4) 0) (plus (reg s rs1) imm / 2 * 2) (linked rd s) (with_reg_32 s rd _ h)
act_32 (instr.Fence high rd) s h = h
act_32 instr.Ecall s h = ecall_32 (eqb (reg s 17) 0) (eqb (reg s 17) 1) (ended (reg s 10) (reg s 11)) s h
act_32 instr.Ebreak s h = tt

-- Two ways to go on that agree wherever the first doesn't fail agree in what is seen.
pub continue_unless : (P : State → Type 0) (c : Config) (f g : State → List Replied → Behaviour) (replies : List Replied) → GoesOnIn P c → (continue c f replies).ending ≢ Fails
    → ((t : State) → P t → (rs : List Replied) → (f t rs).ending ≢ Fails → g t rs ≡ f t rs) → continue c g replies ≡ continue c f replies
continue_unless P (Runs t) f g replies on ok same = same t on replies ok
continue_unless P (Over e) f g replies on ok same = refl
continue_unless P (Waits p t) f g [] on ok same = refl
continue_unless P (Waits p t) f g (r ∷ replies) on ok same = by_fit (fits (request_of p t) r) refl ok
  where
    by_fit : (b : Bool) → fits (request_of p t) r ≡ b → (taken b (request_of p t) r (f (resumed p t r) replies)).ending ≢ Fails → taken b (request_of p t) r (g (resumed p t r) replies) ≡ taken b (request_of p t) r (f (resumed p t r) replies)
    by_fit true fit ok = ap (taken true (request_of p t) r) (same (resumed p t r) (on r fit) replies ok)
    by_fit false fit ok = refl
