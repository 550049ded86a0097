-- No step changes the code, the names, or how large the regions are.
use Rattle.std.proofs.Common.{◌≡◌, ℕ, ◌+◌, ◌*◌, ◌/◌, ◌%◌, ◌≤◌, zero, suc, refl, ◌∙◌, subst, List, length, drop, Bool, true, false, eqb, leb, cond, Option, Some, None, arith}
use Rattle.std.specs.Prelude.{◌&&◌, nat_lt}
use Rattle.std.specs.List.{list_all}
use Rattle.std.proofs.lemmas.Bool.{and_parts, eqb-true, leb-true}
use Rattle.std.proofs.lemmas.List.{length-take-le, length-drop}
use Rattle.pan_base.specs.declared.events.Size.{Size}
use Rattle.pan_base.specs.declared.operators.LOp.{LOp}
use Rattle.pan_base.specs.Bytes.{part}
use Rattle.pan_base.specs.Events.{Replied, Value, Done, Bytes, Stop, Ending, Fault, Fits, byte_count}
use Rattle.pan_base.specs.Results.{loads, stores, plus}
use Rattle.pan_base.specs.Words.{compare}
use Rattle.pan_base.proofs.ByteLaws.{with_number_length, part_length}
use Rattle.riscv_isa.specs.declared.instr.Instr.{Instr}
use Rattle.riscv_isa.specs.declared.instr.Instr.TheVariants as instr
use Rattle.riscv_isa.specs.declared.pending.Buffer.{Buffer}
use Rattle.riscv_isa.specs.declared.pending.Pending.TheVariants as pending
use Rattle.riscv_isa.specs.declared.place.Place.{Place}
use Rattle.riscv_isa.specs.declared.place.Place.TheVariants as place
use Rattle.riscv_isa.specs.declared.place.Region.TheVariants.{Local}
use Rattle.riscv_isa.specs.Regions.{begin, bytes_of, is_in, place_of}
use Rattle.riscv_isa.specs.Running.{Leads}
use Rattle.riscv_isa.specs.Sound.{IsFixed, GoesOnIn}
use Rattle.riscv_isa.specs.Step.{State, Runs, Waits, Over, reg, next, linked, load, store, buffer, foreign, ended, act, act_some, decoded_some, fetched, step, request_of, loaded, replaced}
use Rattle.riscv_isa.proofs.Memories.{sizes_kept}
use Rattle.riscv_isa.proofs.Places.{place_is}

pub same : (s : State) → IsFixed s s
same s = record { code = refl; names = refl; sizes = λ r. refl }

pub fixed_on : (s t u : State) → IsFixed s t → IsFixed t u → IsFixed s u
fixed_on s t u a b = record { code = b.code ∙ a.code; names = b.names ∙ a.names; sizes = λ r. b.sizes r ∙ a.sizes r }

next_fixes : (s : State) → IsFixed s (next s)
next_fixes s = record { code = refl; names = refl; sizes = λ r. refl }

jump_fixes : (b : Bool) (s t : State) → IsFixed s t → GoesOnIn (IsFixed s) (cond b (Runs t) (Over Fault))
jump_fixes true s t h = h
jump_fixes false s t h = tt

loaded_fixes : (op : LOp) (rd : ℕ) (s : State) (r : Replied) → IsFixed s (loaded op rd (next s) r)
loaded_fixes op rd s (Value n) = record { code = refl; names = refl; sizes = λ r. refl }
loaded_fixes op rd s Done = next_fixes s
loaded_fixes op rd s (Bytes bytes) = next_fixes s
loaded_fixes op rd s Stop = next_fixes s

load_fixes : (p : Place) (op : LOp) (rd addr : ℕ) (s : State) → GoesOnIn (IsFixed s) (load p op rd addr s)
load_fixes (place.In region at) op rd addr s = record { code = refl; names = refl; sizes = λ r. refl }
load_fixes place.Window op rd addr s = λ r fit. loaded_fixes op rd s r
load_fixes place.Nowhere op rd addr s = tt

store_fixes : (p : Place) (size : Size) (addr value : ℕ) (s : State) → place_of s.memory addr (byte_count size) ≡ p → GoesOnIn (IsFixed s) (store p size addr value s)
store_fixes (place.In region at) size addr value s is =
    let g = place_is region s.memory addr (byte_count size) at is in
    let h = g.inside.from in
    let k = g.inside.to in
    let e = g.at_is in
    record { code = refl; names = refl; sizes = sizes_kept region _ s.memory (with_number_length size (bytes_of region s.memory) at value (omega arith)) }
store_fixes place.Window size addr value s is = λ r fit. record { code = refl; names = refl; sizes = λ r. refl }
store_fixes place.Nowhere size addr value s is = tt

-- a buffer in local memory
pub record IsBuffer (b : Buffer) (s : State) : Type 0 where
  pub inside : b.at + b.count ≤ length s.memory.local

pub buffer_inside : (s : State) (addr count : ℕ) → is_in Local s.memory addr count ≡ true → IsBuffer (buffer addr count) s
buffer_inside s addr count h =
    let p = and_parts (leb (begin Local) addr) (leb (addr + count) (begin Local + length s.memory.local)) h in
    let a = leb-true _ _ p.0 in
    let b = leb-true _ _ p.1 in
    record { inside = omega arith }

part_has : (b : Buffer) (s : State) → IsBuffer b s → length (part s.memory.local b.at b.count) ≡ b.count
part_has b s h = let k = h.inside in length-take-le b.count (drop b.at s.memory.local) (omega (arith, length-drop b.at s.memory.local))

-- bytes that fit an array are as many, and bytes
abbrev pub AreBytesFor : List ℕ → List ℕ → Type 0
AreBytesFor array bytes = (eqb (length bytes) (length array) && list_all (λ b. nat_lt b 256) bytes) ≡ true

pub as_many : (array bytes : List ℕ) → AreBytesFor array bytes → length bytes ≡ length array
as_many array bytes fit = eqb-true (length bytes) (length array) (and_parts (eqb (length bytes) (length array)) (list_all (λ b. nat_lt b 256) bytes) fit).0

replaced_fixes : (number : ℕ) (conf array : Buffer) (s : State) (r : Replied) → IsBuffer array s → Fits (request_of (pending.Foreign number conf array) (next s)) r → IsFixed s (replaced array (next s) r)
replaced_fixes number conf array s (Value n) inside fit = next_fixes s
replaced_fixes number conf array s Done inside fit = next_fixes s
replaced_fixes number conf array s Stop inside fit = next_fixes s
replaced_fixes number conf array s (Bytes bytes) inside fit =
    let k = inside.inside in
    let e : length bytes ≡ array.count = as_many (part s.memory.local array.at array.count) bytes fit ∙ part_has array s inside in
    record { code = refl; names = refl; sizes = sizes_kept Local _ s.memory (part_length s.memory.local array.at bytes (omega arith)) }

foreign_fixes : (b : Bool) (s : State) → (nat_lt (reg s 14) (length s.names) && is_in Local s.memory (reg s 10) (reg s 11) && is_in Local s.memory (reg s 12) (reg s 13)) ≡ b
    → GoesOnIn (IsFixed s) (cond b (Waits (pending.Foreign (reg s 14) (buffer (reg s 10) (reg s 11)) (buffer (reg s 12) (reg s 13))) (next s)) (Over Fault))
foreign_fixes true s h = λ r fit. replaced_fixes (reg s 14) (buffer (reg s 10) (reg s 11)) (buffer (reg s 12) (reg s 13)) s r (buffer_inside s (reg s 12) (reg s 13) (and_parts _ (is_in Local s.memory (reg s 12) (reg s 13)) h).1) fit
foreign_fixes false s h = tt

ecall_fixes : (a b : Bool) (e : Ending) (s : State) → GoesOnIn (IsFixed s) (cond a (Over e) (cond b (foreign s) (Over Fault)))
ecall_fixes true b e s = tt
ecall_fixes false true e s = foreign_fixes _ s refl
ecall_fixes false false e s = tt

branch_fixes : (b c : Bool) (s t : State) → IsFixed s t → GoesOnIn (IsFixed s) (cond b (cond c (Runs t) (Over Fault)) (Runs (next s)))
branch_fixes true c s t h = jump_fixes c s t h
branch_fixes false c s t h = record { code = refl; names = refl; sizes = λ r. refl }

pub act_fixes : (i : Instr) (s : State) → GoesOnIn (IsFixed s) (act i s)
act_fixes (instr.R op rd rs1 rs2) s = record { code = refl; names = refl; sizes = λ r. refl }
act_fixes (instr.I op rd rs1 imm) s = record { code = refl; names = refl; sizes = λ r. refl }
act_fixes (instr.Sh op rd rs1 amount) s = record { code = refl; names = refl; sizes = λ r. refl }
act_fixes (instr.U op rd high) s = record { code = refl; names = refl; sizes = λ r. refl }
act_fixes (instr.L op rd rs1 imm) s = load_fixes (place_of s.memory (plus (reg s rs1) imm) (byte_count (loads op))) op rd (plus (reg s rs1) imm) s
act_fixes (instr.S op rs1 rs2 imm) s = store_fixes (place_of s.memory (plus (reg s rs1) imm) (byte_count (stores op))) (stores op) (plus (reg s rs1) imm) (reg s rs2) s refl
act_fixes (instr.B op rs1 rs2 imm) s = branch_fixes (compare op (reg s rs1) (reg s rs2)) (eqb (plus s.pc imm % 4) 0) s (record s { pc = plus s.pc imm }) (record { code = refl; names = refl; sizes = λ r. refl })
act_fixes (instr.Jal rd imm) s = jump_fixes (eqb (plus s.pc imm % 4) 0) s (record (linked rd s) { pc = plus s.pc imm }) (record { code = refl; names = refl; sizes = λ r. refl })
act_fixes (instr.Jalr rd rs1 imm) s = jump_fixes (eqb (plus (reg s rs1) imm / 2 * 2 % 4) 0) s (record (linked rd s) { pc = plus (reg s rs1) imm / 2 * 2 }) (record { code = refl; names = refl; sizes = λ r. refl })
act_fixes (instr.Fence high rd) s = record { code = refl; names = refl; sizes = λ r. refl }
act_fixes instr.Ecall s = ecall_fixes (eqb (reg s 17) 0) (eqb (reg s 17) 1) (ended (reg s 10) (reg s 11)) s
act_fixes instr.Ebreak s = tt

some_fixes : (o : Option Instr) (s : State) → GoesOnIn (IsFixed s) (act_some o s)
some_fixes None s = tt
some_fixes (Some i) s = act_fixes i s

pub step_fixes : (s : State) → GoesOnIn (IsFixed s) (step s)
unfolding step
step_fixes s = some_fixes (decoded_some (fetched s)) s

pub leads_fixes : (n : ℕ) (s t : State) → Leads step n s t → IsFixed s t
leads_fixes zero s t e = subst (IsFixed s) e (same s)
leads_fixes (suc n) s t (u, is, more) = fixed_on s u t (subst (GoesOnIn (IsFixed s)) is (step_fixes s)) (leads_fixes n u t more)
