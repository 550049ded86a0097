-- The function that decodes a word is the table: it gives the instruction that a word stands for, and no other.
use Rattle.std.proofs.Common.{◌≡◌, ℕ, ℤ, ◌<◌, ◌+◌, ◌*◌, ◌^◌, refl, sym, subst, Bool, true, false, Option, Some, None, List, [], ◌∷◌, cond}
use Rattle.std.specs.Prelude.{◌==◌, ◌&&◌, ◌||◌, find, IfSome}
use Rattle.std.specs.Option.{option_map}
use Rattle.std.proofs.lemmas.Bool.{cond_both, eqb-true, and_parts}
use Rattle.pan_base.specs.declared.operators.ROp.{ROp}
use Rattle.pan_base.specs.declared.operators.ROp.TheVariants.{Add, Sub, Sll, Slt, Sltu, Xor, Srl, Sra, Or, And, Mul, Mulhu, Addw, Subw, Sllw, Srlw, Sraw}
use Rattle.pan_base.specs.declared.operators.IOp.{IOp}
use Rattle.pan_base.specs.declared.operators.IOp.TheVariants.{Addi, Slti, Sltiu, Xori, Ori, Andi, Addiw}
use Rattle.pan_base.specs.declared.operators.ShiftOp.{ShiftOp}
use Rattle.pan_base.specs.declared.operators.ShiftOp.TheVariants.{Slli, Srli, Srai, Slliw, Srliw, Sraiw}
use Rattle.pan_base.specs.declared.operators.UOp.{UOp}
use Rattle.pan_base.specs.declared.operators.UOp.TheVariants.{Lui, Auipc}
use Rattle.pan_base.specs.declared.operators.SOp.{SOp}
use Rattle.pan_base.specs.declared.operators.SOp.TheVariants.{Sb, Sh, Sw, Sd}
use Rattle.pan_base.specs.declared.operators.LOp.{LOp}
use Rattle.pan_base.specs.declared.operators.LOp.TheVariants.{Lb, Lh, Lw, Ld, Lbu, Lhu, Lwu}
use Rattle.pan_base.specs.declared.operators.Cmp.{Cmp}
use Rattle.pan_base.specs.declared.operators.Cmp.TheVariants.{Eq, Ne, Lt, Ge, Ltu, Geu}
use Rattle.riscv_isa.specs.declared.instr.Instr.{Instr}
use Rattle.riscv_isa.specs.declared.instr.Instr.TheVariants as instr
use Rattle.riscv_isa.specs.Table.{Instruction, RFormat, IFormat, ShFormat, ShwFormat, ShRow, SFormat, BFormat, UFormat, JFormat, FenceFormat, field, r_code, i_opcode, i_funct3, s_funct3, u_opcode, l_funct3, b_funct3}
use Rattle.pan_base.specs.Words.{signed}
use Rattle.riscv_isa.specs.Decoded.{r_ops, i_ops, s_ops, l_ops, b_ops, r_read, i_read, s_read, l_read, b_read, j_read, jalr_read, fence_read, sh_read, or_else, decoded}

-- a word that stands for an instruction is decoded to it

r_found : (op : ROp) → find (λ o. (r_code o).opcode == (r_code op).opcode && (r_code o).funct3 == (r_code op).funct3 && (r_code o).funct7 == (r_code op).funct7) r_ops ≡ Some op
r_found = elim [ Add ↦ refl | Sub ↦ refl | Sll ↦ refl | Slt ↦ refl | Sltu ↦ refl | Xor ↦ refl | Srl ↦ refl | Sra ↦ refl | Or ↦ refl | And ↦ refl | Mul ↦ refl | Mulhu ↦ refl | Addw ↦ refl | Subw ↦ refl | Sllw ↦ refl | Srlw ↦ refl | Sraw ↦ refl ]

r_opcodes : (op : ROp) → ((r_code op).opcode == 0b0110011 || (r_code op).opcode == 0b0111011) ≡ true
r_opcodes = elim [ Add ↦ refl | Sub ↦ refl | Sll ↦ refl | Slt ↦ refl | Sltu ↦ refl | Xor ↦ refl | Srl ↦ refl | Sra ↦ refl | Or ↦ refl | And ↦ refl | Mul ↦ refl | Mulhu ↦ refl | Addw ↦ refl | Subw ↦ refl | Sllw ↦ refl | Srlw ↦ refl | Sraw ↦ refl ]

i_found : (op : IOp) → find (λ o. i_opcode o == i_opcode op && i_funct3 o == i_funct3 op) i_ops ≡ Some op
i_found = elim [ Addi ↦ refl | Slti ↦ refl | Sltiu ↦ refl | Xori ↦ refl | Ori ↦ refl | Andi ↦ refl | Addiw ↦ refl ]

s_found : (op : SOp) → find (λ o. s_funct3 o == s_funct3 op) s_ops ≡ Some op
s_found = elim [ Sb ↦ refl | Sh ↦ refl | Sw ↦ refl | Sd ↦ refl ]

reads_r : (w : ℕ) (op : ROp) (rd rs1 rs2 : ℕ) → RFormat w (r_code op) rd rs1 rs2 → decoded w ≡ Some (instr.R op rd rs1 rs2)
unfolding decoded r_read
reads_r w op rd rs1 rs2 h = rw (h.opcode, h.funct3, h.funct7, h.at_rd, h.at_rs1, h.at_rs2, r_opcodes op, r_found op) refl

-- the tests of the opcodes before that of the immediate operations
i_before : (op : IOp) → (i_opcode op == 0b0110011 || i_opcode op == 0b0111011) ≡ false
i_before = elim [ Addi ↦ refl | Slti ↦ refl | Sltiu ↦ refl | Xori ↦ refl | Ori ↦ refl | Andi ↦ refl | Addiw ↦ refl ]

i_opcodes : (op : IOp) → (i_opcode op == 0b0010011 || i_opcode op == 0b0011011) ≡ true
i_opcodes = elim [ Addi ↦ refl | Slti ↦ refl | Sltiu ↦ refl | Xori ↦ refl | Ori ↦ refl | Andi ↦ refl | Addiw ↦ refl ]

reads_i : (w : ℕ) (op : IOp) (rd rs1 : ℕ) (imm : ℤ) → IFormat w (i_opcode op) (i_funct3 op) rd rs1 imm → decoded w ≡ Some (instr.I op rd rs1 imm)
unfolding decoded i_read
reads_i w op rd rs1 imm h = rw (h.at_opcode, h.at_funct3, h.at_rd, h.at_rs1, h.at_imm, i_before op, i_opcodes op, i_found op) refl

reads_s : (w : ℕ) (op : SOp) (rs1 rs2 : ℕ) (imm : ℤ) → SFormat w 0b0100011 (s_funct3 op) rs1 rs2 imm → decoded w ≡ Some (instr.S op rs1 rs2 imm)
unfolding decoded s_read
reads_s w op rs1 rs2 imm h = rw (h.at_opcode, h.at_funct3, h.at_rs1, h.at_rs2, h.at_imm, s_found op) refl

reads_sh : (w : ℕ) (op : ShiftOp) (rd rs1 amount : ℕ) → ShRow op w rd rs1 amount → decoded w ≡ Some (instr.Sh op rd rs1 amount)
unfolding decoded i_read sh_read
reads_sh w Slli rd rs1 amount h = rw (h.at_opcode, h.at_funct3, h.at_above, h.at_rd, h.at_rs1, h.at_amount) refl
reads_sh w Srli rd rs1 amount h = rw (h.at_opcode, h.at_funct3, h.at_above, h.at_rd, h.at_rs1, h.at_amount) refl
reads_sh w Srai rd rs1 amount h = rw (h.at_opcode, h.at_funct3, h.at_above, h.at_rd, h.at_rs1, h.at_amount) refl
reads_sh w Slliw rd rs1 amount h = rw (h.at_opcode, h.at_funct3, h.at_above, h.at_rd, h.at_rs1, h.at_amount) refl
reads_sh w Srliw rd rs1 amount h = rw (h.at_opcode, h.at_funct3, h.at_above, h.at_rd, h.at_rs1, h.at_amount) refl
reads_sh w Sraiw rd rs1 amount h = rw (h.at_opcode, h.at_funct3, h.at_above, h.at_rd, h.at_rs1, h.at_amount) refl

reads_u : (w : ℕ) (op : UOp) (rd high : ℕ) → UFormat w (u_opcode op) rd high → decoded w ≡ Some (instr.U op rd high)
unfolding decoded
reads_u w Lui rd high h = rw (h.at_opcode, h.at_rd, h.at_high) refl
reads_u w Auipc rd high h = rw (h.at_opcode, h.at_rd, h.at_high) refl

l_found : (op : LOp) → find (λ o. l_funct3 o == l_funct3 op) l_ops ≡ Some op
l_found = elim [ Lb ↦ refl | Lh ↦ refl | Lw ↦ refl | Ld ↦ refl | Lbu ↦ refl | Lhu ↦ refl | Lwu ↦ refl ]

b_found : (op : Cmp) → find (λ o. b_funct3 o == b_funct3 op) b_ops ≡ Some op
b_found = elim [ Eq ↦ refl | Ne ↦ refl | Lt ↦ refl | Ge ↦ refl | Ltu ↦ refl | Geu ↦ refl ]

reads_l : (w : ℕ) (op : LOp) (rd rs1 : ℕ) (imm : ℤ) → IFormat w 0b0000011 (l_funct3 op) rd rs1 imm → decoded w ≡ Some (instr.L op rd rs1 imm)
unfolding decoded l_read
reads_l w op rd rs1 imm h = rw (h.at_opcode, h.at_funct3, h.at_rd, h.at_rs1, h.at_imm, l_found op) refl

reads_b : (w : ℕ) (op : Cmp) (rs1 rs2 : ℕ) (imm : ℤ) → BFormat w 0b1100011 (b_funct3 op) rs1 rs2 imm → decoded w ≡ Some (instr.B op rs1 rs2 imm)
unfolding decoded b_read
reads_b w op rs1 rs2 imm h = rw (h.at_opcode, h.at_funct3, h.at_rs1, h.at_rs2, h.at_imm, b_found op) refl

reads_jal : (w rd : ℕ) (imm : ℤ) → JFormat w 0b1101111 rd imm → decoded w ≡ Some (instr.Jal rd imm)
unfolding decoded j_read
reads_jal w rd imm h = rw (h.at_opcode, h.at_rd, h.at_imm) refl

reads_jalr : (w rd rs1 : ℕ) (imm : ℤ) → IFormat w 0b1100111 0b000 rd rs1 imm → decoded w ≡ Some (instr.Jalr rd rs1 imm)
unfolding decoded jalr_read
reads_jalr w rd rs1 imm h = rw (h.at_opcode, h.at_funct3, h.at_rd, h.at_rs1, h.at_imm) refl

reads_fence : (w high rd : ℕ) → FenceFormat w 0b0001111 0b000 high rd → decoded w ≡ Some (instr.Fence high rd)
unfolding decoded fence_read
reads_fence w high rd h = rw (h.at_opcode, h.at_funct3, h.at_high, h.at_rd) refl

reads_ebreak : (w : ℕ) → w ≡ 0x00100073 → decoded w ≡ Some instr.Ebreak
unfolding decoded
reads_ebreak w e = rw e refl

reads_ecall : (w : ℕ) → w ≡ 0x00000073 → decoded w ≡ Some instr.Ecall
unfolding decoded
reads_ecall w e = rw e refl

pub reads : (w : ℕ) (i : Instr) → Instruction w i → decoded w ≡ Some i
reads w (instr.R op rd rs1 rs2) h = reads_r w op rd rs1 rs2 h
reads w (instr.I op rd rs1 imm) h = reads_i w op rd rs1 imm h
reads w (instr.Sh op rd rs1 amount) h = reads_sh w op rd rs1 amount h
reads w (instr.S op rs1 rs2 imm) h = reads_s w op rs1 rs2 imm h
reads w (instr.U op rd high) h = reads_u w op rd high h
reads w (instr.L op rd rs1 imm) h = reads_l w op rd rs1 imm h
reads w (instr.B op rs1 rs2 imm) h = reads_b w op rs1 rs2 imm h
reads w (instr.Jal rd imm) h = reads_jal w rd imm h
reads w (instr.Jalr rd rs1 imm) h = reads_jalr w rd rs1 imm h
reads w (instr.Fence high rd) h = reads_fence w high rd h
reads w instr.Ecall h = reads_ecall w h
reads w instr.Ebreak h = reads_ebreak w h

-- an instruction that a word is decoded to is the one that the word stands for

-- what passes a test, where all that pass it do
found_fits : {A : Type 0} (test : A → Bool) (P : A → Type 0) → ((a : A) → test a ≡ true → P a) → (xs : List A) → IfSome (find test xs) P
found_fits test P all [] = tt
found_fits test P all (x ∷ xs) = cond_both (test x) (Some x) (find test xs) (λ o. IfSome o P) (all x) (λ e. found_fits test P all xs)

map_fits : {A B : Type 0} (f : A → B) (P : B → Type 0) (o : Option A) → IfSome o (λ a. P (f a)) → IfSome (option_map f o) P
map_fits f P None h = tt
map_fits f P (Some a) h = h

else_fits : {A : Type 0} (P : A → Type 0) (a b : Option A) → IfSome a P → IfSome b P → IfSome (or_else a b) P
else_fits P None b h k = k
else_fits P (Some a) b h k = h

some_fits : {A : Type 0} (P : A → Type 0) (o : Option A) (a : A) → IfSome o P → o ≡ Some a → P a
some_fits P o a h e = subst (λ o. IfSome o P) e h

-- three tests
three : (a b c d e f : ℕ) → (a == b && c == d && e == f) ≡ true → (a ≡ b) × (c ≡ d) × (e ≡ f)
three a b c d e f h =
    let p = and_parts _ _ h in
    let q = and_parts _ _ p.0 in
    (eqb-true _ _ q.0, eqb-true _ _ q.1, eqb-true _ _ p.1)

r_row : (w : ℕ) → w < 2 ^ 32 → (op : ROp) → ((r_code op).opcode == field 0 7 w && (r_code op).funct3 == field 12 3 w && (r_code op).funct7 == field 25 7 w) ≡ true → RFormat w (r_code op) (field 7 5 w) (field 15 5 w) (field 20 5 w)
r_row w below op h =
    let p = three _ _ _ _ _ _ h in
    record { word = below; opcode = sym p.0; at_rd = refl; funct3 = sym p.1; at_rs1 = refl; at_rs2 = refl; funct7 = sym p.2 }

r_fits : (w : ℕ) → w < 2 ^ 32 → IfSome (r_read w) (Instruction w)
unfolding r_read
r_fits w below = map_fits (λ op. instr.R op (field 7 5 w) (field 15 5 w) (field 20 5 w)) (Instruction w) _ (found_fits _ (λ op. RFormat w (r_code op) (field 7 5 w) (field 15 5 w) (field 20 5 w)) (r_row w below) r_ops)

i_row : (w : ℕ) → w < 2 ^ 32 → (op : IOp) → (i_opcode op == field 0 7 w && i_funct3 op == field 12 3 w) ≡ true → IFormat w (i_opcode op) (i_funct3 op) (field 7 5 w) (field 15 5 w) (signed 12 (field 20 12 w))
i_row w below op h =
    let p = and_parts _ _ h in
    record { word = below; at_opcode = sym (eqb-true _ _ p.0); at_rd = refl; at_funct3 = sym (eqb-true _ _ p.1); at_rs1 = refl; at_imm = refl }

i_fits : (w : ℕ) → w < 2 ^ 32 → IfSome (i_read w) (Instruction w)
unfolding i_read
i_fits w below = map_fits (λ op. instr.I op (field 7 5 w) (field 15 5 w) (signed 12 (field 20 12 w))) (Instruction w) _ (found_fits _ (λ op. IFormat w (i_opcode op) (i_funct3 op) (field 7 5 w) (field 15 5 w) (signed 12 (field 20 12 w))) (i_row w below) i_ops)

s_row : (w : ℕ) → w < 2 ^ 32 → field 0 7 w ≡ 0b0100011 → (op : SOp) → (s_funct3 op == field 12 3 w) ≡ true → SFormat w 0b0100011 (s_funct3 op) (field 15 5 w) (field 20 5 w) (signed 12 (field 25 7 w * 2 ^ 5 + field 7 5 w))
s_row w below at op h = record { word = below; at_opcode = at; at_funct3 = sym (eqb-true _ _ h); at_rs1 = refl; at_rs2 = refl; at_imm = refl }

s_fits : (w : ℕ) → w < 2 ^ 32 → field 0 7 w ≡ 0b0100011 → IfSome (s_read w) (Instruction w)
unfolding s_read
s_fits w below at = map_fits (λ op. instr.S op (field 15 5 w) (field 20 5 w) (signed 12 (field 25 7 w * 2 ^ 5 + field 7 5 w))) (Instruction w) _ (found_fits _ (λ op. SFormat w 0b0100011 (s_funct3 op) (field 15 5 w) (field 20 5 w) (signed 12 (field 25 7 w * 2 ^ 5 + field 7 5 w))) (s_row w below at) s_ops)

six_fits : (w opcode funct3 above : ℕ) → w < 2 ^ 32 → (field 0 7 w == opcode && field 12 3 w == funct3 && field 26 6 w == above) ≡ true → ShFormat w opcode funct3 above (field 7 5 w) (field 15 5 w) (field 20 6 w)
six_fits w opcode funct3 above below h =
    let p = three _ _ _ _ _ _ h in
    record { word = below; at_opcode = p.0; at_rd = refl; at_funct3 = p.1; at_rs1 = refl; at_amount = refl; at_above = p.2 }

five_fits : (w opcode funct3 above : ℕ) → w < 2 ^ 32 → (field 0 7 w == opcode && field 12 3 w == funct3 && field 25 7 w == above) ≡ true → ShwFormat w opcode funct3 above (field 7 5 w) (field 15 5 w) (field 20 5 w)
five_fits w opcode funct3 above below h =
    let p = three _ _ _ _ _ _ h in
    record { word = below; at_opcode = p.0; at_rd = refl; at_funct3 = p.1; at_rs1 = refl; at_amount = refl; at_above = p.2 }

-- what is read of a word, if anything, is an instruction that the word stands for
record Reads (w : ℕ) (o : Option Instr) : Type 0 where
  fits : IfSome o (Instruction w)

-- one test more
if_fits : {w : ℕ} (test : Bool) (a b : Option Instr) → (test ≡ true → Reads w a) → (test ≡ false → Reads w b) → Reads w (cond test a b)
if_fits {w} test a b = cond_both test a b (Reads w)

none_row : {w : ℕ} → Reads w None
none_row = record { fits = tt }

six_or : (w opcode funct3 above : ℕ) (i : Instr) (rest : Option Instr) → w < 2 ^ 32
    → (ShFormat w opcode funct3 above (field 7 5 w) (field 15 5 w) (field 20 6 w) → Instruction w i) → Reads w rest
    → Reads w (cond (field 0 7 w == opcode && field 12 3 w == funct3 && field 26 6 w == above) (Some i) rest)
six_or w opcode funct3 above i rest below row others = if_fits _ (Some i) rest (λ e. record { fits = row (six_fits w opcode funct3 above below e) }) (λ _. others)

five_or : (w opcode funct3 above : ℕ) (i : Instr) (rest : Option Instr) → w < 2 ^ 32
    → (ShwFormat w opcode funct3 above (field 7 5 w) (field 15 5 w) (field 20 5 w) → Instruction w i) → Reads w rest
    → Reads w (cond (field 0 7 w == opcode && field 12 3 w == funct3 && field 25 7 w == above) (Some i) rest)
five_or w opcode funct3 above i rest below row others = if_fits _ (Some i) rest (λ e. record { fits = row (five_fits w opcode funct3 above below e) }) (λ _. others)

sh_fits : (w : ℕ) → w < 2 ^ 32 → Reads w (sh_read w)
unfolding sh_read
sh_fits w below =
    six_or w 0b0010011 0b001 0b000000 _ _ below (λ h. h)
    (six_or w 0b0010011 0b101 0b000000 _ _ below (λ h. h)
    (six_or w 0b0010011 0b101 0b010000 _ _ below (λ h. h)
    (five_or w 0b0011011 0b001 0b0000000 _ _ below (λ h. h)
    (five_or w 0b0011011 0b101 0b0000000 _ _ below (λ h. h)
    (five_or w 0b0011011 0b101 0b0100000 _ _ below (λ h. h) none_row)))))

u_fits : (w : ℕ) (op : UOp) → w < 2 ^ 32 → (field 0 7 w == u_opcode op) ≡ true → Reads w (Some (instr.U op (field 7 5 w) (field 12 20 w)))
u_fits w op below h = record { fits = record { word = below; at_opcode = eqb-true _ _ h; at_rd = refl; at_high = refl } }

shifted_fits : (w : ℕ) → w < 2 ^ 32 → Reads w (or_else (i_read w) (sh_read w))
shifted_fits w below = record { fits = else_fits (Instruction w) (i_read w) (sh_read w) (i_fits w below) (sh_fits w below).fits }

l_row : (w : ℕ) → w < 2 ^ 32 → field 0 7 w ≡ 0b0000011 → (op : LOp) → (l_funct3 op == field 12 3 w) ≡ true → IFormat w 0b0000011 (l_funct3 op) (field 7 5 w) (field 15 5 w) (signed 12 (field 20 12 w))
l_row w below at op h = record { word = below; at_opcode = at; at_rd = refl; at_funct3 = sym (eqb-true _ _ h); at_rs1 = refl; at_imm = refl }

l_fits : (w : ℕ) → w < 2 ^ 32 → field 0 7 w ≡ 0b0000011 → IfSome (l_read w) (Instruction w)
unfolding l_read
l_fits w below at = map_fits (λ op. instr.L op (field 7 5 w) (field 15 5 w) (signed 12 (field 20 12 w))) (Instruction w) _ (found_fits _ (λ op. IFormat w 0b0000011 (l_funct3 op) (field 7 5 w) (field 15 5 w) (signed 12 (field 20 12 w))) (l_row w below at) l_ops)

-- the immediate of a branch
b_imm : ℕ → ℤ
b_imm w = signed 13 (field 31 1 w * 2 ^ 12 + field 7 1 w * 2 ^ 11 + field 25 6 w * 2 ^ 5 + field 8 4 w * 2)

b_row : (w : ℕ) → w < 2 ^ 32 → field 0 7 w ≡ 0b1100011 → (op : Cmp) → (b_funct3 op == field 12 3 w) ≡ true → BFormat w 0b1100011 (b_funct3 op) (field 15 5 w) (field 20 5 w) (b_imm w)
unfolding b_imm
b_row w below at op h = record { word = below; at_opcode = at; at_funct3 = sym (eqb-true _ _ h); at_rs1 = refl; at_rs2 = refl; at_imm = refl }

b_fits : (w : ℕ) → w < 2 ^ 32 → field 0 7 w ≡ 0b1100011 → IfSome (b_read w) (Instruction w)
unfolding b_read b_imm
b_fits w below at = map_fits (λ op. instr.B op (field 15 5 w) (field 20 5 w) (b_imm w)) (Instruction w) _ (found_fits _ (λ op. BFormat w 0b1100011 (b_funct3 op) (field 15 5 w) (field 20 5 w) (b_imm w)) (b_row w below at) b_ops)

j_fits : (w : ℕ) → w < 2 ^ 32 → field 0 7 w ≡ 0b1101111 → Reads w (j_read w)
unfolding j_read
j_fits w below at = record { fits = record { word = below; at_opcode = at; at_rd = refl; at_imm = refl } }

jalr_fits : (w : ℕ) → w < 2 ^ 32 → field 0 7 w ≡ 0b1100111 → Reads w (jalr_read w)
unfolding jalr_read
jalr_fits w below at =
    if_fits (field 12 3 w == 0b000) _ _
    (λ e. record { fits = record { word = below; at_opcode = at; at_rd = refl; at_funct3 = eqb-true (field 12 3 w) 0b000 e; at_rs1 = refl; at_imm = refl } })
    (λ _. none_row)

fence_fits : (w : ℕ) → w < 2 ^ 32 → field 0 7 w ≡ 0b0001111 → Reads w (fence_read w)
unfolding fence_read
fence_fits w below at =
    if_fits (field 12 3 w == 0b000) _ _
    (λ e. record { fits = record { word = below; at_opcode = at; at_rd = refl; at_funct3 = eqb-true (field 12 3 w) 0b000 e; at_high = refl } })
    (λ _. none_row)

decoded_fits : (w : ℕ) → w < 2 ^ 32 → Reads w (decoded w)
unfolding decoded
decoded_fits w below =
    if_fits (field 0 7 w == 0b0110011 || field 0 7 w == 0b0111011) _ _ (λ _. record { fits = r_fits w below }) (λ _.
    if_fits (field 0 7 w == 0b0010011 || field 0 7 w == 0b0011011) _ _ (λ _. shifted_fits w below) (λ _.
    if_fits (field 0 7 w == 0b0100011) _ _ (λ e. record { fits = s_fits w below (eqb-true _ _ e) }) (λ _.
    if_fits (field 0 7 w == u_opcode Lui) _ _ (u_fits w Lui below) (λ _.
    if_fits (field 0 7 w == u_opcode Auipc) _ _ (u_fits w Auipc below) (λ _.
    if_fits (field 0 7 w == 0b0000011) _ _ (λ e. record { fits = l_fits w below (eqb-true _ _ e) }) (λ _.
    if_fits (field 0 7 w == 0b1100011) _ _ (λ e. record { fits = b_fits w below (eqb-true _ _ e) }) (λ _.
    if_fits (field 0 7 w == 0b1101111) _ _ (λ e. j_fits w below (eqb-true _ _ e)) (λ _.
    if_fits (field 0 7 w == 0b1100111) _ _ (λ e. jalr_fits w below (eqb-true _ _ e)) (λ _.
    if_fits (field 0 7 w == 0b0001111) _ _ (λ e. fence_fits w below (eqb-true _ _ e)) (λ _.
    if_fits (w == 0x00000073) (Some instr.Ecall) _ (λ e. record { fits = eqb-true w 0x00000073 e }) (λ _.
    if_fits (w == 0x00100073) (Some instr.Ebreak) None (λ e. record { fits = eqb-true w 0x00100073 e }) (λ _. none_row))))))))))))

pub fits : (w : ℕ) (i : Instr) → w < 2 ^ 32 → decoded w ≡ Some i → Instruction w i
fits w i below e = some_fits (Instruction w) (decoded w) i (decoded_fits w below).fits e
