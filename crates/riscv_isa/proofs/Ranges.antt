-- What words stand for is in range.
use Rattle.std.proofs.Common.{◌≡◌, ℕ, ℤ, pos, negsuc, ◌+◌, ◌*◌, ◌%◌, ◌^◌, ◌<◌, ◌-◌, Bool, true, false, cond, ltb, subst, Some, arith}
use Rattle.std.specs.Prelude.{◌≤ℤ◌}
use Rattle.std.proofs.lemmas.Bool.Decides.{nat_tests}
use Rattle.pan_base.specs.declared.operators.ShiftOp.{ShiftOp}
use Rattle.pan_base.specs.declared.operators.ShiftOp.TheVariants as shift_op
use Rattle.pan_base.specs.Words.{signed}
use Rattle.riscv_isa.specs.declared.instr.Instr.{Instr}
use Rattle.riscv_isa.specs.declared.instr.Instr.TheVariants as instr
use Rattle.riscv_isa.specs.Decoded.{decoded}
use Rattle.riscv_isa.specs.Table.{field, amounts, Instruction, ShRow, InRange, IsEven}
use Rattle.riscv_isa.proofs.DecodedLaws.{fits}

-- so many bits in two's complement lie between two limits
record Between (low high n : ℤ) : Type 0 where
  at_least : low ≤ℤ n
  at_most : n ≤ℤ high

signed_12 : (m : ℕ) → m < 2 ^ 12 → Between (negsuc 2047) (pos 2047) (signed 12 m)
signed_12 m small = record { at_least = grind (arith, nat_tests); at_most = grind (arith, nat_tests) }

signed_13 : (m : ℕ) → m < 2 ^ 13 → m % 2 ≡ 0 → Between (negsuc 4095) (pos 4094) (signed 13 m)
signed_13 m small even = record { at_least = grind (arith, nat_tests); at_most = grind (arith, nat_tests) }

signed_21 : (m : ℕ) → m < 2 ^ 21 → m % 2 ≡ 0 → Between (negsuc 1048575) (pos 1048574) (signed 21 m)
signed_21 m small even = record { at_least = grind (arith, nat_tests); at_most = grind (arith, nat_tests) }

even_by : (b : Bool) (m n : ℕ) → m % 2 ≡ 0 → n % 2 ≡ 1 → IsEven (cond b (pos m) (negsuc n))
even_by true m n p q = p
even_by false m n p q = q

even_13 : (m : ℕ) → m < 2 ^ 13 → m % 2 ≡ 0 → IsEven (signed 13 m)
even_13 m small even = even_by (ltb m (2 ^ 12)) m (2 ^ 13 - 1 - m) even (omega arith)

even_21 : (m : ℕ) → m < 2 ^ 21 → m % 2 ≡ 0 → IsEven (signed 21 m)
even_21 m small even = even_by (ltb m (2 ^ 20)) m (2 ^ 21 - 1 - m) even (omega arith)

shift_in_range : (op : ShiftOp) (w rd rs1 amount : ℕ) → ShRow op w rd rs1 amount → (rd < 32) × (rs1 < 32) × (amount < amounts op)
shift_in_range shift_op.Slli w rd rs1 amount h = let a = h.at_rd in let b = h.at_rs1 in let c = h.at_amount in (omega arith, omega arith, omega arith)
shift_in_range shift_op.Srli w rd rs1 amount h = let a = h.at_rd in let b = h.at_rs1 in let c = h.at_amount in (omega arith, omega arith, omega arith)
shift_in_range shift_op.Srai w rd rs1 amount h = let a = h.at_rd in let b = h.at_rs1 in let c = h.at_amount in (omega arith, omega arith, omega arith)
shift_in_range shift_op.Slliw w rd rs1 amount h = let a = h.at_rd in let b = h.at_rs1 in let c = h.at_amount in (omega arith, omega arith, omega arith)
shift_in_range shift_op.Srliw w rd rs1 amount h = let a = h.at_rd in let b = h.at_rs1 in let c = h.at_amount in (omega arith, omega arith, omega arith)
shift_in_range shift_op.Sraiw w rd rs1 amount h = let a = h.at_rd in let b = h.at_rs1 in let c = h.at_amount in (omega arith, omega arith, omega arith)

i_imm : (w : ℕ) (imm : ℤ) → signed 12 (field 20 12 w) ≡ imm → (negsuc 2047 ≤ℤ imm) × (imm ≤ℤ pos 2047)
i_imm w imm e = subst (λ n. (negsuc 2047 ≤ℤ n) × (n ≤ℤ pos 2047)) e (let h = signed_12 (field 20 12 w) (omega arith) in (h.at_least, h.at_most))

s_imm : (w : ℕ) (imm : ℤ) → signed 12 (field 25 7 w * 2 ^ 5 + field 7 5 w) ≡ imm → (negsuc 2047 ≤ℤ imm) × (imm ≤ℤ pos 2047)
s_imm w imm e = subst (λ n. (negsuc 2047 ≤ℤ n) × (n ≤ℤ pos 2047)) e (let h = signed_12 (field 25 7 w * 2 ^ 5 + field 7 5 w) (omega arith) in (h.at_least, h.at_most))

b_imm : (m : ℕ) (imm : ℤ) → m < 2 ^ 13 → m % 2 ≡ 0 → signed 13 m ≡ imm → (negsuc 4095 ≤ℤ imm) × (imm ≤ℤ pos 4094) × IsEven imm
b_imm m imm small even e = subst (λ n. (negsuc 4095 ≤ℤ n) × (n ≤ℤ pos 4094) × IsEven n) e (let h = signed_13 m small even in (h.at_least, h.at_most, even_13 m small even))

j_imm : (m : ℕ) (imm : ℤ) → m < 2 ^ 21 → m % 2 ≡ 0 → signed 21 m ≡ imm → (negsuc 1048575 ≤ℤ imm) × (imm ≤ℤ pos 1048574) × IsEven imm
j_imm m imm small even e = subst (λ n. (negsuc 1048575 ≤ℤ n) × (n ≤ℤ pos 1048574) × IsEven n) e (let h = signed_21 m small even in (h.at_least, h.at_most, even_21 m small even))

pub in_range : (w : ℕ) (i : Instr) → Instruction w i → InRange i
in_range w (instr.R op rd rs1 rs2) h = let a = h.at_rd in let b = h.at_rs1 in let c = h.at_rs2 in (omega arith, omega arith, omega arith)
in_range w (instr.I op rd rs1 imm) h = let a = h.at_rd in let b = h.at_rs1 in let k = i_imm w imm h.at_imm in (omega arith, omega arith, k.0, k.1)
in_range w (instr.Sh op rd rs1 amount) h = shift_in_range op w rd rs1 amount h
in_range w (instr.S op rs1 rs2 imm) h = let a = h.at_rs1 in let b = h.at_rs2 in let k = s_imm w imm h.at_imm in (omega arith, omega arith, k.0, k.1)
in_range w (instr.U op rd high) h = let a = h.at_rd in let b = h.at_high in (omega arith, omega arith)
in_range w (instr.L op rd rs1 imm) h = let a = h.at_rd in let b = h.at_rs1 in let k = i_imm w imm h.at_imm in (omega arith, omega arith, k.0, k.1)
in_range w (instr.B op rs1 rs2 imm) h =
    let a = h.at_rs1 in
    let b = h.at_rs2 in
    let k = b_imm (field 31 1 w * 2 ^ 12 + field 7 1 w * 2 ^ 11 + field 25 6 w * 2 ^ 5 + field 8 4 w * 2) imm (omega arith) (omega arith) h.at_imm in
    (omega arith, omega arith, k.0, k.1, k.2)
in_range w (instr.Jal rd imm) h =
    let a = h.at_rd in
    let k = j_imm (field 31 1 w * 2 ^ 20 + field 12 8 w * 2 ^ 12 + field 20 1 w * 2 ^ 11 + field 21 10 w * 2) imm (omega arith) (omega arith) h.at_imm in
    (omega arith, k.0, k.1, k.2)
in_range w (instr.Jalr rd rs1 imm) h = let a = h.at_rd in let b = h.at_rs1 in let k = i_imm w imm h.at_imm in (omega arith, omega arith, k.0, k.1)
in_range w (instr.Fence high rd) h = let a = h.at_rd in let b = h.at_high in (omega arith, omega arith)
in_range w instr.Ecall h = tt
in_range w instr.Ebreak h = tt

-- what is decoded is in range
pub decoded_in_range : (w : ℕ) (i : Instr) → w < 2 ^ 32 → decoded w ≡ Some i → InRange i
decoded_in_range w i small is = in_range w i (fits w i small is)
