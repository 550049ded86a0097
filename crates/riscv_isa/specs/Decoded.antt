-- The instruction of a word, as a function: the operation of the table whose fields are the word's.
use Rattle.std.specs.Prelude.{ℕ, ◌+◌, ◌*◌, ◌^◌, ◌==◌, ◌&&◌, ◌||◌, List, [], ◌∷◌, Option, Some, None, if◌then◌else◌, find}
use Rattle.std.specs.Option.{option_map}
use Rattle.pan_base.specs.declared.operators.ROp.{ROp}
use Rattle.pan_base.specs.declared.operators.ROp.TheVariants.{Add, Sub, Sll, Slt, Sltu, Xor, Srl, Sra, Or, And, Mul, Mulhu, Addw, Subw, Sllw, Srlw, Sraw}
use Rattle.pan_base.specs.declared.operators.IOp.{IOp}
use Rattle.pan_base.specs.declared.operators.IOp.TheVariants.{Addi, Slti, Sltiu, Xori, Ori, Andi, Addiw}
use Rattle.pan_base.specs.declared.operators.ShiftOp.TheVariants.{Slli, Srli, Srai, Slliw, Srliw, Sraiw}
use Rattle.pan_base.specs.declared.operators.UOp.TheVariants.{Lui, Auipc}
use Rattle.pan_base.specs.declared.operators.SOp.{SOp}
use Rattle.pan_base.specs.declared.operators.SOp.TheVariants.{Sb, Sh, Sw, Sd}
use Rattle.pan_base.specs.declared.operators.LOp.{LOp}
use Rattle.pan_base.specs.declared.operators.LOp.TheVariants.{Lb, Lh, Lw, Ld, Lbu, Lhu, Lwu}
use Rattle.pan_base.specs.declared.operators.Cmp.{Cmp}
use Rattle.pan_base.specs.declared.operators.Cmp.TheVariants.{Eq, Ne, Lt, Ge, Ltu, Geu}
use Rattle.riscv_isa.specs.declared.instr.Instr.{Instr}
use Rattle.riscv_isa.specs.declared.instr.Instr.TheVariants as instr
use Rattle.riscv_isa.specs.Table.{field, r_code, i_opcode, i_funct3, s_funct3, u_opcode, l_funct3, b_funct3}
use Rattle.pan_base.specs.Words.{signed}

abbrev pub r_ops : List ROp
r_ops = Add ∷ Sub ∷ Sll ∷ Slt ∷ Sltu ∷ Xor ∷ Srl ∷ Sra ∷ Or ∷ And ∷ Mul ∷ Mulhu ∷ Addw ∷ Subw ∷ Sllw ∷ Srlw ∷ Sraw ∷ []

abbrev pub i_ops : List IOp
i_ops = Addi ∷ Slti ∷ Sltiu ∷ Xori ∷ Ori ∷ Andi ∷ Addiw ∷ []

abbrev pub s_ops : List SOp
s_ops = Sb ∷ Sh ∷ Sw ∷ Sd ∷ []

abbrev pub l_ops : List LOp
l_ops = Lb ∷ Lh ∷ Lw ∷ Ld ∷ Lbu ∷ Lhu ∷ Lwu ∷ []

abbrev pub b_ops : List Cmp
b_ops = Eq ∷ Ne ∷ Lt ∷ Ge ∷ Ltu ∷ Geu ∷ []

unfoldable pub r_read : ℕ → Option Instr
r_read w = option_map (λ op. instr.R op (field 7 5 w) (field 15 5 w) (field 20 5 w)) (find (λ op. (r_code op).opcode == field 0 7 w && (r_code op).funct3 == field 12 3 w && (r_code op).funct7 == field 25 7 w) r_ops)

unfoldable pub i_read : ℕ → Option Instr
i_read w = option_map (λ op. instr.I op (field 7 5 w) (field 15 5 w) (signed 12 (field 20 12 w))) (find (λ op. i_opcode op == field 0 7 w && i_funct3 op == field 12 3 w) i_ops)

unfoldable pub s_read : ℕ → Option Instr
s_read w = option_map (λ op. instr.S op (field 15 5 w) (field 20 5 w) (signed 12 (field 25 7 w * 2 ^ 5 + field 7 5 w))) (find (λ op. s_funct3 op == field 12 3 w) s_ops)

unfoldable pub l_read : ℕ → Option Instr
l_read w = option_map (λ op. instr.L op (field 7 5 w) (field 15 5 w) (signed 12 (field 20 12 w))) (find (λ op. l_funct3 op == field 12 3 w) l_ops)

unfoldable pub b_read : ℕ → Option Instr
b_read w = option_map (λ op. instr.B op (field 15 5 w) (field 20 5 w) (signed 13 (field 31 1 w * 2 ^ 12 + field 7 1 w * 2 ^ 11 + field 25 6 w * 2 ^ 5 + field 8 4 w * 2))) (find (λ op. b_funct3 op == field 12 3 w) b_ops)

unfoldable pub j_read : ℕ → Option Instr
j_read w = Some (instr.Jal (field 7 5 w) (signed 21 (field 31 1 w * 2 ^ 20 + field 12 8 w * 2 ^ 12 + field 20 1 w * 2 ^ 11 + field 21 10 w * 2)))

unfoldable pub jalr_read : ℕ → Option Instr
jalr_read w = if field 12 3 w == 0b000 then Some (instr.Jalr (field 7 5 w) (field 15 5 w) (signed 12 (field 20 12 w))) else None

unfoldable pub fence_read : ℕ → Option Instr
fence_read w = if field 12 3 w == 0b000 then Some (instr.Fence (field 15 17 w) (field 7 5 w)) else None

-- the shift by a fixed amount: by opcode, funct3 and the bits above the amount
unfoldable pub sh_read : ℕ → Option Instr
sh_read w =
    if field 0 7 w == 0b0010011 && field 12 3 w == 0b001 && field 26 6 w == 0b000000 then Some (instr.Sh Slli (field 7 5 w) (field 15 5 w) (field 20 6 w))
    else (if field 0 7 w == 0b0010011 && field 12 3 w == 0b101 && field 26 6 w == 0b000000 then Some (instr.Sh Srli (field 7 5 w) (field 15 5 w) (field 20 6 w))
    else (if field 0 7 w == 0b0010011 && field 12 3 w == 0b101 && field 26 6 w == 0b010000 then Some (instr.Sh Srai (field 7 5 w) (field 15 5 w) (field 20 6 w))
    else (if field 0 7 w == 0b0011011 && field 12 3 w == 0b001 && field 25 7 w == 0b0000000 then Some (instr.Sh Slliw (field 7 5 w) (field 15 5 w) (field 20 5 w))
    else (if field 0 7 w == 0b0011011 && field 12 3 w == 0b101 && field 25 7 w == 0b0000000 then Some (instr.Sh Srliw (field 7 5 w) (field 15 5 w) (field 20 5 w))
    else (if field 0 7 w == 0b0011011 && field 12 3 w == 0b101 && field 25 7 w == 0b0100000 then Some (instr.Sh Sraiw (field 7 5 w) (field 15 5 w) (field 20 5 w))
    else None)))))

-- the first, or else the second
abbrev pub or_else : {A : Type 0} → Option A → Option A → Option A
or_else None b = b
or_else (Some a) b = Some a

-- by the opcode
unfoldable pub decoded : ℕ → Option Instr
decoded w =
    if field 0 7 w == 0b0110011 || field 0 7 w == 0b0111011 then r_read w
    else (if field 0 7 w == 0b0010011 || field 0 7 w == 0b0011011 then or_else (i_read w) (sh_read w)
    else (if field 0 7 w == 0b0100011 then s_read w
    else (if field 0 7 w == u_opcode Lui then Some (instr.U Lui (field 7 5 w) (field 12 20 w))
    else (if field 0 7 w == u_opcode Auipc then Some (instr.U Auipc (field 7 5 w) (field 12 20 w))
    else (if field 0 7 w == 0b0000011 then l_read w
    else (if field 0 7 w == 0b1100011 then b_read w
    else (if field 0 7 w == 0b1101111 then j_read w
    else (if field 0 7 w == 0b1100111 then jalr_read w
    else (if field 0 7 w == 0b0001111 then fence_read w
    else (if w == 0x00000073 then Some instr.Ecall
    else (if w == 0x00100073 then Some instr.Ebreak else None)))))))))))
