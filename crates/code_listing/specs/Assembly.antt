-- The text of instructions in the assembly of RISC-V, with registers by number.
use Rattle.std.specs.Prelude.{ℕ, List, ◌++◌, codes, Option, Some, None}
use Rattle.std.specs.Fmt.{decimal, signed_decimal}
use Rattle.pan_base.specs.declared.operators.ROp.{ROp}
use Rattle.pan_base.specs.declared.operators.ROp.TheVariants.{Add, Sub, Sll, Slt, Sltu, Xor, Srl, Sra, Or, And, Mul, Mulhu, Addw, Subw, Sllw, Srlw, Sraw}
use Rattle.pan_base.specs.declared.operators.IOp.{IOp}
use Rattle.pan_base.specs.declared.operators.IOp.TheVariants.{Addi, Slti, Sltiu, Xori, Ori, Andi, Addiw}
use Rattle.pan_base.specs.declared.operators.ShiftOp.{ShiftOp}
use Rattle.pan_base.specs.declared.operators.ShiftOp.TheVariants.{Slli, Srli, Srai, Slliw, Srliw, Sraiw}
use Rattle.pan_base.specs.declared.operators.UOp.{UOp}
use Rattle.pan_base.specs.declared.operators.UOp.TheVariants.{Lui, Auipc}
use Rattle.pan_base.specs.declared.operators.SOp.{SOp}
use Rattle.pan_base.specs.declared.operators.SOp.TheVariants.{Sb, Sh, Sw, Sd}
use Rattle.pan_base.specs.declared.operators.LOp.{LOp}
use Rattle.pan_base.specs.declared.operators.LOp.TheVariants.{Lb, Lh, Lw, Ld, Lbu, Lhu, Lwu}
use Rattle.pan_base.specs.declared.operators.Cmp.{Cmp}
use Rattle.pan_base.specs.declared.operators.Cmp.TheVariants.{Eq, Ne, Lt, Ge, Ltu, Geu}
use Rattle.riscv_isa.specs.declared.instr.Instr.{Instr}
use Rattle.riscv_isa.specs.declared.instr.Instr.TheVariants as instr
use Rattle.code_listing.specs.Operands.{register, hexadecimal, address}

abbrev pub r_name : ROp → List ℕ
r_name Add = codes "add"
r_name Sub = codes "sub"
r_name Sll = codes "sll"
r_name Slt = codes "slt"
r_name Sltu = codes "sltu"
r_name Xor = codes "xor"
r_name Srl = codes "srl"
r_name Sra = codes "sra"
r_name Or = codes "or"
r_name And = codes "and"
r_name Mul = codes "mul"
r_name Mulhu = codes "mulhu"
r_name Addw = codes "addw"
r_name Subw = codes "subw"
r_name Sllw = codes "sllw"
r_name Srlw = codes "srlw"
r_name Sraw = codes "sraw"

abbrev pub i_name : IOp → List ℕ
i_name Addi = codes "addi"
i_name Slti = codes "slti"
i_name Sltiu = codes "sltiu"
i_name Xori = codes "xori"
i_name Ori = codes "ori"
i_name Andi = codes "andi"
i_name Addiw = codes "addiw"

abbrev pub shift_name : ShiftOp → List ℕ
shift_name Slli = codes "slli"
shift_name Srli = codes "srli"
shift_name Srai = codes "srai"
shift_name Slliw = codes "slliw"
shift_name Srliw = codes "srliw"
shift_name Sraiw = codes "sraiw"

abbrev pub load_name : LOp → List ℕ
load_name Lb = codes "lb"
load_name Lh = codes "lh"
load_name Lw = codes "lw"
load_name Ld = codes "ld"
load_name Lbu = codes "lbu"
load_name Lhu = codes "lhu"
load_name Lwu = codes "lwu"

abbrev pub store_name : SOp → List ℕ
store_name Sb = codes "sb"
store_name Sh = codes "sh"
store_name Sw = codes "sw"
store_name Sd = codes "sd"

abbrev pub branch_name : Cmp → List ℕ
branch_name Eq = codes "beq"
branch_name Ne = codes "bne"
branch_name Lt = codes "blt"
branch_name Ge = codes "bge"
branch_name Ltu = codes "bltu"
branch_name Geu = codes "bgeu"

abbrev pub upper_name : UOp → List ℕ
upper_name Lui = codes "lui"
upper_name Auipc = codes "auipc"

-- a mnemonic with two operands, or with three
abbrev pub of_two : List ℕ → List ℕ → List ℕ → List ℕ
of_two name first second = name ++ codes " " ++ first ++ codes "," ++ second

abbrev pub of_three : List ℕ → List ℕ → List ℕ → List ℕ → List ℕ
of_three name first second third =
    name ++ codes " " ++ first ++ codes "," ++ second ++ codes "," ++ third

-- an instruction
abbrev pub instr_text : Instr → List ℕ
instr_text (instr.R op rd rs1 rs2) = of_three (r_name op) (register rd) (register rs1) (register rs2)
instr_text (instr.I op rd rs1 imm) = of_three (i_name op) (register rd) (register rs1) (signed_decimal imm)
instr_text (instr.Sh op rd rs1 amount) = of_three (shift_name op) (register rd) (register rs1) (decimal amount)
instr_text (instr.S op rs1 rs2 imm) = of_two (store_name op) (register rs2) (address imm rs1)
instr_text (instr.U op rd high) = of_two (upper_name op) (register rd) (hexadecimal high)
instr_text (instr.L op rd rs1 imm) = of_two (load_name op) (register rd) (address imm rs1)
instr_text (instr.B op rs1 rs2 imm) = of_three (branch_name op) (register rs1) (register rs2) (signed_decimal imm)
instr_text (instr.Jal rd imm) = of_two (codes "jal") (register rd) (signed_decimal imm)
instr_text (instr.Jalr rd rs1 imm) = of_two (codes "jalr") (register rd) (address imm rs1)
instr_text (instr.Fence high rd) = codes "fence"
instr_text instr.Ecall = codes "ecall"
instr_text instr.Ebreak = codes "ebreak"

-- what a word stands for: an instruction, or none
abbrev pub word_text : Option Instr → List ℕ
word_text (Some i) = instr_text i
word_text None = codes "none"
