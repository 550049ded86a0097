-- Which word stands for which instruction.
use Rattle.std.specs.Prelude.{◌≡◌, ℕ, ℤ, pos, negsuc, ◌+◌, ◌*◌, ◌/◌, ◌%◌, ◌^◌, ◌<◌, ◌≤ℤ◌}
use Rattle.pan_base.specs.Words.{signed}
use Rattle.pan_base.specs.declared.operators.ROp.{ROp}
use Rattle.pan_base.specs.declared.operators.ROp.TheVariants.{Add, Sub, Sll, Slt, Sltu, Xor, Srl, Sra, Or, And, Mul, Mulhu, Addw, Subw, Sllw, Srlw, Sraw}
use Rattle.pan_base.specs.declared.operators.IOp.{IOp}
use Rattle.pan_base.specs.declared.operators.IOp.TheVariants.{Addi, Slti, Sltiu, Xori, Ori, Andi, Addiw}
use Rattle.pan_base.specs.declared.operators.ShiftOp.{ShiftOp}
use Rattle.pan_base.specs.declared.operators.ShiftOp.TheVariants.{Slli, Srli, Srai, Slliw, Srliw, Sraiw}
use Rattle.pan_base.specs.declared.operators.UOp.{UOp}
use Rattle.pan_base.specs.declared.operators.UOp.TheVariants.{Lui, Auipc}
use Rattle.pan_base.specs.declared.operators.SOp.{SOp}
use Rattle.pan_base.specs.declared.operators.SOp.TheVariants.{Sb, Sh, Sw, Sd}
use Rattle.pan_base.specs.declared.operators.LOp.{LOp}
use Rattle.pan_base.specs.declared.operators.LOp.TheVariants.{Lb, Lh, Lw, Ld, Lbu, Lhu, Lwu}
use Rattle.pan_base.specs.declared.operators.Cmp.{Cmp}
use Rattle.pan_base.specs.declared.operators.Cmp.TheVariants.{Eq, Ne, Lt, Ge, Ltu, Geu}
use Rattle.riscv_isa.specs.declared.instr.Instr.{Instr}
use Rattle.riscv_isa.specs.declared.instr.Instr.TheVariants as instr

-- the bits of a word from bit `low` on, `count` of them
abbrev pub field : ℕ → ℕ → ℕ → ℕ
field low count word = word / 2 ^ low % 2 ^ count

-- an operation's opcode, funct3 and funct7
pub record Code : Type 0 where
  pub opcode : ℕ
  pub funct3 : ℕ
  pub funct7 : ℕ

abbrev pub code : ℕ → ℕ → ℕ → Code
code opcode funct3 funct7 = record { opcode = opcode; funct3 = funct3; funct7 = funct7 }

abbrev pub r_code : ROp → Code
r_code Add = code 0b0110011 0b000 0b0000000
r_code Sub = code 0b0110011 0b000 0b0100000
r_code Sll = code 0b0110011 0b001 0b0000000
r_code Slt = code 0b0110011 0b010 0b0000000
r_code Sltu = code 0b0110011 0b011 0b0000000
r_code Xor = code 0b0110011 0b100 0b0000000
r_code Srl = code 0b0110011 0b101 0b0000000
r_code Sra = code 0b0110011 0b101 0b0100000
r_code Or = code 0b0110011 0b110 0b0000000
r_code And = code 0b0110011 0b111 0b0000000
r_code Mul = code 0b0110011 0b000 0b0000001
r_code Mulhu = code 0b0110011 0b011 0b0000001
r_code Addw = code 0b0111011 0b000 0b0000000
r_code Subw = code 0b0111011 0b000 0b0100000
r_code Sllw = code 0b0111011 0b001 0b0000000
r_code Srlw = code 0b0111011 0b101 0b0000000
r_code Sraw = code 0b0111011 0b101 0b0100000

abbrev pub i_opcode : IOp → ℕ
i_opcode Addiw = 0b0011011
i_opcode _ = 0b0010011

abbrev pub i_funct3 : IOp → ℕ
i_funct3 Addi = 0b000
i_funct3 Slti = 0b010
i_funct3 Sltiu = 0b011
i_funct3 Xori = 0b100
i_funct3 Ori = 0b110
i_funct3 Andi = 0b111
i_funct3 Addiw = 0b000

abbrev pub u_opcode : UOp → ℕ
u_opcode Lui = 0b0110111
u_opcode Auipc = 0b0010111

abbrev pub s_funct3 : SOp → ℕ
s_funct3 Sb = 0b000
s_funct3 Sh = 0b001
s_funct3 Sw = 0b010
s_funct3 Sd = 0b011

abbrev pub l_funct3 : LOp → ℕ
l_funct3 Lb = 0b000
l_funct3 Lh = 0b001
l_funct3 Lw = 0b010
l_funct3 Ld = 0b011
l_funct3 Lbu = 0b100
l_funct3 Lhu = 0b101
l_funct3 Lwu = 0b110

-- the branches BEQ, BNE, BLT, BGE, BLTU and BGEU
abbrev pub b_funct3 : Cmp → ℕ
b_funct3 Eq = 0b000
b_funct3 Ne = 0b001
b_funct3 Lt = 0b100
b_funct3 Ge = 0b101
b_funct3 Ltu = 0b110
b_funct3 Geu = 0b111

-- funct7 rs2 rs1 funct3 rd opcode
pub record RFormat (w : ℕ) (c : Code) (rd rs1 rs2 : ℕ) : Type 0 where
  pub word : w < 2 ^ 32
  pub opcode : field 0 7 w ≡ c.opcode
  pub at_rd : field 7 5 w ≡ rd
  pub funct3 : field 12 3 w ≡ c.funct3
  pub at_rs1 : field 15 5 w ≡ rs1
  pub at_rs2 : field 20 5 w ≡ rs2
  pub funct7 : field 25 7 w ≡ c.funct7

-- imm[11:0] rs1 funct3 rd opcode
pub record IFormat (w opcode funct3 rd rs1 : ℕ) (imm : ℤ) : Type 0 where
  pub word : w < 2 ^ 32
  pub at_opcode : field 0 7 w ≡ opcode
  pub at_rd : field 7 5 w ≡ rd
  pub at_funct3 : field 12 3 w ≡ funct3
  pub at_rs1 : field 15 5 w ≡ rs1
  pub at_imm : signed 12 (field 20 12 w) ≡ imm

-- six bits above the amount, six of the amount, rs1 funct3 rd opcode
pub record ShFormat (w opcode funct3 above rd rs1 amount : ℕ) : Type 0 where
  pub word : w < 2 ^ 32
  pub at_opcode : field 0 7 w ≡ opcode
  pub at_rd : field 7 5 w ≡ rd
  pub at_funct3 : field 12 3 w ≡ funct3
  pub at_rs1 : field 15 5 w ≡ rs1
  pub at_amount : field 20 6 w ≡ amount
  pub at_above : field 26 6 w ≡ above

-- seven bits above the amount, five of the amount, rs1 funct3 rd opcode
pub record ShwFormat (w opcode funct3 above rd rs1 amount : ℕ) : Type 0 where
  pub word : w < 2 ^ 32
  pub at_opcode : field 0 7 w ≡ opcode
  pub at_rd : field 7 5 w ≡ rd
  pub at_funct3 : field 12 3 w ≡ funct3
  pub at_rs1 : field 15 5 w ≡ rs1
  pub at_amount : field 20 5 w ≡ amount
  pub at_above : field 25 7 w ≡ above

-- a shift by a fixed amount, which has five bits in the forms that shift the low 32 bits
abbrev pub ShRow : ShiftOp → ℕ → ℕ → ℕ → ℕ → Type 0
ShRow Slli w rd rs1 amount = ShFormat w 0b0010011 0b001 0b000000 rd rs1 amount
ShRow Srli w rd rs1 amount = ShFormat w 0b0010011 0b101 0b000000 rd rs1 amount
ShRow Srai w rd rs1 amount = ShFormat w 0b0010011 0b101 0b010000 rd rs1 amount
ShRow Slliw w rd rs1 amount = ShwFormat w 0b0011011 0b001 0b0000000 rd rs1 amount
ShRow Srliw w rd rs1 amount = ShwFormat w 0b0011011 0b101 0b0000000 rd rs1 amount
ShRow Sraiw w rd rs1 amount = ShwFormat w 0b0011011 0b101 0b0100000 rd rs1 amount

-- the amounts of a shift are below this
abbrev pub amounts : ShiftOp → ℕ
amounts Slli = 64
amounts Srli = 64
amounts Srai = 64
amounts Slliw = 32
amounts Srliw = 32
amounts Sraiw = 32

-- imm[11:5] rs2 rs1 funct3 imm[4:0] opcode
pub record SFormat (w opcode funct3 rs1 rs2 : ℕ) (imm : ℤ) : Type 0 where
  pub word : w < 2 ^ 32
  pub at_opcode : field 0 7 w ≡ opcode
  pub at_funct3 : field 12 3 w ≡ funct3
  pub at_rs1 : field 15 5 w ≡ rs1
  pub at_rs2 : field 20 5 w ≡ rs2
  pub at_imm : signed 12 (field 25 7 w * 2 ^ 5 + field 7 5 w) ≡ imm

-- imm[31:12] rd opcode
pub record UFormat (w opcode rd high : ℕ) : Type 0 where
  pub word : w < 2 ^ 32
  pub at_opcode : field 0 7 w ≡ opcode
  pub at_rd : field 7 5 w ≡ rd
  pub at_high : field 12 20 w ≡ high

-- imm[12] imm[10:5] rs2 rs1 funct3 imm[4:1] imm[11] opcode
pub record BFormat (w opcode funct3 rs1 rs2 : ℕ) (imm : ℤ) : Type 0 where
  pub word : w < 2 ^ 32
  pub at_opcode : field 0 7 w ≡ opcode
  pub at_funct3 : field 12 3 w ≡ funct3
  pub at_rs1 : field 15 5 w ≡ rs1
  pub at_rs2 : field 20 5 w ≡ rs2
  pub at_imm : signed 13 (field 31 1 w * 2 ^ 12 + field 7 1 w * 2 ^ 11 + field 25 6 w * 2 ^ 5 + field 8 4 w * 2) ≡ imm

-- imm[20] imm[10:1] imm[11] imm[19:12] rd opcode
pub record JFormat (w opcode rd : ℕ) (imm : ℤ) : Type 0 where
  pub word : w < 2 ^ 32
  pub at_opcode : field 0 7 w ≡ opcode
  pub at_rd : field 7 5 w ≡ rd
  pub at_imm : signed 21 (field 31 1 w * 2 ^ 20 + field 12 8 w * 2 ^ 12 + field 20 1 w * 2 ^ 11 + field 21 10 w * 2) ≡ imm

-- the 17 high bits, which have no effect, funct3 rd opcode
pub record FenceFormat (w opcode funct3 high rd : ℕ) : Type 0 where
  pub word : w < 2 ^ 32
  pub at_opcode : field 0 7 w ≡ opcode
  pub at_rd : field 7 5 w ≡ rd
  pub at_funct3 : field 12 3 w ≡ funct3
  pub at_high : field 15 17 w ≡ high

-- the word stands for the instruction
abbrev pub Instruction : ℕ → Instr → Type 0
Instruction w (instr.R op rd rs1 rs2) = RFormat w (r_code op) rd rs1 rs2
Instruction w (instr.I op rd rs1 imm) = IFormat w (i_opcode op) (i_funct3 op) rd rs1 imm
Instruction w (instr.Sh op rd rs1 amount) = ShRow op w rd rs1 amount
Instruction w (instr.S op rs1 rs2 imm) = SFormat w 0b0100011 (s_funct3 op) rs1 rs2 imm
Instruction w (instr.U op rd high) = UFormat w (u_opcode op) rd high
Instruction w (instr.L op rd rs1 imm) = IFormat w 0b0000011 (l_funct3 op) rd rs1 imm
Instruction w (instr.B op rs1 rs2 imm) = BFormat w 0b1100011 (b_funct3 op) rs1 rs2 imm
Instruction w (instr.Jal rd imm) = JFormat w 0b1101111 rd imm
Instruction w (instr.Jalr rd rs1 imm) = IFormat w 0b1100111 0b000 rd rs1 imm
Instruction w (instr.Fence high rd) = FenceFormat w 0b0001111 0b000 high rd
Instruction w instr.Ecall = w ≡ 0x00000073
Instruction w instr.Ebreak = w ≡ 0x00100073

-- a multiple of 2
abbrev pub IsEven : ℤ → Type 0
IsEven (pos n) = n % 2 ≡ 0
IsEven (negsuc n) = n % 2 ≡ 1

-- the fields of an instruction are in range
abbrev pub InRange : Instr → Type 0
InRange (instr.R op rd rs1 rs2) = (rd < 32) × (rs1 < 32) × (rs2 < 32)
InRange (instr.I op rd rs1 imm) = (rd < 32) × (rs1 < 32) × (negsuc 2047 ≤ℤ imm) × (imm ≤ℤ pos 2047)
InRange (instr.Sh op rd rs1 amount) = (rd < 32) × (rs1 < 32) × (amount < amounts op)
InRange (instr.S op rs1 rs2 imm) = (rs1 < 32) × (rs2 < 32) × (negsuc 2047 ≤ℤ imm) × (imm ≤ℤ pos 2047)
InRange (instr.U op rd high) = (rd < 32) × (high < 2 ^ 20)
InRange (instr.L op rd rs1 imm) = (rd < 32) × (rs1 < 32) × (negsuc 2047 ≤ℤ imm) × (imm ≤ℤ pos 2047)
InRange (instr.B op rs1 rs2 imm) = (rs1 < 32) × (rs2 < 32) × (negsuc 4095 ≤ℤ imm) × (imm ≤ℤ pos 4094) × IsEven imm
InRange (instr.Jal rd imm) = (rd < 32) × (negsuc 1048575 ≤ℤ imm) × (imm ≤ℤ pos 1048574) × IsEven imm
InRange (instr.Jalr rd rs1 imm) = (rd < 32) × (rs1 < 32) × (negsuc 2047 ≤ℤ imm) × (imm ≤ℤ pos 2047)
InRange (instr.Fence high rd) = (high < 2 ^ 17) × (rd < 32)
InRange instr.Ecall = Unit {0}
InRange instr.Ebreak = Unit {0}
