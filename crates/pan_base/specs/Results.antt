-- What the instructions make of the values of registers and of immediates. Words are numbers below 2 ^ 64.
use Rattle.std.specs.Prelude.{ℕ, ℤ, pos, negsuc, ◌+◌, ◌-◌, ◌*◌, ◌/◌, ◌%◌, ◌^◌, nat_lt, Bool, if◌then◌else◌}
use Rattle.pan_base.specs.declared.operators.BinOp.TheVariants as bin_op
use Rattle.pan_base.specs.declared.operators.ShOp.TheVariants as sh_op
use Rattle.pan_base.specs.declared.operators.Cmp.TheVariants as cmp
use Rattle.pan_base.specs.declared.operators.ROp.{ROp}
use Rattle.pan_base.specs.declared.operators.ROp.TheVariants as rop
use Rattle.pan_base.specs.declared.operators.IOp.{IOp}
use Rattle.pan_base.specs.declared.operators.IOp.TheVariants as iop
use Rattle.pan_base.specs.declared.operators.ShiftOp.{ShiftOp}
use Rattle.pan_base.specs.declared.operators.ShiftOp.TheVariants as shift_op
use Rattle.pan_base.specs.declared.operators.LOp.{LOp}
use Rattle.pan_base.specs.declared.operators.LOp.TheVariants as lop
use Rattle.pan_base.specs.declared.operators.SOp.{SOp}
use Rattle.pan_base.specs.declared.operators.SOp.TheVariants as sop
use Rattle.pan_base.specs.declared.operators.UOp.{UOp}
use Rattle.pan_base.specs.declared.operators.UOp.TheVariants as uop
use Rattle.pan_base.specs.declared.events.Size.{Size}
use Rattle.pan_base.specs.declared.events.Size.TheVariants.{B1, B2, B4, B8}
use Rattle.pan_base.specs.Words.{operate, shift, compare}

-- a sum modulo 2 ^ 64
unfoldable pub plus : ℕ → ℤ → ℕ
plus a (pos n) = (a + n) % 2 ^ 64
plus a (negsuc n) = (a + (2 ^ 64 - 1 - n)) % 2 ^ 64

-- 20 bits in the place of bits 12 to 31, with the sign in the bits above
unfoldable pub upper : ℕ → ℕ
upper high = if nat_lt high (2 ^ 19) then high * 2 ^ 12 else 2 ^ 64 - 2 ^ 32 + high * 2 ^ 12

-- an immediate as a word, in two's complement
abbrev pub immediate : ℤ → ℕ
immediate (pos n) = n
immediate (negsuc n) = 2 ^ 64 - 1 - n

-- so many bits as a word, with the sign in the bits above
unfoldable pub sign_extended : ℕ → ℕ → ℕ
sign_extended count n = if nat_lt n (2 ^ (count - 1)) then n else 2 ^ 64 - 2 ^ count + n

-- the low 32 bits, with the sign in the bits above
abbrev pub low_half : ℕ → ℕ
low_half n = sign_extended 32 (n % 2 ^ 32)

-- 1 or 0
abbrev pub truth : Bool → ℕ
truth b = if b then 1 else 0

-- An operation on two registers. Shifts use the low six bits of the second, and those of the low half the low five.
abbrev pub r_result : ROp → ℕ → ℕ → ℕ
r_result rop.Add a b = operate bin_op.Add a b
r_result rop.Sub a b = operate bin_op.Sub a b
r_result rop.Sll a b = shift sh_op.Shl a (b % 2 ^ 6)
r_result rop.Slt a b = truth (compare cmp.Lt a b)
r_result rop.Sltu a b = truth (compare cmp.Ltu a b)
r_result rop.Xor a b = operate bin_op.Xor a b
r_result rop.Srl a b = shift sh_op.Shr a (b % 2 ^ 6)
r_result rop.Sra a b = shift sh_op.Sar a (b % 2 ^ 6)
r_result rop.Or a b = operate bin_op.Or a b
r_result rop.And a b = operate bin_op.And a b
r_result rop.Mul a b = operate bin_op.Mul a b
r_result rop.Mulhu a b = a * b / 2 ^ 64
r_result rop.Addw a b = low_half (operate bin_op.Add a b)
r_result rop.Subw a b = low_half (operate bin_op.Sub a b)
r_result rop.Sllw a b = low_half (a * 2 ^ (b % 2 ^ 5))
r_result rop.Srlw a b = low_half (a % 2 ^ 32 / 2 ^ (b % 2 ^ 5))
r_result rop.Sraw a b = shift sh_op.Sar (low_half a) (b % 2 ^ 5)

-- an operation on a register and an immediate
abbrev pub i_result : IOp → ℕ → ℤ → ℕ
i_result iop.Addi a imm = plus a imm
i_result iop.Slti a imm = truth (compare cmp.Lt a (immediate imm))
i_result iop.Sltiu a imm = truth (compare cmp.Ltu a (immediate imm))
i_result iop.Xori a imm = operate bin_op.Xor a (immediate imm)
i_result iop.Ori a imm = operate bin_op.Or a (immediate imm)
i_result iop.Andi a imm = operate bin_op.And a (immediate imm)
i_result iop.Addiw a imm = low_half (plus a imm)

-- a shift by a fixed amount
abbrev pub sh_result : ShiftOp → ℕ → ℕ → ℕ
sh_result shift_op.Slli a n = shift sh_op.Shl a n
sh_result shift_op.Srli a n = shift sh_op.Shr a n
sh_result shift_op.Srai a n = shift sh_op.Sar a n
sh_result shift_op.Slliw a n = low_half (a * 2 ^ n)
sh_result shift_op.Srliw a n = low_half (a % 2 ^ 32 / 2 ^ n)
sh_result shift_op.Sraiw a n = shift sh_op.Sar (low_half a) n

-- an operation on an immediate's 20 high bits, at a program counter
abbrev pub u_result : UOp → ℕ → ℕ → ℕ
u_result uop.Lui pc high = upper high
u_result uop.Auipc pc high = (pc + upper high) % 2 ^ 64

-- how many bytes a load reads
abbrev pub loads : LOp → Size
loads lop.Lb = B1
loads lop.Lh = B2
loads lop.Lw = B4
loads lop.Ld = B8
loads lop.Lbu = B1
loads lop.Lhu = B2
loads lop.Lwu = B4

-- what a load makes of the number that it reads
abbrev pub l_result : LOp → ℕ → ℕ
l_result lop.Lb n = sign_extended 8 n
l_result lop.Lh n = sign_extended 16 n
l_result lop.Lw n = sign_extended 32 n
l_result _ n = n

-- how many bytes a store writes
abbrev pub stores : SOp → Size
stores sop.Sb = B1
stores sop.Sh = B2
stores sop.Sw = B4
stores sop.Sd = B8
