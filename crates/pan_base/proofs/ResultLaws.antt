-- What the instructions make of words is a word.
use Rattle.std.proofs.Common.{ℕ, ℤ, pos, negsuc, ◌+◌, ◌-◌, ◌*◌, ◌/◌, ◌%◌, ◌^◌, ◌<◌, Bool, true, false, arith}
use Rattle.std.specs.Prelude.{nat_lt, if◌then◌else◌}
use Rattle.std.proofs.lemmas.Nat.{and_le_l, or_lt, xor_lt, shr_le, mul-lt, div_below, mod_below}
use Rattle.pan_base.specs.declared.operators.BinOp.{BinOp}
use Rattle.pan_base.specs.declared.operators.BinOp.TheVariants as bin_op
use Rattle.pan_base.specs.declared.operators.ShOp.{ShOp}
use Rattle.pan_base.specs.declared.operators.ShOp.TheVariants as sh_op
use Rattle.pan_base.specs.declared.operators.ROp.{ROp}
use Rattle.pan_base.specs.declared.operators.ROp.TheVariants as rop
use Rattle.pan_base.specs.declared.operators.IOp.{IOp}
use Rattle.pan_base.specs.declared.operators.IOp.TheVariants as iop
use Rattle.pan_base.specs.declared.operators.ShiftOp.{ShiftOp}
use Rattle.pan_base.specs.declared.operators.ShiftOp.TheVariants as shift_op
use Rattle.pan_base.specs.declared.operators.LOp.{LOp}
use Rattle.pan_base.specs.declared.operators.LOp.TheVariants as lop
use Rattle.pan_base.specs.declared.operators.UOp.{UOp}
use Rattle.pan_base.specs.declared.operators.UOp.TheVariants as uop
use Rattle.pan_base.specs.Events.{byte_count}
use Rattle.pan_base.specs.Words.{IsWord, operate, shift}
use Rattle.pan_base.specs.Results.{plus, upper, immediate, sign_extended, low_half, truth, r_result, i_result, sh_result, u_result, loads, l_result}

pub operate_is_word : (op : BinOp) (a b : ℕ) → IsWord a → IsWord b → IsWord (operate op a b)
operate_is_word bin_op.Add a b p q = omega arith
operate_is_word bin_op.Sub a b p q = omega arith
operate_is_word bin_op.Mul a b p q = mod_below (a * b) (2 ^ 64) (omega arith)
operate_is_word bin_op.And a b p q = omega (arith, and_le_l a b)
operate_is_word bin_op.Or a b p q = or_lt 64 a b p q
operate_is_word bin_op.Xor a b p q = xor_lt 64 a b p q

-- a branch of two words is one
either : (t : Bool) (a b : ℕ) → IsWord a → IsWord b → IsWord (if t then a else b)
either true a b p q = p
either false a b p q = q

pub shift_is_word : (op : ShOp) (a n : ℕ) → IsWord a → IsWord (shift op a n)
shift_is_word sh_op.Shl a n p = mod_below (a * 2 ^ n) (2 ^ 64) (omega arith)
shift_is_word sh_op.Shr a n p = omega (arith, shr_le a n)
shift_is_word sh_op.Sar a n p = either (nat_lt a (2 ^ 63)) (a / 2 ^ n) (2 ^ 64 - 1 - (2 ^ 64 - 1 - a) / 2 ^ n) (omega (arith, shr_le a n)) (omega arith)
shift_is_word sh_op.Ror a n p =
    or_lt 64 (a / 2 ^ n) (a * 2 ^ ((64 - n) % 64) % 2 ^ 64) (omega (arith, shr_le a n)) (mod_below (a * 2 ^ ((64 - n) % 64)) (2 ^ 64) (omega arith))

pub truth_is_word : (t : Bool) → IsWord (truth t)
truth_is_word t = either t 1 0 (omega arith) (omega arith)

pub plus_is_word : (a : ℕ) (n : ℤ) → IsWord (plus a n)
unfolding plus
plus_is_word a (pos n) = omega arith
plus_is_word a (negsuc n) = omega arith

pub upper_is_word : (high : ℕ) → high < 2 ^ 20 → IsWord (upper high)
unfolding upper
upper_is_word high p = either (nat_lt high (2 ^ 19)) (high * 2 ^ 12) (2 ^ 64 - 2 ^ 32 + high * 2 ^ 12) (omega arith) (omega arith)

pub low_half_is_word : (n : ℕ) → IsWord (low_half n)
unfolding sign_extended
low_half_is_word n = either (nat_lt (n % 2 ^ 32) (2 ^ 31)) (n % 2 ^ 32) (2 ^ 64 - 2 ^ 32 + n % 2 ^ 32) (omega arith) (omega arith)

-- an immediate of at most 64 bits
pub immediate_is_word : (n : ℕ) → n < 2 ^ 63 → IsWord (immediate (pos n)) × IsWord (immediate (negsuc n))
immediate_is_word n p = (omega arith, omega arith)

pub r_result_is_word : (op : ROp) (a b : ℕ) → IsWord a → IsWord b → IsWord (r_result op a b)
r_result_is_word rop.Add a b p q = operate_is_word bin_op.Add a b p q
r_result_is_word rop.Sub a b p q = operate_is_word bin_op.Sub a b p q
r_result_is_word rop.Sll a b p q = shift_is_word sh_op.Shl a (b % 2 ^ 6) p
r_result_is_word rop.Slt a b p q = truth_is_word _
r_result_is_word rop.Sltu a b p q = truth_is_word _
r_result_is_word rop.Xor a b p q = operate_is_word bin_op.Xor a b p q
r_result_is_word rop.Srl a b p q = shift_is_word sh_op.Shr a (b % 2 ^ 6) p
r_result_is_word rop.Sra a b p q = shift_is_word sh_op.Sar a (b % 2 ^ 6) p
r_result_is_word rop.Or a b p q = operate_is_word bin_op.Or a b p q
r_result_is_word rop.And a b p q = operate_is_word bin_op.And a b p q
r_result_is_word rop.Mul a b p q = operate_is_word bin_op.Mul a b p q
r_result_is_word rop.Mulhu a b p q = div_below (a * b) (2 ^ 64) (2 ^ 64) (omega arith) (mul-lt a b (2 ^ 64) (2 ^ 64) p q)
r_result_is_word rop.Addw a b p q = low_half_is_word _
r_result_is_word rop.Subw a b p q = low_half_is_word _
r_result_is_word rop.Sllw a b p q = low_half_is_word _
r_result_is_word rop.Srlw a b p q = low_half_is_word _
r_result_is_word rop.Sraw a b p q = shift_is_word sh_op.Sar (low_half a) (b % 2 ^ 5) (low_half_is_word a)

pub i_result_is_word : (op : IOp) (a : ℕ) (imm : ℤ) → IsWord a → IsWord (immediate imm) → IsWord (i_result op a imm)
i_result_is_word iop.Addi a imm p q = plus_is_word a imm
i_result_is_word iop.Slti a imm p q = truth_is_word _
i_result_is_word iop.Sltiu a imm p q = truth_is_word _
i_result_is_word iop.Xori a imm p q = operate_is_word bin_op.Xor a (immediate imm) p q
i_result_is_word iop.Ori a imm p q = operate_is_word bin_op.Or a (immediate imm) p q
i_result_is_word iop.Andi a imm p q = operate_is_word bin_op.And a (immediate imm) p q
i_result_is_word iop.Addiw a imm p q = low_half_is_word _

pub sh_result_is_word : (op : ShiftOp) (a n : ℕ) → IsWord a → IsWord (sh_result op a n)
sh_result_is_word shift_op.Slli a n p = shift_is_word sh_op.Shl a n p
sh_result_is_word shift_op.Srli a n p = shift_is_word sh_op.Shr a n p
sh_result_is_word shift_op.Srai a n p = shift_is_word sh_op.Sar a n p
sh_result_is_word shift_op.Slliw a n p = low_half_is_word _
sh_result_is_word shift_op.Srliw a n p = low_half_is_word _
sh_result_is_word shift_op.Sraiw a n p = shift_is_word sh_op.Sar (low_half a) n (low_half_is_word a)

pub u_result_is_word : (op : UOp) (pc high : ℕ) → high < 2 ^ 20 → IsWord (u_result op pc high)
u_result_is_word uop.Lui pc high p = upper_is_word high p
u_result_is_word uop.Auipc pc high p = mod_below (pc + upper high) (2 ^ 64) (omega arith)

pub l_result_is_word : (op : LOp) (n : ℕ) → n < 2 ^ (8 * byte_count (loads op)) → IsWord (l_result op n)
unfolding sign_extended
l_result_is_word lop.Lb n p = either (nat_lt n (2 ^ 7)) n (2 ^ 64 - 2 ^ 8 + n) (omega arith) (omega arith)
l_result_is_word lop.Lh n p = either (nat_lt n (2 ^ 15)) n (2 ^ 64 - 2 ^ 16 + n) (omega arith) (omega arith)
l_result_is_word lop.Lw n p = either (nat_lt n (2 ^ 31)) n (2 ^ 64 - 2 ^ 32 + n) (omega arith) (omega arith)
l_result_is_word lop.Ld n p = p
l_result_is_word lop.Lbu n p = omega arith
l_result_is_word lop.Lhu n p = omega arith
l_result_is_word lop.Lwu n p = omega arith
