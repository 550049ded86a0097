-- What the instructions make of some values, as two's complement gives it: examples that the definitions are held against.
use Rattle.std.proofs.Common.{◌≡◌, refl, pos, negsuc}
use Rattle.pan_base.specs.declared.operators.ROp.TheVariants as rop
use Rattle.pan_base.specs.declared.operators.IOp.TheVariants as iop
use Rattle.pan_base.specs.declared.operators.ShiftOp.TheVariants as shift_op
use Rattle.pan_base.specs.declared.operators.LOp.TheVariants as lop
use Rattle.pan_base.specs.declared.operators.UOp.TheVariants as uop
use Rattle.pan_base.specs.Results.{r_result, i_result, sh_result, u_result, l_result, plus, upper, sign_extended}

record KnownResults : Type 0 where
  add : r_result rop.Add 0xffffffffffffffff 2 ≡ 1
  sub : r_result rop.Sub 1 3 ≡ 0xfffffffffffffffe
  sll : r_result rop.Sll 3 0x7f ≡ 0x8000000000000000
  slt : r_result rop.Slt 0xffffffffffffffff 0 ≡ 1
  slt_2 : r_result rop.Slt 0 0xffffffffffffffff ≡ 0
  sltu : r_result rop.Sltu 0xffffffffffffffff 0 ≡ 0
  sltu_2 : r_result rop.Sltu 0 0xffffffffffffffff ≡ 1
  xor : r_result rop.Xor 0xff00 0xff0 ≡ 0xf0f0
  srl : r_result rop.Srl 0xfffffffffffffffe 0x41 ≡ 0x7fffffffffffffff
  sra : r_result rop.Sra 0xfffffffffffffff8 0x42 ≡ 0xfffffffffffffffe
  sra_2 : r_result rop.Sra 8 2 ≡ 2
  or : r_result rop.Or 0xff00 0xff0 ≡ 0xfff0
  and : r_result rop.And 0xff00 0xff0 ≡ 0xf00
  mul : r_result rop.Mul 0xffffffffffffffff 0xfffffffffffffffe ≡ 2
  mulhu : r_result rop.Mulhu 0xffffffffffffffff 0xfffffffffffffffe ≡ 0xfffffffffffffffd
  addw : r_result rop.Addw 0x7fffffff 1 ≡ 0xffffffff80000000
  addw_2 : r_result rop.Addw 0xffffffff00000001 1 ≡ 2
  subw : r_result rop.Subw 0 1 ≡ 0xffffffffffffffff
  subw_2 : r_result rop.Subw 0x100000000 1 ≡ 0xffffffffffffffff
  sllw : r_result rop.Sllw 3 0x3f ≡ 0xffffffff80000000
  srlw : r_result rop.Srlw 0xf80000000 0x20 ≡ 0xffffffff80000000
  srlw_2 : r_result rop.Srlw 0xf80000000 0x21 ≡ 0x40000000
  sraw : r_result rop.Sraw 0xf80000000 0x24 ≡ 0xfffffffff8000000
  sraw_2 : r_result rop.Sraw 0x740000000 4 ≡ 0x4000000
  addi : i_result iop.Addi 1 (negsuc 2047) ≡ 0xfffffffffffff801
  addi_2 : i_result iop.Addi 0xffffffffffffffff (pos 2047) ≡ 0x7fe
  slti : i_result iop.Slti 0xfffffffffffffffd (negsuc 1) ≡ 1
  slti_2 : i_result iop.Slti 5 (negsuc 0) ≡ 0
  sltiu : i_result iop.Sltiu 5 (negsuc 0) ≡ 1
  sltiu_2 : i_result iop.Sltiu 0xffffffffffffffff (negsuc 0) ≡ 0
  xori : i_result iop.Xori 0x5a (negsuc 0) ≡ 0xffffffffffffffa5
  ori : i_result iop.Ori 0x100 (negsuc 2047) ≡ 0xfffffffffffff900
  andi : i_result iop.Andi 0xffffffffffffffff (negsuc 2047) ≡ 0xfffffffffffff800
  addiw : i_result iop.Addiw 0x7fffffff (pos 1) ≡ 0xffffffff80000000
  addiw_2 : i_result iop.Addiw 0x100000000 (negsuc 0) ≡ 0xffffffffffffffff
  slli : sh_result shift_op.Slli 3 63 ≡ 0x8000000000000000
  srli : sh_result shift_op.Srli 0xfffffffffffffffe 1 ≡ 0x7fffffffffffffff
  srai : sh_result shift_op.Srai 0xfffffffffffffff8 2 ≡ 0xfffffffffffffffe
  srai_2 : sh_result shift_op.Srai 8 2 ≡ 2
  slliw : sh_result shift_op.Slliw 3 31 ≡ 0xffffffff80000000
  srliw : sh_result shift_op.Srliw 0xf80000000 0 ≡ 0xffffffff80000000
  srliw_2 : sh_result shift_op.Srliw 0xf80000000 31 ≡ 1
  sraiw : sh_result shift_op.Sraiw 0xf80000000 4 ≡ 0xfffffffff8000000
  lui : u_result uop.Lui 0x100000000 0x7ffff ≡ 0x7ffff000
  lui_2 : u_result uop.Lui 0x100000000 0x80000 ≡ 0xffffffff80000000
  auipc : u_result uop.Auipc 0x100000008 0xfffff ≡ 0xfffff008
  lb : l_result lop.Lb 0x80 ≡ 0xffffffffffffff80
  lh : l_result lop.Lh 0x8000 ≡ 0xffffffffffff8000
  lw : l_result lop.Lw 0x80000000 ≡ 0xffffffff80000000
  ld : l_result lop.Ld 0x8000000000000000 ≡ 0x8000000000000000
  lbu : l_result lop.Lbu 0x80 ≡ 0x80
  lhu : l_result lop.Lhu 0x8000 ≡ 0x8000
  lwu : l_result lop.Lwu 0x80000000 ≡ 0x80000000

known_results : KnownResults
unfolding plus upper sign_extended
known_results = record {
  add = refl;
  sub = refl;
  sll = refl;
  slt = refl;
  slt_2 = refl;
  sltu = refl;
  sltu_2 = refl;
  xor = refl;
  srl = refl;
  sra = refl;
  sra_2 = refl;
  or = refl;
  and = refl;
  mul = refl;
  mulhu = refl;
  addw = refl;
  addw_2 = refl;
  subw = refl;
  subw_2 = refl;
  sllw = refl;
  srlw = refl;
  srlw_2 = refl;
  sraw = refl;
  sraw_2 = refl;
  addi = refl;
  addi_2 = refl;
  slti = refl;
  slti_2 = refl;
  sltiu = refl;
  sltiu_2 = refl;
  xori = refl;
  ori = refl;
  andi = refl;
  addiw = refl;
  addiw_2 = refl;
  slli = refl;
  srli = refl;
  srai = refl;
  srai_2 = refl;
  slliw = refl;
  srliw = refl;
  srliw_2 = refl;
  sraiw = refl;
  lui = refl;
  lui_2 = refl;
  auipc = refl;
  lb = refl;
  lh = refl;
  lw = refl;
  ld = refl;
  lbu = refl;
  lhu = refl;
  lwu = refl;
}
