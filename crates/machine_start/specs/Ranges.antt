-- That the fields of an instruction are in range is a fact: one proof of it is as good as another.
use Rattle.std.specs.Prelude.{ℤ, pos, negsuc}
use Rattle.std.proofs.Props.{props}
use Rattle.riscv_isa.specs.Table.{InRange, IsEven}
use Rattle.riscv_isa.specs.declared.instr.Instr.{Instr}
use Rattle.riscv_isa.specs.declared.instr.Instr.TheVariants.{R, I, Sh, S, U, L, B, Jal, Jalr, Fence, Ecall, Ebreak}

IsEven-prop : (n : ℤ) → IsProp (IsEven n)
IsEven-prop (pos n) = Prim.hlevel props
IsEven-prop (negsuc n) = Prim.hlevel props

pub InRange-prop : (i : Instr) → IsProp (InRange i)
InRange-prop (R op rd rs1 rs2) = Prim.hlevel props
InRange-prop (I op rd rs1 imm) = Prim.hlevel props
InRange-prop (Sh op rd rs1 amount) = Prim.hlevel props
InRange-prop (S op rs1 rs2 imm) = Prim.hlevel props
InRange-prop (U op rd high) = Prim.hlevel props
InRange-prop (L op rd rs1 imm) = Prim.hlevel props
InRange-prop (B op rs1 rs2 imm) = Prim.hlevel (props, IsEven-prop)
InRange-prop (Jal rd imm) = Prim.hlevel (props, IsEven-prop)
InRange-prop (Jalr rd rs1 imm) = Prim.hlevel props
InRange-prop (Fence high rd) = Prim.hlevel props
InRange-prop Ecall = Prim.hlevel props
InRange-prop Ebreak = Prim.hlevel props
