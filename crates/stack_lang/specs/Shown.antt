-- What structured code sees of the machine: no place in the code, no return address (x1), no stack pointer (x2), no newest record of a handler (x8), no x9, and not the bytes of the stack.
use Rattle.std.specs.Prelude.{◌≡◌, ◌≢◌, ℕ, ℤ, List, [], slice_set}
use Rattle.pan_base.specs.declared.events.Size.{Size}
use Rattle.pan_base.specs.declared.events.Size.TheVariants.{B1, B2, B4, B8}
use Rattle.pan_base.specs.declared.operators.LOp.{LOp}
use Rattle.pan_base.specs.declared.operators.LOp.TheVariants.{Lbu, Lhu, Lwu, Ld}
use Rattle.pan_base.specs.declared.operators.SOp.{SOp}
use Rattle.pan_base.specs.declared.operators.SOp.TheVariants.{Sb, Sh, Sw, Sd}
use Rattle.pan_base.specs.declared.operators.UOp.TheVariants.{Lui}
use Rattle.riscv_isa.specs.declared.instr.Instr.{Instr}
use Rattle.riscv_isa.specs.declared.instr.Instr.TheVariants as instr
use Rattle.riscv_isa.specs.Step.{State}

-- registers without x1, x2, x8 and x9
abbrev pub mask : List ℕ → List ℕ
mask xs = slice_set (slice_set (slice_set (slice_set xs 1 0) 9 0) 2 0) 8 0

-- a state without what structured code doesn't see
abbrev pub hide : State → State
hide t = record { registers = mask t.registers; pc = 0; code = []; names = t.names; memory = record t.memory { stack = [] } }

-- a register that structured code sees: not the return address, x9, the stack pointer and the newest record
abbrev pub IsVisible : ℕ → Type 0
IsVisible r = (r ≢ 1) × (r ≢ 9) × (r ≢ 2) × (r ≢ 8)

-- a register that its instructions may write: not the stack's limit (x4) either
abbrev pub IsWritable : ℕ → Type 0
IsWritable r = (r ≢ 1) × (r ≢ 9) × (r ≢ 2) × (r ≢ 8) × (r ≢ 4)

-- an instruction of structured code: no jump, no call of the environment, and none that reads the place in the code; a breakpoint is one, which fails
abbrev pub IsShown : Instr → Type 0
IsShown (instr.R op rd rs1 rs2) = IsWritable rd × IsVisible rs1 × IsVisible rs2
IsShown (instr.I op rd rs1 imm) = IsWritable rd × IsVisible rs1
IsShown (instr.Sh op rd rs1 amount) = IsWritable rd × IsVisible rs1
IsShown (instr.S op rs1 rs2 imm) = IsVisible rs1 × IsVisible rs2
IsShown (instr.U op rd high) = (op ≡ Lui) × IsWritable rd
IsShown (instr.L op rd rs1 imm) = IsWritable rd × IsVisible rs1
IsShown (instr.B op rs1 rs2 imm) = ⊥
IsShown (instr.Jal rd imm) = ⊥
IsShown (instr.Jalr rd rs1 imm) = ⊥
IsShown (instr.Fence high rd) = Unit {0}
IsShown instr.Ecall = ⊥
IsShown instr.Ebreak = Unit {0}

-- ---- accesses of the shared window

-- the load of a size that extends with zeros
abbrev pub zero_extending : Size → LOp
zero_extending B1 = Lbu
zero_extending B2 = Lhu
zero_extending B4 = Lwu
zero_extending B8 = Ld

abbrev pub storing : Size → SOp
storing B1 = Sb
storing B2 = Sh
storing B4 = Sw
storing B8 = Sd

abbrev pub load_of : Size → (rd rs1 : ℕ) → ℤ → Instr
load_of size rd rs1 imm = instr.L (zero_extending size) rd rs1 imm

abbrev pub store_of : Size → (rs1 rs2 : ℕ) → ℤ → Instr
store_of size rs1 rs2 imm = instr.S (storing size) rs1 rs2 imm
