-- The instructions of lines at a layout.
use Rattle.std.specs.Prelude.{ℕ, pos, ◌+◌, ◌==◌, List, [], ◌∷◌, ◌++◌, Option, unwrap_or, if◌then◌else◌}
use Rattle.pan_base.specs.declared.operators.Cmp.{Cmp}
use Rattle.pan_base.specs.declared.operators.Cmp.TheVariants.{Eq, Ne, Lt, Ge, Ltu, Geu}
use Rattle.pan_base.specs.declared.operators.IOp.TheVariants.{Addi}
use Rattle.pan_base.specs.declared.operators.UOp.TheVariants.{Auipc}
use Rattle.riscv_isa.specs.Ways.{way, high_of, low_of}
use Rattle.riscv_isa.specs.declared.instr.Instr.{Instr}
use Rattle.riscv_isa.specs.declared.instr.Instr.TheVariants.{I, U, B, Jal, Jalr}
use Rattle.lab_lang.specs.Layout.{address_of}
use Rattle.lab_lang.specs.declared.syntax.Line.{Line}
use Rattle.lab_lang.specs.declared.syntax.Line.TheVariants.{Label, Plain, Jump, Branch, CallTo, Address, JumpReg}

-- the comparison that holds where another one doesn't
abbrev pub inverse : Cmp → Cmp
inverse Eq = Ne
inverse Ne = Eq
inverse Lt = Ge
inverse Ge = Lt
inverse Ltu = Geu
inverse Geu = Ltu

-- an AUIPC of a register and a jump by way of it that links in `rd`
abbrev pub far_jump : (rd by from to : ℕ) → List Instr
far_jump rd by from to = U Auipc by (high_of from to) ∷ Jalr rd by (low_of from to) ∷ []

-- a jump that links in `rd`, in one instruction or by way of a register
abbrev pub jump_by : (count rd by from to : ℕ) → List Instr
jump_by count rd by from to = if count == 1 then Jal rd (way from to) ∷ [] else far_jump rd by from to

-- a branch, in one instruction, or as a branch by the inverse comparison over the two of a jump
abbrev pub branch_by : (count : ℕ) → Cmp → (a b from to : ℕ) → List Instr
branch_by count c a b from to = if count == 1 then B c a b (way from to) ∷ [] else B (inverse c) a b (pos 12) ∷ far_jump 0 9 (from + 4) to

-- the address of a label, in a register
abbrev pub address_by : (rd from to : ℕ) → List Instr
address_by rd from to = U Auipc rd (high_of from to) ∷ I Addi rd rd (low_of from to) ∷ []

-- The instructions of a line of so many at an address, where `at` says where labels stand. What names a label that stands nowhere goes to the begin of the code.
abbrev pub lowered : Line → (count from : ℕ) → (ℕ → Option ℕ) → List Instr
lowered (Label l) count from at = []
lowered (Plain i) count from at = i ∷ []
lowered (Jump l) count from at = jump_by count 0 9 from (unwrap_or (at l) (address_of 0))
lowered (Branch c a b l) count from at = branch_by count c a b from (unwrap_or (at l) (address_of 0))
lowered (CallTo l) count from at = jump_by count 1 1 from (unwrap_or (at l) (address_of 0))
lowered (Address rd l) count from at = address_by rd from (unwrap_or (at l) (address_of 0))
lowered (JumpReg r) count from at = Jalr 0 r (pos 0) ∷ []

-- the instructions of all
abbrev pub all_lowered : List Line → List (ℕ × ℕ) → (ℕ → Option ℕ) → List Instr
all_lowered [] ys at = []
all_lowered (x ∷ xs) [] at = []
all_lowered (x ∷ xs) (y ∷ ys) at = lowered x y.1 (address_of y.0) at ++ all_lowered xs ys at
