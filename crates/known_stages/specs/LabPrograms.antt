-- Small programs of lines, each for layouts of its own.
use Rattle.std.specs.Prelude.{ℕ, pos, negsuc, ◌+◌, ◌*◌, List, [], ◌∷◌, ◌++◌, codes, replicate}
use Rattle.pan_base.specs.declared.operators.Cmp.TheVariants.{Eq, Ne, Ge}
use Rattle.pan_base.specs.declared.operators.IOp.TheVariants.{Addi}
use Rattle.pan_base.specs.declared.operators.LOp.TheVariants.{Ld}
use Rattle.pan_base.specs.declared.operators.ROp.TheVariants.{Add, Sub}
use Rattle.pan_base.specs.declared.operators.SOp.TheVariants.{Sd}
use Rattle.pan_base.specs.declared.operators.UOp.TheVariants.{Lui}
use Rattle.pan_stage.specs.declared.program.Program.{Program}
use Rattle.riscv_isa.specs.declared.instr.Instr.TheVariants as instr
use Rattle.lab_lang.specs.declared.syntax.LabFun.{LabFun}
use Rattle.lab_lang.specs.declared.syntax.Line.{Line}
use Rattle.lab_lang.specs.declared.syntax.Line.TheVariants.{Label, Plain, Jump, Branch, CallTo, Address, JumpReg}

-- ---- what programs are made of

-- one function, main, with these globals
abbrev pub program : List ℕ → Program LabFun
program globals = record { functions = record { name = codes "main"; cost = 240 } ∷ []; main = 0; exceptions = []; names = []; globals = globals }

-- the layout in which lines have so many instructions
abbrev pub laid : ℕ → List ℕ → List (ℕ × ℕ)
laid place [] = []
laid place (n ∷ ns) = (place, n) ∷ laid (place + 4 * n) ns

-- adds to a register
abbrev pub add : (rd rs1 n : ℕ) → Line
add rd rs1 n = Plain (instr.I Addi rd rs1 (pos n))

-- exits with register 11, since registers 10 and 17 are 0 at the start
abbrev pub exit : Line
exit = Plain instr.Ecall

-- ---- jumps and calls

-- calls what returns, and exits with the address that was linked
abbrev pub calls : List Line
calls = CallTo 0 ∷ exit ∷ Label 0 ∷ add 11 1 0 ∷ JumpReg 1 ∷ []

-- jumps over 600 instructions and exits with register 9
abbrev pub jumps : List Line
jumps = Jump 0 ∷ replicate 600 (add 9 9 1) ++ Label 0 ∷ add 11 9 0 ∷ exit ∷ []

abbrev pub jumps_laid : ℕ → List (ℕ × ℕ)
jumps_laid n = laid 0 (n ∷ replicate 600 1 ++ 0 ∷ 1 ∷ 1 ∷ [])

-- jumps to a label that stands nowhere
abbrev pub jumps_nowhere : List Line
jumps_nowhere = Jump 0 ∷ exit ∷ []

-- jumps to what isn't the first instruction of a line
abbrev pub jumps_inside : List Line
jumps_inside = Address 5 0 ∷ Plain (instr.Jalr 0 5 (pos 4)) ∷ Label 0 ∷ Jump 1 ∷ Label 1 ∷ exit ∷ []

-- ---- branches

-- branches over an instruction if x0 is x0, and exits with register 9
abbrev pub branches : List Line
branches = Branch Eq 0 0 0 ∷ add 9 9 1 ∷ Label 0 ∷ add 11 9 0 ∷ exit ∷ []

-- the same if x0 isn't x0
abbrev pub passes : List Line
passes = Branch Ne 0 0 0 ∷ add 9 9 1 ∷ Label 0 ∷ add 11 9 0 ∷ exit ∷ []

-- ---- labels and data

-- exits with the address of a label that stands twice
abbrev pub addresses : List Line
addresses = Address 11 0 ∷ Label 0 ∷ exit ∷ Label 0 ∷ []

-- exits with the second global
abbrev pub reads_global : List Line
reads_global = Plain (instr.U Lui 5 0xC000) ∷ Plain (instr.L Ld 11 5 (pos 8)) ∷ exit ∷ []

-- stores 5 in eight bytes of the window
abbrev pub stores : List Line
stores = Plain (instr.U Lui 5 0x40000) ∷ add 6 0 5 ∷ Plain (instr.S Sd 5 6 (pos 0)) ∷ exit ∷ []

-- ---- the programs that stand in each language

-- x5 = 0; x11 = 0; then turns: x5 = x5 + 1; if x5 == 2 continue; if x5 >= 4 break; x11 = x11 + x5. Exits with x11.
abbrev pub loops : List Line
loops =
    add 5 0 0
    ∷ add 11 0 0
    ∷ Label 0
    ∷ add 5 5 1
    ∷ add 6 0 2
    ∷ Branch Eq 5 6 0
    ∷ add 6 0 4
    ∷ Branch Ge 5 6 1
    ∷ Plain (instr.R Add 11 11 5)
    ∷ Jump 0
    ∷ Label 1
    ∷ exit
    ∷ []

-- with so many instructions in a branch and in a jump
abbrev pub loops_laid : ℕ → ℕ → List (ℕ × ℕ)
loops_laid b j = laid 0 (1 ∷ 1 ∷ 0 ∷ 1 ∷ 1 ∷ b ∷ 1 ∷ b ∷ 1 ∷ j ∷ 0 ∷ 1 ∷ [])

-- a double word of a frame: from a register, and back
abbrev pub saves : (rs2 rs1 n : ℕ) → Line
saves rs2 rs1 n = Plain (instr.S Sd rs1 rs2 (pos n))

abbrev pub restores : (rd rs1 n : ℕ) → Line
restores rd rs1 n = Plain (instr.L Ld rd rs1 (pos n))

-- a call of label 0 with a number, under a record for the handler at this label
abbrev pub calls_under : (handler n : ℕ) → List Line → List Line
calls_under handler n next = Address 5 handler ∷ saves 8 2 8 ∷ saves 5 2 16 ∷ add 8 2 8 ∷ add 10 0 n ∷ CallTo 0 ∷ restores 8 2 8 ∷ next

-- f: if x10 == 0 raise 7, else return x10 and x10 + 1
abbrev pub f_of_caught : List Line
f_of_caught =
    Label 0
    ∷ Branch Eq 10 0 3
    ∷ add 11 10 1
    ∷ JumpReg 1
    ∷ Label 3
    ∷ add 10 0 7
    ∷ restores 9 8 8
    ∷ Plain (instr.I Addi 2 8 (negsuc 7))
    ∷ restores 8 8 0
    ∷ JumpReg 9
    ∷ []

-- x12 = the sum of what f(3) returns, or exit with what it raised; f(0), or exit with the sum of x12 and what it raised; exit with 0
abbrev pub caught : List Line
caught =
    Plain (instr.I Addi 2 2 (negsuc 31))
    ∷ calls_under 1 3
    (Plain (instr.R Add 12 10 11)
    ∷ calls_under 2 0 (add 11 0 0 ∷ add 10 0 0 ∷ exit ∷ []))
    ++ Label 1 ∷ add 11 10 0 ∷ add 10 0 0 ∷ exit ∷ []
    ++ Label 2 ∷ Plain (instr.R Add 11 12 10) ∷ add 10 0 0 ∷ exit ∷ []
    ++ f_of_caught

-- with so many instructions in a call and in the branch
abbrev pub caught_laid : ℕ → ℕ → List (ℕ × ℕ)
caught_laid c b =
    laid 0
    ((1 ∷ 2 ∷ 1 ∷ 1 ∷ 1 ∷ 1 ∷ c ∷ 1 ∷ 1 ∷ 2 ∷ 1 ∷ 1 ∷ 1 ∷ 1 ∷ c ∷ 1 ∷ 1 ∷ 1 ∷ 1 ∷ [])
    ++ (0 ∷ 1 ∷ 1 ∷ 1 ∷ [])
    ++ (0 ∷ 1 ∷ 1 ∷ 1 ∷ [])
    ++ (0 ∷ b ∷ 1 ∷ 1 ∷ 0 ∷ 1 ∷ 1 ∷ 1 ∷ 1 ∷ 1 ∷ []))

-- calls main and exits with what it returns; main goes to f(44, 2) in its place, which returns the difference
abbrev pub tail : List Line
tail =
    CallTo 0
    ∷ add 11 10 0
    ∷ add 10 0 0
    ∷ exit
    ∷ Label 0
    ∷ add 10 0 44
    ∷ add 11 0 2
    ∷ Jump 1
    ∷ Label 1
    ∷ Plain (instr.R Sub 10 10 11)
    ∷ JumpReg 1
    ∷ []

-- with so many instructions in the call and in the jump
abbrev pub tail_laid : ℕ → List (ℕ × ℕ)
tail_laid n = laid 0 (n ∷ 1 ∷ 1 ∷ 1 ∷ 0 ∷ 1 ∷ 1 ∷ n ∷ 0 ∷ 1 ∷ 1 ∷ [])
