-- The same small programs over frames. What passes stands in x10 and x11, and an exception's word in x10.
use Rattle.std.specs.Prelude.{ℕ, pos, List, [], ◌∷◌, Some, codes}
use Rattle.pan_base.specs.declared.events.Size.TheVariants.{B8}
use Rattle.pan_base.specs.declared.operators.Cmp.TheVariants.{Eq, Ne, Ge}
use Rattle.pan_base.specs.declared.operators.IOp.TheVariants.{Addi}
use Rattle.pan_base.specs.declared.operators.ShiftOp.TheVariants.{Slli, Srli}
use Rattle.pan_base.specs.declared.operators.LOp.TheVariants.{Ld, Lbu}
use Rattle.pan_base.specs.declared.operators.SOp.TheVariants.{Sb, Sd}
use Rattle.pan_base.specs.declared.operators.ROp.TheVariants.{Add, Sub, Or}
use Rattle.pan_base.specs.declared.operators.UOp.TheVariants.{Lui}
use Rattle.pan_stage.specs.declared.program.Program.{Program}
use Rattle.riscv_isa.specs.declared.instr.Instr.TheVariants as instr
use Rattle.stack_lang.specs.declared.syntax.StackFun.{StackFun}
use Rattle.stack_lang.specs.declared.syntax.Stmt.{Stmt}
use Rattle.stack_lang.specs.declared.syntax.Stmt.TheVariants as stmt

-- ---- what programs are made of

-- a register gets the sum of one and a number
abbrev pub adds_number : (rd rs n : ℕ) → Stmt
adds_number rd rs n = stmt.Plain (instr.I Addi rd rs (pos n))

-- a register gets the sum of two
abbrev pub adds_register : (rd rs1 rs2 : ℕ) → Stmt
adds_register rd rs1 rs2 = stmt.Plain (instr.R Add rd rs1 rs2)

-- a function that costs 240, with a frame of 48 bytes, which has three slots
abbrev pub main_of : List Stmt → StackFun
main_of all = record { name = codes "main"; cost = 240; frame = 48; body = stmt.Seq all }

-- one that costs 320, with a frame of 32 bytes
abbrev pub called : List Stmt → StackFun
called all = record { name = codes "f"; cost = 320; frame = 32; body = stmt.Seq all }

-- main, and maybe another function, with one exception, of one word
abbrev pub program : List StackFun → Program StackFun
program functions = record { functions = functions; main = 0; exceptions = 1 ∷ []; names = []; globals = [] }

-- ---- a loop that is continued and broken

-- x5 = x5 + 1; if x5 == 2 continue; if x5 >= 4 break; slot 0 = slot 0 + x5
abbrev pub turn_of_loops : Stmt
turn_of_loops =
    stmt.Seq
    (adds_number 5 5 1
    ∷ adds_number 6 0 2
    ∷ stmt.If Eq 5 6 stmt.Continue (stmt.Seq [])
    ∷ adds_number 6 0 4
    ∷ stmt.If Ge 5 6 stmt.Break (stmt.Seq [])
    ∷ stmt.Get 6 0
    ∷ adds_register 6 6 5
    ∷ stmt.Put 0 6
    ∷ [])

-- x5 = 0; slot 0 = 0; while 1 the turn; return slot 0
abbrev pub loops : Program StackFun
loops =
    program
    (main_of
    (adds_number 5 0 0
    ∷ stmt.Put 0 5
    ∷ stmt.While (adds_number 6 0 1 ∷ []) Ne 6 0 turn_of_loops
    ∷ stmt.Get 10 0
    ∷ stmt.Return
    ∷ [])
    ∷ [])

-- ---- a call that returns two words, and one whose exception is caught

-- if x10 == 0 raise 7, else return x10 and x10 + 1
abbrev pub raises_at_zero : StackFun
raises_at_zero = called (stmt.If Eq 10 0 (stmt.Seq (adds_number 10 0 7 ∷ stmt.Raise 0 ∷ [])) (stmt.Seq (adds_number 11 10 1 ∷ stmt.Return ∷ [])) ∷ [])

-- a call of function 1 with a number, which does the first where it returns, and the second where it raises
abbrev pub calls_or_does : ℕ → (returned raised : List Stmt) → List Stmt → List Stmt
calls_or_does n returned raised next = adds_number 10 0 n ∷ stmt.Call 1 (stmt.Seq returned) (Some (record { exception = 0; body = stmt.Seq raised })) ∷ next

-- slots 0 and 1 = f(3), or return what it raised; f(0), or return the sum of the slots and what it raised; return 0
abbrev pub caught : Program StackFun
caught =
    program
    (main_of
    (calls_or_does 3 (stmt.Put 0 10 ∷ stmt.Put 1 11 ∷ []) (stmt.Return ∷ [])
    (calls_or_does 0 [] (stmt.Get 5 0 ∷ stmt.Get 6 1 ∷ adds_register 5 5 6 ∷ adds_register 10 5 10 ∷ stmt.Return ∷ [])
    (adds_number 10 0 0 ∷ stmt.Return ∷ [])))
    ∷ raises_at_zero
    ∷ [])

-- ---- a call in place of the running function

-- return f(44, 2), the difference of two words
abbrev pub tail : Program StackFun
tail = program (main_of (adds_number 10 0 44 ∷ adds_number 11 0 2 ∷ stmt.TailCall 1 ∷ []) ∷ called (stmt.Plain (instr.R Sub 10 10 11) ∷ stmt.Return ∷ []) ∷ [])

-- ---- a request

-- stores 5 in eight bytes of the window; return 0
abbrev pub stopped : Program StackFun
stopped =
    program
    (main_of
    (stmt.Plain (instr.U Lui 5 0x40000)
    ∷ adds_number 6 0 5
    ∷ stmt.SharedStore B8 5 6 (pos 0)
    ∷ adds_number 10 0 0
    ∷ stmt.Return
    ∷ [])
    ∷ [])

-- ---- an exception that no handler is for

-- a call under a handler of exception 0, of a function that raises exception 1
abbrev pub passes_on : Program StackFun
passes_on =
    record (program
    (main_of
    (stmt.Call 1 (stmt.Seq []) (Some (record { exception = 0; body = stmt.Return }))
    ∷ adds_number 10 0 0
    ∷ stmt.Return
    ∷ [])
    ∷ called (stmt.Raise 1 ∷ [])
    ∷ [])) { exceptions = 1 ∷ 0 ∷ [] }

-- ---- a break before a test, which is one of the loop around

-- x5 = 0; while 1 { x5 = x5 + 1; while { if x5 == 3 break; 0 } skip }; return x5
abbrev pub breaks_before : Program StackFun
breaks_before =
    program
    (main_of
    (adds_number 5 0 0
    ∷ stmt.While [] Eq 0 0
    (stmt.Seq
    (adds_number 5 5 1
    ∷ stmt.While (adds_number 6 0 3 ∷ stmt.If Eq 5 6 stmt.Break (stmt.Seq []) ∷ []) Ne 0 0 (stmt.Seq [])
    ∷ []))
    ∷ adds_number 10 5 0
    ∷ stmt.Return
    ∷ [])
    ∷ [])

-- ---- data memory

-- A word and a byte are stored in local memory, and a byte in the second global. Returns the sum of the first word, rotated right by 8, the fourth byte and the global.
abbrev pub data_memory : Program StackFun
data_memory =
    record (program
    (main_of
    (stmt.Plain (instr.U Lui 5 0x10000)
    ∷ stmt.Plain (instr.U Lui 6 0x12345)
    ∷ adds_number 6 6 0x678
    ∷ stmt.Plain (instr.S Sd 5 6 (pos 0))
    ∷ adds_number 6 0 0x1ff
    ∷ stmt.Plain (instr.S Sb 5 6 (pos 1))
    ∷ stmt.Plain (instr.U Lui 7 0xC000)
    ∷ adds_number 6 0 0x105
    ∷ stmt.Plain (instr.S Sb 7 6 (pos 8))
    ∷ stmt.Plain (instr.L Ld 10 5 (pos 0))
    ∷ stmt.Plain (instr.Sh Srli 11 10 8)
    ∷ stmt.Plain (instr.Sh Slli 10 10 56)
    ∷ stmt.Plain (instr.R Or 10 10 11)
    ∷ stmt.Plain (instr.L Lbu 11 5 (pos 3))
    ∷ stmt.Plain (instr.L Ld 12 7 (pos 8))
    ∷ adds_register 10 10 11
    ∷ adds_register 10 10 12
    ∷ stmt.Return
    ∷ [])
    ∷ [])) { globals = 7 ∷ 0x208 ∷ [] }
