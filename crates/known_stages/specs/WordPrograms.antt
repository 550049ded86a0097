-- The same small programs in the language of operations on variables, and one with small accesses.
use Rattle.std.specs.Prelude.{ℕ, ℤ, pos, negsuc, List, [], ◌∷◌, Option, Some, None, codes}
use Rattle.pan_base.specs.declared.events.Size.TheVariants.{B8}
use Rattle.pan_base.specs.declared.operators.Cmp.{Cmp}
use Rattle.pan_base.specs.declared.operators.Cmp.TheVariants.{Eq, Ne, Ge}
use Rattle.pan_base.specs.declared.operators.ROp.TheVariants.{Add, Sub, Or}
use Rattle.pan_base.specs.declared.operators.IOp.TheVariants.{Addi}
use Rattle.pan_base.specs.declared.operators.ShiftOp.TheVariants.{Slli, Srli}
use Rattle.pan_base.specs.declared.operators.LOp.{LOp}
use Rattle.pan_base.specs.declared.operators.LOp.TheVariants.{Ld, Lbu}
use Rattle.pan_base.specs.declared.operators.SOp.TheVariants.{Sb, Sh, Sw, Sd}
use Rattle.pan_stage.specs.declared.program.Program.{Program}
use Rattle.word_lang.specs.declared.syntax.Test.{Test}
use Rattle.word_lang.specs.declared.syntax.WordFun.{WordFun}
use Rattle.word_lang.specs.declared.syntax.Stmt.{Stmt}
use Rattle.word_lang.specs.declared.syntax.Stmt.TheVariants as stmt

-- ---- what programs are made of

-- a function without parameters that returns a word and costs 240
abbrev pub main_of : List Stmt → WordFun
main_of all = record { name = codes "main"; cost = 240; params = []; results = 1; body = stmt.Seq all }

-- main, and maybe another function, with one exception, of one word
abbrev pub program : List WordFun → Program WordFun
program functions = record { functions = functions; main = 0; exceptions = 1 ∷ []; names = []; globals = [] }

abbrev pub test : Cmp → Option ℕ → Option ℕ → Test
test c left right = record { comparison = c; left = left; right = right }

-- ---- a loop that is continued and broken

-- i = i + 1; if i == 2 continue; if i >= 4 break; s = s + i
abbrev pub turn_of_loops : Stmt
turn_of_loops =
    stmt.Seq
    (stmt.Imm Addi 0 0 (pos 1)
    ∷ stmt.Const 2 2
    ∷ stmt.If (test Eq (Some 0) (Some 2)) stmt.Continue stmt.Skip
    ∷ stmt.Const 2 4
    ∷ stmt.If (test Ge (Some 0) (Some 2)) stmt.Break stmt.Skip
    ∷ stmt.Reg Add 1 1 0
    ∷ [])

-- i = 0; s = 0; while 1 the turn; return s
abbrev pub loops : Program WordFun
loops =
    program
    (main_of
    (stmt.Const 0 0
    ∷ stmt.Const 1 0
    ∷ stmt.While (stmt.Const 2 1 ∷ []) (test Ne (Some 2) None) turn_of_loops
    ∷ stmt.Return (1 ∷ [])
    ∷ [])
    ∷ [])

-- ---- a call that returns two words, and one whose exception is caught

-- if x == 0 raise 7, else return x and x + 1
abbrev pub raises_at_zero : WordFun
raises_at_zero =
    record {
      name = codes "f";
      cost = 320;
      params = 0 ∷ [];
      results = 2;
      body =
          stmt.If (test Eq (Some 0) None)
          (stmt.Seq (stmt.Const 1 7 ∷ stmt.Raise 0 (1 ∷ []) ∷ []))
          (stmt.Seq (stmt.Imm Addi 1 0 (pos 1) ∷ stmt.Return (0 ∷ 1 ∷ []) ∷ []));
    }

-- a call of function 1 with variable 5, whose exception's word is variable 2 where this is done
abbrev pub calls_or_does : List ℕ → List Stmt → Stmt
calls_or_does results all = stmt.Call results 1 (5 ∷ []) (Some (record { exception = 0; variables = 2 ∷ []; body = stmt.Seq all }))

-- a, b = f(3), or return v; c, d = f(0), or return a + b + v; return 0
abbrev pub caught : Program WordFun
caught =
    program
    (main_of
    (stmt.Const 5 3
    ∷ calls_or_does (0 ∷ 1 ∷ []) (stmt.Return (2 ∷ []) ∷ [])
    ∷ stmt.Const 5 0
    ∷ calls_or_does (3 ∷ 4 ∷ []) (stmt.Reg Add 5 0 1 ∷ stmt.Reg Add 5 5 2 ∷ stmt.Return (5 ∷ []) ∷ [])
    ∷ stmt.Const 5 0
    ∷ stmt.Return (5 ∷ [])
    ∷ [])
    ∷ raises_at_zero
    ∷ [])

-- ---- a call in place of the running function

-- returns the difference of two words
abbrev pub subtracts : WordFun
subtracts = record { name = codes "f"; cost = 320; params = 4 ∷ 3 ∷ []; results = 1; body = stmt.Seq (stmt.Reg Sub 2 4 3 ∷ stmt.Return (2 ∷ []) ∷ []) }

-- return f(44, 2)
abbrev pub tail : Program WordFun
tail = program (main_of (stmt.Const 0 44 ∷ stmt.Const 1 2 ∷ stmt.TailCall 1 (0 ∷ 1 ∷ []) ∷ []) ∷ subtracts ∷ [])

-- ---- a request

-- stores 5 in eight bytes of the window, eight bytes before the variable's address; return 0
abbrev pub stopped : Program WordFun
stopped =
    program
    (main_of
    (stmt.Const 0 0x40000008
    ∷ stmt.Const 1 5
    ∷ stmt.SharedStore B8 1 0 (negsuc 7)
    ∷ stmt.Const 2 0
    ∷ stmt.Return (2 ∷ [])
    ∷ [])
    ∷ [])

-- ---- an exception that no handler is for

-- a call under a handler of exception 0, of a function that raises exception 1
abbrev pub passes_on : Program WordFun
passes_on =
    record (program
    (main_of
    (stmt.Call [] 1 [] (Some (record { exception = 0; variables = 0 ∷ []; body = stmt.Return (0 ∷ []) }))
    ∷ stmt.Const 0 0
    ∷ stmt.Return (0 ∷ [])
    ∷ [])
    ∷ record { name = codes "f"; cost = 320; params = []; results = 0; body = stmt.Raise 1 [] }
    ∷ [])) { exceptions = 1 ∷ 0 ∷ [] }

-- ---- a break before a test, which is one of the loop around

-- i = 0; while 1 { i = i + 1; while { if i == 3 break; 0 } skip }; return i
abbrev pub breaks_before : Program WordFun
breaks_before =
    program
    (main_of
    (stmt.Const 0 0
    ∷ stmt.While (stmt.Const 1 1 ∷ []) (test Ne (Some 1) None)
    (stmt.Seq
    (stmt.Imm Addi 0 0 (pos 1)
    ∷ stmt.While (stmt.Const 2 3 ∷ stmt.If (test Eq (Some 0) (Some 2)) stmt.Break stmt.Skip ∷ []) (test Ne None None) stmt.Skip
    ∷ []))
    ∷ stmt.Return (0 ∷ [])
    ∷ [])
    ∷ [])

-- ---- data memory

-- A word and a byte are stored in local memory, and a byte in the second global. Returns the sum of the first word, rotated right by 8, the fourth byte and the global.
abbrev pub data_memory : Program WordFun
data_memory =
    record (program
    (main_of
    (stmt.Const 0 0x10000000
    ∷ stmt.Const 1 0x12345678
    ∷ stmt.Store Sd 1 0 (pos 0)
    ∷ stmt.Const 1 0x1ff
    ∷ stmt.Store Sb 1 0 (pos 1)
    ∷ stmt.Const 3 0x0C000008
    ∷ stmt.Const 1 0x105
    ∷ stmt.Store Sb 1 3 (pos 0)
    ∷ stmt.Load Ld 4 0 (pos 0)
    ∷ stmt.Sh Srli 5 4 8
    ∷ stmt.Sh Slli 4 4 56
    ∷ stmt.Reg Or 4 4 5
    ∷ stmt.Load Lbu 5 0 (pos 3)
    ∷ stmt.Load Ld 6 3 (pos 0)
    ∷ stmt.Reg Add 4 4 5
    ∷ stmt.Reg Add 4 4 6
    ∷ stmt.Return (4 ∷ [])
    ∷ [])
    ∷ [])) { globals = 7 ∷ 0x208 ∷ [] }

-- ---- small accesses

-- stores 0x1ffff in two bytes at offset 2 of local memory and 0x80000001 in four at offset 4; returns what the load reads at an offset
abbrev pub accesses : LOp → ℤ → Program WordFun
accesses o offset =
    program
    (main_of
    (stmt.Const 0 0x10000000
    ∷ stmt.Const 1 0x1ffff
    ∷ stmt.Store Sh 1 0 (pos 2)
    ∷ stmt.Const 1 0x80000001
    ∷ stmt.Store Sw 1 0 (pos 4)
    ∷ stmt.Load o 2 0 offset
    ∷ stmt.Return (2 ∷ [])
    ∷ [])
    ∷ [])
