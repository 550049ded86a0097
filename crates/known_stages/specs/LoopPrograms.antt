-- The same small programs in the language of steps between variables.
use Rattle.std.specs.Prelude.{ℕ, List, [], ◌∷◌, Some, codes}
use Rattle.pan_base.specs.declared.events.Size.TheVariants.{B8}
use Rattle.pan_base.specs.declared.operators.BinOp.TheVariants.{Add, Sub}
use Rattle.pan_base.specs.declared.operators.ShOp.TheVariants.{Ror}
use Rattle.pan_base.specs.declared.operators.Cmp.TheVariants.{Eq, Ge}
use Rattle.pan_stage.specs.declared.program.Program.{Program}
use Rattle.loop_lang.specs.declared.syntax.LoopFun.{LoopFun}
use Rattle.loop_lang.specs.declared.syntax.Stmt.{Stmt}
use Rattle.loop_lang.specs.declared.syntax.Stmt.TheVariants as stmt

-- ---- what programs are made of

-- a function without parameters that returns a word and costs 240
abbrev pub main_of : List Stmt → LoopFun
main_of all = record { name = codes "main"; cost = 240; params = 0; results = 1; body = stmt.Seq all }

-- main, and maybe another function, with one exception, of one word
abbrev pub program : List LoopFun → Program LoopFun
program functions = record { functions = functions; main = 0; exceptions = 1 ∷ []; names = []; globals = [] }

-- ---- a loop that is continued and broken

-- i = i + 1; if i == 2 continue; if i >= 4 break; s = s + i
abbrev pub turn_of_loops : Stmt
turn_of_loops =
    stmt.Seq
    (stmt.Const 2 1
    ∷ stmt.Bin Add 0 0 2
    ∷ stmt.Const 2 2
    ∷ stmt.Compare Eq 2 0 2
    ∷ stmt.If 2 stmt.Continue stmt.Skip
    ∷ stmt.Const 2 4
    ∷ stmt.Compare Ge 2 0 2
    ∷ stmt.If 2 stmt.Break stmt.Skip
    ∷ stmt.Bin Add 1 1 0
    ∷ [])

-- i = 0; s = 0; while 1 the turn; return s; with this live set
abbrev pub loops : List ℕ → Program LoopFun
loops live =
    program
    (main_of
    (stmt.Const 0 0
    ∷ stmt.Const 1 0
    ∷ stmt.While live (stmt.Const 2 1 ∷ []) 2 turn_of_loops
    ∷ stmt.Return (1 ∷ [])
    ∷ [])
    ∷ [])

-- ---- a call that returns two words, and one whose exception is caught

-- if x == 0 raise 7, else return x and x + 1
abbrev pub raises_at_zero : LoopFun
raises_at_zero =
    record {
      name = codes "f";
      cost = 320;
      params = 1;
      results = 2;
      body =
          stmt.Seq
          (stmt.Const 1 0
          ∷ stmt.Compare Eq 1 0 1
          ∷ stmt.If 1
          (stmt.Seq (stmt.Const 1 7 ∷ stmt.Raise 0 (1 ∷ []) ∷ []))
          (stmt.Seq (stmt.Const 1 1 ∷ stmt.Bin Add 1 0 1 ∷ stmt.Return (0 ∷ 1 ∷ []) ∷ []))
          ∷ []);
    }

-- a call of function 1 with variable 5, whose exception's word is variable 2 where this is done
abbrev pub calls_or_does : (live results : List ℕ) → List Stmt → Stmt
calls_or_does live results all = stmt.Call live results 1 (5 ∷ []) (Some (record { exception = 0; variables = 2 ∷ []; body = stmt.Seq all }))

-- a, b = f(3), or return v; c, d = f(0), or return a + b + v; return 0; with these live sets
abbrev pub caught : List ℕ → Program LoopFun
caught live =
    program
    (main_of
    (stmt.Const 5 3
    ∷ calls_or_does live (0 ∷ 1 ∷ []) (stmt.Return (2 ∷ []) ∷ [])
    ∷ stmt.Const 5 0
    ∷ calls_or_does live (3 ∷ 4 ∷ []) (stmt.Bin Add 5 0 1 ∷ stmt.Bin Add 5 5 2 ∷ stmt.Return (5 ∷ []) ∷ [])
    ∷ stmt.Const 5 0
    ∷ stmt.Return (5 ∷ [])
    ∷ [])
    ∷ raises_at_zero
    ∷ [])

-- ---- a call in place of the running function

-- returns the difference of two words
abbrev pub subtracts : LoopFun
subtracts = record { name = codes "f"; cost = 320; params = 2; results = 1; body = stmt.Seq (stmt.Bin Sub 2 0 1 ∷ stmt.Return (2 ∷ []) ∷ []) }

-- return f(44, 2)
abbrev pub tail : Program LoopFun
tail = program (main_of (stmt.Const 0 44 ∷ stmt.Const 1 2 ∷ stmt.TailCall 1 (0 ∷ 1 ∷ []) ∷ []) ∷ subtracts ∷ [])

-- ---- a request

-- stores 5 in eight bytes of the window; return 0
abbrev pub stopped : Program LoopFun
stopped =
    program
    (main_of
    (stmt.Const 0 0x40000000
    ∷ stmt.Const 1 5
    ∷ stmt.SharedStore B8 0 1
    ∷ stmt.Const 2 0
    ∷ stmt.Return (2 ∷ [])
    ∷ [])
    ∷ [])

-- ---- an exception that no handler is for

-- a call under a handler of exception 0, of a function that raises exception 1
abbrev pub passes_on : Program LoopFun
passes_on =
    record (program
    (main_of
    (stmt.Call (9 ∷ []) [] 1 [] (Some (record { exception = 0; variables = 0 ∷ []; body = stmt.Return (0 ∷ []) }))
    ∷ stmt.Const 0 0
    ∷ stmt.Return (0 ∷ [])
    ∷ [])
    ∷ record { name = codes "f"; cost = 320; params = 0; results = 0; body = stmt.Raise 1 [] }
    ∷ [])) { exceptions = 1 ∷ 0 ∷ [] }

-- ---- a break before a test, which is one of the loop around

-- i = 0; while 1 { i = i + 1; while { if i == 3 break; 0 } skip }; return i
abbrev pub breaks_before : Program LoopFun
breaks_before =
    program
    (main_of
    (stmt.Const 0 0
    ∷ stmt.While [] (stmt.Const 1 1 ∷ []) 1
    (stmt.Seq
    (stmt.Const 2 1
    ∷ stmt.Bin Add 0 0 2
    ∷ stmt.While (3 ∷ 3 ∷ []) (stmt.Const 2 3 ∷ stmt.Compare Eq 2 0 2 ∷ stmt.If 2 stmt.Break stmt.Skip ∷ stmt.Const 3 0 ∷ []) 3 stmt.Skip
    ∷ []))
    ∷ stmt.Return (0 ∷ [])
    ∷ [])
    ∷ [])

-- ---- data memory

-- A word and a byte are stored in local memory, and a byte in the second global. Returns the sum of the first word, rotated right by 8, the fourth byte and the global.
abbrev pub data_memory : Program LoopFun
data_memory =
    record (program
    (main_of
    (stmt.Const 0 0x10000000
    ∷ stmt.Const 1 0x12345678
    ∷ stmt.StoreWord 0 1
    ∷ stmt.Const 2 0x10000001
    ∷ stmt.Const 1 0x1ff
    ∷ stmt.StoreByte 2 1
    ∷ stmt.Const 3 0x0C000008
    ∷ stmt.Const 1 0x105
    ∷ stmt.StoreByte 3 1
    ∷ stmt.LoadWord 4 0
    ∷ stmt.Shift Ror 4 4 8
    ∷ stmt.Const 2 0x10000003
    ∷ stmt.LoadByte 5 2
    ∷ stmt.LoadWord 6 3
    ∷ stmt.Bin Add 4 4 5
    ∷ stmt.Bin Add 4 4 6
    ∷ stmt.Return (4 ∷ [])
    ∷ [])
    ∷ [])) { globals = 7 ∷ 0x208 ∷ [] }
