-- Small programs of the language of words.
use Rattle.std.specs.Prelude.{ℕ, List, [], ◌∷◌, Some, codes}
use Rattle.pan_base.specs.declared.events.Size.TheVariants.{B8}
use Rattle.pan_base.specs.declared.operators.BinOp.TheVariants.{Add, Sub}
use Rattle.pan_base.specs.declared.operators.ShOp.TheVariants.{Ror}
use Rattle.pan_base.specs.declared.operators.Cmp.TheVariants.{Eq, Ge}
use Rattle.pan_stage.specs.declared.program.Program.{Program}
use Rattle.crep_lang.specs.declared.syntax.CrepFun.{CrepFun}
use Rattle.crep_lang.specs.declared.syntax.Expr.{Expr}
use Rattle.crep_lang.specs.declared.syntax.Expr.TheVariants as expr
use Rattle.crep_lang.specs.declared.syntax.Stmt.{Stmt}
use Rattle.crep_lang.specs.declared.syntax.Stmt.TheVariants as stmt

-- ---- what programs are made of

abbrev pub is_equal : (x n : ℕ) → Expr
is_equal x n = expr.Compare Eq (expr.Var x) (expr.Num n)

abbrev pub is_at_least : (x n : ℕ) → Expr
is_at_least x n = expr.Compare Ge (expr.Var x) (expr.Num n)

abbrev pub plus : Expr → Expr → Expr
plus a b = expr.Bin Add a b

-- a function without parameters that returns a word and costs 240
abbrev pub main_of : List Stmt → CrepFun
main_of all = record { name = codes "main"; cost = 240; params = 0; results = 1; body = stmt.Seq all }

-- main, and maybe another function, with one exception, of one word
abbrev pub program : List CrepFun → Program CrepFun
program functions = record { functions = functions; main = 0; exceptions = 1 ∷ []; names = []; globals = [] }

-- ---- a loop that is continued and broken

-- i = i + 1; if i == 2 continue; if i >= 4 break; s = s + i
abbrev pub turn_of_loops : Stmt
turn_of_loops =
    stmt.Seq
    (stmt.Assign 0 (plus (expr.Var 0) (expr.Num 1))
    ∷ stmt.If (is_equal 0 2) stmt.Continue stmt.Skip
    ∷ stmt.If (is_at_least 0 4) stmt.Break stmt.Skip
    ∷ stmt.Assign 1 (plus (expr.Var 1) (expr.Var 0))
    ∷ [])

-- i = 0; s = 0; while 1 the turn; return s
abbrev pub loops : Program CrepFun
loops =
    program
    (main_of
    (stmt.Assign 0 (expr.Num 0)
    ∷ stmt.Assign 1 (expr.Num 0)
    ∷ stmt.While [] (expr.Num 1) turn_of_loops
    ∷ stmt.Return (expr.Var 1 ∷ [])
    ∷ [])
    ∷ [])

-- ---- a call that returns two words, and one whose exception is caught

-- if x == 0 raise 7, else return x and x + 1
abbrev pub raises_at_zero : CrepFun
raises_at_zero =
    record {
      name = codes "f";
      cost = 320;
      params = 1;
      results = 2;
      body = stmt.If (is_equal 0 0) (stmt.Raise 0 (expr.Num 7 ∷ [])) (stmt.Return (expr.Var 0 ∷ plus (expr.Var 0) (expr.Num 1) ∷ []));
    }

-- a call of function 1 with a word, whose exception's word is variable 2 where this is returned
abbrev pub calls_or_returns : List ℕ → ℕ → Expr → Stmt
calls_or_returns results x e = stmt.Call results 1 (expr.Num x ∷ []) (Some (record { exception = 0; variables = 2 ∷ []; body = stmt.Return (e ∷ []) }))

-- a, b = f(3), or return v; c, d = f(0), or return a + b + v; return 0
abbrev pub caught : Program CrepFun
caught =
    program
    (main_of
    (calls_or_returns (0 ∷ 1 ∷ []) 3 (expr.Var 2)
    ∷ calls_or_returns (3 ∷ 4 ∷ []) 0 (plus (plus (expr.Var 0) (expr.Var 1)) (expr.Var 2))
    ∷ stmt.Return (expr.Num 0 ∷ [])
    ∷ [])
    ∷ raises_at_zero
    ∷ [])

-- ---- a call in place of the running function

-- returns the difference of two words
abbrev pub subtracts : CrepFun
subtracts = record { name = codes "f"; cost = 320; params = 2; results = 1; body = stmt.Return (expr.Bin Sub (expr.Var 0) (expr.Var 1) ∷ []) }

-- return f(44, 2)
abbrev pub tail : Program CrepFun
tail = program (main_of (stmt.TailCall 1 (expr.Num 44 ∷ expr.Num 2 ∷ []) ∷ []) ∷ subtracts ∷ [])

-- ---- a request

-- stores 5 in eight bytes of the window; return 0
abbrev pub stopped : Program CrepFun
stopped = program (main_of (stmt.SharedStore B8 (expr.Num 0x40000000) (expr.Num 5) ∷ stmt.Return (expr.Num 0 ∷ []) ∷ []) ∷ [])

-- ---- an exception that no handler is for

-- a call under a handler of exception 0, of a function that raises exception 1
abbrev pub passes_on : Program CrepFun
passes_on =
    record (program
    (main_of
    (stmt.Call [] 1 [] (Some (record { exception = 0; variables = 0 ∷ []; body = stmt.Return (expr.Var 0 ∷ []) }))
    ∷ stmt.Return (expr.Num 0 ∷ [])
    ∷ [])
    ∷ record { name = codes "f"; cost = 320; params = 0; results = 0; body = stmt.Raise 1 [] }
    ∷ [])) { exceptions = 1 ∷ 0 ∷ [] }

-- ---- a break before a test, which is one of the loop around

-- i = 0; while 1 { i = i + 1; while { if i == 3 break; 0 } skip }; return i
abbrev pub breaks_before : Program CrepFun
breaks_before =
    program
    (main_of
    (stmt.Assign 0 (expr.Num 0)
    ∷ stmt.While [] (expr.Num 1)
    (stmt.Seq
    (stmt.Assign 0 (plus (expr.Var 0) (expr.Num 1))
    ∷ stmt.While (stmt.If (is_equal 0 3) stmt.Break stmt.Skip ∷ []) (expr.Num 0) stmt.Skip
    ∷ []))
    ∷ stmt.Return (expr.Var 0 ∷ [])
    ∷ [])
    ∷ [])

-- ---- data memory

-- A word and a byte are stored in local memory, and a byte in the second global. Returns the sum of the first word, rotated right by 8, the fourth byte and the global.
abbrev pub data_memory : Program CrepFun
data_memory =
    record (program
    (main_of
    (stmt.StoreWord (expr.Num 0x10000000) (expr.Num 0x12345678)
    ∷ stmt.StoreByte (expr.Num 0x10000001) (expr.Num 0x1ff)
    ∷ stmt.StoreByte (expr.Num 0x0C000008) (expr.Num 0x105)
    ∷ stmt.Return (plus (plus (expr.Shift Ror (expr.LoadWord (expr.Num 0x10000000)) 8) (expr.LoadByte (expr.Num 0x10000003))) (expr.LoadWord (expr.Num 0x0C000008)) ∷ [])
    ∷ [])
    ∷ [])) { globals = 7 ∷ 0x208 ∷ [] }
