-- How many steps the parts of a program are worth: for what is done, and for the code that they need.
use Rattle.std.specs.Prelude.{ℕ, ◌+◌, List, [], ◌∷◌}
use Rattle.pan_stage.specs.Toll.{passing_steps}
use Rattle.crep_lang.specs.declared.syntax.Expr.{Expr, Expr-F, fold-Expr}
use Rattle.crep_lang.specs.declared.syntax.Expr.TheOpen as expr
use Rattle.crep_lang.specs.declared.syntax.Stmt.{Stmt-F}
use Rattle.crep_lang.specs.declared.syntax.Stmt.TheOpen as stmt

-- an expression, from its parts
abbrev pub expr_layer : Expr-F ℕ → ℕ
expr_layer (expr.Num n) = 1
expr_layer (expr.Var x) = 1
expr_layer (expr.LoadWord a) = 1 + a
expr_layer (expr.LoadByte a) = 1 + a
expr_layer (expr.Bin o a b) = 1 + a + b
expr_layer (expr.Shift o a n) = 3 + a
expr_layer (expr.Compare c a b) = 3 + a + b

unfoldable pub expr_steps : Expr → ℕ
expr_steps = fold-Expr ℕ expr_layer

-- expressions one after another, each with a step for its word
abbrev pub row_steps : List Expr → ℕ
row_steps [] = 0
row_steps (e ∷ es) = 1 + expr_steps e + row_steps es

-- expressions whose words pass to another function
abbrev pub passed : List Expr → ℕ
passed es = passing_steps + row_steps es

-- A statement without its blocks, before anything that it calls. A loop's start counts one, for the way to its test, which is counted where it is made.
abbrev pub own_steps : {S : Type 0} → Stmt-F S → ℕ
own_steps stmt.Skip = 0
own_steps (stmt.Seq all) = 0
own_steps (stmt.Assign x e) = 1 + expr_steps e
own_steps (stmt.StoreWord a e) = 1 + expr_steps a + expr_steps e
own_steps (stmt.StoreByte a e) = 1 + expr_steps a + expr_steps e
own_steps (stmt.If e first second) = 2 + expr_steps e
own_steps (stmt.While before e body) = 1
own_steps stmt.Break = 1
own_steps stmt.Continue = 1
own_steps (stmt.Call results f arguments handler) = passed arguments
own_steps (stmt.TailCall f arguments) = passed arguments
own_steps (stmt.Return es) = passed es
own_steps (stmt.Raise i es) = passed es
own_steps (stmt.SharedLoad size x a) = 1 + expr_steps a
own_steps (stmt.SharedStore size a e) = 1 + expr_steps a + expr_steps e
own_steps (stmt.Foreign i conf conf_len array array_len) = 4 + expr_steps conf + expr_steps conf_len + expr_steps array + expr_steps array_len

-- a test of a loop
abbrev pub test_steps : Expr → ℕ
test_steps e = 2 + expr_steps e
