-- Small programs of the language of words that are well formed or not.
use Rattle.std.specs.Prelude.{ℕ, [], ◌∷◌, None, codes}
use Rattle.pan_stage.specs.declared.program.Program.{Program}
use Rattle.crep_lang.specs.declared.syntax.CrepFun.{CrepFun}
use Rattle.crep_lang.specs.declared.syntax.Expr.TheVariants as expr
use Rattle.crep_lang.specs.declared.syntax.Stmt.TheVariants as stmt
use Rattle.known_stages.specs.CrepPrograms.{main_of, program, subtracts}

-- x = f(44), of a function of two words; return x
abbrev pub passes_one : Program CrepFun
passes_one = program (main_of (stmt.Call (0 ∷ []) 1 (expr.Num 44 ∷ []) None ∷ stmt.Return (expr.Var 0 ∷ []) ∷ []) ∷ subtracts ∷ [])

-- x, y = f(44, 2), of a function that returns one word; return x
abbrev pub takes_two : Program CrepFun
takes_two = program (main_of (stmt.Call (0 ∷ 1 ∷ []) 1 (expr.Num 44 ∷ expr.Num 2 ∷ []) None ∷ stmt.Return (expr.Var 0 ∷ []) ∷ []) ∷ subtracts ∷ [])

-- if 1 x = 2; return x
abbrev pub reads_unwritten : Program CrepFun
reads_unwritten = program (main_of (stmt.If (expr.Num 1) (stmt.Assign 0 (expr.Num 2)) stmt.Skip ∷ stmt.Return (expr.Var 0 ∷ []) ∷ []) ∷ [])

-- A function that costs so much returns a variable. It is worth 20 steps of code, and its frame has seven words for variable 0, and one more for each variable after it.
abbrev pub returns_variable : (cost x : ℕ) → Program CrepFun
returns_variable cost x =
    program
    (record {
      name = codes "main";
      cost = cost;
      params = 0;
      results = 1;
      body = stmt.Seq (stmt.Assign x (expr.Num 0) ∷ stmt.Return (expr.Var x ∷ []) ∷ []);
    }
    ∷ [])
