-- Three small programs of the source.
use Rattle.std.specs.Prelude.{ℕ, List, [], ◌∷◌, Option, Some, None, map, codes}
use Rattle.pan_base.specs.declared.span.Span.{Span}
use Rattle.pan_base.specs.declared.operators.BinOp.{BinOp}
use Rattle.pan_base.specs.declared.operators.BinOp.TheVariants.{Add, Mul}
use Rattle.pan_tree.specs.declared.spanned.Spanned.{Spanned}
use Rattle.pan_tree.specs.declared.shape.Shape.TheVariants.{Word}
use Rattle.pan_tree.specs.declared.syntax.ExprKind.{ExprKind}
use Rattle.pan_tree.specs.declared.syntax.ExprKind.TheVariants as expr
use Rattle.pan_tree.specs.declared.syntax.StmtKind.{StmtKind}
use Rattle.pan_tree.specs.declared.syntax.StmtKind.TheVariants as stmt
use Rattle.pan_tree.specs.declared.syntax.Target.{Target}
use Rattle.pan_tree.specs.declared.syntax.Target.TheVariants as target
use Rattle.pan_tree.specs.declared.syntax.HandlerOf.{HandlerOf}
use Rattle.pan_tree.specs.declared.program.Function.{Function}
use Rattle.pan_tree.specs.declared.program.Program.{Program}

abbrev pub nowhere : Span
nowhere = record { start = 0; end = 0 }

abbrev pub number : ℕ → Spanned ExprKind
number n = record { kind = expr.Number n; span = nowhere }

abbrev pub var : List ℕ → Spanned ExprKind
var x = record { kind = expr.Var x; span = nowhere }

-- a chain of one operator
abbrev pub chained : Spanned ExprKind → BinOp → Spanned ExprKind → Spanned ExprKind
chained a o b = record { kind = expr.Chain a ((o, b) ∷ []); span = nowhere }

abbrev pub returning : Spanned ExprKind → Spanned StmtKind
returning e = record { kind = stmt.Return e; span = nowhere }

-- a call with one argument at most, whose result goes to the target
abbrev pub calling : Target → List ℕ → List (Spanned ExprKind) → Option (HandlerOf (Spanned StmtKind)) → Spanned StmtKind
calling into name args handler = record { kind = stmt.Call (record { into = into; function = name; args = args; handler = handler }); span = nowhere }

-- a function of words, whose result is a word
abbrev pub function : List ℕ → List (List ℕ) → List (Spanned StmtKind) → Function
function name params stmts = record { name = name; params = map (λ x. record { name = x; shape = Word }) params; result = Word; body = record { stmts = stmts }; span = nowhere }

-- fun d(1 x) { return x + 1; }
abbrev pub d_of_diamond : Function
d_of_diamond = function (codes "d") (codes "x" ∷ []) (returning (chained (var (codes "x")) Add (number 1)) ∷ [])

-- fun b(1 x) { var r = d(x); return r * 2; }
abbrev pub b_of_diamond : Function
b_of_diamond = function (codes "b") (codes "x" ∷ [])
    (calling (target.New (codes "r")) (codes "d") (var (codes "x") ∷ []) None ∷ returning (chained (var (codes "r")) Mul (number 2)) ∷ [])

-- var r = b(x);
abbrev pub r_is_b : Spanned StmtKind
r_is_b = calling (target.New (codes "r")) (codes "b") (var (codes "x") ∷ []) None

-- r = d(r);
abbrev pub r_is_d : Spanned StmtKind
r_is_d = calling (target.Old (codes "r")) (codes "d") (var (codes "r") ∷ []) None

-- fun c(1 x) { var r = b(x); r = d(r); return r; }
abbrev pub c_of_diamond : Function
c_of_diamond = function (codes "c") (codes "x" ∷ []) (r_is_b ∷ r_is_d ∷ returning (var (codes "r")) ∷ [])

-- var p = b(3);
abbrev pub p_is_b : Spanned StmtKind
p_is_b = calling (target.New (codes "p")) (codes "b") (number 3 ∷ []) None

-- var q = c(p);
abbrev pub q_is_c : Spanned StmtKind
q_is_c = calling (target.New (codes "q")) (codes "c") (var (codes "p") ∷ []) None

-- fun main() { var p = b(3); var q = c(p); return q; }
abbrev pub main_of_diamond : Function
main_of_diamond = function (codes "main") [] (p_is_b ∷ q_is_c ∷ returning (var (codes "q")) ∷ [])

-- a diamond of calls
abbrev pub diamond : Program
diamond = record { exceptions = []; functions = d_of_diamond ∷ b_of_diamond ∷ c_of_diamond ∷ main_of_diamond ∷ [] }

-- fun f(1 x) { return x + 1; }
-- fun main() { return f(3); }
abbrev pub tail_call : Program
tail_call = record {
  exceptions = [];
  functions =
      function (codes "f") (codes "x" ∷ []) (returning (chained (var (codes "x")) Add (number 1)) ∷ [])
      ∷ function (codes "main") [] (record { kind = stmt.TailCall (codes "f") (number 3 ∷ []); span = nowhere } ∷ [])
      ∷ [];
}

-- x = v + 1;
abbrev pub one_more : Spanned StmtKind
one_more = record { kind = stmt.Assign (codes "x") (chained (var (codes "v")) Add (number 1)); span = nowhere }

-- fun f() { raise A 4; }
abbrev pub f_of_caught : Function
f_of_caught = function (codes "f") [] (record { kind = stmt.Raise (codes "A") (number 4); span = nowhere } ∷ [])

-- fun main() { var x = f() handle A v { x = v + 1; }; return x; }
abbrev pub main_of_caught : Function
main_of_caught = function (codes "main") []
    (calling (target.New (codes "x")) (codes "f") [] (Some (record { exception = codes "A"; name = codes "v"; body = record { stmts = one_more ∷ [] } }))
    ∷ returning (var (codes "x")) ∷ [])

-- the two, with exception A 1;
abbrev pub caught : Program
caught = record { exceptions = record { name = codes "A"; shape = Word; span = nowhere } ∷ []; functions = f_of_caught ∷ main_of_caught ∷ [] }
