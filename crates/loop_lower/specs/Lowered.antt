-- What expressions and statements become: steps between variables, with temporaries behind the variables of the function.
use Rattle.std.specs.Prelude.{ℕ, zero, suc, ◌≤◌, ◌+◌, ◌-◌, ◌/◌, min, max, nat_le, Bool, true, false, if◌then◌else◌, List, [], ◌∷◌, ◌++◌, map, Option, Some, None}
use Rattle.pan_flow.specs.Functions.{above, variables}
use Rattle.pan_stage.specs.Programs.{with_functions}
use Rattle.pan_stage.specs.Room.{IsCost}
use Rattle.pan_stage.specs.declared.program.Handler.{Handler}
use Rattle.pan_stage.specs.declared.program.Program.{Program}
use Rattle.crep_lang.specs.Needs.{row_temporaries, frame_need}
use Rattle.crep_lang.specs.Steps.{row_steps}
use Rattle.crep_lang.specs.Text.{flow_of, flow_of_function}
use Rattle.crep_lang.specs.declared.syntax.CrepFun.{CrepFun}
use Rattle.crep_lang.specs.declared.syntax.Expr.{Expr, Expr-F, fold-Expr}
use Rattle.crep_lang.specs.declared.syntax.Expr.TheOpen as expr
use Rattle.crep_lang.specs.declared.syntax.Stmt.{Stmt as Crep, Stmt-F as Crep-F, fold-Stmt as fold-Crep}
use Rattle.crep_lang.specs.declared.syntax.Stmt.TheOpen as crep
use Rattle.loop_lang.specs.declared.syntax.LoopFun.{LoopFun}
use Rattle.loop_lang.specs.declared.syntax.Stmt.{Stmt}
use Rattle.loop_lang.specs.declared.syntax.Stmt.TheVariants as s
use Rattle.loop_lower.specs.declared.places.Plan.{Plan}
use Rattle.loop_lower.specs.declared.places.Placed.{Placed}
use Rattle.loop_lower.specs.declared.places.PlacedRow.{PlacedRow}
use Rattle.loop_lower.specs.declared.places.PlacedHandler.{PlacedHandler}

-- ---- expressions

-- An expression, with temporaries from a number on: the variable that it is, if it is one; the temporary that gets its word where it is an operand; and the steps that compute it into a variable.
pub record Lowered : Type 0 where
  pub place : Option ℕ
  pub spot : ℕ → ℕ
  pub into : ℕ → ℕ → List Stmt

-- as an operand: the steps before it, the variable that has its word, and the temporaries that are then free
abbrev pub before_of : Option ℕ → List Stmt → List Stmt
before_of None ss = ss
before_of (Some x) ss = []

abbrev pub operand_of : Option ℕ → ℕ → ℕ
operand_of None spot = spot
operand_of (Some x) spot = x

abbrev pub next_of : Option ℕ → ℕ → ℕ → ℕ
next_of None t spot = suc spot
next_of (Some x) t spot = t

abbrev pub before : Lowered → ℕ → List Stmt
before f t = before_of f.place (f.into (f.spot t) t)

abbrev pub operand : Lowered → ℕ → ℕ
operand f t = operand_of f.place (f.spot t)

abbrev pub next : Lowered → ℕ → ℕ
next f t = next_of f.place t (f.spot t)

-- operands one after another
abbrev pub before_all : List Lowered → ℕ → List Stmt
before_all [] t = []
before_all (f ∷ fs) t = before f t ++ before_all fs (next f t)

abbrev pub operands : List Lowered → ℕ → List ℕ
operands [] t = []
operands (f ∷ fs) t = operand f t ∷ operands fs (next f t)

-- the temporary of a result: the first one that holds no operand, where results stand apart from operands, else the first
abbrev pub spot_of : Bool → ℕ → ℕ → ℕ
spot_of true behind t = behind
spot_of false behind t = t

-- an operation of one operand, of two: the step stands behind what computes them
abbrev pub of_one : Bool → Lowered → (ℕ → ℕ → Stmt) → Lowered
of_one apart f step = record { place = None; spot = λ t. spot_of apart (next f t) t; into = λ d t. before f t ++ step d (operand f t) ∷ [] }

abbrev pub of_two : Bool → Lowered → Lowered → (ℕ → ℕ → ℕ → Stmt) → Lowered
of_two apart f g step =
    record { place = None; spot = λ t. spot_of apart (next g (next f t)) t; into = λ d t. before f t ++ (before g (next f t) ++ step d (operand f t) (operand g (next f t)) ∷ []) }

module _ (apart : Bool) where
  abbrev pub lower_layer : Expr-F Lowered → Lowered
  lower_layer (expr.Num n) = record { place = None; spot = λ t. t; into = λ d t. s.Const d n ∷ [] }
  lower_layer (expr.Var x) = record { place = Some x; spot = λ t. t; into = λ d t. s.Move d x ∷ [] }
  lower_layer (expr.LoadWord a) = of_one apart a (λ d a. s.LoadWord d a)
  lower_layer (expr.LoadByte a) = of_one apart a (λ d a. s.LoadByte d a)
  lower_layer (expr.Bin o a b) = of_two apart a b (λ d a b. s.Bin o d a b)
  lower_layer (expr.Shift o a n) = of_one apart a (λ d a. s.Shift o d a n)
  lower_layer (expr.Compare c a b) = of_two apart a b (λ d a b. s.Compare c d a b)

  unfoldable pub lower : Expr → Lowered
  lower = fold-Expr Lowered lower_layer

  -- with a target the steps into it, without one those of an operand; and the variable that then has the word
  abbrev pub steps_at : Option ℕ → Expr → ℕ → List Stmt
  steps_at None e t = before (lower e) t
  steps_at (Some x) e t = (lower e).into x t

  abbrev pub place_at : Option ℕ → Expr → ℕ → ℕ
  place_at None e t = operand (lower e) t
  place_at (Some x) e t = x

-- the target, or the spot where there is none
abbrev pub or_spot : Option ℕ → ℕ → ℕ
or_spot None spot = spot
or_spot (Some x) spot = x

-- ---- where temporaries stand

-- a function of lawful cost has less than so many words
abbrev pub most_words : ℕ
most_words = 1048576

abbrev pub capped : ℕ → ℕ
capped n = min n most_words

-- A statement whose results stand apart needs so many temporaries from t on, and at least so few. Where there is no room for them behind those of the last statement, they are the first ones again.
abbrev pub plan : (limit base t many few : ℕ) → Plan
plan limit base t many few =
    if nat_le (t + many) limit then record { apart = true; start = t; next = t + many } else
    (if nat_le (t + few) limit then record { apart = false; start = t; next = t + few } else record { apart = false; start = base; next = t })

-- ---- statements

-- a number of a list by its place
abbrev pub nth : ℕ → List ℕ → ℕ
nth i [] = 0
nth zero (n ∷ ns) = n
nth (suc i) (n ∷ ns) = nth i ns

-- steps and another one behind them
abbrev pub finished : List Stmt → Stmt → ℕ → Placed
finished ss step next = record { stmt = s.Seq (ss ++ step ∷ []); next = next }

-- with temporaries below the limit, from the base on
module _ (limit base : ℕ) where
  -- for a row of operands
  abbrev pub planned : List Expr → ℕ → Plan
  planned es t = plan limit base t (capped (row_steps es)) (capped (row_temporaries es))

  abbrev pub row_before : List Expr → ℕ → List Stmt
  row_before es t = let p = planned es t in before_all (map (lower p.apart) es) p.start

  abbrev pub row_operands : List Expr → ℕ → List ℕ
  row_operands es t = let p = planned es t in operands (map (lower p.apart) es) p.start

  -- a step behind these operands
  abbrev pub behind : List Expr → ℕ → (List ℕ → Stmt) → Stmt
  behind es t step = s.Seq (row_before es t ++ step (row_operands es t) ∷ [])

  abbrev pub placed_behind : List Expr → ℕ → (List ℕ → Stmt) → Placed
  placed_behind es t step = record { stmt = behind es t step; next = (planned es t).next }

  -- one after another
  abbrev pub placed_row : List (ℕ → Placed) → ℕ → PlacedRow
  placed_row [] t = record { stmts = []; next = t }
  placed_row (f ∷ fs) t = let a = f t in let r = placed_row fs a.next in record { stmts = a.stmt ∷ r.stmts; next = r.next }

  abbrev pub placed_handler : Option (Handler (ℕ → Placed)) → ℕ → PlacedHandler
  placed_handler None t = record { handler = None; next = t }
  placed_handler (Some h) t = let a = h.body t in record { handler = Some (record { exception = h.exception; variables = h.variables; body = a.stmt }); next = a.next }

  abbrev pub placed_layer : Crep-F (ℕ → Placed) → ℕ → Placed
  placed_layer crep.Skip t = record { stmt = s.Skip; next = t }
  placed_layer (crep.Seq all) t = let r = placed_row all t in record { stmt = s.Seq r.stmts; next = r.next }
  placed_layer (crep.Assign x e) t = let p = planned (e ∷ []) t in record { stmt = s.Seq ((lower p.apart e).into x p.start); next = p.next }
  placed_layer (crep.StoreWord a e) t = placed_behind (a ∷ e ∷ []) t (λ xs. s.StoreWord (nth 0 xs) (nth 1 xs))
  placed_layer (crep.StoreByte a e) t = placed_behind (a ∷ e ∷ []) t (λ xs. s.StoreByte (nth 0 xs) (nth 1 xs))
  placed_layer (crep.If e first second) t =
      let a = first (planned (e ∷ []) t).next in let b = second a.next in record { stmt = behind (e ∷ []) t (λ xs. s.If (nth 0 xs) a.stmt b.stmt); next = b.next }
  placed_layer (crep.While steps e body) t =
      let r = placed_row steps t in let a = body (planned (e ∷ []) r.next).next in
      record { stmt = s.While [] (r.stmts ++ row_before (e ∷ []) r.next) (nth 0 (row_operands (e ∷ []) r.next)) a.stmt; next = a.next }
  placed_layer crep.Break t = record { stmt = s.Break; next = t }
  placed_layer crep.Continue t = record { stmt = s.Continue; next = t }
  placed_layer (crep.Call results f es handler) t =
      let h = placed_handler handler (planned es t).next in record { stmt = behind es t (λ xs. s.Call [] results f xs h.handler); next = h.next }
  placed_layer (crep.TailCall f es) t = placed_behind es t (λ xs. s.TailCall f xs)
  placed_layer (crep.Return es) t = placed_behind es t (λ xs. s.Return xs)
  placed_layer (crep.Raise i es) t = placed_behind es t (λ xs. s.Raise i xs)
  placed_layer (crep.SharedLoad size x a) t = placed_behind (a ∷ []) t (λ xs. s.SharedLoad size x (nth 0 xs))
  placed_layer (crep.SharedStore size a e) t = placed_behind (a ∷ e ∷ []) t (λ xs. s.SharedStore size (nth 0 xs) (nth 1 xs))
  placed_layer (crep.Foreign i a b c d) t = placed_behind (a ∷ b ∷ c ∷ d ∷ []) t (λ xs. s.Foreign [] i (nth 0 xs) (nth 1 xs) (nth 2 xs) (nth 3 xs))

  unfoldable pub placed : Crep → ℕ → Placed
  placed = fold-Crep (ℕ → Placed) placed_layer

  -- a handler of a statement
  abbrev pub handler_placed : Option (Handler Crep) → ℕ → PlacedHandler
  handler_placed None t = record { handler = None; next = t }
  handler_placed (Some h) t = let a = placed h.body t in record { handler = Some (record { exception = h.exception; variables = h.variables; body = a.stmt }); next = a.next }

-- ---- functions and programs

-- a number above those of a handler's variables, and of all in its body
abbrev pub above_handler : Option (Handler Crep) → ℕ
above_handler None = 0
above_handler (Some h) = max (above h.variables) (above (variables (flow_of h.body)))

-- the temporaries of a function begin behind its variables, and stand below what its cost allows beside the five other words of a frame
abbrev pub first_free : CrepFun → ℕ
first_free f = above (variables (flow_of_function f))

abbrev pub limit_of : CrepFun → ℕ
limit_of f = f.cost / 8 - 5

-- what a function needs fits what it costs
pub record IsPriced (f : CrepFun) : Type 0 where
  pub frame : frame_need f ≤ f.cost
  pub cost : IsCost f.cost

abbrev pub lower_function : CrepFun → LoopFun
lower_function f =
    record { name = f.name; cost = f.cost; params = f.params; results = f.results; body = (placed (limit_of f) (first_free f) f.body (first_free f)).stmt }

abbrev pub lower_program : Program CrepFun → Program LoopFun
lower_program p = with_functions p (map lower_function p.functions)
