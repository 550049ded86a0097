-- Functions without the operations whose variable nothing uses.
use Rattle.std.specs.Prelude.{ℕ, nat_eq, Bool, false, if◌then◌else◌, List, [], ◌∷◌, ◌++◌, map, flat_map, get_or, Option, Some, None}
use Rattle.pan_flow.specs.Flow.{has}
use Rattle.pan_stage.specs.Programs.{with_functions}
use Rattle.pan_stage.specs.declared.program.Handler.{Handler}
use Rattle.pan_stage.specs.declared.program.Program.{Program}
use Rattle.loop_lang.specs.declared.syntax.LoopFun.{LoopFun}
use Rattle.word_lang.specs.Text.{in_handler, variables_read}
use Rattle.word_lang.specs.declared.syntax.WordFun.{WordFun}
use Rattle.word_lang.specs.declared.syntax.Stmt.{Stmt, Stmt-F, fold-Stmt}
use Rattle.word_lang.specs.declared.syntax.Stmt.TheOpen as stmt
use Rattle.word_lang.specs.declared.syntax.Stmt.TheVariants as s
use Rattle.word_select.specs.Selected.{select_function}

-- ---- the variables that are used

-- those of these that are others than x
abbrev pub others : ℕ → List ℕ → List ℕ
others x [] = []
others x (y ∷ ys) = if nat_eq y x then others x ys else y ∷ others x ys

abbrev pub used_layer : Stmt-F (List ℕ) → List ℕ
used_layer stmt.Skip = []
used_layer (stmt.Seq all) = flat_map (λ xs. xs) all
used_layer (stmt.Const x n) = []
used_layer (stmt.Reg o x a b) = others x (a ∷ b ∷ [])
used_layer (stmt.Imm o x a i) = others x (a ∷ [])
used_layer (stmt.Sh o x a n) = others x (a ∷ [])
used_layer (stmt.Load o x a i) = others x (a ∷ [])
used_layer (stmt.Store o x a i) = a ∷ x ∷ []
used_layer (stmt.If y first second) = variables_read y ++ (first ++ second)
used_layer (stmt.While before y body) = flat_map (λ xs. xs) before ++ (variables_read y ++ body)
used_layer stmt.Break = []
used_layer stmt.Continue = []
used_layer (stmt.Call results f arguments handler) = arguments ++ in_handler handler
used_layer (stmt.TailCall f arguments) = arguments
used_layer (stmt.Return xs) = xs
used_layer (stmt.Raise i xs) = xs
used_layer (stmt.SharedLoad size x a i) = a ∷ []
used_layer (stmt.SharedStore size x a i) = a ∷ x ∷ []
used_layer (stmt.Foreign i conf conf_len array array_len) = conf ∷ conf_len ∷ array ∷ array_len ∷ []

-- Each variable that a statement reads, as often as it stands; but not where an operation reads it only to give it another word.
unfoldable pub used : Stmt → List ℕ
used = fold-Stmt (List ℕ) used_layer

-- the variables that a handler's body uses
abbrev pub used_in_handler : Option (Handler Stmt) → List ℕ
used_in_handler None = []
used_in_handler (Some h) = used h.body

-- a table of flags has the variable's set
abbrev pub is_set : List Bool → ℕ → Bool
is_set flags x = get_or flags x false

-- ---- what is left

module _ (is_used : ℕ → Bool) where
  -- an operation that only gives x a word
  abbrev pub where_used : ℕ → Stmt → List Stmt
  where_used x y = if is_used x then y ∷ [] else []

  -- a handler, with what is left of its body
  abbrev pub handler_of : Option (Handler (List Stmt)) → Option (Handler Stmt)
  handler_of None = None
  handler_of (Some h) = Some (record { exception = h.exception; variables = h.variables; body = s.Seq h.body })

  abbrev pub pruned_layer : Stmt-F (List Stmt) → List Stmt
  pruned_layer stmt.Skip = []
  pruned_layer (stmt.Seq all) = flat_map (λ ss. ss) all
  pruned_layer (stmt.Const x n) = where_used x (s.Const x n)
  pruned_layer (stmt.Reg o x a b) = where_used x (s.Reg o x a b)
  pruned_layer (stmt.Imm o x a i) = where_used x (s.Imm o x a i)
  pruned_layer (stmt.Sh o x a n) = where_used x (s.Sh o x a n)
  pruned_layer (stmt.Load o x a i) = where_used x (s.Load o x a i)
  pruned_layer (stmt.Store o x a i) = s.Store o x a i ∷ []
  pruned_layer (stmt.If y first second) = s.If y (s.Seq first) (s.Seq second) ∷ []
  pruned_layer (stmt.While before y body) = s.While (flat_map (λ ss. ss) before) y (s.Seq body) ∷ []
  pruned_layer stmt.Break = s.Break ∷ []
  pruned_layer stmt.Continue = s.Continue ∷ []
  pruned_layer (stmt.Call results f arguments handler) = s.Call results f arguments (handler_of handler) ∷ []
  pruned_layer (stmt.TailCall f arguments) = s.TailCall f arguments ∷ []
  pruned_layer (stmt.Return xs) = s.Return xs ∷ []
  pruned_layer (stmt.Raise i xs) = s.Raise i xs ∷ []
  pruned_layer (stmt.SharedLoad size x a i) = s.SharedLoad size x a i ∷ []
  pruned_layer (stmt.SharedStore size x a i) = s.SharedStore size x a i ∷ []
  pruned_layer (stmt.Foreign i conf conf_len array array_len) = s.Foreign i conf conf_len array array_len ∷ []

  -- What is left of a statement, one after another, without the operations whose variable isn't used.
  unfoldable pub pruned : Stmt → List Stmt
  pruned = fold-Stmt (List Stmt) pruned_layer

  abbrev pub pruned_row : List Stmt → List Stmt
  pruned_row all = flat_map (λ ss. ss) (map pruned all)

  abbrev pub pruned_handler : Option (Handler Stmt) → Option (Handler Stmt)
  pruned_handler None = None
  pruned_handler (Some h) = Some (record { exception = h.exception; variables = h.variables; body = s.Seq (pruned h.body) })

-- ---- functions and programs

-- a function without the operations whose variable nothing in it uses
abbrev pub pruned_function : WordFun → WordFun
pruned_function f = record { name = f.name; cost = f.cost; params = f.params; results = f.results; body = s.Seq (pruned (has (used f.body)) f.body) }

abbrev pub pruned_program : Program WordFun → Program WordFun
pruned_program p = with_functions p (map pruned_function p.functions)

-- The operations of a function's steps, pruned twice: what a comparison alone used is used no more once that has gone into a test.
abbrev pub chosen_function : LoopFun → WordFun
chosen_function f = pruned_function (pruned_function (select_function f))

abbrev pub chosen_program : Program LoopFun → Program WordFun
chosen_program p = with_functions p (map chosen_function p.functions)
