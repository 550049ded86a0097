-- What words read: variables, and data memory.
use Rattle.std.specs.Prelude.{ℕ, suc, ◌+◌, nat_le, nat_lt, ◌==◌, ◌||◌, ◌&&◌, Bool, true, false, List, [], ◌∷◌}
use Rattle.std.specs.List.{list_all}
use Rattle.crep_lang.specs.Text.{variables_read}
use Rattle.crep_lang.specs.declared.syntax.Expr.{Expr, Expr-F, fold-Expr}
use Rattle.crep_lang.specs.declared.syntax.Expr.TheOpen as expr

-- ---- variables

abbrev pub variable_layer : Expr-F (ℕ → Bool) → ℕ → Bool
variable_layer (expr.Var y) x = y == x
variable_layer _ x = false

-- whether a word is this very variable
unfoldable pub is_variable : Expr → ℕ → Bool
is_variable = fold-Expr (ℕ → Bool) variable_layer

-- a word reads none of so many variables from this one on
abbrev pub reads_none : ℕ → ℕ → Expr → Bool
reads_none x n w = list_all (λ y. nat_lt y x || nat_le (x + n) y) (variables_read w)

-- Words can go to the variables from this one on, one after another behind so many others: none reads a variable that one before it went to.
abbrev pub go_straight : ℕ → ℕ → List Expr → Bool
go_straight x i [] = true
go_straight x i (w ∷ ws) = reads_none x i w && go_straight x (suc i) ws

-- ---- data memory

abbrev pub memory_layer : Expr-F Bool → Bool
memory_layer (expr.Num n) = false
memory_layer (expr.Var x) = false
memory_layer (expr.LoadWord a) = true
memory_layer (expr.LoadByte a) = true
memory_layer (expr.Bin o a b) = a || b
memory_layer (expr.Shift o a n) = a
memory_layer (expr.Compare c a b) = a || b

-- whether a word reads data memory
unfoldable pub reads_memory : Expr → Bool
reads_memory = fold-Expr Bool memory_layer
