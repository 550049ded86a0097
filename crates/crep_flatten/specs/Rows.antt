-- Rows of words.
use Rattle.std.specs.Prelude.{ℕ, zero, suc, ◌+◌, ◌-◌, ◌*◌, min, nat_le, if◌then◌else◌, List, [], ◌∷◌, ◌++◌, map, flat_map}
use Rattle.pan_base.specs.Words.{bytes_in_word}
use Rattle.pan_base.specs.declared.operators.BinOp.TheVariants as bin_op
use Rattle.pan_stage.specs.Locals.{numbers_from}
use Rattle.crep_lang.specs.declared.syntax.Expr.{Expr}
use Rattle.crep_lang.specs.declared.syntax.Expr.TheVariants as e
use Rattle.crep_lang.specs.declared.syntax.Stmt.{Stmt}
use Rattle.crep_lang.specs.declared.syntax.Stmt.TheVariants as stmt
use Rattle.crep_flatten.specs.declared.rows.Row.{Row}
use Rattle.crep_flatten.specs.declared.rows.Row.TheVariants as row

-- ---- the words of rows

-- the address so many words on
abbrev pub far : Expr → ℕ → Expr
far a zero = a
far a (suc i) = e.Bin bin_op.Add a (e.Num (bytes_in_word * suc i))

-- the words of memory from so many words behind an address on, so many
abbrev pub loads : Expr → ℕ → ℕ → List Expr
loads a i zero = []
loads a i (suc n) = e.LoadWord (far a i) ∷ loads a (suc i) n

-- the variables from this one on, so many
abbrev pub variables : ℕ → ℕ → List Expr
variables x n = map e.Var (numbers_from x n)

-- the words of a row, each alone
abbrev pub row_words : Row → List Expr
row_words (row.Variables x n) = variables x n
row_words (row.Loads a i n) = loads a i n
row_words (row.One x) = x ∷ []

abbrev pub inlined : List Row → List Expr
inlined rs = flat_map row_words rs

abbrev pub row_size : Row → ℕ
row_size (row.Variables x n) = n
row_size (row.Loads a i n) = n
row_size (row.One x) = 1

-- ---- parts of rows

-- of a row so many words behind so many others
abbrev pub cut_row : ℕ → ℕ → Row → List Row
cut_row skip n (row.Variables x k) = row.Variables (x + skip) (min n (k - skip)) ∷ []
cut_row skip n (row.Loads a i k) = row.Loads a (i + skip) (min n (k - skip)) ∷ []
cut_row zero (suc n) (row.One x) = row.One x ∷ []
cut_row _ _ (row.One x) = []

abbrev pub cut_rows : ℕ → ℕ → List Row → List Row
cut_rows skip n [] = []
cut_rows skip n (r ∷ rs) = cut_row skip n r ++ cut_rows (skip - row_size r) (n - (row_size r - skip)) rs

-- ---- addresses that are computed once

-- words, statements that come before they are computed, and the next variable that is free
pub record Settled : Type 0 where
  pub before : List Stmt
  pub words : List Expr
  pub next : ℕ

-- From a free variable on, the address of several words of memory goes to a variable.
abbrev pub settle : List Row → ℕ → Settled
settle [] t = record { before = []; words = []; next = t }
settle (row.Variables x n ∷ rs) t = let g = settle rs t in record g { words = variables x n ++ g.words }
settle (row.One x ∷ rs) t = let g = settle rs t in record g { words = x ∷ g.words }
settle (row.Loads a i n ∷ rs) t =
    if nat_le 2 n then (let g = settle rs (suc t) in record g { before = stmt.Assign t a ∷ g.before; words = loads (e.Var t) i n ++ g.words })
    else (let g = settle rs t in record g { words = loads a i n ++ g.words })
