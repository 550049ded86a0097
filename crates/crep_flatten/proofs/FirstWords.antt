-- The first word of rows.
use Rattle.std.proofs.Common.{◌≡◌, ℕ, zero, suc, ◌<◌, ◌≤◌, List, [], ◌∷◌, arith, refl, ap}
use Rattle.crep_lang.specs.declared.syntax.Expr.{Expr}
use Rattle.crep_lang.specs.declared.syntax.Expr.TheVariants as e
use Rattle.crep_flatten.specs.declared.rows.Row.{Row}
use Rattle.crep_flatten.specs.declared.rows.Row.TheVariants as r
use Rattle.crep_flatten.specs.Flat.{first_of}
use Rattle.crep_flatten.specs.Rows.{far, inlined}

pub first_variables : (x n : ℕ) (rows : List Row) → 0 < n → first_of (inlined (r.Variables x n ∷ rows)) ≡ e.Var x
first_variables x zero rows l = absurd (omega (arith, l))
first_variables x (suc n) rows l = refl

pub first_loads : (a : Expr) (i n : ℕ) (rows : List Row) → 0 < n → first_of (inlined (r.Loads a i n ∷ rows)) ≡ e.LoadWord (far a i)
first_loads a i zero rows l = absurd (omega (arith, l))
first_loads a i (suc n) rows l = refl

pub no_variables : (x n : ℕ) (rows : List Row) → n ≤ 0 → first_of (inlined (r.Variables x n ∷ rows)) ≡ first_of (inlined rows)
no_variables x zero rows l = refl
no_variables x (suc n) rows l = absurd (omega (arith, l))

pub no_loads : (a : Expr) (i n : ℕ) (rows : List Row) → n ≤ 0 → first_of (inlined (r.Loads a i n ∷ rows)) ≡ first_of (inlined rows)
no_loads a i zero rows l = refl
no_loads a i (suc n) rows l = absurd (omega (arith, l))

pub ruleset first_rules = (first_variables, first_loads, no_variables, no_loads)
