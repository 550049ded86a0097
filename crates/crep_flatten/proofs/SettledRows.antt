-- Rows whose addresses are computed once, row by row.
use Rattle.std.proofs.Common.{◌≡◌, ℕ, zero, suc, ◌+◌, ◌-◌, ◌<◌, ◌≤◌, Bool, true, false, List, [], ◌∷◌, ◌++◌, append_assoc, append-nil, arith, refl, sym, ap, ◌∙◌}
use Rattle.std.specs.Prelude.{nat_le, if◌then◌else◌}
use Rattle.std.proofs.lemmas.Bool.Decides.{nat_tests}
use Rattle.crep_lang.specs.declared.syntax.Expr.{Expr}
use Rattle.crep_lang.specs.declared.syntax.Expr.TheVariants as e
use Rattle.crep_lang.specs.declared.syntax.Stmt.TheVariants as stmt
use Rattle.crep_flatten.specs.declared.rows.Row.{Row}
use Rattle.crep_flatten.specs.declared.rows.Row.TheVariants as row
use Rattle.crep_flatten.specs.Rows.{far, loads, variables, Settled, settle}

-- ---- words one after another

variables_at : (x y n m : ℕ) → x ≡ y → n ≡ m → variables x n ≡ variables y m
variables_at x y n m e f = ap (λ k. variables k n) e ∙ ap (variables y) f

loads_at : (a : Expr) (x y n m : ℕ) → x ≡ y → n ≡ m → loads a x n ≡ loads a y m
loads_at a x y n m e f = ap (λ k. loads a k n) e ∙ ap (loads a y) f

pub more_variables : (words pushed whole : List Expr) (x y n m : ℕ) → 0 < n → pushed ≡ words ++ e.Var x ∷ [] → y ≡ x + 1 → m ≡ n - 1 → words ++ variables x n ≡ whole → pushed ++ variables y m ≡ whole
more_variables words pushed whole x y zero m l p q f h = absurd (omega (arith, l))
more_variables words pushed whole x y (suc k) m l p q f h =
    ap (λ ws. ws ++ variables y m) p ∙ append_assoc words (e.Var x ∷ []) (variables y m) ∙ ap (λ ws. words ++ (e.Var x ∷ ws)) (variables_at y (suc x) m k (omega (arith, q)) (omega (arith, f))) ∙ h

pub more_loads : (a : Expr) (words pushed whole : List Expr) (x y n m : ℕ) → 0 < n → pushed ≡ words ++ e.LoadWord (far a x) ∷ [] → y ≡ x + 1 → m ≡ n - 1 → words ++ loads a x n ≡ whole → pushed ++ loads a y m ≡ whole
more_loads a words pushed whole x y zero m l p q f h = absurd (omega (arith, l))
more_loads a words pushed whole x y (suc k) m l p q f h =
    ap (λ ws. ws ++ loads a y m) p ∙ append_assoc words (e.LoadWord (far a x) ∷ []) (loads a y m) ∙ ap (λ ws. words ++ (e.LoadWord (far a x) ∷ ws)) (loads_at a y (suc x) m k (omega (arith, q)) (omega (arith, f))) ∙ h

-- ---- one row, and others behind it

abbrev behind : Settled → List Row → Settled
behind g rs = let h = settle rs g.next in record { before = g.before ++ h.before; words = g.words ++ h.words; next = h.next }

settle_wide : (c : Bool) (a : Expr) (i n t : ℕ) (rs : List Row) →
    (if c then (let g = settle rs (suc t) in record g { before = stmt.Assign t a ∷ g.before; words = loads (e.Var t) i n ++ g.words }) else (let g = settle rs t in record g { words = loads a i n ++ g.words }))
    ≡ behind (if c then (let g = settle [] (suc t) in record g { before = stmt.Assign t a ∷ g.before; words = loads (e.Var t) i n ++ g.words }) else (let g = settle [] t in record g { words = loads a i n ++ g.words })) rs
settle_wide true a i n t rs = ap (λ ws. let g = settle rs (suc t) in record { before = stmt.Assign t a ∷ g.before; words = ws ++ g.words; next = g.next }) (sym (append-nil (loads (e.Var t) i n)))
settle_wide false a i n t rs = ap (λ ws. let g = settle rs t in record { before = g.before; words = ws ++ g.words; next = g.next }) (sym (append-nil (loads a i n)))

pub settle_more : (r : Row) (rs : List Row) (t : ℕ) → settle (r ∷ rs) t ≡ behind (settle (r ∷ []) t) rs
settle_more (row.Variables x n) rs t = ap (λ ws. let g = settle rs t in record { before = g.before; words = ws ++ g.words; next = g.next }) (sym (append-nil (variables x n)))
settle_more (row.One x) rs t = refl
settle_more (row.Loads a i n) rs t = settle_wide (nat_le 2 n) a i n t rs

-- ---- a row alone

is_wide : (n : ℕ) → 2 ≤ n → nat_le 2 n ≡ true
is_wide n h = grind (arith, nat_tests)

is_narrow : (n : ℕ) → n < 2 → nat_le 2 n ≡ false
is_narrow n h = grind (arith, nat_tests)

abbrev wide : Bool → Expr → ℕ → ℕ → ℕ → Settled
wide c a i n t = if c then (let g = settle [] (suc t) in record g { before = stmt.Assign t a ∷ g.before; words = loads (e.Var t) i n ++ g.words }) else (let g = settle [] t in record g { words = loads a i n ++ g.words })

pub wide_before : (a : Expr) (i n t : ℕ) → 2 ≤ n → (settle (row.Loads a i n ∷ []) t).before ≡ stmt.Assign t a ∷ []
wide_before a i n t h = ap (λ c. (wide c a i n t).before) (is_wide n h)

pub wide_words : (a : Expr) (i n t : ℕ) → 2 ≤ n → (settle (row.Loads a i n ∷ []) t).words ≡ loads (e.Var t) i n
wide_words a i n t h = ap (λ c. (wide c a i n t).words) (is_wide n h) ∙ append-nil (loads (e.Var t) i n)

pub wide_next : (a : Expr) (i n t : ℕ) → 2 ≤ n → (settle (row.Loads a i n ∷ []) t).next ≡ t + 1
wide_next a i n t h = ap (λ c. (wide c a i n t).next) (is_wide n h) ∙ omega arith

pub narrow_before : (a : Expr) (i n t : ℕ) → n < 2 → (settle (row.Loads a i n ∷ []) t).before ≡ []
narrow_before a i n t h = ap (λ c. (wide c a i n t).before) (is_narrow n h)

pub narrow_words : (a : Expr) (i n t : ℕ) → n < 2 → (settle (row.Loads a i n ∷ []) t).words ≡ loads a i n
narrow_words a i n t h = ap (λ c. (wide c a i n t).words) (is_narrow n h) ∙ append-nil (loads a i n)

pub narrow_next : (a : Expr) (i n t : ℕ) → n < 2 → (settle (row.Loads a i n ∷ []) t).next ≡ t
narrow_next a i n t h = ap (λ c. (wide c a i n t).next) (is_narrow n h)

pub ruleset row_rules = (append-nil, wide_before, wide_words, wide_next, narrow_before, narrow_words, narrow_next)
