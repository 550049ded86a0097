-- What rows of statements are worth in steps.
use Rattle.std.proofs.Common.{◌≡◌, ℕ, zero, suc, ◌+◌, ◌*◌, ◌≤◌, Bool, true, false, List, [], ◌∷◌, ◌++◌, length, replicate, arith, refl, ap}
use Rattle.std.specs.Prelude.{if◌then◌else◌, nat_le}
use Rattle.std.specs.List.{list_any}
use Rattle.std.proofs.lemmas.Bool.Decides.{nat_tests}
use Rattle.crep_lang.specs.Steps.{expr_steps, row_steps}
use Rattle.crep_lang.specs.declared.syntax.Expr.{Expr}
use Rattle.crep_lang.specs.declared.syntax.Expr.TheVariants as e
use Rattle.crep_lang.specs.declared.syntax.Stmt.TheVariants as stmt
use Rattle.crep_lang.proofs.Exprs.{steps_num, steps_var}
use Rattle.crep_lang.proofs.Sizes.{code_assign, code_store_word}
use Rattle.crep_flatten.specs.declared.rows.Row.{Row}
use Rattle.crep_flatten.specs.Rows.{far, inlined, variables, settle}
use Rattle.crep_flatten.specs.Reads.{is_variable, go_straight, reads_memory}
use Rattle.crep_flatten.specs.Flattened.{assign_row, store_row, one_move, moves, moved, assigned, stored_words, stored}
use Rattle.crep_flatten.proofs.RowWords.{count_variables}
use Rattle.crep_flatten.proofs.FlatExprs.{all_code, all_code_append}
use Rattle.crep_flatten.proofs.Costs.{sum_steps, rows_worth, settled_well, variables_steps, far_steps}

pub assign_worth : (x : ℕ) (ws : List Expr) → all_code (assign_row x ws) ≡ length ws + sum_steps ws
assign_worth x [] = refl
assign_worth x (w ∷ ws) = let a = code_assign x w in let b = assign_worth (suc x) ws in omega (arith, a, b)

store_worth : (a : Expr) (i : ℕ) (ws : List Expr) → all_code (store_row a i ws) ≤ length ws * (3 + expr_steps a) + sum_steps ws
store_worth a i [] = omega arith
store_worth a i (w ∷ ws) =
    let s = code_store_word (far a i) w in
    let f = far_steps a i in
    let r = store_worth a (suc i) ws in
    let m : suc (length ws) * (3 + expr_steps a) ≡ (3 + expr_steps a) + length ws * (3 + expr_steps a) = omega arith in
    omega (arith, s, f, r, m)

pub row_worth : (ws : List Expr) → row_steps ws ≡ length ws + sum_steps ws
row_worth [] = refl
row_worth (w ∷ ws) = let r = row_worth ws in omega (arith, r)

moves_worth : (x : ℕ) (ws : List Expr) → all_code (moves x ws) ≤ length ws + sum_steps ws
moves_worth x [] = omega arith
moves_worth x (w ∷ ws) =
    let a = all_code_append (one_move x w) (moves (suc x) ws) in
    let b = by (is_variable w x) in
    let c = moves_worth (suc x) ws in
    omega (arith, a, b, c)
  where
    by : (b : Bool) → all_code (if b then [] else stmt.Assign x w ∷ []) ≤ 1 + expr_steps w
    by true = omega arith
    by false = let c = code_assign x w in omega (arith, c)

moved_worth : (x : ℕ) (ws : List Expr) (t : ℕ) → all_code (moved x ws t) ≤ sum_steps ws + 3 * length ws
moved_worth x ws t = by (go_straight x 0 ws)
  where
    by : (b : Bool) → all_code (if b then moves x ws else assign_row t ws ++ assign_row x (variables t (length ws))) ≤ sum_steps ws + 3 * length ws
    by true = let a = moves_worth x ws in omega (arith, a)
    by false =
        let vs = variables t (length ws) in
        let a = all_code_append (assign_row t ws) (assign_row x vs) in
        let b = assign_worth t ws in
        let c = assign_worth x vs in
        let d = count_variables t (length ws) in
        let f = variables_steps t (length ws) in
        omega (arith, a, b, c, d, f)

pub assigned_worth : (x : ℕ) (rs : List Row) (t : ℕ) → all_code (assigned x rs t) ≤ rows_worth rs + 3 * length (inlined rs)
assigned_worth x rs t =
    let g = settle rs t in
    let w = settled_well rs t in
    let a = all_code_append g.before (moved x g.words g.next) in
    let b = moved_worth x g.words g.next in
    let c = w.worth in
    let d = w.size in
    omega (arith, a, b, c, d)

pub declared_worth : (x : ℕ) (rs : List Row) (t : ℕ) → let g = settle rs t in all_code (g.before ++ assign_row x g.words) ≤ rows_worth rs + length (inlined rs)
declared_worth x rs t =
    let g = settle rs t in
    let w = settled_well rs t in
    let a = all_code_append g.before (assign_row x g.words) in
    let b = assign_worth x g.words in
    let c = w.worth in
    let d = w.size in
    omega (arith, a, b, c, d)

stored_words_worth : (a : ℕ) (ws : List Expr) (t : ℕ) → all_code (stored_words a ws t) ≤ sum_steps ws + 6 * length ws
stored_words_worth a ws t = by (list_any reads_memory ws)
  where
    vs : List Expr
    vs = variables t (length ws)

    by : (b : Bool) → all_code (if b then assign_row t ws ++ store_row (e.Var a) 0 vs else store_row (e.Var a) 0 ws) ≤ sum_steps ws + 6 * length ws
    by true =
        let x = all_code_append (assign_row t ws) (store_row (e.Var a) 0 vs) in
        let y = assign_worth t ws in
        let z = store_worth (e.Var a) 0 vs in
        let four : length vs * (3 + expr_steps (e.Var a)) ≡ length vs * 4 = ap (λ k. length vs * (3 + k)) (steps_var a) in
        let i = count_variables t (length ws) in
        let j = variables_steps t (length ws) in
        omega (arith, x, y, z, four, i, j)
    by false =
        let z = store_worth (e.Var a) 0 ws in
        let four : length ws * (3 + expr_steps (e.Var a)) ≡ length ws * 4 = ap (λ k. length ws * (3 + k)) (steps_var a) in
        omega (arith, z, four)

pub stored_worth : (a : Expr) (rs : List Row) (t : ℕ) → all_code (stored a rs t) ≤ 3 + expr_steps a + rows_worth rs + 6 * length (inlined rs)
stored_worth a rs t = by (nat_le (length (settle rs (suc t)).words) 1) (λ b. grind (arith, nat_tests, b))
  where
    by : (b : Bool) → (b ≡ true → length (settle rs (suc t)).words ≤ 1)
        → let q = settle rs (suc t) in
        all_code (if b then q.before ++ store_row a 0 q.words else stmt.Assign t a ∷ (q.before ++ stored_words t q.words q.next)) ≤ 3 + expr_steps a + rows_worth rs + 6 * length (inlined rs)
    by true few =
        let q = settle rs (suc t) in
        let w = settled_well rs (suc t) in
        let x = all_code_append q.before (store_row a 0 q.words) in
        let y = store_worth a 0 q.words in
        let z = few_times (length q.words) (few refl) in
        let c = w.worth in
        omega (arith, x, y, z, c)
      where
        few_times : (k : ℕ) → k ≤ 1 → k * (3 + expr_steps a) ≤ 3 + expr_steps a
        few_times zero le = omega arith
        few_times (suc zero) le = omega arith
        few_times (suc (suc k)) le = absurd (omega (arith, le))
    by false few =
        let q = settle rs (suc t) in
        let w = settled_well rs (suc t) in
        let s = code_assign t a in
        let x = all_code_append q.before (stored_words t q.words q.next) in
        let y = stored_words_worth t q.words q.next in
        let c = w.worth in
        let d = w.size in
        omega (arith, s, x, y, c, d)

pub cleared_worth : (x n : ℕ) → all_code (assign_row x (replicate n (e.Num 0))) ≡ 2 * n
cleared_worth x zero = refl
cleared_worth x (suc n) = let a = code_assign x (e.Num 0) in let b = cleared_worth (suc x) n in let c = steps_num 0 in omega (arith, a, b, c)
