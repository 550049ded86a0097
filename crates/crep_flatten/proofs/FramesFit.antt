-- The variables and the temporary words of a function in words fit what the source's function weighs.
use Rattle.std.proofs.Common.{◌≡◌, ℕ, suc, ◌+◌, ◌*◌, ◌-◌, ◌≤◌, Bool, true, false, List, [], ◌∷◌, ◌++◌, map, length, append-nil, arith, refl, sym, ap, subst, ◌∙◌}
use Rattle.std.specs.Prelude.{max, nat_le, if◌then◌else◌}
use Rattle.std.proofs.lemmas.Bool.Decides.{nat_tests}
use Rattle.pan_flow.specs.Functions.{variables, all_in_turn}
use Rattle.pan_stage.specs.Sums.{most, above}
use Rattle.pan_tree.specs.Check as check
use Rattle.pan_tree.specs.Check.{Judged, State, Doing, doing, in_order, do_layer, do_kind, result_of, function_of, exception_of, weights}
use Rattle.pan_tree.specs.declared.spanned.Spanned.{Spanned}
use Rattle.pan_tree.specs.declared.syntax.ExprKind.{ExprKind}
use Rattle.crep_lang.specs.Needs.{row_temporaries, between}
use Rattle.crep_lang.specs.Text.{variables_read, all_read, flow_of}
use Rattle.crep_lang.specs.declared.syntax.Expr.{Expr}
use Rattle.crep_lang.specs.declared.syntax.Expr.TheVariants as e
use Rattle.crep_lang.specs.declared.syntax.Stmt.{Stmt}
use Rattle.crep_lang.specs.declared.syntax.Stmt.TheVariants as stmt
use Rattle.crep_lang.proofs.Sizes.{between_seq, between_assign, between_store_word}
use Rattle.crep_lang.proofs.Texts.{flow_seq, flow_assign, flow_store_word}
use Rattle.crep_flatten.specs.declared.rows.Row.{Row}
use Rattle.crep_flatten.specs.declared.rows.Row.TheVariants as row
use Rattle.crep_flatten.specs.Rows.{far, loads, variables as row_variables, inlined, Settled, settle}
use Rattle.crep_flatten.specs.Flat.{Places, count, flat, word_in}
use Rattle.crep_flatten.specs.Reads.{is_variable, go_straight}
use Rattle.crep_flatten.specs.Flattened.{assign_row, store_row, one_move, moves, moved, rows_of}
use Rattle.crep_flatten.proofs.RowWords.{count_variables}
use Rattle.crep_flatten.proofs.Costs.{Static, weights_more, rows_loads, settled_well}
use Rattle.crep_flatten.proofs.CodeFits.{cheap_at}
use Rattle.crep_flatten.proofs.Low.{Placed, above_append, WordLow, word_more, low_var, low_far, RowsLow, first_low, low_append, low_more, WordsLow, words_append, variables_low, loads_low, kind_low}

-- ---- measures

-- a number above each variable of a statement
abbrev pub top : Stmt → ℕ
top s = above (variables (flow_of s))

abbrev pub tops : List Stmt → ℕ
tops ss = most (map top ss)

abbrev pub betweens : List Stmt → ℕ
betweens ss = most (map between ss)

turn_top : (ss : List Stmt) → above (variables (all_in_turn (map flow_of ss))) ≡ tops ss
turn_top [] = refl
turn_top (s ∷ ss) = above_append (variables (flow_of s)) (variables (all_in_turn (map flow_of ss))) ∙ ap (λ n. max (top s) n) (turn_top ss)

pub seq_top : (ss : List Stmt) → top (stmt.Seq ss) ≡ tops ss
seq_top ss = ap (λ f. above (variables f)) (flow_seq ss) ∙ turn_top ss

-- statements whose parts need so many temporary words, with variables below c
pub record StmtsLow (k c : ℕ) (ss : List Stmt) : Type 0 where
  pub between : betweens ss ≤ k
  pub top : tops ss ≤ c

pub none_low : (k c : ℕ) → StmtsLow k c []
none_low k c = record { between = omega arith; top = omega arith }

pub more_low : (k c : ℕ) (s : Stmt) (ss : List Stmt) → between s ≤ k → top s ≤ c → StmtsLow k c ss → StmtsLow k c (s ∷ ss)
more_low k c s ss b t h = let x = h.between in let y = h.top in record { between = omega (arith, b, x); top = omega (arith, t, y) }

pub append_low : (k c : ℕ) (ss ts : List Stmt) → StmtsLow k c ss → StmtsLow k c ts → StmtsLow k c (ss ++ ts)
append_low k c [] ts h g = g
append_low k c (s ∷ ss) ts h g =
    let x = h.between in
    let y = h.top in
    more_low k c s (ss ++ ts) (omega (arith, x)) (omega (arith, y)) (append_low k c ss ts (record { between = omega (arith, x); top = omega (arith, y) }) g)

pub stmts_more : (k l c d : ℕ) (ss : List Stmt) → k ≤ l → c ≤ d → StmtsLow k c ss → StmtsLow l d ss
stmts_more k l c d ss le ld h = let x = h.between in let y = h.top in record { between = omega (arith, x, le); top = omega (arith, y, ld) }

-- ---- rows

pub assign_top : (x : ℕ) (w : Expr) → top (stmt.Assign x w) ≡ max (above (variables_read w)) (max (suc x) 0)
assign_top x w = ap (λ f. above (variables f)) (flow_assign x w) ∙ above_append (variables_read w) (x ∷ [])

pub assigns_low : (k c x : ℕ) (ws : List Expr) → WordsLow k c ws → x + length ws ≤ c → StmtsLow k c (assign_row x ws)
assigns_low k c x [] h le = none_low k c
assigns_low k c x (w ∷ ws) h le =
    let a = between_assign x w in
    let b = assign_top x w in
    let i = h.0.temporary in
    let j = h.0.below in
    more_low k c (stmt.Assign x w) (assign_row (suc x) ws) (omega (arith, a, i)) (omega (arith, b, j, le)) (assigns_low k c (suc x) ws h.1 (omega (arith, le)))

pub pair_reads : (a w : Expr) → above (all_read (a ∷ w ∷ [])) ≡ max (above (variables_read a)) (above (variables_read w))
pair_reads a w = above_append (variables_read a) (variables_read w ++ []) ∙ ap (λ n. max (above (variables_read a)) n) (ap above (append-nil (variables_read w)))

pub stores_low : (k c : ℕ) (a : Expr) (i : ℕ) (ws : List Expr) → 2 ≤ k → WordLow k c a → WordsLow k c ws → StmtsLow (1 + k) c (store_row a i ws)
stores_low k c a i [] some ha h = none_low (1 + k) c
stores_low k c a i (w ∷ ws) some ha h =
    let x = low_far k c a i some ha in
    let b = between_store_word (far a i) w in
    let t = ap (λ f. above (variables f)) (flow_store_word (far a i) w) ∙ pair_reads (far a i) w in
    let i1 = x.temporary in
    let j1 = x.below in
    let i2 = h.0.temporary in
    let j2 = h.0.below in
    more_low (1 + k) c (stmt.StoreWord (far a i) w) (store_row a (suc i) ws) (omega (arith, b, i1, i2, some)) (omega (arith, t, j1, j2)) (stores_low k c a (suc i) ws some ha h.1)

pub record SettledLow (k : ℕ) (g : Settled) : Type 0 where
  pub before : StmtsLow k g.next g.before
  pub words : WordsLow k g.next g.words

pub settled_low : (k c : ℕ) (rs : List Row) (t : ℕ) → RowsLow k c rs → c ≤ t → SettledLow k (settle rs t)
settled_low k c [] t h le = record { before = none_low k t; words = tt }
settled_low k c (row.Variables x n ∷ rs) t h le =
    let r = settled_low k c rs t h.1 le in
    let w = settled_well rs t in
    let low = w.low in
    let i = (h.0).0 in
    let j = (h.0).1 in
    record { before = r.before; words = words_append k (settle rs t).next (row_variables x n) (settle rs t).words (variables_low k (settle rs t).next x n i (λ some. let g = j some in omega (arith, g, le, low))) r.words }
settled_low k c (row.One x ∷ rs) t h le =
    let r = settled_low k c rs t h.1 le in
    let w = settled_well rs t in
    let low = w.low in
    record { before = r.before; words = (word_more k k c (settle rs t).next x (omega arith) (omega (arith, le, low)) h.0, r.words) }
settled_low k c (row.Loads a i n ∷ rs) t h le = by (nat_le 2 n) (λ b. grind (arith, nat_tests, b)) (settled_low k c rs t h.1 le) (settled_low k c rs (suc t) h.1 (omega (arith, le))) (settled_well rs t).low (settled_well rs (suc t)).low
  where
    by : (b : Bool) → (b ≡ true → 2 ≤ n) → SettledLow k (settle rs t) → SettledLow k (settle rs (suc t)) → t ≤ (settle rs t).next → suc t ≤ (settle rs (suc t)).next
        → SettledLow k (if b then (let g = settle rs (suc t) in record g { before = stmt.Assign t a ∷ g.before; words = loads (e.Var t) i n ++ g.words }) else (let g = settle rs t in record g { words = loads a i n ++ g.words }))
    by true wide r r' low low' =
        let g = settle rs (suc t) in
        let two = wide refl in
        let some = (h.0).0 (omega (arith, two)) in
        let ha = (h.0).1 in
        let x = ha.temporary in
        let y = ha.below in
        let b = between_assign t a in
        let z = assign_top t a in
        record {
          before = more_low k g.next (stmt.Assign t a) g.before (omega (arith, b, x)) (omega (arith, z, y, le, low')) r'.before;
          words = words_append k g.next (loads (e.Var t) i n) g.words (loads_low k g.next (e.Var t) i n (λ q. some) (low_var k g.next t (omega (arith, some)) (omega (arith, low')))) r'.words;
        }
    by false wide r r' low low' =
        let g = settle rs t in
        record { before = r.before; words = words_append k g.next (loads a i n) g.words (loads_low k g.next a i n (h.0).0 (word_more k k c g.next a (omega arith) (omega (arith, le, low)) (h.0).1)) r.words }

moves_low : (k c x : ℕ) (ws : List Expr) → WordsLow k c ws → x + length ws ≤ c → StmtsLow k c (moves x ws)
moves_low k c x [] h le = none_low k c
moves_low k c x (w ∷ ws) h le = append_low k c (one_move x w) (moves (suc x) ws) (by (is_variable w x)) (moves_low k c (suc x) ws h.1 (omega (arith, le)))
  where
    by : (b : Bool) → StmtsLow k c (if b then [] else stmt.Assign x w ∷ [])
    by true = none_low k c
    by false =
        let a = between_assign x w in
        let b = assign_top x w in
        let i = h.0.temporary in
        let j = h.0.below in
        more_low k c (stmt.Assign x w) [] (omega (arith, a, i)) (omega (arith, b, j, le)) (none_low k c)

pub moved_low : (k c x : ℕ) (ws : List Expr) (t : ℕ) → 1 ≤ k → WordsLow k c ws → x + length ws ≤ c → t + length ws ≤ c → StmtsLow k c (moved x ws t)
moved_low k c x ws t some h lx lt = by (go_straight x 0 ws)
  where
    by : (b : Bool) → StmtsLow k c (if b then moves x ws else assign_row t ws ++ assign_row x (row_variables t (length ws)))
    by true = moves_low k c x ws h lx
    by false =
        let n = count_variables t (length ws) in
        append_low k c (assign_row t ws) (assign_row x (row_variables t (length ws))) (assigns_low k c t ws h lt) (assigns_low k c x (row_variables t (length ws)) (variables_low k c t (length ws) some (λ q. lt)) (omega (arith, n, lx)))

-- what a statement needs beside the variables that are there: of new ones, and of temporary words
pub record Frame (s : Stmt) (here behind : Places) (weight : ℕ) : Type 0 where
  pub more : ℕ
  pub low : ℕ
  pub between : between s ≤ low
  pub top : top s ≤ count here + more
  pub count : count behind ≤ count here + more
  pub placed : Placed behind
  pub fits : more + low ≤ 2 * weight

pub record Frames (ss : List Stmt) (here behind : Places) (weight : ℕ) : Type 0 where
  pub more : ℕ
  pub low : ℕ
  pub between : betweens ss ≤ low
  pub top : tops ss ≤ count here + more
  pub count : count behind ≤ count here + more
  pub placed : Placed behind
  pub fits : more + low ≤ 2 * weight

-- statements one after another, that declare nothing
pub seq_frame : (k more : ℕ) (ss : List Stmt) (here : Places) (weight : ℕ) → Placed here → StmtsLow k (count here + more) ss → more + k ≤ 2 * weight → Frame (stmt.Seq ss) here here weight
seq_frame k more ss here weight h low le =
    let b = between_seq ss in
    let t = seq_top ss in
    let x = low.between in
    let y = low.top in
    record { more = more; low = k; between = omega (arith, b, x); top = omega (arith, t, y); count = omega arith; placed = h; fits = le }

pub row_low : (k c : ℕ) (ws : List Expr) → WordsLow k c ws → (row_temporaries ws ≤ k + length ws) × (above (all_read ws) ≤ c)
row_low k c [] h = (omega arith, omega arith)
row_low k c (w ∷ ws) h =
    let r = row_low k c ws h.1 in
    let a = above_append (variables_read w) (all_read ws) in
    let x = h.0.temporary in
    let y = h.0.below in
    let p = r.0 in
    let q = r.1 in
    (omega (arith, x, p), omega (arith, a, y, q))

-- ---- expressions

module _ (here : Places) (v : check.Scopes) (st : Static here v) (placed : Placed here) where
  pub rows_at : (x : Spanned ExprKind) → RowsLow (check.judged x v).weight (count here) (flat x here).rows
  rows_at x = kind_low x.kind x.span.start here v st placed

  pub some_at : (x : Spanned ExprKind) → 1 ≤ (check.judged x v).weight
  some_at x = let c = cheap_at here v st x in c.some

  pub word_at : (x : Spanned ExprKind) → WordLow (check.judged x v).weight (count here) (word_in (flat x here))
  word_at x = first_low (check.judged x v).weight (count here) (flat x here).rows (some_at x) (rows_at x)

  pub all_rows_at : (xs : List (Spanned ExprKind)) → RowsLow (weights (map (λ x. check.judged x v) xs)) (count here) (rows_of (map (λ x. flat x here) xs))
  all_rows_at [] = tt
  all_rows_at (x ∷ xs) =
      let js = map (λ x. check.judged x v) xs in
      let j = check.judged x v in
      let w = weights_more j js in
      let others = rows_of (map (λ x. flat x here) xs) in
      low_append (weights (j ∷ js)) (count here) (flat x here).rows others (low_more j.weight (weights (j ∷ js)) (count here) (flat x here).rows (omega (arith, w)) (rows_at x)) (low_more (weights js) (weights (j ∷ js)) (count here) others (omega (arith, w)) (all_rows_at xs))

-- the words that stand behind those that compute addresses, in the last of some statements
pub record LastLow (rs : List Row) (here : Places) (k n : ℕ) : Type 0 where
  pub more : ℕ
  pub before : StmtsLow k (count here + more) (settle rs (count here)).before
  pub temporary : row_temporaries (settle rs (count here)).words ≤ k + n
  pub below : above (all_read (settle rs (count here)).words) ≤ count here + more
  pub few : more ≤ rows_loads rs

pub last_low : (rs : List Row) (here : Places) (k : ℕ) → RowsLow k (count here) rs → LastLow rs here k (length (inlined rs))
last_low rs here k h =
    let q = settle rs (count here) in
    let s = settled_low k (count here) rs (count here) h (omega arith) in
    let w = settled_well rs (count here) in
    let low = w.low in
    let high = w.high in
    let size = w.size in
    let r = row_low k q.next q.words s.words in
    let a = r.0 in
    let b = r.1 in
    let same : count here + (q.next - count here) ≡ q.next = omega (arith, low) in
    record {
      more = q.next - count here;
      before = subst (λ c. StmtsLow k c q.before) (sym same) s.before;
      temporary = omega (arith, a, size);
      below = omega (arith, b, same);
      few = omega (arith, high, low);
    }

pub last_frame : (rs : List Row) (here behind : Places) (last : Stmt) (k n weight more low : ℕ) → between last ≤ low → k ≤ low → top last ≤ count here + more → (l : LastLow rs here k n) → l.more ≤ more → count behind ≤ count here + more → Placed behind → more + low ≤ 2 * weight
    → Frame (stmt.Seq ((settle rs (count here)).before ++ last ∷ [])) here behind weight
last_frame rs here behind last k n weight more low b kl t l ml c pl le =
    let q = settle rs (count here) in
    let s = append_low low (count here + more) q.before (last ∷ []) (stmts_more k low (count here + l.more) (count here + more) q.before kl (omega (arith, ml)) l.before) (more_low low (count here + more) last [] b t (none_low low (count here + more))) in
    let x = s.between in
    let y = s.top in
    let i = between_seq (q.before ++ last ∷ []) in
    let j = seq_top (q.before ++ last ∷ []) in
    record { more = more; low = low; between = omega (arith, i, x); top = omega (arith, j, y); count = c; placed = pl; fits = le }
