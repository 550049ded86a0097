-- In words each variable that is read was written before, on each way.
use Rattle.std.proofs.Common.{◌≡◌, ◌≢◌, ◌⊎◌, ℕ, zero, suc, ◌+◌, ◌≤◌, ◌<◌, ◌||◌, ◌&&◌, not, Bool, true, false, List, [], ◌∷◌, ◌++◌, map, length, replicate, append-nil, Option, Some, None, arith, refl, sym, ap, subst, ◌∙◌}
use Rattle.std.specs.Prelude.{nat_le, nat_lt, nat_eq, if◌then◌else◌}
use Rattle.std.specs.List.{All, list_any}
use Rattle.std.specs.Option.{option_map_or}
use Rattle.std.proofs.Math.Logic.{inl, inr}
use Rattle.std.proofs.lemmas.Bool.Decides.{nat_tests}
use Rattle.std.proofs.lemmas.List.{length-replicate}
use Rattle.std.proofs.lemmas.List.Elements.{All-nil, All-cons}
use Rattle.pan_flow.specs.Flow.{Exit, AtEnd, AtBreak, AtContinue, AtReturn, Flow, with_end, in_body, has, behind as behind_function}
use Rattle.pan_flow.specs.Live.{live_before}
use Rattle.pan_flow.specs.Functions.{IsWritten}
use Rattle.pan_flow.proofs.Exact.{exact}
use Rattle.pan_stage.specs.Locals.{numbers_from}
use Rattle.pan_stage.specs.declared.program.Handler.{Handler}
use Rattle.pan_tree.specs.Scopes.{innermost}
use Rattle.pan_tree.specs.Shapes.{words_of}
use Rattle.pan_tree.specs.Check as check
use Rattle.pan_tree.specs.Check.{State, Doing, doing, do_kind, result_of, function_of, exception_of, parameter_words}
use Rattle.pan_tree.specs.Meaning.{function_index, exception_index, foreign_index}
use Rattle.pan_tree.specs.declared.shape.Shape.{Shape}
use Rattle.pan_tree.specs.declared.shape.Shape.TheVariants as shape
use Rattle.pan_tree.specs.declared.spanned.Spanned.{Spanned}
use Rattle.pan_tree.specs.declared.syntax.HandlerOf.{HandlerOf}
use Rattle.pan_tree.specs.declared.syntax.ExprKind.{ExprKind}
use Rattle.pan_tree.specs.declared.syntax.Target.{Target}
use Rattle.pan_tree.specs.declared.syntax.Target.TheVariants as target
use Rattle.pan_tree.specs.declared.syntax.StmtKind.{StmtKind, StmtKind-F, map-StmtKind}
use Rattle.pan_tree.specs.declared.syntax.StmtKind.TheOpen as source
use Rattle.pan_tree.specs.declared.program.Exception.{Exception}
use Rattle.pan_tree.specs.declared.program.Function.{Function}
use Rattle.pan_tree.specs.declared.program.Program.{Program as Source}
use Rattle.pan_tree.proofs.MeaningLayers.{by_layers}
use Rattle.check_soundness.specs.Spread.{spread}
use Rattle.crep_lang.specs.Text.{variables_read, all_read, flow_of, flow_of_function}
use Rattle.crep_lang.specs.declared.syntax.Expr.{Expr}
use Rattle.crep_lang.specs.declared.syntax.Expr.TheVariants as e
use Rattle.crep_lang.specs.declared.syntax.Stmt.{Stmt}
use Rattle.crep_lang.specs.declared.syntax.Stmt.TheVariants as stmt
use Rattle.crep_lang.proofs.Exprs.{read_num}
use Rattle.crep_lang.proofs.Texts.{flow_skip, flow_seq, flow_store_byte, flow_if, flow_while, flow_break, flow_continue, flow_call, flow_tail_call, flow_return, flow_raise, flow_shared_load, flow_shared_store, flow_foreign}
use Rattle.crep_flatten.specs.declared.rows.Row.{Row}
use Rattle.crep_flatten.specs.Rows.{variables, settle}
use Rattle.crep_flatten.specs.Flat.{Places, count, flat, word_in}
use Rattle.crep_flatten.specs.Reads.{is_variable, go_straight, reads_memory}
use Rattle.crep_flatten.specs.Flattened.{assign_row, store_row, one_move, moves, moved, stored_words, stored, flat_all, Flattening, flattening, flat_layer, flat_stmt, after_target, results, new_place, place_at, numbered, rows_of, exception_shape, cleared, with_parameters, flat_function, flattened}
use Rattle.crep_flatten.proofs.Costs.{Static, settled_well}
use Rattle.crep_flatten.proofs.Places.{static_behind, static_block, static_target, static_more, stmt_roll}
use Rattle.crep_flatten.proofs.CodeFits.{at, value_is, cheap_at}
use Rattle.crep_flatten.proofs.Low.{Placed, declare_count, RowsLow}
use Rattle.crep_flatten.proofs.FramesFit.{rows_at, word_at, all_rows_at}
use Rattle.crep_flatten.proofs.FunctionsFit.{target_placed, kind_frame}
use Rattle.crep_flatten.proofs.Kept.{static_parameters, placed_parameters, parameters_count}
use Rattle.crep_flatten.proofs.Unread.{or_false, and_false, has_numbers, Unread, word_unread, all_unread, var_unread, variables_unread, settled_unread, turn, Passes, assign_dry, assign_kill, assigns_pass, assigns_kill, stores_pass, then_pass, settled_pass, settled_kill}

-- ---- rows

-- a row at its end
at_end : (x : ℕ) (ss : List Stmt) (k : Exit → Bool) → turn x (ss ++ []) k ≡ false → live_before x (flow_of (stmt.Seq ss)) k ≡ false
at_end x ss k h = ap (λ f. live_before x f k) (flow_seq ss) ∙ ap (λ zs. turn x zs k) (sym (append-nil ss)) ∙ h

less_or : (x n : ℕ) (Goal : Type 0) → (x < n → Goal) → (n ≤ x → Goal) → Goal
less_or x n Goal f g = by (nat_lt x n) (λ b. grind (arith, nat_tests, b)) (λ b. grind (arith, nat_tests, b))
  where
    by : (b : Bool) → (b ≡ true → x < n) → (b ≡ false → n ≤ x) → Goal
    by true p q = f (p refl)
    by false p q = g (q refl)

moves_pass : (x y : ℕ) (ws : List Expr) → Unread x ws → Passes x (moves y ws)
moves_pass x y [] h = record { at = λ ts k g. g }
moves_pass x y (w ∷ ws) h = then_pass x (one_move y w) (moves (suc y) ws) (by (is_variable w y)) (moves_pass x (suc y) ws h.1)
  where
    by : (b : Bool) → Passes x (if b then [] else stmt.Assign y w ∷ [])
    by true = record { at = λ ts k g. g }
    by false = record { at = λ ts k g. assign_dry x y w (turn x ts k) k h.0 g }

moved_passes : (x y : ℕ) (ws : List Expr) (t : ℕ) → Unread x ws → Passes x (moved y ws t)
moved_passes x y ws t h = by (go_straight y 0 ws)
  where
    by : (b : Bool) → Passes x (if b then moves y ws else assign_row t ws ++ assign_row y (variables t (length ws)))
    by true = moves_pass x y ws h
    by false =
        let vs = variables t (length ws) in
        less_or x t _ (λ l. then_pass x (assign_row t ws) (assign_row y vs) (assigns_pass x t ws h) (assigns_pass x y vs (variables_unread x t (length ws) (inl l)))) (λ l.
        less_or x (t + length ws) _
        (λ m. let kills = assigns_kill x t ws h l m in record { at = λ ts k g. subst (λ zs. turn x zs k ≡ false) (sym (append_same (assign_row t ws) (assign_row y vs) ts)) (kills.at (assign_row y vs ++ ts) k) })
        (λ m. then_pass x (assign_row t ws) (assign_row y vs) (assigns_pass x t ws h) (assigns_pass x y vs (variables_unread x t (length ws) (inr m)))))
      where
        append_same : (ss ts us : List Stmt) → (ss ++ ts) ++ us ≡ ss ++ (ts ++ us)
        append_same [] ts us = refl
        append_same (s ∷ ss) ts us = ap (λ zs. s ∷ zs) (append_same ss ts us)

append_end : (x : ℕ) (ss ts : List Stmt) (k : Exit → Bool) → turn x (ss ++ (ts ++ [])) k ≡ false → live_before x (flow_of (stmt.Seq (ss ++ ts))) k ≡ false
append_end x ss ts k h = at_end x (ss ++ ts) k (subst (λ zs. turn x zs k ≡ false) (sym (append_same ss ts [])) h)
  where
    append_same : (ss ts us : List Stmt) → (ss ++ ts) ++ us ≡ ss ++ (ts ++ us)
    append_same [] ts us = refl
    append_same (s ∷ ss) ts us = ap (λ zs. s ∷ zs) (append_same ss ts us)

-- words of rows, then statements that aren't live where the words aren't read
settled_then : (k c x : ℕ) (rs : List Row) (t : ℕ) (ts : List Stmt) (exit : Exit → Bool) → RowsLow k c rs → c ≤ t → c ≤ x → (Unread x (settle rs t).words → turn x (ts ++ []) exit ≡ false) → live_before x (flow_of (stmt.Seq ((settle rs t).before ++ ts))) exit ≡ false
settled_then k c x rs t ts exit low le lx h =
    let q = settle rs t in
    append_end x q.before ts exit
    (less_or x t _ (λ l. let p = settled_pass k c x rs t low lx in p.at (ts ++ []) exit (h (settled_unread k c x rs t low lx (inl l)))) (λ l.
    less_or x q.next _ (λ m. let z = settled_kill k c x rs t low le l m in z.at (ts ++ []) exit) (λ m. let p = settled_pass k c x rs t low lx in p.at (ts ++ []) exit (h (settled_unread k c x rs t low lx (inr m))))))

-- words through other variables, then statements that pass wherever these aren't read
through : (x n : ℕ) (ws : List Expr) (ts : List Stmt) → Unread x ws → ((x < n) ⊎ (n + length ws ≤ x) → Passes x ts) → Passes x (assign_row n ws ++ ts)
through x n ws ts h f =
    less_or x n _ (λ l. then_pass x (assign_row n ws) ts (assigns_pass x n ws h) (f (inl l))) (λ l.
    less_or x (n + length ws) _ (λ m. let z = assigns_kill x n ws h l m in record { at = λ us k g. subst (λ zs. turn x zs k ≡ false) (sym (append_same (assign_row n ws) ts us)) (z.at (ts ++ us) k) })
    (λ m. then_pass x (assign_row n ws) ts (assigns_pass x n ws h) (f (inr m))))
  where
    append_same : (ss ts us : List Stmt) → (ss ++ ts) ++ us ≡ ss ++ (ts ++ us)
    append_same [] ts us = refl
    append_same (s ∷ ss) ts us = ap (λ zs. s ∷ zs) (append_same ss ts us)

stored_words_pass : (x a : ℕ) (ws : List Expr) (t : ℕ) → a ≢ x → Unread x ws → Passes x (stored_words a ws t)
stored_words_pass x a ws t ne h = by (list_any reads_memory ws)
  where
    unread : has (variables_read (e.Var a)) x ≡ false
    unread = var_unread x a (λ s. ne (sym s))

    by : (b : Bool) → Passes x (if b then assign_row t ws ++ store_row (e.Var a) 0 (variables t (length ws)) else store_row (e.Var a) 0 ws)
    by true = let vs = variables t (length ws) in through x t ws (store_row (e.Var a) 0 vs) h (λ o. stores_pass x (e.Var a) 0 vs unread (variables_unread x t (length ws) o))
    by false = stores_pass x (e.Var a) 0 ws unread h

stored_passes : (i k c x : ℕ) (a : Expr) (rs : List Row) (t : ℕ) → has (variables_read a) x ≡ false → RowsLow k c rs → c ≤ t → c ≤ x → Passes x (stored a rs t)
stored_passes i k c x a rs t ha low le lx = by (nat_le (length (settle rs (suc t)).words) 1)
  where
    -- the rows behind the addresses
    behind : (ts : List Stmt) → t ≢ x → (Unread x (settle rs (suc t)).words → Passes x ts) → Passes x ((settle rs (suc t)).before ++ ts)
    behind ts ne f =
        let q = settle rs (suc t) in
        less_or x (suc t) _ (λ l. then_pass x q.before ts (settled_pass k c x rs (suc t) low lx) (f (settled_unread k c x rs (suc t) low lx (inl l)))) (λ l.
        less_or x q.next _ (λ m. let z = settled_kill k c x rs (suc t) low (omega (arith, le)) l m in record { at = λ us e g. subst (λ zs. turn x zs e ≡ false) (sym (append_same q.before ts us)) (z.at (ts ++ us) e) })
        (λ m. then_pass x q.before ts (settled_pass k c x rs (suc t) low lx) (f (settled_unread k c x rs (suc t) low lx (inr m)))))
      where
        append_same : (ss ts us : List Stmt) → (ss ++ ts) ++ us ≡ ss ++ (ts ++ us)
        append_same [] ts us = refl
        append_same (s ∷ ss) ts us = ap (λ zs. s ∷ zs) (append_same ss ts us)

    at_t : (ss : List Stmt) → (t ≢ x → Passes x ss) → Passes x (stmt.Assign t a ∷ ss)
    at_t ss f = same (nat_eq x t) (λ b. grind (arith, nat_tests, b)) (λ b h. grind (arith, nat_tests, b, h))
      where
        same : (b : Bool) → (b ≡ true → x ≡ t) → (b ≡ false → t ≢ x) → Passes x (stmt.Assign t a ∷ ss)
        same true p q = record { at = λ us e g. subst (λ z. live_before x (flow_of (stmt.Assign z a)) (with_end (turn x (ss ++ us) e) e) ≡ false) (p refl) (assign_kill x a (turn x (ss ++ us) e) e ha) }
        same false p q = let z = f (q refl) in record { at = λ us e g. assign_dry x t a (turn x (ss ++ us) e) e ha (z.at us e g) }

    by : (b : Bool) → let q = settle rs (suc t) in
        Passes x (if b then q.before ++ store_row a 0 q.words else stmt.Assign t a ∷ (q.before ++ stored_words t q.words q.next))
    by true =
        let q = settle rs (suc t) in
        less_or x (suc t) _ (λ l. then_pass x q.before (store_row a 0 q.words) (settled_pass k c x rs (suc t) low lx) (stores_pass x a 0 q.words ha (settled_unread k c x rs (suc t) low lx (inl l)))) (λ l. behind (store_row a 0 q.words) (λ s. omega (arith, l, s)) (λ u. stores_pass x a 0 q.words ha u))
    by false =
        let q = settle rs (suc t) in
        let rest = stored_words t q.words q.next in
        at_t (q.before ++ rest) (λ ne. behind rest ne (λ u. stored_words_pass x t q.words q.next ne u))

-- what isn't live behind a statement that breaks out nowhere
pub record Outside (n x : ℕ) (exit : Exit → Bool) : Type 0 where
  pub end : n ≤ x → exit AtEnd ≡ false
  pub breaks : exit AtBreak ≡ false
  pub continues : exit AtContinue ≡ false
  pub returns : exit AtReturn ≡ false

-- a variable among new results is written there
target_written : (t : Target) (s : Shape) (here : Places) (x : ℕ) (b : Bool) → count here ≤ x → (count (after_target t s here) ≤ x → b ≡ false) → (not (has (results t s here) x) && b) ≡ false
target_written target.Nothing s here x b le h = h le
target_written (target.Old y) s here x b le h = and_false (not (has (results (target.Old y) s here) x)) b (h le)
target_written (target.New y) s here x b le h =
    less_or x (count here + words_of s) _ (λ l. ap (λ c. not c && b) (has_numbers (count here) (words_of s) x le l)) (λ l.
    let c = declare_count y (new_place s here) here in and_false (not (has (results (target.New y) s here) x)) b (h (omega (arith, c, l))))

zeros_unread : (x n : ℕ) → Unread x (replicate n (e.Num 0))
zeros_unread x zero = tt
zeros_unread x (suc n) = (ap (λ ys. has ys x) (read_num 0), zeros_unread x n)

cleared_then : (t : Target) (s : Shape) (here : Places) (x : ℕ) (ts : List Stmt) (exit : Exit → Bool) → count here ≤ x → (count (after_target t s here) ≤ x → turn x (ts ++ []) exit ≡ false) → live_before x (flow_of (stmt.Seq (cleared t s here ++ ts))) exit ≡ false
cleared_then target.Nothing s here x ts exit le h = append_end x [] ts exit (h le)
cleared_then (target.Old y) s here x ts exit le h = append_end x [] ts exit (h le)
cleared_then (target.New y) s here x ts exit le h =
    let ws = replicate (words_of s) (e.Num 0) in
    let n = length-replicate {A = Expr} (words_of s) (e.Num 0) in
    let c = declare_count y (new_place s here) here in
    append_end x (assign_row (count here) ws) ts exit
    (less_or x (count here + words_of s) _ (λ l. let z = assigns_kill x (count here) ws (zeros_unread x (words_of s)) le (omega (arith, l, n)) in z.at (ts ++ []) exit)
    (λ l. let z = assigns_pass x (count here) ws (zeros_unread x (words_of s)) in z.at (ts ++ []) exit (h (omega (arith, c, l)))))

inside_count : (n k x : ℕ) → n ≤ x → (n + k ≤ x) ⊎ (x < n) → n + (k + 0) ≤ x
inside_count n k x le (inl l) = omega (arith, l)
inside_count n k x le (inr l) = absurd (omega (arith, le, l))

-- a handler's own words are written where it catches
handler_dry : (n k x : ℕ) (b : Bool) → ((n + k ≤ x) ⊎ (x < n) → b ≡ false) → (not (has (numbers_from n k) x) && b) ≡ false
handler_dry n k x b h =
    less_or x n _ (λ l. and_false (not (has (numbers_from n k) x)) b (h (inr l))) (λ l.
    less_or x (n + k) _ (λ m. ap (λ c. not c && b) (has_numbers n k x l m)) (λ m. and_false (not (has (numbers_from n k) x)) b (h (inl m))))

-- the word of an expression reads nothing new
unread_at : (here : Places) (s : State) → Static here s.scopes → Placed here → (x : ℕ) → count here ≤ x → (v : Spanned ExprKind) → has (variables_read (word_in (flat v here))) x ≡ false
unread_at here s st placed x le v = word_unread (check.judged v s.scopes).weight (count here) x (word_in (flat v here)) (word_at here s.scopes st placed v) le

module _ (p : Source) (result : Shape) where
  abbrev NotLive : StmtKind → Type 0
  NotLive k = (l : Bool) (place : ℕ) (s : State) (here : Places) → Static here s.scopes → Placed here → (x : ℕ) → count here ≤ x → (exit : Exit → Bool) → Outside (count (flat_stmt k p here).1) x exit → live_before x (flow_of (flat_stmt k p here).0) exit ≡ false

  abbrev Known : Type 0
  Known = (k : StmtKind) × NotLive k

  abbrev plain : Spanned Known → Spanned StmtKind
  plain x = record { kind = x.kind.0; span = x.span }

  next_placed : (k : StmtKind) (l : Bool) (place : ℕ) (s : State) (here : Places) → Static here s.scopes → Placed here → Placed (flat_stmt k p here).1
  next_placed k l place s here st placed = let f = kind_frame p result k l place s here st placed in f.placed

  order_dry : (ss : List (Spanned Known)) (l : Bool) (s : State) (here : Places) → Static here s.scopes → Placed here → (x : ℕ) → count here ≤ x → (exit : Exit → Bool) → Outside (count (flat_all (map flattening (map plain ss)) p here).1) x exit
      → turn x (flat_all (map flattening (map plain ss)) p here).0 exit ≡ false
  order_dry [] l s here st placed x le exit o = o.end le
  order_dry (y ∷ ys) l s here st placed x le exit o =
      let next = (flat_stmt y.kind.0 p here).1 in
      let rest = (flat_all (map flattening (map plain ys)) p next).0 in
      let s' = (do_kind y.kind.0 (at p result l) y.span.start s).state in
      y.kind.1 l y.span.start s here st placed x le (with_end (turn x rest exit) exit)
      (record { end = λ ln. order_dry ys l s' next (static_behind (at p result l) y.span.start s here st y.kind.0) (next_placed y.kind.0 l y.span.start s here st placed) x ln exit o; breaks = o.breaks; continues = o.continues; returns = o.returns })

  abbrev inner : List (Spanned Known) → Places → List Stmt
  inner ss here = (flat_all (map flattening (map plain ss)) p ([] ∷ here)).0

  inner_dry : (ss : List (Spanned Known)) (l : Bool) (s : State) (here : Places) → Static here s.scopes → Placed here → (x : ℕ) → count here ≤ x → (exit : Exit → Bool) → Outside (count here) x exit → live_before x (flow_of (stmt.Seq (inner ss here))) exit ≡ false
  inner_dry ss l s here st placed x le exit o =
      ap (λ f. live_before x f exit) (flow_seq (inner ss here))
      ∙ order_dry ss l (record s { scopes = [] ∷ s.scopes }) ([] ∷ here) (static_block here s.scopes st) (tt, placed) x (omega (arith, le)) exit (record { end = λ g. o.end le; breaks = o.breaks; continues = o.continues; returns = o.returns })

  layer_dry : (y : StmtKind-F Known) (l : Bool) (place : ℕ) (s : State) (here : Places) → Static here s.scopes → Placed here → (x : ℕ) → count here ≤ x → (exit : Exit → Bool) → let z = map-StmtKind Known StmtKind (λ c. c.0) y in let f = flat_layer (map-StmtKind StmtKind Flattening flat_stmt z) p here in
      Outside (count f.1) x exit → live_before x (flow_of f.0) exit ≡ false
  layer_dry source.Skip l place s here st placed x le exit o = ap (λ f. live_before x f exit) flow_skip ∙ o.end le
  layer_dry (source.Decl y v) l place s here st placed x le exit o =
      let f = flat v here in
      let t = count here + words_of f.shape in
      let q = settle f.rows t in
      let sw = settled_well f.rows t in
      let many = sw.size in
      let c = cheap_at here s.scopes st v in
      let size_is = c.size in
      let dc = declare_count y (new_place f.shape here) here in
      settled_then (check.judged v s.scopes).weight (count here) x f.rows t (assign_row (count here) q.words) exit (rows_at here s.scopes st placed v) (omega arith) le (λ u.
      less_or x (count here + length q.words) _ (λ m. let z = assigns_kill x (count here) q.words u le m in z.at [] exit) (λ m. let z = assigns_pass x (count here) q.words u in z.at [] exit (o.end (omega (arith, m, many, size_is, dc)))))
  layer_dry (source.Assign y v) l place s here st placed x le exit o =
      let f = flat v here in
      let q = settle f.rows (count here) in
      settled_then (check.judged v s.scopes).weight (count here) x f.rows (count here) (moved (place_at (innermost y here)).first q.words q.next) exit (rows_at here s.scopes st placed v) (omega arith) le (λ u.
      let z = moved_passes x (place_at (innermost y here)).first q.words q.next u in z.at [] exit (o.end le))
  layer_dry (source.StoreWords a v) l place s here st placed x le exit o =
      let z = stored_passes 0 (check.judged v s.scopes).weight (count here) x (word_in (flat a here)) (flat v here).rows (count here) (word_unread (check.judged a s.scopes).weight (count here) x (word_in (flat a here)) (word_at here s.scopes st placed a) le) (rows_at here s.scopes st placed v) (omega arith) le in
      at_end x (stored (word_in (flat a here)) (flat v here).rows (count here)) exit (z.at [] exit (o.end le))
  layer_dry (source.StoreByte a v) l place s here st placed x le exit o =
      let i = word_in (flat a here) in
      let j = word_in (flat v here) in
      ap (λ f. live_before x f exit) (flow_store_byte i j) ∙ or_false (has (all_read (i ∷ j ∷ [])) x) (exit AtEnd) (all_unread x (i ∷ j ∷ []) (unread_at here s st placed x le a, (unread_at here s st placed x le v, tt))) (o.end le)
  layer_dry (source.If v a b) l place s here st placed x le exit o =
      let i = word_in (flat v here) in
      let y1 = stmt.Seq (inner a.stmts here) in
      let y2 = stmt.Seq (inner b.stmts here) in
      ap (λ f. live_before x f exit) (flow_if i y1 y2) ∙ or_false (has (variables_read i) x) (live_before x (flow_of y1) exit || live_before x (flow_of y2) exit) (unread_at here s st placed x le v)
      (or_false (live_before x (flow_of y1) exit) (live_before x (flow_of y2) exit) (inner_dry a.stmts l s here st placed x le exit o) (inner_dry b.stmts l s here st placed x le exit o))
  layer_dry (source.While v b) l place s here st placed x le exit o =
      let i = word_in (flat v here) in
      let y2 = stmt.Seq (inner b.stmts here) in
      let round = live_before x (flow_of y2) (in_body false exit) in
      ap (λ f. live_before x f exit) (flow_while [] i y2) ∙ or_false (has (variables_read i) x) (exit AtEnd || round) (unread_at here s st placed x le v)
      (or_false (exit AtEnd) round (o.end le) (inner_dry b.stmts true s here st placed x le (in_body false exit) (record { end = λ g. refl; breaks = o.end le; continues = refl; returns = o.returns })))
  layer_dry source.Break l place s here st placed x le exit o = ap (λ f. live_before x f exit) flow_break ∙ o.breaks
  layer_dry source.Continue l place s here st placed x le exit o = ap (λ f. live_before x f exit) flow_continue ∙ o.continues
  layer_dry (source.Call k) l place s here st placed x le exit o = handled k.handler o
    where
      r : Shape
      r = result_of (function_of k.function p)

      behind : Places
      behind = after_target k.into (spread r) here

      rs : List Row
      rs = rows_of (map (λ v. flat v here) k.args)

      words : List Expr
      words = (settle rs (count here)).words

      into : List ℕ
      into = results k.into (spread r) here

      n : ℕ
      n = numbered (function_index k.function p)

      weight : ℕ
      weight = check.weights (map (λ x. check.judged x s.scopes) k.args)

      handled : (h : Option (HandlerOf (Spanned Known))) → let y : StmtKind-F Known = source.Call (record { into = k.into; function = k.function; args = k.args; handler = h }) in let z = map-StmtKind Known StmtKind (λ c. c.0) y in
          let f = flat_layer (map-StmtKind StmtKind Flattening flat_stmt z) p here in Outside (count f.1) x exit → live_before x (flow_of f.0) exit ≡ false
      handled None o =
          settled_then weight (count here) x rs (count here) (stmt.Call into n words None ∷ []) exit (all_rows_at here s.scopes st placed k.args) (omega arith) le (λ u.
          ap (λ f. live_before x f (with_end (exit AtEnd) exit)) (flow_call into n words None) ∙ or_false (has (all_read words) x) (not (has into x) && exit AtEnd) (all_unread x words u) (target_written k.into (spread r) here x (exit AtEnd) le o.end))
      handled (Some h) o =
          let known = exception_of h.exception p in
          let value = option_map_or (λ (x : Exception). x.shape) known shape.Word in
          let s' : State = record s { scopes = check.after_target k.into r s.scopes } in
          let q = new_place (exception_shape known) behind in
          let inside : Places = ((h.name, q) ∷ []) ∷ behind in
          let ss = (flat_all (map flattening (map plain (h.body).stmts)) p inside).0 in
          let all = cleared k.into (spread r) here ++ ss in
          let v_words = words_of (exception_shape known) in
          let vs = numbers_from (count behind) v_words in
          let hd : Handler Stmt = record { exception = numbered (exception_index h.exception p); variables = vs; body = stmt.Seq all } in
          let pl : Placed inside = ((refl, tt), target_placed k.into (spread r) here placed) in
          let st' = static_more h.name q value behind s'.scopes (value_is known) (static_target k.into r here s.scopes st) in
          let body = live_before x (flow_of (stmt.Seq all)) exit in
          settled_then weight (count here) x rs (count here) (stmt.Call into n words (Some hd) ∷ []) exit (all_rows_at here s.scopes st placed k.args) (omega arith) le (λ u.
          ap (λ f. live_before x f (with_end (exit AtEnd) exit)) (flow_call into n words (Some hd))
          ∙ or_false (has (all_read words) x) ((not (has into x) && exit AtEnd) || (not (has vs x) && live_before x (flow_of (stmt.Seq all)) (with_end (exit AtEnd) exit))) (all_unread x words u)
          (or_false (not (has into x) && exit AtEnd) (not (has vs x) && live_before x (flow_of (stmt.Seq all)) (with_end (exit AtEnd) exit)) (target_written k.into (spread r) here x (exit AtEnd) le o.end)
          (handler_dry (count behind) v_words x (live_before x (flow_of (stmt.Seq all)) (with_end (exit AtEnd) exit)) (λ out.
          cleared_then k.into (spread r) here x ss (with_end (exit AtEnd) exit) le (λ lb.
          subst (λ zs. turn x zs (with_end (exit AtEnd) exit) ≡ false) (sym (append-nil ss))
          (order_dry (h.body).stmts l (record s' { scopes = ((h.name, value) ∷ []) ∷ s'.scopes }) inside st' pl x (inside_count (count behind) v_words x lb out) (with_end (exit AtEnd) exit)
          (record { end = λ g. o.end lb; breaks = o.breaks; continues = o.continues; returns = o.returns })))))))
  layer_dry (source.Return v) l place s here st placed x le exit o =
      let rs = (flat v here).rows in
      let ws = (settle rs (count here)).words in
      settled_then (check.judged v s.scopes).weight (count here) x rs (count here) (stmt.Return ws ∷ []) exit (rows_at here s.scopes st placed v) (omega arith) le (λ u.
      ap (λ f. live_before x f (with_end (exit AtEnd) exit)) (flow_return ws) ∙ or_false (has (all_read ws) x) (exit AtReturn) (all_unread x ws u) o.returns)
  layer_dry (source.TailCall y es) l place s here st placed x le exit o =
      let rs = rows_of (map (λ v. flat v here) es) in
      let ws = (settle rs (count here)).words in
      let n = numbered (function_index y p) in
      settled_then (check.weights (map (λ x. check.judged x s.scopes) es)) (count here) x rs (count here) (stmt.TailCall n ws ∷ []) exit (all_rows_at here s.scopes st placed es) (omega arith) le (λ u.
      ap (λ f. live_before x f (with_end (exit AtEnd) exit)) (flow_tail_call n ws) ∙ or_false (has (all_read ws) x) (exit AtReturn) (all_unread x ws u) o.returns)
  layer_dry (source.Raise y v) l place s here st placed x le exit o =
      let rs = (flat v here).rows in
      let ws = (settle rs (count here)).words in
      let n = numbered (exception_index y p) in
      settled_then (check.judged v s.scopes).weight (count here) x rs (count here) (stmt.Raise n ws ∷ []) exit (rows_at here s.scopes st placed v) (omega arith) le (λ u.
      ap (λ f. live_before x f (with_end (exit AtEnd) exit)) (flow_raise n ws) ∙ or_false (has (all_read ws) x) (exit AtReturn) (all_unread x ws u) o.returns)
  layer_dry (source.SharedLoad z y a) l place s here st placed x le exit o =
      let i = word_in (flat a here) in
      let q = (place_at (innermost y here)).first in
      ap (λ f. live_before x f exit) (flow_shared_load z q i) ∙ or_false (has (variables_read i) x) (not (has (q ∷ []) x) && exit AtEnd) (unread_at here s st placed x le a) (and_false (not (has (q ∷ []) x)) (exit AtEnd) (o.end le))
  layer_dry (source.SharedStore z a v) l place s here st placed x le exit o =
      let i = word_in (flat a here) in
      let j = word_in (flat v here) in
      ap (λ f. live_before x f exit) (flow_shared_store z i j) ∙ or_false (has (all_read (i ∷ j ∷ [])) x) (exit AtEnd) (all_unread x (i ∷ j ∷ []) (unread_at here s st placed x le a, (unread_at here s st placed x le v, tt))) (o.end le)
  layer_dry (source.Foreign y a b c f) l place s here st placed x le exit o =
      let n = numbered (foreign_index y p) in
      let i1 = word_in (flat a here) in let i2 = word_in (flat b here) in let i3 = word_in (flat c here) in let i4 = word_in (flat f here) in
      let es = i1 ∷ i2 ∷ i3 ∷ i4 ∷ [] in
      ap (λ f. live_before x f exit) (flow_foreign n i1 i2 i3 i4)
      ∙ or_false (has (all_read es) x) (exit AtEnd) (all_unread x es (unread_at here s st placed x le a, (unread_at here s st placed x le b, (unread_at here s st placed x le c, (unread_at here s st placed x le f, tt))))) (o.end le)

  kind_dry : (k : StmtKind) → NotLive k
  kind_dry = by_layers NotLive (λ y l place s here st placed x le exit.
      let z = map-StmtKind Known StmtKind (λ c. c.0) y in
      subst (λ (f : Flattening). Outside (count (f p here).1) x exit → live_before x (flow_of (f p here).0) exit ≡ false) (sym (stmt_roll z)) (layer_dry y l place s here st placed x le exit))

  all_dry : (ss : List (Spanned StmtKind)) (l : Bool) (s : State) (here : Places) → Static here s.scopes → Placed here → (x : ℕ) → count here ≤ x → turn x (flat_all (map flattening ss) p here).0 (λ exit. false) ≡ false
  all_dry [] l s here st placed x le = refl
  all_dry (y ∷ ys) l s here st placed x le =
      let next = (flat_stmt y.kind p here).1 in
      let rest = (flat_all (map flattening ys) p next).0 in
      let s' = (do_kind y.kind (at p result l) y.span.start s).state in
      kind_dry y.kind l y.span.start s here st placed x le (with_end (turn x rest (λ exit. false)) (λ exit. false))
      (record { end = λ ln. all_dry ys l s' next (static_behind (at p result l) y.span.start s here st y.kind) (next_placed y.kind l y.span.start s here st placed) x ln; breaks = refl; continues = refl; returns = refl })

-- ---- functions

function_written : (p : Source) (f : Function) → IsWritten (flow_of_function (flat_function p f))
function_written p f = record { none = λ x live. not_live x ((exact x flow (λ e. false) behind_function (λ e. (λ h. cc, λ l. absurd l.1))).1 live) }
  where
    here : Places
    here = with_parameters f.params ([] ∷ [])

    flow : Flow
    flow = flow_of_function (flat_function p f)

    body : (x : ℕ) → parameter_words f.params ≤ x → live_before x (flow_of (flat_function p f).body) (λ e. false) ≡ false
    body x le =
        let ss = (flat_all (map flattening (f.body).stmts) p here).0 in
        let c = parameters_count f.params ([] ∷ []) in
        let s : State = record { scopes = check.parameters f.params ∷ []; names = [] } in
        ap (λ g. live_before x g (λ e. false)) (flow_seq ss)
        ∙ all_dry p f.result (f.body).stmts false s here (static_parameters f.params ([] ∷ []) [] (record { same = refl })) (placed_parameters f.params ([] ∷ []) (tt, tt)) x (omega (arith, c, le))

    not_live : (x : ℕ) → live_before x flow (λ e. false) ≡ true → ⊥
    not_live x h =
        less_or x (parameter_words f.params) ⊥
        (λ l. let z = ap (λ b. not b && live_before x (flow_of (flat_function p f).body) (λ e. false)) (has_numbers 0 (parameter_words f.params) x (omega arith) (omega (arith, l))) in let no : false ≡ true = sym z ∙ h in cc)
        (λ l. let z = and_false (not (has (numbers_from 0 (parameter_words f.params)) x)) (live_before x (flow_of (flat_function p f).body) (λ e. false)) (body x l) in let no : false ≡ true = sym z ∙ h in cc)

all_written : (p : Source) (fs : List Function) → All (λ f. IsWritten (flow_of_function f)) (map (flat_function p) fs)
all_written p [] = All-nil (λ f. IsWritten (flow_of_function f))
all_written p (f ∷ fs) = All-cons (λ f. IsWritten (flow_of_function f)) (flat_function p f) (map (flat_function p) fs) (function_written p f) (all_written p fs)

pub written : (p : Source) → All (λ f. IsWritten (flow_of_function f)) (flattened p).functions
written p = all_written p p.functions
