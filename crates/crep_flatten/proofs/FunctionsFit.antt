-- Functions in words fit the frames that the source's functions cost.
use Rattle.std.proofs.Common.{ℕ, zero, suc, ◌+◌, ◌*◌, ◌≤◌, Bool, true, false, List, [], ◌∷◌, ◌++◌, map, length, replicate, append-nil, Option, Some, None, arith, refl, sym, ap, subst, ◌∙◌}
use Rattle.std.specs.Prelude.{max, nat_le, if◌then◌else◌}
use Rattle.std.specs.Option.{option_map_or}
use Rattle.std.specs.List.{list_any}
use Rattle.std.proofs.lemmas.List.{length-replicate}
use Rattle.pan_flow.specs.Functions.{variables}
use Rattle.pan_stage.specs.Locals.{numbers_from}
use Rattle.pan_stage.specs.Sums.{above}
use Rattle.pan_stage.specs.declared.program.Handler.{Handler}
use Rattle.pan_tree.specs.Scopes.{innermost}
use Rattle.pan_tree.specs.Shapes.{words_of}
use Rattle.pan_tree.specs.Check as check
use Rattle.pan_tree.specs.Check.{Judged, State, Doing, doing, in_order, do_layer, do_kind, result_of, function_of, exception_of, weights}
use Rattle.pan_tree.specs.Meaning.{function_index, exception_index, foreign_index}
use Rattle.pan_tree.specs.declared.shape.Shape.{Shape}
use Rattle.pan_tree.specs.declared.shape.Shape.TheVariants as shape
use Rattle.pan_tree.specs.declared.spanned.Spanned.{Spanned}
use Rattle.pan_tree.specs.declared.syntax.HandlerOf.{HandlerOf}
use Rattle.pan_tree.specs.declared.syntax.ExprKind.{ExprKind}
use Rattle.pan_tree.specs.declared.syntax.Target.{Target}
use Rattle.pan_tree.specs.declared.syntax.Target.TheVariants as target
use Rattle.pan_tree.specs.declared.syntax.StmtKind.{StmtKind, StmtKind-F, roll-StmtKind, map-StmtKind}
use Rattle.pan_tree.specs.declared.syntax.StmtKind.TheOpen as source
use Rattle.pan_tree.specs.declared.program.Exception.{Exception}
use Rattle.pan_tree.specs.declared.program.Program.{Program as Source}
use Rattle.pan_tree.proofs.CheckLayers.{do_roll}
use Rattle.pan_tree.proofs.MeaningLayers.{by_layers}
use Rattle.check_soundness.specs.Spread.{spread}
use Rattle.check_soundness.proofs.Alike.{spread_size}
use Rattle.crep_lang.specs.Needs.{between}
use Rattle.crep_lang.specs.Text.{variables_read, all_read, flow_of}
use Rattle.crep_lang.specs.declared.syntax.Expr.{Expr}
use Rattle.crep_lang.specs.declared.syntax.Expr.TheVariants as e
use Rattle.crep_lang.specs.declared.syntax.Stmt.{Stmt}
use Rattle.crep_lang.specs.declared.syntax.Stmt.TheVariants as stmt
use Rattle.crep_lang.proofs.Sizes.{between_skip, between_seq, between_assign, between_store_byte, between_if, between_while, between_break, between_continue, between_call, between_tail_call, between_return, between_raise, between_shared_load, between_shared_store, between_foreign}
use Rattle.crep_lang.proofs.Texts.{flow_skip, flow_store_byte, flow_if, flow_while, flow_break, flow_continue, flow_call, flow_tail_call, flow_return, flow_raise, flow_shared_load, flow_shared_store, flow_foreign}
use Rattle.crep_flatten.specs.declared.rows.Row.{Row}
use Rattle.crep_flatten.specs.Rows.{variables as row_variables, inlined, settle}
use Rattle.crep_flatten.specs.Flat.{Place, Places, count, flat, word_in}
use Rattle.crep_flatten.specs.Flattened.{assign_row, store_row, assigned, stored_words, stored, flat_all, Flattening, flattening, flat_layer, flat_stmt, after_target, results, new_place, place_at, numbered, rows_of, exception_shape, cleared}
use Rattle.crep_flatten.specs.Reads.{reads_memory}
use Rattle.crep_flatten.proofs.Costs.{Static, weights_more, rows_loads, rows_well, settled_well}
use Rattle.crep_flatten.proofs.Places.{static_behind, static_block, static_target, static_more, stmt_roll}
use Rattle.crep_flatten.proofs.CodeFits.{at, value_is, cheap_at, all_at}
use Rattle.crep_flatten.proofs.Low.{Placed, Within, innermost_within, placed_declare, declare_count, above_append, above_numbers, WordLow, word_more, low_num, low_var, RowsLow, WordsLow, words_more, variables_low}
use Rattle.crep_flatten.proofs.FramesFit.{top, seq_top, StmtsLow, none_low, more_low, append_low, stmts_more, assign_top, assigns_low, pair_reads, stores_low, settled_low, moved_low, Frame, Frames, seq_frame, row_low, rows_at, some_at, word_at, all_rows_at, last_low, last_frame}

-- ---- targets

place_below : (x : List ℕ) (here : Places) → Placed here → (place_at (innermost x here)).first ≤ count here
place_below x here placed = by (innermost x here) (innermost_within x here placed)
  where
    by : (o : Option Place) → Within (count here) o → (place_at o).first ≤ count here
    by None h = omega arith
    by (Some q) h = omega (arith, h)

results_below : (t : Target) (s : Shape) (here : Places) → Placed here → above (results t s here) ≤ count here + words_of s
results_below target.Nothing s here placed = omega arith
results_below (target.Old x) s here placed = let a = above_numbers (place_at (innermost x here)).first (words_of s) in let b = place_below x here placed in omega (arith, a, b)
results_below (target.New x) s here placed = let a = above_numbers (count here) (words_of s) in omega (arith, a)

pub target_count : (t : Target) (s : Shape) (here : Places) → count (after_target t s here) ≤ count here + words_of s
target_count target.Nothing s here = omega arith
target_count (target.Old x) s here = omega arith
target_count (target.New x) s here = declare_count x (new_place s here) here

pub target_placed : (t : Target) (s : Shape) (here : Places) → Placed here → Placed (after_target t s here)
target_placed target.Nothing s here h = h
target_placed (target.Old x) s here h = h
target_placed (target.New x) s here h = placed_declare x s here h

zeros_low : (c n : ℕ) → WordsLow 1 c (replicate n (e.Num 0))
zeros_low c zero = tt
zeros_low c (suc n) = (low_num 1 c 0 (omega arith), zeros_low c n)

cleared_low : (t : Target) (s : Shape) (here : Places) → StmtsLow 1 (count here + words_of s) (cleared t s here)
cleared_low target.Nothing s here = none_low 1 (count here + words_of s)
cleared_low (target.Old x) s here = none_low 1 (count here + words_of s)
cleared_low (target.New x) s here =
    let n = length-replicate {A = Expr} (words_of s) (e.Num 0) in
    assigns_low 1 (count here + words_of s) (count here) (replicate (words_of s) (e.Num 0)) (zeros_low (count here + words_of s) (words_of s)) (omega (arith, n))

stored_words_low : (k c a : ℕ) (ws : List Expr) (t : ℕ) → 2 ≤ k → a + 1 ≤ c → WordsLow k c ws → t + length ws ≤ c → StmtsLow (1 + k) c (stored_words a ws t)
stored_words_low k c a ws t some low h lt = by (list_any reads_memory ws)
  where
    at : WordLow k c (e.Var a)
    at = low_var k c a (omega (arith, some)) low

    by : (b : Bool) → StmtsLow (1 + k) c (if b then assign_row t ws ++ store_row (e.Var a) 0 (row_variables t (length ws)) else store_row (e.Var a) 0 ws)
    by true =
        let vs = row_variables t (length ws) in
        append_low (1 + k) c (assign_row t ws) (store_row (e.Var a) 0 vs) (stmts_more k (1 + k) c c (assign_row t ws) (omega arith) (omega arith) (assigns_low k c t ws h lt))
        (stores_low k c (e.Var a) 0 vs some at (variables_low k c t (length ws) (omega (arith, some)) (λ g. lt)))
    by false = stores_low k c (e.Var a) 0 ws some at h

-- what a store needs
stored_low : (a : Expr) (rs : List Row) (t c i j : ℕ) → 1 ≤ i → 1 ≤ j → WordLow i c a → RowsLow j c rs → c ≤ t → StmtsLow (1 + i + j) (1 + t + rows_loads rs + length (inlined rs)) (stored a rs t)
stored_low a rs t c i j some_i some_j ha h le = by (nat_le (length (settle rs (suc t)).words) 1)
  where
    by : (b : Bool) → let q = settle rs (suc t) in
        StmtsLow (1 + i + j) (1 + t + rows_loads rs + length (inlined rs)) (if b then q.before ++ store_row a 0 q.words else stmt.Assign t a ∷ (q.before ++ stored_words t q.words q.next))
    by true =
        let q = settle rs (suc t) in
        let k = i + j in
        let to = 1 + t + rows_loads rs + length (inlined rs) in
        let w = settled_well rs (suc t) in
        let high = w.high in
        let sl = settled_low j c rs (suc t) h (omega (arith, le)) in
        append_low (1 + i + j) to q.before (store_row a 0 q.words) (stmts_more j (1 + i + j) q.next to q.before (omega arith) (omega (arith, high)) sl.before)
        (stmts_more (1 + k) (1 + i + j) to to (store_row a 0 q.words) (omega arith) (omega arith)
        (stores_low k to a 0 q.words (omega (arith, some_i, some_j)) (word_more i k c to a (omega arith) (omega (arith, le)) ha) (words_more j k q.next to q.words (omega arith) (omega (arith, high)) sl.words)))
    by false =
        let q = settle rs (suc t) in
        let k = i + j in
        let to = 1 + t + rows_loads rs + length (inlined rs) in
        let w = settled_well rs (suc t) in
        let high = w.high in
        let low = w.low in
        let many = w.size in
        let sl = settled_low j c rs (suc t) h (omega (arith, le)) in
        let b = between_assign t a in
        let z = assign_top t a in
        let x = ha.temporary in
        let y = ha.below in
        let words_low = words_more j k q.next to q.words (omega arith) (omega (arith, high)) sl.words in
        let rest = stored_words t q.words q.next in
        more_low (1 + i + j) to (stmt.Assign t a) _ (omega (arith, b, x)) (omega (arith, z, y, le))
        (append_low (1 + i + j) to q.before rest (stmts_more j (1 + i + j) q.next to q.before (omega arith) (omega (arith, high)) sl.before)
        (stmts_more (1 + k) (1 + i + j) to to rest (omega arith) (omega arith) (stored_words_low k to t q.words q.next (omega (arith, some_i, some_j)) (omega arith) words_low (omega (arith, high, many)))))

-- ---- statements

module _ (p : Source) (result : Shape) where
  abbrev Fits : StmtKind → Type 0
  Fits k = (l : Bool) (place : ℕ) (s : State) (here : Places) → Static here s.scopes → Placed here → Frame (flat_stmt k p here).0 here (flat_stmt k p here).1 (do_kind k (at p result l) place s).weight

  abbrev Known : Type 0
  Known = (k : StmtKind) × Fits k

  abbrev plain : Spanned Known → Spanned StmtKind
  plain x = record { kind = x.kind.0; span = x.span }

  frames_more : (s : Stmt) (ss : List Stmt) (here next behind : Places) (n m : ℕ) → Frame s here next n → Frames ss next behind m → Frames (s ∷ ss) here behind (n + m)
  frames_more s ss here next behind n m f g =
      let a1 = f.between in let a2 = f.top in let a3 = f.count in let a4 = f.fits in
      let b1 = g.between in let b2 = g.top in let b3 = g.count in let b4 = g.fits in
      record { more = f.more + g.more; low = f.low + g.low; between = omega (arith, a1, b1); top = omega (arith, a2, a3, b2); count = omega (arith, a3, b3); placed = g.placed; fits = omega (arith, a4, b4) }

  order_frames : (ss : List (Spanned Known)) (l : Bool) (s : State) (here : Places) → Static here s.scopes → Placed here
      → Frames (flat_all (map flattening (map plain ss)) p here).0 here (flat_all (map flattening (map plain ss)) p here).1 (in_order (map doing (map plain ss)) (at p result l) s).weight
  order_frames [] l s here st placed = record { more = 0; low = 0; between = omega arith; top = omega arith; count = omega arith; placed = placed; fits = omega arith }
  order_frames (x ∷ xs) l s here st placed =
      let one = x.kind.1 l x.span.start s here st placed in
      let done = do_kind x.kind.0 (at p result l) x.span.start s in
      let next = (flat_stmt x.kind.0 p here).1 in
      let rest = order_frames xs l done.state next (static_behind (at p result l) x.span.start s here st x.kind.0) one.placed in
      frames_more (flat_stmt x.kind.0 p here).0 (flat_all (map flattening (map plain xs)) p next).0 here next (flat_all (map flattening (map plain xs)) p next).1 done.weight (in_order (map doing (map plain xs)) (at p result l) done.state).weight one rest

  -- one word, in a statement that declares nothing and has no blocks
  word_frame : (s : Stmt) (here : Places) (k more n : ℕ) → Placed here → between s ≤ k → top s ≤ count here + more → more + k ≤ 2 * n → Frame s here here n
  word_frame s here k more n placed b t le = record { more = more; low = k; between = b; top = t; count = omega arith; placed = placed; fits = le }

  abbrev inner : List (Spanned Known) → Places → List Stmt
  inner ss here = (flat_all (map flattening (map plain ss)) p ([] ∷ here)).0

  inner_frames : (ss : List (Spanned Known)) (l : Bool) (s : State) (here : Places) → Static here s.scopes → Placed here
      → Frames (inner ss here) ([] ∷ here) (flat_all (map flattening (map plain ss)) p ([] ∷ here)).1 (in_order (map doing (map plain ss)) (at p result l) (record s { scopes = [] ∷ s.scopes })).weight
  inner_frames ss l s here st placed = order_frames ss l (record s { scopes = [] ∷ s.scopes }) ([] ∷ here) (static_block here s.scopes st) (tt, placed)

  layer_frame : (y : StmtKind-F Known) (l : Bool) (place : ℕ) (s : State) (here : Places) → Static here s.scopes → Placed here → let z = map-StmtKind Known StmtKind (λ c. c.0) y in
      let f = flat_layer (map-StmtKind StmtKind Flattening flat_stmt z) p here in Frame f.0 here f.1 (do_layer (map-StmtKind StmtKind Doing do_kind z) (at p result l) place s).weight
  layer_frame source.Skip l place s here st placed = let b = between_skip in let t = ap (λ f. above (variables f)) flow_skip in word_frame stmt.Skip here 0 0 _ placed (omega (arith, b)) (omega (arith, t)) (omega arith)
  layer_frame (source.Decl x v) l place s here st placed =
      let f = flat v here in
      let n = words_of f.shape in
      let t = count here + n in
      let q = settle f.rows t in
      let j = check.judged v s.scopes in
      let k = j.weight in
      let c = cheap_at here s.scopes st v in
      let wide = c.wide in
      let size_is = c.size in
      let sw = settled_well f.rows t in
      let high = sw.high in
      let low = sw.low in
      let many = sw.size in
      let m = weights_more j [] in
      let sl = settled_low k (count here) f.rows t (rows_at here s.scopes st placed v) (omega arith) in
      let ss = q.before ++ assign_row (count here) q.words in
      let a = append_low k q.next q.before (assign_row (count here) q.words) sl.before (assigns_low k q.next (count here) q.words sl.words (omega (arith, many, size_is, low))) in
      let b = between_seq ss in
      let tt' = seq_top ss in
      let a1 = a.between in
      let a2 = a.top in
      let dc = declare_count x (new_place f.shape here) here in
      record { more = n + rows_loads f.rows; low = k; between = omega (arith, b, a1); top = omega (arith, tt', a2, high); count = omega (arith, dc); placed = placed_declare x f.shape here placed; fits = omega (arith, wide, m) }
  layer_frame (source.Assign x v) l place s here st placed =
      let f = flat v here in
      let t = count here in
      let q = settle f.rows t in
      let j = check.judged v s.scopes in
      let k = j.weight in
      let c = cheap_at here s.scopes st v in
      let wide = c.wide in
      let size_is = c.size in
      let sw = settled_well f.rows t in
      let high = sw.high in
      let low = sw.low in
      let many = sw.size in
      let m = weights_more j [] in
      let some = c.some in
      let at_x = (place_at (innermost x here)).first in
      let below = place_below x here placed in
      let more = rows_loads f.rows + words_of f.shape in
      let sl = settled_low k (count here) f.rows t (rows_at here s.scopes st placed v) (omega arith) in
      let top_is = count here + more in
      let ws = words_more k k q.next top_is q.words (omega arith) (omega (arith, high)) sl.words in
      let a = append_low k top_is q.before _ (stmts_more k k q.next top_is q.before (omega arith) (omega (arith, high)) sl.before) (moved_low k top_is at_x q.words q.next some ws (omega (arith, many, size_is, below)) (omega (arith, many, size_is, high))) in
      seq_frame k more (assigned at_x f.rows t) here _ placed a (omega (arith, wide, m))
  layer_frame (source.StoreWords a v) l place s here st placed =
      let i = check.judged a s.scopes in
      let j = check.judged v s.scopes in
      let c = cheap_at here s.scopes st v in
      let wide = c.wide in
      let size_is = c.size in
      let m = weights_more i (j ∷ []) in
      let n = weights_more j [] in
      let f = flat v here in
      let k = 1 + i.weight + j.weight in
      let more = 1 + rows_loads f.rows + length (inlined f.rows) in
      let low = stored_low (word_in (flat a here)) f.rows (count here) (count here) i.weight j.weight (some_at here s.scopes st placed a) (some_at here s.scopes st placed v) (word_at here s.scopes st placed a) (rows_at here s.scopes st placed v) (omega arith) in
      seq_frame k more (stored (word_in (flat a here)) f.rows (count here)) here _ placed (stmts_more k k _ (count here + more) _ (omega arith) (omega arith) low) (omega (arith, wide, size_is, m, n))
  layer_frame (source.StoreByte a v) l place s here st placed =
      let i = word_in (flat a here) in
      let j = word_in (flat v here) in
      let b = between_store_byte i j in
      let t = ap (λ f. above (variables f)) (flow_store_byte i j) ∙ pair_reads i j in
      let wa = word_at here s.scopes st placed a in
      let wv = word_at here s.scopes st placed v in
      let a1 = wa.temporary in let a2 = wa.below in let b1 = wv.temporary in let b2 = wv.below in
      let m = weights_more (check.judged a s.scopes) (check.judged v s.scopes ∷ []) in
      let n = weights_more (check.judged v s.scopes) [] in
      word_frame (stmt.StoreByte i j) here (2 + (check.judged a s.scopes).weight + (check.judged v s.scopes).weight) 0 _ placed (omega (arith, b, a1, b1)) (omega (arith, t, a2, b2)) (omega (arith, m, n))
  layer_frame (source.If v a b) l place s here st placed =
      let x = word_in (flat v here) in
      let y1 = inner a.stmts here in
      let y2 = inner b.stmts here in
      let one = in_order (map doing (map plain a.stmts)) (at p result l) (record s { scopes = [] ∷ s.scopes }) in
      let f = inner_frames a.stmts l s here st placed in
      let g = inner_frames b.stmts l (record { scopes = s.scopes; names = (one.state).names }) here st placed in
      let wv = word_at here s.scopes st placed v in
      let b1 = wv.temporary in let b2 = wv.below in
      let m = weights_more (check.judged v s.scopes) [] in
      let k = between_if x (stmt.Seq y1) (stmt.Seq y2) in
      let k1 = between_seq y1 in
      let k2 = between_seq y2 in
      let t = ap (λ f. above (variables f)) (flow_if x (stmt.Seq y1) (stmt.Seq y2)) ∙ above_append (variables_read x) (variables (flow_of (stmt.Seq y1)) ++ variables (flow_of (stmt.Seq y2))) ∙ ap (λ n. max (above (variables_read x)) n) (above_append (variables (flow_of (stmt.Seq y1))) (variables (flow_of (stmt.Seq y2)))) in
      let t1 = seq_top y1 in
      let t2 = seq_top y2 in
      let f1 = f.between in let f2 = f.top in let f4 = f.fits in
      let g1 = g.between in let g2 = g.top in let g4 = g.fits in
      word_frame (stmt.If x (stmt.Seq y1) (stmt.Seq y2)) here ((check.judged v s.scopes).weight + f.low + g.low) (f.more + g.more) _ placed (omega (arith, k, k1, k2, b1, f1, g1)) (omega (arith, t, t1, t2, b2, f2, g2)) (omega (arith, m, f4, g4))
  layer_frame (source.While v b) l place s here st placed =
      let x = word_in (flat v here) in
      let y2 = inner b.stmts here in
      let g = inner_frames b.stmts true s here st placed in
      let wv = word_at here s.scopes st placed v in
      let b1 = wv.temporary in let b2 = wv.below in
      let m = weights_more (check.judged v s.scopes) [] in
      let k = between_while [] x (stmt.Seq y2) in
      let k2 = between_seq y2 in
      let t = ap (λ f. above (variables f)) (flow_while [] x (stmt.Seq y2)) ∙ above_append (variables_read x) (variables (flow_of (stmt.Seq y2))) in
      let t2 = seq_top y2 in
      let g1 = g.between in let g2 = g.top in let g4 = g.fits in
      word_frame (stmt.While [] x (stmt.Seq y2)) here ((check.judged v s.scopes).weight + g.low) g.more _ placed (omega (arith, k, k2, b1, g1)) (omega (arith, t, t2, b2, g2)) (omega (arith, m, g4))
  layer_frame source.Break l place s here st placed = let b = between_break in let t = ap (λ f. above (variables f)) flow_break in word_frame stmt.Break here 0 0 _ placed (omega (arith, b)) (omega (arith, t)) (omega arith)
  layer_frame source.Continue l place s here st placed = let b = between_continue in let t = ap (λ f. above (variables f)) flow_continue in word_frame stmt.Continue here 0 0 _ placed (omega (arith, b)) (omega (arith, t)) (omega arith)
  layer_frame (source.Call k) l place s here st placed = handled k.handler
    where
      r : Shape
      r = result_of (function_of k.function p)

      behind : Places
      behind = after_target k.into (spread r) here

      rs : List Row
      rs = rows_of (map (λ v. flat v here) k.args)

      words : List Expr
      words = (settle rs (count here)).words

      into : List ℕ
      into = results k.into (spread r) here

      n : ℕ
      n = numbered (function_index k.function p)

      handled : (h : Option (HandlerOf (Spanned Known))) → let y : StmtKind-F Known = source.Call (record { into = k.into; function = k.function; args = k.args; handler = h }) in let z = map-StmtKind Known StmtKind (λ c. c.0) y in
          let f = flat_layer (map-StmtKind StmtKind Flattening flat_stmt z) p here in Frame f.0 here f.1 (do_layer (map-StmtKind StmtKind Doing do_kind z) (at p result l) place s).weight
      handled None =
          let js = map (λ x. check.judged x s.scopes) k.args in
          let kw = weights js in
          let l1 = last_low rs here kw (all_rows_at here s.scopes st placed k.args) in
          let few = l1.few in
          let temp = l1.temporary in
          let below = l1.below in
          let rw_ = rows_well (map (λ v. flat v here) k.args) js (all_at here s.scopes st k.args) in
          let wide = rw_.wide in
          let b = between_call into n words None in
          let t = ap (λ f. above (variables f)) (flow_call into n words None) ∙ above_append (all_read words) into in
          let rb = results_below k.into (spread r) here placed in
          let rz = spread_size r in
          let tc = target_count k.into (spread r) here in
          last_frame rs here behind (stmt.Call into n words None) kw (length (inlined rs)) _ (l1.more + words_of (spread r)) (kw + length (inlined rs)) (omega (arith, b, temp)) (omega arith) (omega (arith, t, below, rb)) l1 (omega arith) (omega (arith, tc)) (target_placed k.into (spread r) here placed) (omega (arith, few, wide, rz))
      handled (Some h) =
          let js = map (λ x. check.judged x s.scopes) k.args in
          let kw = weights js in
          let l1 = last_low rs here kw (all_rows_at here s.scopes st placed k.args) in
          let few = l1.few in
          let temp = l1.temporary in
          let below = l1.below in
          let rw_ = rows_well (map (λ v. flat v here) k.args) js (all_at here s.scopes st k.args) in
          let wide = rw_.wide in
          let rb = results_below k.into (spread r) here placed in
          let rz = spread_size r in
          let tc = target_count k.into (spread r) here in
          let known = exception_of h.exception p in
          let value = option_map_or (λ (x : Exception). x.shape) known shape.Word in
          let s' : State = record s { scopes = check.after_target k.into r s.scopes } in
          let q = new_place (exception_shape known) behind in
          let inside : Places = ((h.name, q) ∷ []) ∷ behind in
          let ss = (flat_all (map flattening (map plain (h.body).stmts)) p inside).0 in
          let all = cleared k.into (spread r) here ++ ss in
          let vs = numbers_from (count behind) (words_of (exception_shape known)) in
          let hd : Handler Stmt = record { exception = numbered (exception_index h.exception p); variables = vs; body = stmt.Seq all } in
          let pl : Placed inside = ((refl, tt), target_placed k.into (spread r) here placed) in
          let fr = order_frames (h.body).stmts l (record s' { scopes = ((h.name, value) ∷ []) ∷ s'.scopes }) inside (static_more h.name q value behind s'.scopes (value_is known) (static_target k.into r here s.scopes st)) pl in
          let f1 = fr.between in let f2 = fr.top in let f4 = fr.fits in
          let vz = ap words_of (value_is known) ∙ spread_size value in
          let cl = cleared_low k.into (spread r) here in
          let kk = 1 + fr.low in
          let cc' = count here + (words_of (spread r) + words_of (exception_shape known) + fr.more) in
          let body = append_low kk cc' (cleared k.into (spread r) here) ss (stmts_more 1 kk (count here + words_of (spread r)) cc' (cleared k.into (spread r) here) (omega arith) (omega arith) cl) (record { between = omega (arith, f1); top = omega (arith, f2, tc) }) in
          let c1 = body.between in
          let c2 = body.top in
          let b = between_call into n words (Some hd) in
          let b2 = between_seq all in
          let t2 = seq_top all in
          let va = above_numbers (count behind) (words_of (exception_shape known)) in
          let t = ap (λ f. above (variables f)) (flow_call into n words (Some hd)) ∙ above_append (all_read words) (into ++ (vs ++ variables (flow_of (stmt.Seq all)))) ∙ ap (λ n. max (above (all_read words)) n) (above_append into (vs ++ variables (flow_of (stmt.Seq all))) ∙ ap (λ n. max (above into) n) (above_append vs (variables (flow_of (stmt.Seq all))))) in
          last_frame rs here behind (stmt.Call into n words (Some hd)) kw (length (inlined rs)) _ (l1.more + words_of (spread r) + words_of (exception_shape known) + fr.more) (kw + length (inlined rs) + kk) (omega (arith, b, b2, c1, temp)) (omega arith) (omega (arith, t, t2, va, below, rb, c2, tc)) l1 (omega arith) (omega (arith, tc)) (target_placed k.into (spread r) here placed) (omega (arith, few, wide, rz, f4, vz))
  layer_frame (source.Return v) l place s here st placed =
      let rs = (flat v here).rows in
      let j = check.judged v s.scopes in
      let ws = (settle rs (count here)).words in
      let l1 = last_low rs here j.weight (rows_at here s.scopes st placed v) in
      let few = l1.few in let temp = l1.temporary in let below = l1.below in
      let c = cheap_at here s.scopes st v in
      let wide = c.wide in let size_is = c.size in
      let b = between_return ws in
      let t = ap (λ f. above (variables f)) (flow_return ws) ∙ ap above (append-nil (all_read ws)) in
      let m = weights_more j [] in
      last_frame rs here here (stmt.Return ws) j.weight (length (inlined rs)) _ l1.more (j.weight + length (inlined rs)) (omega (arith, b, temp)) (omega arith) (omega (arith, t, below)) l1 (omega arith) (omega arith) placed (omega (arith, few, wide, size_is, m))
  layer_frame (source.TailCall x es) l place s here st placed =
      let rs = rows_of (map (λ v. flat v here) es) in
      let js = map (λ x. check.judged x s.scopes) es in
      let ws = (settle rs (count here)).words in
      let n = numbered (function_index x p) in
      let l1 = last_low rs here (weights js) (all_rows_at here s.scopes st placed es) in
      let few = l1.few in let temp = l1.temporary in let below = l1.below in
      let rw_ = rows_well (map (λ v. flat v here) es) js (all_at here s.scopes st es) in
      let wide = rw_.wide in
      let b = between_tail_call n ws in
      let t = ap (λ f. above (variables f)) (flow_tail_call n ws) ∙ ap above (append-nil (all_read ws)) in
      last_frame rs here here (stmt.TailCall n ws) (weights js) (length (inlined rs)) _ l1.more (weights js + length (inlined rs)) (omega (arith, b, temp)) (omega arith) (omega (arith, t, below)) l1 (omega arith) (omega arith) placed (omega (arith, few, wide))
  layer_frame (source.Raise x v) l place s here st placed =
      let rs = (flat v here).rows in
      let j = check.judged v s.scopes in
      let ws = (settle rs (count here)).words in
      let n = numbered (exception_index x p) in
      let l1 = last_low rs here j.weight (rows_at here s.scopes st placed v) in
      let few = l1.few in let temp = l1.temporary in let below = l1.below in
      let c = cheap_at here s.scopes st v in
      let wide = c.wide in let size_is = c.size in
      let b = between_raise n ws in
      let t = ap (λ f. above (variables f)) (flow_raise n ws) ∙ ap above (append-nil (all_read ws)) in
      let m = weights_more j [] in
      last_frame rs here here (stmt.Raise n ws) j.weight (length (inlined rs)) _ l1.more (j.weight + length (inlined rs)) (omega (arith, b, temp)) (omega arith) (omega (arith, t, below)) l1 (omega arith) (omega arith) placed (omega (arith, few, wide, size_is, m))
  layer_frame (source.SharedLoad z x a) l place s here st placed =
      let i = word_in (flat a here) in
      let q = (place_at (innermost x here)).first in
      let b = between_shared_load z q i in
      let t = ap (λ f. above (variables f)) (flow_shared_load z q i) ∙ above_append (variables_read i) (q ∷ []) in
      let below = place_below x here placed in
      let wa = word_at here s.scopes st placed a in
      let a1 = wa.temporary in let a2 = wa.below in
      let m = weights_more (check.judged a s.scopes) [] in
      word_frame (stmt.SharedLoad z q i) here (check.judged a s.scopes).weight 1 _ placed (omega (arith, b, a1)) (omega (arith, t, a2, below)) (omega (arith, m))
  layer_frame (source.SharedStore z a v) l place s here st placed =
      let i = word_in (flat a here) in
      let j = word_in (flat v here) in
      let b = between_shared_store z i j in
      let t = ap (λ f. above (variables f)) (flow_shared_store z i j) ∙ pair_reads i j in
      let wa = word_at here s.scopes st placed a in
      let wv = word_at here s.scopes st placed v in
      let a1 = wa.temporary in let a2 = wa.below in let b1 = wv.temporary in let b2 = wv.below in
      let m = weights_more (check.judged a s.scopes) (check.judged v s.scopes ∷ []) in
      let n = weights_more (check.judged v s.scopes) [] in
      word_frame (stmt.SharedStore z i j) here (2 + (check.judged a s.scopes).weight + (check.judged v s.scopes).weight) 0 _ placed (omega (arith, b, a1, b1)) (omega (arith, t, a2, b2)) (omega (arith, m, n))
  layer_frame (source.Foreign x a b c f) l place s here st placed =
      let j = λ (y : Spanned ExprKind). check.judged y s.scopes in
      let n = numbered (foreign_index x p) in
      let i1 = word_in (flat a here) in let i2 = word_in (flat b here) in let i3 = word_in (flat c here) in let i4 = word_in (flat f here) in
      let k = between_foreign n i1 i2 i3 i4 in
      let t = ap (λ f. above (variables f)) (flow_foreign n i1 i2 i3 i4) ∙ ap above (append-nil (all_read (i1 ∷ i2 ∷ i3 ∷ i4 ∷ []))) in
      let m1 = weights_more (j a) (j b ∷ j c ∷ j f ∷ []) in
      let m2 = weights_more (j b) (j c ∷ j f ∷ []) in
      let m3 = weights_more (j c) (j f ∷ []) in
      let m4 = weights_more (j f) [] in
      let most_w = (j a).weight + (j b).weight + (j c).weight + (j f).weight in
      let w1 = word_more (j a).weight most_w (count here) (count here) i1 (omega arith) (omega arith) (word_at here s.scopes st placed a) in
      let w2 = word_more (j b).weight most_w (count here) (count here) i2 (omega arith) (omega arith) (word_at here s.scopes st placed b) in
      let w3 = word_more (j c).weight most_w (count here) (count here) i3 (omega arith) (omega arith) (word_at here s.scopes st placed c) in
      let w4 = word_more (j f).weight most_w (count here) (count here) i4 (omega arith) (omega arith) (word_at here s.scopes st placed f) in
      let r = row_low most_w (count here) (i1 ∷ i2 ∷ i3 ∷ i4 ∷ []) (w1, (w2, (w3, (w4, tt)))) in
      let r1 = r.0 in
      let r2 = r.1 in
      word_frame (stmt.Foreign n i1 i2 i3 i4) here (most_w + 4) 0 _ placed (omega (arith, k, r1)) (omega (arith, t, r2)) (omega (arith, m1, m2, m3, m4))

  pub kind_frame : (k : StmtKind) → Fits k
  kind_frame = by_layers Fits (λ y l place s here st placed.
      let z = map-StmtKind Known StmtKind (λ c. c.0) y in
      subst (λ (f : Flattening). Frame (f p here).0 here (f p here).1 (do_kind (roll-StmtKind z) (at p result l) place s).weight) (sym (stmt_roll z))
      (subst (λ (d : Doing). let f = flat_layer (map-StmtKind StmtKind Flattening flat_stmt z) p here in Frame f.0 here f.1 (d (at p result l) place s).weight) (sym (do_roll z)) (layer_frame y l place s here st placed)))

  -- statements one after another
  pub all_frames : (ss : List (Spanned StmtKind)) (l : Bool) (s : State) (here : Places) → Static here s.scopes → Placed here
      → Frames (flat_all (map flattening ss) p here).0 here (flat_all (map flattening ss) p here).1 (in_order (map doing ss) (at p result l) s).weight
  all_frames [] l s here st placed = record { more = 0; low = 0; between = omega arith; top = omega arith; count = omega arith; placed = placed; fits = omega arith }
  all_frames (x ∷ xs) l s here st placed =
      let one = kind_frame x.kind l x.span.start s here st placed in
      let done = do_kind x.kind (at p result l) x.span.start s in
      let next = (flat_stmt x.kind p here).1 in
      let rest = all_frames xs l done.state next (static_behind (at p result l) x.span.start s here st x.kind) one.placed in
      frames_more (flat_stmt x.kind p here).0 (flat_all (map flattening xs) p next).0 here next (flat_all (map flattening xs) p next).1 done.weight (in_order (map doing xs) (at p result l) done.state).weight one rest
