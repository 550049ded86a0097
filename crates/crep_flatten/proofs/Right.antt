-- What functions in words mention is there, with as many words as they pass and take.
use Rattle.std.proofs.Common.{◌≡◌, ◌⊎◌, ℕ, zero, suc, ◌+◌, ◌≤◌, ◌<◌, ◌&&◌, ◌||◌, not, Bool, true, false, nat_eq, List, [], ◌∷◌, ◌++◌, map, sum, length, replicate, Option, Some, None, slice_get, arith, refl, sym, ap, subst, ◌∙◌}
use Rattle.std.specs.Prelude.{nat_lt, nat_le, ◌==◌, if◌then◌else◌, flat_map, option_map}
use Rattle.std.specs.List.{list_all, list_any}
use Rattle.std.specs.Option.{option_map_or}
use Rattle.std.specs.Str.{bytes_eq}
use Rattle.std.proofs.Math.Logic.{inl, inr}
use Rattle.std.proofs.lemmas.Bool.Decides.{nat_tests}
use Rattle.std.proofs.lemmas.Option.{slice_get-map}
use Rattle.std.proofs.lemmas.List.Folds.{list_all-append}
use Rattle.std.proofs.lemmas.List.Quantifiers.{position-Some}
use Rattle.pan_stage.specs.Locals.{numbers_from}
use Rattle.pan_stage.specs.Mentions.{Mention, Scope, Arity, is_right, is_some_and, scope_of}
use Rattle.pan_stage.specs.Mentions as mention
use Rattle.pan_stage.specs.declared.program.Handler.{Handler}
use Rattle.pan_tree.specs.Scopes.{innermost}
use Rattle.pan_tree.specs.Shapes.{words_of, same}
use Rattle.pan_tree.specs.Check as check
use Rattle.pan_tree.specs.Check.{Judged, State, Doing, doing, in_order, do_layer, do_kind, breaks_of, no_value, is_other, wrong_count, wrong_shape, differ, is_new_twice, is_old_unknown, is_old_other, result_of, function_of, exception_of, foreign_names, parameter_words, with_name, is_too_many, has_no_word, IsWellShaped}
use Rattle.pan_tree.specs.Meaning.{function_index, exception_index, foreign_index}
use Rattle.pan_tree.specs.declared.rule.Rule.TheVariants.{TwoNames, UnknownName, UnknownFunction, UnknownException, WrongShape, WrongCount}
use Rattle.pan_tree.specs.declared.shape.Shape.{Shape}
use Rattle.pan_tree.specs.declared.shape.Shape.TheVariants as shape
use Rattle.pan_tree.specs.declared.spanned.Spanned.{Spanned}
use Rattle.pan_tree.specs.declared.syntax.HandlerOf.{HandlerOf}
use Rattle.pan_tree.specs.declared.syntax.ExprKind.{ExprKind}
use Rattle.pan_tree.specs.declared.syntax.Target.{Target}
use Rattle.pan_tree.specs.declared.syntax.Target.TheVariants as target
use Rattle.pan_tree.specs.declared.syntax.StmtKind.{StmtKind, StmtKind-F, roll-StmtKind, map-StmtKind, fold-roll-StmtKind}
use Rattle.pan_tree.specs.declared.syntax.StmtKind.TheOpen as source
use Rattle.pan_tree.specs.declared.program.Param.{Param}
use Rattle.pan_tree.specs.declared.program.Exception.{Exception}
use Rattle.pan_tree.specs.declared.program.Function.{Function}
use Rattle.pan_tree.specs.declared.program.Program.{Program as Source}
use Rattle.pan_tree.proofs.CheckLayers.{do_roll}
use Rattle.pan_tree.proofs.MeaningLayers.{by_layers}
use Rattle.check_soundness.specs.Spread.{spread}
use Rattle.check_soundness.proofs.SpreadShapes.{both_true, same_spread}
use Rattle.check_soundness.proofs.Alike.{spread_size, sum_more}
use Rattle.check_soundness.proofs.Rules.{unbroken, append_none, neither, not_false}
use Rattle.check_soundness.proofs.Fitting.{differ_none}
use Rattle.check_soundness.proofs.Named.{found_at, any_found}
use Rattle.check_soundness.proofs.CheckedStmts.{Among, among_then, order_names, own_name}
use Rattle.crep_lang.specs.Text.{arity, mentioned, all_mentioned, mentions}
use Rattle.crep_lang.specs.declared.syntax.Expr.{Expr}
use Rattle.crep_lang.specs.declared.syntax.Expr.TheVariants as e
use Rattle.crep_lang.specs.declared.syntax.Stmt.{Stmt}
use Rattle.crep_lang.specs.declared.syntax.Stmt.TheVariants as stmt
use Rattle.crep_lang.proofs.Texts.{mentions_skip, mentions_seq, mentions_assign, mentions_store_word, mentions_store_byte, mentions_if, mentions_while, mentions_break, mentions_continue, mentions_call, mentions_tail_call, mentions_return, mentions_raise, mentions_shared_load, mentions_shared_store, mentions_foreign}
use Rattle.crep_flatten.specs.declared.rows.Row.{Row}
use Rattle.crep_flatten.specs.declared.rows.Row.TheVariants as row
use Rattle.crep_flatten.specs.Rows.{far, loads, variables, inlined, settle}
use Rattle.crep_flatten.specs.Flat.{Places, count, flat, word_in}
use Rattle.crep_flatten.specs.Reads.{is_variable, go_straight, reads_memory}
use Rattle.crep_flatten.specs.Flattened.{assign_row, store_row, one_move, moves, moved, assigned, stored_words, stored, flat_all, Flattening, flattening, flat_layer, flat_stmt, after_target, results, new_place, place_at, numbered, rows_of, exception_shape, cleared, flat_function, flattened}
use Rattle.crep_flatten.specs.Literals.{fits, stmt_layer, stmt_fits}
use Rattle.crep_flatten.proofs.RowWords.{count_variables}
use Rattle.crep_flatten.proofs.Costs.{Static, weights_more, rows_well, settled_well}
use Rattle.crep_flatten.proofs.Places.{static_behind, static_block, static_target, static_more, stmt_roll}
use Rattle.crep_flatten.proofs.Calls.{known_is}
use Rattle.crep_flatten.proofs.Catching.{count_numbers}
use Rattle.crep_flatten.proofs.CodeFits.{at, value_is, cheap_at, all_at}
use Rattle.crep_flatten.proofs.RightWords.{both_hold, AreOk, ok_append, WordOk, RowsOk, rows_append, first_ok, WordsOk, words_ok_append, all_ok, variables_ok, zeros_ok, kind_ok, far_ok, loads_ok, var_ok}

stmt_fits_roll : (y : StmtKind-F StmtKind) → stmt_fits (roll-StmtKind y) ≡ stmt_layer (map-StmtKind StmtKind Bool stmt_fits y)
unfolding stmt_fits
stmt_fits_roll y = fold-roll-StmtKind Bool stmt_layer y

same_eq : (n m : ℕ) → n ≡ m → (n == m) ≡ true
same_eq n m h = grind (arith, nat_tests)

-- ---- rows of statements

module _ (sc : Scope) (own : ℕ) where
  abbrev MentionsOk : List Stmt → Type 0
  MentionsOk ss = AreOk sc own (flat_map (λ s. s) (map mentions ss))

  stmts_append : (ss ts : List Stmt) → MentionsOk ss → MentionsOk ts → MentionsOk (ss ++ ts)
  stmts_append [] ts h g = g
  stmts_append (s ∷ ss) ts h g =
      let both = split (mentions s) (flat_map (λ s. s) (map mentions ss)) h in
      ok_append sc own (mentions s) (flat_map (λ s. s) (map mentions (ss ++ ts))) both.0 (stmts_append ss ts both.1 g)
    where
      split : (ms ns : List Mention) → AreOk sc own (ms ++ ns) → AreOk sc own ms × AreOk sc own ns
      split ms ns h = both_true (list_all (is_right sc own) ms) (list_all (is_right sc own) ns) (sym (list_all-append (is_right sc own) ms ns) ∙ h)

  more_ok : (s : Stmt) (ss : List Stmt) → AreOk sc own (mentions s) → MentionsOk ss → MentionsOk (s ∷ ss)
  more_ok s ss h g = ok_append sc own (mentions s) (flat_map (λ s. s) (map mentions ss)) h g

  pub seq_ok : (ss : List Stmt) → MentionsOk ss → AreOk sc own (mentions (stmt.Seq ss))
  seq_ok ss h = ap (list_all (is_right sc own)) (mentions_seq ss) ∙ h

  assigns_ok : (x : ℕ) (ws : List Expr) → WordsOk sc own ws → MentionsOk (assign_row x ws)
  assigns_ok x [] h = refl
  assigns_ok x (w ∷ ws) h = more_ok (stmt.Assign x w) (assign_row (suc x) ws) (ap (list_all (is_right sc own)) (mentions_assign x w) ∙ h.0) (assigns_ok (suc x) ws h.1)

  -- settled words, and the statements before them
  record SettledOk (ss : List Stmt) (ws : List Expr) : Type 0 where
    pub before : MentionsOk ss
    pub words : WordsOk sc own ws

  settled_ok : (rs : List Row) (t : ℕ) → RowsOk sc own rs → SettledOk (settle rs t).before (settle rs t).words
  settled_ok [] t h = record { before = refl; words = tt }
  settled_ok (row.Variables x n ∷ rs) t h = let r = settled_ok rs t h.1 in record { before = r.before; words = words_ok_append sc own (variables x n) (settle rs t).words (variables_ok sc own x n) r.words }
  settled_ok (row.One w ∷ rs) t h = let r = settled_ok rs t h.1 in record { before = r.before; words = (h.0, r.words) }
  settled_ok (row.Loads a i n ∷ rs) t h = by (nat_le 2 n) (settled_ok rs t h.1) (settled_ok rs (suc t) h.1)
    where
      by : (b : Bool) → SettledOk (settle rs t).before (settle rs t).words → SettledOk (settle rs (suc t)).before (settle rs (suc t)).words
          → let q = if b then (let g = settle rs (suc t) in record g { before = stmt.Assign t a ∷ g.before; words = loads (e.Var t) i n ++ g.words }) else (let g = settle rs t in record g { words = loads a i n ++ g.words }) in
          SettledOk q.before q.words
      by true r r' =
          record {
            before = more_ok (stmt.Assign t a) (settle rs (suc t)).before (ap (list_all (is_right sc own)) (mentions_assign t a) ∙ (h.0).1) r'.before;
            words = words_ok_append sc own (loads (e.Var t) i n) (settle rs (suc t)).words (loads_ok sc own (e.Var t) i n (h.0).0 (var_ok sc own t)) r'.words;
          }
      by false r r' = record { before = r.before; words = words_ok_append sc own (loads a i n) (settle rs t).words (loads_ok sc own a i n (h.0).0 (h.0).1) r.words }

  moves_ok : (x : ℕ) (ws : List Expr) → WordsOk sc own ws → MentionsOk (moves x ws)
  moves_ok x [] h = refl
  moves_ok x (w ∷ ws) h = stmts_append (one_move x w) (moves (suc x) ws) (by (is_variable w x)) (moves_ok (suc x) ws h.1)
    where
      by : (b : Bool) → MentionsOk (if b then [] else stmt.Assign x w ∷ [])
      by true = refl
      by false = more_ok (stmt.Assign x w) [] (ap (list_all (is_right sc own)) (mentions_assign x w) ∙ h.0) refl

  moved_ok : (x : ℕ) (ws : List Expr) (t : ℕ) → WordsOk sc own ws → MentionsOk (moved x ws t)
  moved_ok x ws t h = by (go_straight x 0 ws)
    where
      by : (b : Bool) → MentionsOk (if b then moves x ws else assign_row t ws ++ assign_row x (variables t (length ws)))
      by true = moves_ok x ws h
      by false = stmts_append (assign_row t ws) (assign_row x (variables t (length ws))) (assigns_ok t ws h) (assigns_ok x (variables t (length ws)) (variables_ok sc own t (length ws)))

  -- so many words behind an address, no more than a function weighs
  stores_ok : (a : Expr) (i : ℕ) (ws : List Expr) → i + length ws ≤ 16384 → WordOk sc own a → WordsOk sc own ws → MentionsOk (store_row a i ws)
  stores_ok a i [] le ha h = refl
  stores_ok a i (w ∷ ws) le ha h =
      more_ok (stmt.StoreWord (far a i) w) (store_row a (suc i) ws)
      (ap (list_all (is_right sc own)) (mentions_store_word (far a i) w) ∙ ok_append sc own (mentioned (far a i)) (mentioned w) (far_ok sc own a i (omega (arith, le)) ha) h.0)
      (stores_ok a (suc i) ws (omega (arith, le)) ha h.1)

  stored_words_ok : (a : ℕ) (ws : List Expr) (t : ℕ) → length ws ≤ 16384 → WordsOk sc own ws → MentionsOk (stored_words a ws t)
  stored_words_ok a ws t le h = by (list_any reads_memory ws)
    where
      by : (b : Bool) → MentionsOk (if b then assign_row t ws ++ store_row (e.Var a) 0 (variables t (length ws)) else store_row (e.Var a) 0 ws)
      by true =
          let vs = variables t (length ws) in
          let n = count_variables t (length ws) in
          stmts_append (assign_row t ws) (store_row (e.Var a) 0 vs) (assigns_ok t ws h) (stores_ok (e.Var a) 0 vs (omega (arith, n, le)) (var_ok sc own a) (variables_ok sc own t (length ws)))
      by false = stores_ok (e.Var a) 0 ws (omega (arith, le)) (var_ok sc own a) h

  stored_ok : (a : Expr) (rs : List Row) (t : ℕ) → length (inlined rs) ≤ 16384 → WordOk sc own a → RowsOk sc own rs → MentionsOk (stored a rs t)
  stored_ok a rs t le ha h = by (nat_le (length (settle rs (suc t)).words) 1)
    where
      by : (b : Bool) → let q = settle rs (suc t) in
          MentionsOk (if b then q.before ++ store_row a 0 q.words else stmt.Assign t a ∷ (q.before ++ stored_words t q.words q.next))
      by true =
          let q = settle rs (suc t) in
          let s = settled_ok rs (suc t) h in
          let w = settled_well rs (suc t) in
          let z = w.size in
          stmts_append q.before (store_row a 0 q.words) s.before (stores_ok a 0 q.words (omega (arith, z, le)) ha s.words)
      by false =
          let q = settle rs (suc t) in
          let s = settled_ok rs (suc t) h in
          let w = settled_well rs (suc t) in
          let z = w.size in
          let rest = stored_words t q.words q.next in
          more_ok (stmt.Assign t a) (q.before ++ rest) (ap (list_all (is_right sc own)) (mentions_assign t a) ∙ ha) (stmts_append q.before rest s.before (stored_words_ok t q.words q.next (omega (arith, z, le)) s.words))

  -- the last of some statements
  last_ok : (rs : List Row) (t : ℕ) (last : Stmt) → RowsOk sc own rs → AreOk sc own (mentions last) → AreOk sc own (mentions (stmt.Seq ((settle rs t).before ++ last ∷ [])))
  last_ok rs t last h g = let s = settled_ok rs t h in seq_ok ((settle rs t).before ++ last ∷ []) (stmts_append (settle rs t).before (last ∷ []) s.before (more_ok last [] g refl))

-- ---- calls

-- what a program's functions take and return
module _ (p : Source) where
  abbrev scope : Scope
  scope = scope_of arity (flattened p)

  arity_at : (i : ℕ) (g : Function) → slice_get p.functions i ≡ Some g → slice_get scope.arities i ≡ Some (record { parameters = parameter_words g.params; results = words_of g.result })
  arity_at i g h = slice_get-map arity (map (flat_function p) p.functions) i ∙ ap (option_map arity) (slice_get-map (flat_function p) p.functions i ∙ ap (option_map (flat_function p)) h)

  width_at : (i : ℕ) (x : Exception) → slice_get p.exceptions i ≡ Some x → slice_get scope.widths i ≡ Some (words_of x.shape)
  width_at i x h = slice_get-map (λ (x : Exception). words_of x.shape) p.exceptions i ∙ ap (option_map (λ (x : Exception). words_of x.shape)) h

  -- the parameters' words
  spread_words : (ps : List Param) → sum (map words_of (map (λ (p : Param). spread p.shape) ps)) ≡ parameter_words ps
  spread_words [] = refl
  spread_words (p ∷ ps) =
      sum_more (words_of (spread p.shape)) (map words_of (map (λ (p : Param). spread p.shape) ps)) ∙ ap (λ n. n + sum (map words_of (map (λ (p : Param). spread p.shape) ps))) (spread_size p.shape) ∙ ap (λ n. words_of p.shape + n) (spread_words ps)
      ∙ sym (sum_more (words_of p.shape) (map (λ (p : Param). words_of p.shape) ps))

  -- the words of arguments that fit
  arguments_many : (es : List (Spanned ExprKind)) (here : Places) (v : check.Scopes) (t : ℕ) → Static here v → (o : Option Function) (g : Function) → o ≡ Some g → let js = map (λ x. check.judged x v) es in
      wrong_count o js ≡ false → wrong_shape o js ≡ false → length (settle (rows_of (map (λ x. flat x here) es)) t).words ≡ parameter_words g.params
  arguments_many es here v t st o g is few same_so =
      let js = map (λ x. check.judged x v) es in
      let n : nat_eq (length g.params) (length js) ≡ true = not_false (nat_eq (length g.params) (length js)) (sym (ap (λ o. wrong_count o js) is) ∙ few) in
      let fit = differ_none g.params js n (sym (ap (λ b. b && differ g.params js) n) ∙ sym (ap (λ o. wrong_shape o js) is) ∙ same_so) in
      let r = rows_well (map (λ x. flat x here) es) js (all_at here v st es) in
      let w = settled_well (rows_of (map (λ x. flat x here) es)) t in
      w.size ∙ r.size ∙ ap (λ ss. sum (map words_of ss)) (r.shapes ∙ fit) ∙ spread_words g.params

  call_ok : (own f n m : ℕ) (g : Function) → slice_get p.functions f ≡ Some g → n ≡ parameter_words g.params → (m ≡ 0) ⊎ (m ≡ words_of g.result) → is_right scope own (mention.Called f n m) ≡ true
  call_ok own f n m g h few out =
      ap (is_some_and (λ (a : Arity). n == a.parameters && (m == 0 || m == a.results))) (arity_at f g h) ∙ both_hold (n == parameter_words g.params) (m == 0 || m == words_of g.result) (same_eq n (parameter_words g.params) few) (by out)
    where
      by : (m ≡ 0) ⊎ (m ≡ words_of g.result) → (m == 0 || m == words_of g.result) ≡ true
      by (inl z) = ap (λ b. b || m == words_of g.result) (same_eq m 0 z)
      by (inr z) = or_true (m == 0) (m == words_of g.result) (same_eq m (words_of g.result) z)
        where
          or_true : (a b : Bool) → b ≡ true → (a || b) ≡ true
          or_true true b h = refl
          or_true false b h = h

  tail_ok : (own f n : ℕ) (g : Function) → slice_get p.functions f ≡ Some g → n ≡ parameter_words g.params → words_of g.result ≡ own → is_right scope own (mention.TailCalled f n) ≡ true
  tail_ok own f n g h few out =
      ap (is_some_and (λ (a : Arity). n == a.parameters && a.results == own)) (arity_at f g h) ∙ both_hold (n == parameter_words g.params) (words_of g.result == own) (same_eq n (parameter_words g.params) few) (same_eq (words_of g.result) own out)

  width_ok : (i n : ℕ) (x : Exception) → slice_get p.exceptions i ≡ Some x → n ≡ words_of x.shape → is_some_and (λ width. n == width) (slice_get scope.widths i) ≡ true
  width_ok i n x h e = ap (is_some_and (λ width. n == width)) (width_at i x h) ∙ same_eq n (words_of x.shape) e

  results_many : (t : Target) (s : Shape) (here : Places) → (length (results t s here) ≡ 0) ⊎ (length (results t s here) ≡ words_of s)
  results_many target.Nothing s here = inl refl
  results_many (target.Old x) s here = inr (count_numbers (place_at (innermost x here)).first (words_of s))
  results_many (target.New x) s here = inr (count_numbers (count here) (words_of s))

  cleared_ok : (own : ℕ) (t : Target) (s : Shape) (here : Places) → MentionsOk scope own (cleared t s here)
  cleared_ok own target.Nothing s here = refl
  cleared_ok own (target.Old x) s here = refl
  cleared_ok own (target.New x) s here = assigns_ok scope own (count here) (replicate (words_of s) (e.Num 0)) (all_zero (words_of s))
    where
      all_zero : (n : ℕ) → WordsOk scope own (replicate n (e.Num 0))
      all_zero zero = tt
      all_zero (suc n) = (zeros_ok scope own 0, all_zero n)

  -- ---- statements

  module _ (result : Shape) where
    abbrev own : ℕ
    own = words_of result

    abbrev IsOk : StmtKind → Type 0
    IsOk k = (l : Bool) (place : ℕ) (s : State) (here : Places) → Static here s.scopes → let d = do_kind k (at p result l) place s in d.breaks ≡ [] → d.weight ≤ 16384 → Among (d.state).names (foreign_names p) → stmt_fits k ≡ true → AreOk scope own (mentions (flat_stmt k p here).0)

    abbrev Known : Type 0
    Known = (k : StmtKind) × IsOk k

    abbrev plain : Spanned Known → Spanned StmtKind
    plain x = record { kind = x.kind.0; span = x.span }

    abbrev fitting : Spanned StmtKind → Spanned Bool
    fitting x = record { kind = stmt_fits x.kind; span = x.span }

    order_ok : (ss : List (Spanned Known)) (l : Bool) (s : State) (here : Places) → Static here s.scopes → let d = in_order (map doing (map plain ss)) (at p result l) s in d.breaks ≡ [] → d.weight ≤ 16384 → Among (d.state).names (foreign_names p) → list_all (λ (x : Spanned Bool). x.kind) (map fitting (map plain ss)) ≡ true
        → MentionsOk scope own (flat_all (map flattening (map plain ss)) p here).0
    order_ok [] l s here st none few among fit = refl
    order_ok (x ∷ xs) l s here st none few among fit =
        let one = do_kind x.kind.0 (at p result l) x.span.start s in
        let others = in_order (map doing (map plain xs)) (at p result l) one.state in
        let both = append_none one.breaks others.breaks none in
        let f = both_true (stmt_fits x.kind.0) (list_all (λ (x : Spanned Bool). x.kind) (map fitting (map plain xs))) fit in
        let next = (flat_stmt x.kind.0 p here).1 in
        more_ok scope own (flat_stmt x.kind.0 p here).0 (flat_all (map flattening (map plain xs)) p next).0
        (x.kind.1 l x.span.start s here st both.0 (omega (arith, few)) (among_then (one.state).names (others.state).names (foreign_names p) (order_names (map plain xs) (at p result l) one.state) among) f.0)
        (order_ok xs l one.state next (static_behind (at p result l) x.span.start s here st x.kind.0) both.1 (omega (arith, few)) among f.1)

    abbrev inner : List (Spanned Known) → Places → List Stmt
    inner ss here = (flat_all (map flattening (map plain ss)) p ([] ∷ here)).0

    -- an expression's rows and its word
    rows_ok : (x : Spanned ExprKind) (v : check.Scopes) (here : Places) → (check.judged x v).breaks ≡ [] → fits x ≡ true → RowsOk scope own (flat x here).rows
    rows_ok x v here none fit = kind_ok scope own x.kind x.span.start here v none fit

    word_ok : (x : Spanned ExprKind) (v : check.Scopes) (here : Places) → (check.judged x v).breaks ≡ [] → fits x ≡ true → WordOk scope own (word_in (flat x here))
    word_ok x v here none fit = first_ok scope own (flat x here).rows (rows_ok x v here none fit)

    all_rows : (xs : List (Spanned ExprKind)) (v : check.Scopes) (here : Places) → breaks_of (map (λ x. check.judged x v) xs) ≡ [] → list_all fits xs ≡ true → RowsOk scope own (rows_of (map (λ x. flat x here) xs))
    all_rows [] v here none fit = tt
    all_rows (x ∷ xs) v here none fit =
        let both = append_none (check.judged x v).breaks (breaks_of (map (λ x. check.judged x v) xs)) none in
        let f = both_true (fits x) (list_all fits xs) fit in
        rows_append scope own (flat x here).rows (rows_of (map (λ x. flat x here) xs)) (rows_ok x v here both.0 f.0) (all_rows xs v here both.1 f.1)

    one_none : (j : Judged) (rest : List check.Break) → breaks_of (j ∷ []) ++ rest ≡ [] → j.breaks ≡ []
    one_none j rest h = (append_none j.breaks [] (append_none (breaks_of (j ∷ [])) rest h).0).0

    two_none : (i j : Judged) (rest : List check.Break) → breaks_of (i ∷ j ∷ []) ++ rest ≡ [] → (i.breaks ≡ []) × (j.breaks ≡ [])
    two_none i j rest h = let a = append_none i.breaks _ (append_none (breaks_of (i ∷ j ∷ [])) rest h).0 in (a.0, (append_none j.breaks [] a.1).0)

    layer_ok : (y : StmtKind-F Known) (l : Bool) (place : ℕ) (s : State) (here : Places) → Static here s.scopes → let z = map-StmtKind Known StmtKind (λ c. c.0) y in let d = do_layer (map-StmtKind StmtKind Doing do_kind z) (at p result l) place s in
        d.breaks ≡ [] → d.weight ≤ 16384 → Among (d.state).names (foreign_names p) → stmt_layer (map-StmtKind StmtKind Bool stmt_fits z) ≡ true → AreOk scope own (mentions (flat_layer (map-StmtKind StmtKind Flattening flat_stmt z) p here).0)
    layer_ok source.Skip l place s here st none few among fit = ap (list_all (is_right scope own)) mentions_skip
    layer_ok (source.Decl x v) l place s here st none few among fit =
        let f = flat v here in
        let t = count here + words_of f.shape in
        let q = settle f.rows t in
        let r = settled_ok scope own f.rows t (rows_ok v s.scopes here (one_none (check.judged v s.scopes) _ none) fit) in
        seq_ok scope own (q.before ++ assign_row (count here) q.words) (stmts_append scope own q.before (assign_row (count here) q.words) r.before (assigns_ok scope own (count here) q.words r.words))
    layer_ok (source.Assign x v) l place s here st none few among fit =
        let f = flat v here in
        let q = settle f.rows (count here) in
        let to = (place_at (innermost x here)).first in
        let r = settled_ok scope own f.rows (count here) (rows_ok v s.scopes here (one_none (check.judged v s.scopes) _ none) fit) in
        seq_ok scope own (assigned to f.rows (count here)) (stmts_append scope own q.before (moved to q.words q.next) r.before (moved_ok scope own to q.words q.next r.words))
    layer_ok (source.StoreWords a v) l place s here st none few among fit =
        let both = two_none (check.judged a s.scopes) (check.judged v s.scopes) _ none in
        let g = both_true (fits a) (fits v) fit in
        let c = cheap_at here s.scopes st v in
        let wide = c.wide in
        let size_is = c.size in
        let m = weights_more (check.judged a s.scopes) (check.judged v s.scopes ∷ []) in
        let n = weights_more (check.judged v s.scopes) [] in
        seq_ok scope own (stored (word_in (flat a here)) (flat v here).rows (count here)) (stored_ok scope own (word_in (flat a here)) (flat v here).rows (count here) (omega (arith, wide, size_is, m, n, few)) (word_ok a s.scopes here both.0 g.0) (rows_ok v s.scopes here both.1 g.1))
    layer_ok (source.StoreByte a v) l place s here st none few among fit =
        let both = two_none (check.judged a s.scopes) (check.judged v s.scopes) _ none in
        let g = both_true (fits a) (fits v) fit in
        let i = word_in (flat a here) in
        let j = word_in (flat v here) in
        ap (list_all (is_right scope own)) (mentions_store_byte i j) ∙ ok_append scope own (mentioned i) (mentioned j) (word_ok a s.scopes here both.0 g.0) (word_ok v s.scopes here both.1 g.1)
    layer_ok (source.If v a b) l place s here st none few among fit =
        let x = word_in (flat v here) in
        let y1 = inner a.stmts here in
        let y2 = inner b.stmts here in
        let s1 : State = record s { scopes = [] ∷ s.scopes } in
        let one = in_order (map doing (map plain a.stmts)) (at p result l) s1 in
        let s2 : State = record { scopes = [] ∷ s.scopes; names = (one.state).names } in
        let two = in_order (map doing (map plain b.stmts)) (at p result l) s2 in
        let both = append_none _ two.breaks none in
        let parts = append_none _ one.breaks both.0 in
        let g = both_true (fits v) _ fit in
        let h = both_true (list_all (λ (x : Spanned Bool). x.kind) (map fitting (map plain a.stmts))) (list_all (λ (x : Spanned Bool). x.kind) (map fitting (map plain b.stmts))) g.1 in
        let st' = static_block here s.scopes st in
        ap (list_all (is_right scope own)) (mentions_if x (stmt.Seq y1) (stmt.Seq y2)) ∙ ok_append scope own (mentioned x) (mentions (stmt.Seq y1) ++ mentions (stmt.Seq y2)) (word_ok v s.scopes here (one_none (check.judged v s.scopes) _ parts.0) g.0)
        (ok_append scope own (mentions (stmt.Seq y1)) (mentions (stmt.Seq y2)) (seq_ok scope own y1 (order_ok a.stmts l s1 ([] ∷ here) st' parts.1 (omega (arith, few)) (among_then (one.state).names (two.state).names (foreign_names p) (order_names (map plain b.stmts) (at p result l) s2) among) h.0))
        (seq_ok scope own y2 (order_ok b.stmts l s2 ([] ∷ here) st' both.1 (omega (arith, few)) among h.1)))
    layer_ok (source.While v b) l place s here st none few among fit =
        let x = word_in (flat v here) in
        let y2 = inner b.stmts here in
        let s1 : State = record s { scopes = [] ∷ s.scopes } in
        let one = in_order (map doing (map plain b.stmts)) (at p result true) s1 in
        let both = append_none _ one.breaks none in
        let g = both_true (fits v) _ fit in
        ap (list_all (is_right scope own)) (mentions_while [] x (stmt.Seq y2)) ∙ ok_append scope own (mentioned x) (mentions (stmt.Seq y2)) (word_ok v s.scopes here (one_none (check.judged v s.scopes) _ both.0) g.0)
        (seq_ok scope own y2 (order_ok b.stmts true s1 ([] ∷ here) (static_block here s.scopes st) both.1 (omega (arith, few)) among g.1))
    layer_ok source.Break l place s here st none few among fit = ap (list_all (is_right scope own)) mentions_break
    layer_ok source.Continue l place s here st none few among fit = ap (list_all (is_right scope own)) mentions_continue
    layer_ok (source.Call k) l place s here st none few among fit = handled k.handler none few among fit
      where
        r : Shape
        r = result_of (function_of k.function p)

        behind : Places
        behind = after_target k.into (spread r) here

        rs : List Row
        rs = rows_of (map (λ v. flat v here) k.args)

        words : List Expr
        words = (settle rs (count here)).words

        into : List ℕ
        into = results k.into (spread r) here

        n : ℕ
        n = numbered (function_index k.function p)

        js : List Judged
        js = map (λ x. check.judged x s.scopes) k.args

        o : Option Function
        o = function_of k.function p

        -- the call itself, by what its rules say
        called : no_value o ≡ false → wrong_count o js ≡ false → wrong_shape o js ≡ false → is_right scope own (mention.Called n (length words) (length into)) ≡ true
        called known few same_so =
            let there = known_is o known in
            let g = there.0 in
            let found = found_at (λ (f : Function). bytes_eq f.name k.function) p.functions g there.1 in
            let many = arguments_many k.args here s.scopes (count here) st o g there.1 few same_so in
            let r_is : words_of (spread r) ≡ words_of g.result = spread_size r ∙ ap (λ o. words_of (result_of o)) there.1 in
            ap (λ i. is_right scope own (mention.Called (numbered i) (length words) (length into))) found.is ∙ call_ok own found.number (length words) (length into) g found.stands many (to (results_many k.into (spread r) here) r_is)
          where
            to : {a b : ℕ} → (length into ≡ 0) ⊎ (length into ≡ a) → a ≡ b → (length into ≡ 0) ⊎ (length into ≡ b)
            to (inl z) e = inl z
            to (inr z) e = inr (z ∙ e)

        handled : (h : Option (HandlerOf (Spanned Known))) → let y : StmtKind-F Known = source.Call (record { into = k.into; function = k.function; args = k.args; handler = h }) in let z = map-StmtKind Known StmtKind (λ c. c.0) y in
            let d = do_layer (map-StmtKind StmtKind Doing do_kind z) (at p result l) place s in
            d.breaks ≡ [] → d.weight ≤ 16384 → Among (d.state).names (foreign_names p) → stmt_layer (map-StmtKind StmtKind Bool stmt_fits z) ≡ true → AreOk scope own (mentions (flat_layer (map-StmtKind StmtKind Flattening flat_stmt z) p here).0)
        handled None none few among fit =
            let plain_breaks = (append_none _ [] none).0 in
            let parts = append_none (breaks_of js) _ plain_breaks in
            let a = unbroken place TwoNames (is_new_twice k.into s.scopes) _ parts.1 in
            let b = unbroken place UnknownName (is_old_unknown k.into s.scopes) _ a.1 in
            let c = unbroken place UnknownFunction (no_value o) ((UnknownException, false) ∷ (WrongShape, wrong_shape o js || is_old_other k.into o s.scopes) ∷ (WrongCount, wrong_count o js) ∷ []) b.1 in
            let f = unbroken place WrongShape (wrong_shape o js || is_old_other k.into o s.scopes) ((WrongCount, wrong_count o js) ∷ []) c.1 in
            let g = unbroken place WrongCount (wrong_count o js) [] f.1 in
            let both = neither (wrong_shape o js) (is_old_other k.into o s.scopes) f.0 in
            let w = both_true (list_all fits k.args) true fit in
            let rows = all_rows k.args s.scopes here parts.0 w.0 in
            let ws = settled_ok scope own rs (count here) rows in
            last_ok scope own rs (count here) (stmt.Call into n words None) rows
            (ap (list_all (is_right scope own)) (mentions_call into n words None) ∙ both_hold (is_right scope own (mention.Called n (length words) (length into))) _ (called c.0 g.0 both.0) (ok_append scope own (all_mentioned words) [] (all_ok scope own words ws.words) refl))
        handled (Some h) none few among fit =
            let known = exception_of h.exception p in
            let value = option_map_or (λ (x : Exception). x.shape) known shape.Word in
            let s1 : State = record s { scopes = ((h.name, value) ∷ []) ∷ check.after_target k.into r s.scopes } in
            let inside_done = in_order (map doing (map plain (h.body).stmts)) (at p result l) s1 in
            let split = append_none _ inside_done.breaks none in
            let parts = append_none (breaks_of js) _ split.0 in
            let a = unbroken place TwoNames (is_new_twice k.into s.scopes) _ parts.1 in
            let b = unbroken place UnknownName (is_old_unknown k.into s.scopes) _ a.1 in
            let c = unbroken place UnknownFunction (no_value o) _ b.1 in
            let e1 = unbroken place UnknownException (no_value known) _ c.1 in
            let f = unbroken place WrongShape (wrong_shape o js || is_old_other k.into o s.scopes) _ e1.1 in
            let g = unbroken place WrongCount (wrong_count o js) [] f.1 in
            let both = neither (wrong_shape o js) (is_old_other k.into o s.scopes) f.0 in
            let w = both_true (list_all fits k.args) (list_all (λ (x : Spanned Bool). x.kind) (map fitting (map plain (h.body).stmts))) fit in
            let rows = all_rows k.args s.scopes here parts.0 w.0 in
            let ws = settled_ok scope own rs (count here) rows in
            let there = known_is known e1.0 in
            let found = found_at (λ (y : Exception). bytes_eq y.name h.exception) p.exceptions there.0 there.1 in
            let q = new_place (exception_shape known) behind in
            let inside : Places = ((h.name, q) ∷ []) ∷ behind in
            let ss = (flat_all (map flattening (map plain (h.body).stmts)) p inside).0 in
            let all = cleared k.into (spread r) here ++ ss in
            let vs = numbers_from (count behind) (words_of (exception_shape known)) in
            let i = numbered (exception_index h.exception p) in
            let hd : Handler Stmt = record { exception = i; variables = vs; body = stmt.Seq all } in
            let st' = static_more h.name q value behind (check.after_target k.into r s.scopes) (value_is known) (static_target k.into r here s.scopes st) in
            let long : length vs ≡ words_of (there.0).shape = count_numbers (count behind) (words_of (exception_shape known)) ∙ ap (λ o. words_of (exception_shape o)) there.1 ∙ spread_size (there.0).shape in
            let catches = ap (λ o. is_right scope own (mention.Caught (numbered o) (length vs))) found.is ∙ width_ok found.number (length vs) there.0 found.stands long in
            let body = seq_ok scope own all (stmts_append scope own (cleared k.into (spread r) here) ss (cleared_ok own k.into (spread r) here) (order_ok (h.body).stmts l s1 inside st' split.1 (omega (arith, few)) among w.1)) in
            last_ok scope own rs (count here) (stmt.Call into n words (Some hd)) rows
            (ap (list_all (is_right scope own)) (mentions_call into n words (Some hd)) ∙ both_hold (is_right scope own (mention.Called n (length words) (length into))) _ (called c.0 g.0 both.0)
            (ok_append scope own (all_mentioned words) (mention.Caught i (length vs) ∷ mentions (stmt.Seq all)) (all_ok scope own words ws.words) (both_hold (is_right scope own (mention.Caught i (length vs))) _ catches body)))
    layer_ok (source.Return v) l place s here st none few among fit =
        let rs = (flat v here).rows in
        let j = check.judged v s.scopes in
        let ws = (settle rs (count here)).words in
        let parts = append_none (breaks_of (j ∷ [])) _ none in
        let rows = rows_ok v s.scopes here (one_none j _ none) fit in
        let wo = settled_ok scope own rs (count here) rows in
        let c = cheap_at here s.scopes st v in
        let w = settled_well rs (count here) in
        let alike = not_false (same result j.shape) (unbroken place WrongShape (not (same result j.shape)) [] parts.1).0 in
        let many : length ws ≡ own = w.size ∙ c.size ∙ ap words_of (c.shape ∙ sym (same_spread result j.shape alike)) ∙ spread_size result in
        last_ok scope own rs (count here) (stmt.Return ws) rows (ap (list_all (is_right scope own)) (mentions_return ws) ∙ both_hold (length ws == own) _ (same_eq (length ws) own many) (all_ok scope own ws wo.words))
    layer_ok (source.TailCall x es) l place s here st none few among fit =
        let rs = rows_of (map (λ v. flat v here) es) in
        let ws = (settle rs (count here)).words in
        let js = map (λ x. check.judged x s.scopes) es in
        let o = function_of x p in
        let parts = append_none (breaks_of js) _ none in
        let one = unbroken place UnknownFunction (no_value o) _ parts.1 in
        let two = unbroken place WrongShape (wrong_shape o js || is_other (option_map (λ (g : Function). g.result) o) result) _ one.1 in
        let three = unbroken place WrongCount (wrong_count o js) [] two.1 in
        let both = neither (wrong_shape o js) (is_other (option_map (λ (g : Function). g.result) o) result) two.0 in
        let there = known_is o one.0 in
        let g = there.0 in
        let found = found_at (λ (f : Function). bytes_eq f.name x) p.functions g there.1 in
        let alike = not_false (same g.result result) (ap (λ o. is_other (option_map (λ (g : Function). g.result) o) result) (sym there.1) ∙ both.1) in
        let n = numbered (function_index x p) in
        let rows = all_rows es s.scopes here parts.0 fit in
        let wo = settled_ok scope own rs (count here) rows in
        let many = arguments_many es here s.scopes (count here) st o g there.1 three.0 both.0 in
        let out : words_of g.result ≡ own = sym (spread_size g.result) ∙ ap words_of (same_spread g.result result alike) ∙ spread_size result in
        let tails = ap (λ o. is_right scope own (mention.TailCalled (numbered o) (length ws))) found.is ∙ tail_ok own found.number (length ws) g found.stands many out in
        last_ok scope own rs (count here) (stmt.TailCall n ws) rows (ap (list_all (is_right scope own)) (mentions_tail_call n ws) ∙ both_hold (is_right scope own (mention.TailCalled n (length ws))) _ tails (all_ok scope own ws wo.words))
    layer_ok (source.Raise x v) l place s here st none few among fit =
        let rs = (flat v here).rows in
        let j = check.judged v s.scopes in
        let ws = (settle rs (count here)).words in
        let known = exception_of x p in
        let parts = append_none (breaks_of (j ∷ [])) _ none in
        let one = unbroken place UnknownException (no_value known) _ parts.1 in
        let two = unbroken place WrongShape (is_other (option_map (λ (x : Exception). x.shape) known) j.shape) [] one.1 in
        let there = known_is known one.0 in
        let found = found_at (λ (y : Exception). bytes_eq y.name x) p.exceptions there.0 there.1 in
        let alike = not_false (same (there.0).shape j.shape) (ap (λ o. is_other (option_map (λ (x : Exception). x.shape) o) j.shape) (sym there.1) ∙ two.0) in
        let i = numbered (exception_index x p) in
        let rows = rows_ok v s.scopes here (one_none j _ none) fit in
        let wo = settled_ok scope own rs (count here) rows in
        let c = cheap_at here s.scopes st v in
        let w = settled_well rs (count here) in
        let many : length ws ≡ words_of (there.0).shape = w.size ∙ c.size ∙ ap words_of (c.shape ∙ sym (same_spread (there.0).shape j.shape alike)) ∙ spread_size (there.0).shape in
        let raises = ap (λ o. is_right scope own (mention.Raised (numbered o) (length ws))) found.is ∙ width_ok found.number (length ws) there.0 found.stands many in
        last_ok scope own rs (count here) (stmt.Raise i ws) rows (ap (list_all (is_right scope own)) (mentions_raise i ws) ∙ both_hold (is_right scope own (mention.Raised i (length ws))) _ raises (all_ok scope own ws wo.words))
    layer_ok (source.SharedLoad z x a) l place s here st none few among fit =
        let i = word_in (flat a here) in
        ap (list_all (is_right scope own)) (mentions_shared_load z (place_at (innermost x here)).first i) ∙ word_ok a s.scopes here (one_none (check.judged a s.scopes) _ none) fit
    layer_ok (source.SharedStore z a v) l place s here st none few among fit =
        let both = two_none (check.judged a s.scopes) (check.judged v s.scopes) _ none in
        let g = both_true (fits a) (fits v) fit in
        let i = word_in (flat a here) in
        let j = word_in (flat v here) in
        ap (list_all (is_right scope own)) (mentions_shared_store z i j) ∙ ok_append scope own (mentioned i) (mentioned j) (word_ok a s.scopes here both.0 g.0) (word_ok v s.scopes here both.1 g.1)
    layer_ok (source.Foreign x a b c f) l place s here st none few among fit =
        let j = λ (y : Spanned ExprKind). check.judged y s.scopes in
        let es = a ∷ b ∷ c ∷ f ∷ [] in
        let n = numbered (foreign_index x p) in
        let i1 = word_in (flat a here) in let i2 = word_in (flat b here) in let i3 = word_in (flat c here) in let i4 = word_in (flat f here) in
        let parts = append_none (breaks_of (map (λ y. check.judged y s.scopes) es)) _ none in
        let n1 = append_none (j a).breaks _ parts.0 in
        let n2 = append_none (j b).breaks _ n1.1 in
        let n3 = append_none (j c).breaks _ n2.1 in
        let n4 = append_none (j f).breaks [] n3.1 in
        let g1 = both_true (fits a) _ fit in
        let g2 = both_true (fits b) _ g1.1 in
        let g3 = both_true (fits c) (fits f) g2.1 in
        let any = any_found (λ (y : List ℕ). bytes_eq y x) (foreign_names p) (among.at x (own_name x s.names)) in
        let found = found_at (λ (y : List ℕ). bytes_eq y x) (foreign_names p) any.0 any.1 in
        let below = position-Some (λ (y : List ℕ). bytes_eq y x) (foreign_names p) found.number any.0 found.is in
        let there : is_right scope own (mention.Foreign n) ≡ true = ap (λ o. is_right scope own (mention.Foreign (numbered o))) found.is ∙ less_so found.number (length (foreign_names p)) below.0 in
        let words : WordsOk scope own (i1 ∷ i2 ∷ i3 ∷ i4 ∷ []) = (word_ok a s.scopes here n1.0 g1.0, (word_ok b s.scopes here n2.0 g2.0, (word_ok c s.scopes here n3.0 g3.0, (word_ok f s.scopes here n4.0 g3.1, tt)))) in
        ap (list_all (is_right scope own)) (mentions_foreign n i1 i2 i3 i4) ∙ both_hold (is_right scope own (mention.Foreign n)) _ there (all_ok scope own (i1 ∷ i2 ∷ i3 ∷ i4 ∷ []) words)
      where
        less_so : (i n : ℕ) → i < n → nat_lt i n ≡ true
        less_so i n l = grind (arith, nat_tests)

    kind_right : (k : StmtKind) → IsOk k
    kind_right = by_layers IsOk (λ y.
        let z = map-StmtKind Known StmtKind (λ c. c.0) y in
        subst (λ (f : Flattening). (l : Bool) (place : ℕ) (s : State) (here : Places) → Static here s.scopes → let d = do_kind (roll-StmtKind z) (at p result l) place s in d.breaks ≡ [] → d.weight ≤ 16384 → Among (d.state).names (foreign_names p) → stmt_fits (roll-StmtKind z) ≡ true → AreOk scope own (mentions (f p here).0)) (sym (stmt_roll z))
        (subst (λ (g : Doing). (l : Bool) (place : ℕ) (s : State) (here : Places) → Static here s.scopes → let d = g (at p result l) place s in d.breaks ≡ [] → d.weight ≤ 16384 → Among (d.state).names (foreign_names p) → stmt_fits (roll-StmtKind z) ≡ true → AreOk scope own (mentions (flat_layer (map-StmtKind StmtKind Flattening flat_stmt z) p here).0)) (sym (do_roll z))
        (λ l place s here st none few among fit. layer_ok y l place s here st none few among (sym (stmt_fits_roll z) ∙ fit))))

    pub all_right : (ss : List (Spanned StmtKind)) (l : Bool) (s : State) (here : Places) → Static here s.scopes → let d = in_order (map doing ss) (at p result l) s in d.breaks ≡ [] → d.weight ≤ 16384 → Among (d.state).names (foreign_names p) → list_all (λ (x : Spanned StmtKind). stmt_fits x.kind) ss ≡ true
        → MentionsOk scope own (flat_all (map flattening ss) p here).0
    all_right [] l s here st none few among fit = refl
    all_right (x ∷ xs) l s here st none few among fit =
        let one = do_kind x.kind (at p result l) x.span.start s in
        let others = in_order (map doing xs) (at p result l) one.state in
        let both = append_none one.breaks others.breaks none in
        let f = both_true (stmt_fits x.kind) (list_all (λ (x : Spanned StmtKind). stmt_fits x.kind) xs) fit in
        let next = (flat_stmt x.kind p here).1 in
        more_ok scope own (flat_stmt x.kind p here).0 (flat_all (map flattening xs) p next).0
        (kind_right x.kind l x.span.start s here st both.0 (omega (arith, few)) (among_then (one.state).names (others.state).names (foreign_names p) (order_names xs (at p result l) one.state) among) f.0)
        (all_right xs l one.state next (static_behind (at p result l) x.span.start s here st x.kind) both.1 (omega (arith, few)) among f.1)
