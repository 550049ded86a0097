-- The text in words is worth at most 16 steps for each unit of what the source weighs.
use Rattle.std.proofs.Common.{◌≡◌, ℕ, ◌+◌, ◌*◌, ◌≤◌, Bool, true, List, [], ◌∷◌, ◌++◌, map, length, Option, Some, None, arith, refl, sym, ap, subst, ◌∙◌}
use Rattle.std.specs.Option.{option_map_or}
use Rattle.pan_stage.specs.Locals.{numbers_from}
use Rattle.pan_stage.specs.Sums.{sum_of}
use Rattle.pan_stage.specs.declared.program.Handler.{Handler}
use Rattle.pan_tree.specs.Scopes.{innermost}
use Rattle.pan_tree.specs.Shapes.{words_of}
use Rattle.pan_tree.specs.Check as check
use Rattle.pan_tree.specs.Check.{Judged, State, Doing, doing, in_order, do_layer, do_kind, result_of, function_of, exception_of}
use Rattle.pan_tree.specs.Meaning.{function_index, exception_index, foreign_index}
use Rattle.pan_tree.specs.declared.shape.Shape.{Shape}
use Rattle.pan_tree.specs.declared.shape.Shape.TheVariants as shape
use Rattle.pan_tree.specs.declared.spanned.Spanned.{Spanned}
use Rattle.pan_tree.specs.declared.syntax.HandlerOf.{HandlerOf}
use Rattle.pan_tree.specs.declared.syntax.ExprKind.{ExprKind}
use Rattle.pan_tree.specs.declared.syntax.Target.{Target}
use Rattle.pan_tree.specs.declared.syntax.Target.TheVariants as target
use Rattle.pan_tree.specs.declared.syntax.StmtKind.{StmtKind, StmtKind-F, roll-StmtKind, map-StmtKind}
use Rattle.pan_tree.specs.declared.syntax.StmtKind.TheOpen as source
use Rattle.pan_tree.specs.declared.program.Exception.{Exception}
use Rattle.pan_tree.specs.declared.program.Program.{Program as Source}
use Rattle.pan_tree.proofs.CheckLayers.{do_roll}
use Rattle.pan_tree.proofs.MeaningLayers.{by_layers}
use Rattle.check_soundness.specs.Spread.{spread}
use Rattle.check_soundness.proofs.SpreadShapes.{spread_word}
use Rattle.check_soundness.proofs.Alike.{spread_size}
use Rattle.crep_lang.specs.Needs.{code}
use Rattle.crep_lang.specs.Steps.{expr_steps, passed}
use Rattle.crep_lang.specs.declared.syntax.Expr.{Expr}
use Rattle.crep_lang.specs.declared.syntax.Stmt.{Stmt}
use Rattle.crep_lang.specs.declared.syntax.Stmt.TheVariants as stmt
use Rattle.crep_lang.proofs.Sizes.{code_skip, code_seq, code_store_byte, code_if, code_while, code_break, code_continue, code_call, code_tail_call, code_return, code_raise, code_shared_load, code_shared_store, code_foreign}
use Rattle.crep_flatten.specs.declared.rows.Row.{Row}
use Rattle.crep_flatten.specs.Rows.{settle}
use Rattle.crep_flatten.specs.Flat.{Places, count, flat, word_in}
use Rattle.crep_flatten.specs.Flattened.{assign_row, assigned, stored, flat_all, Flattening, flattening, flat_layer, flat_stmt, after_target, results, new_place, place_at, numbered, rows_of, exception_shape, cleared}
use Rattle.crep_flatten.proofs.FlatExprs.{all_code, all_code_append}
use Rattle.crep_flatten.proofs.Costs.{Static, Cheap, AllAreCheap, kind_cheap, first_cheap, weights_more, rows_well, settled_well}
use Rattle.crep_flatten.proofs.Places.{static_behind, static_block, static_target, static_more, stmt_roll}
use Rattle.crep_flatten.proofs.Worth.{assigned_worth, declared_worth, stored_worth, row_worth, cleared_worth}
use Rattle.crep_flatten.proofs.Catching.{count_numbers}

-- ---- rows

all_sum : (ss : List Stmt) → sum_of (map code ss) ≡ all_code ss
all_sum [] = refl
all_sum (s ∷ ss) = ap (λ n. code s + n) (all_sum ss)

pub seq_code : (ss : List Stmt) → code (stmt.Seq ss) ≡ all_code ss
seq_code ss = code_seq ss ∙ all_sum ss

pub last_code : (rs : List Row) (t : ℕ) (last : Stmt) → code (stmt.Seq ((settle rs t).before ++ last ∷ [])) ≡ all_code (settle rs t).before + (code last + 0)
last_code rs t last = seq_code ((settle rs t).before ++ last ∷ []) ∙ all_code_append (settle rs t).before (last ∷ [])

results_few : (t : Target) (s : Shape) (here : Places) → length (results t s here) ≤ words_of s
results_few target.Nothing s here = omega arith
results_few (target.Old x) s here = let c = count_numbers (place_at (innermost x here)).first (words_of s) in omega (arith, c)
results_few (target.New x) s here = let c = count_numbers (count here) (words_of s) in omega (arith, c)

cleared_few : (t : Target) (s : Shape) (here : Places) → all_code (cleared t s here) ≤ 2 * words_of s
cleared_few target.Nothing s here = omega arith
cleared_few (target.Old x) s here = omega arith
cleared_few (target.New x) s here = let c = cleared_worth (count here) (words_of s) in omega (arith, c)

-- what a handler's value is, in places and by the check
pub value_is : (o : Option Exception) → exception_shape o ≡ spread (option_map_or (λ (x : Exception). x.shape) o shape.Word)
value_is None = sym spread_word
value_is (Some x) = refl

-- ---- expressions

module _ (here : Places) (v : check.Scopes) (st : Static here v) where
  pub cheap_at : (e : Spanned ExprKind) → Cheap (flat e here) (check.judged e v)
  cheap_at e = kind_cheap e.kind e.span.start here v st

  pub word_at : (e : Spanned ExprKind) → expr_steps (word_in (flat e here)) ≤ 2 * (check.judged e v).weight
  word_at e = let c = cheap_at e in let s = c.some in first_cheap (2 * (check.judged e v).weight) (flat e here).rows (omega (arith, s)) c.each

  pub all_at : (es : List (Spanned ExprKind)) → AllAreCheap (map (λ e. flat e here) es) (map (λ x. check.judged x v) es)
  all_at [] = tt
  all_at (e ∷ es) = (cheap_at e, all_at es)

  passed_at : (es : List (Spanned ExprKind)) (t : ℕ) → let q = settle (rows_of (map (λ e. flat e here) es)) t in all_code q.before + passed q.words ≤ 8 + 5 * check.weights (map (λ x. check.judged x v) es)
  passed_at es t =
      let rs = rows_of (map (λ e. flat e here) es) in
      let q = settle rs t in
      let r = rows_well (map (λ e. flat e here) es) (map (λ x. check.judged x v) es) (all_at es) in
      let s = settled_well rs t in
      let a = r.wide in
      let b = r.sum in
      let c = s.worth in
      let d = s.size in
      let e = row_worth q.words in
      omega (arith, a, b, c, d, e)

  passed_one : (e : Spanned ExprKind) (t : ℕ) → let q = settle (flat e here).rows t in all_code q.before + passed q.words ≤ 8 + 5 * (check.judged e v).weight
  passed_one e t =
      let q = settle (flat e here).rows t in
      let k = cheap_at e in
      let s = settled_well (flat e here).rows t in
      let a = k.wide in
      let b = k.sum in
      let z = k.size in
      let c = s.worth in
      let d = s.size in
      let f = row_worth q.words in
      omega (arith, a, b, c, d, f, z)

-- ---- statements

module _ (p : Source) (result : Shape) where
  abbrev pub at : Bool → check.Context
  at l = record { program = p; result = result; in_loop = l }

  abbrev Fits : StmtKind → Type 0
  Fits k = (l : Bool) (place : ℕ) (s : State) (here : Places) → Static here s.scopes → code (flat_stmt k p here).0 ≤ 16 * (do_kind k (at l) place s).weight

  abbrev Known : Type 0
  Known = (k : StmtKind) × Fits k

  abbrev plain : Spanned Known → Spanned StmtKind
  plain x = record { kind = x.kind.0; span = x.span }

  order_code : (ss : List (Spanned Known)) (l : Bool) (s : State) (here : Places) → Static here s.scopes → all_code (flat_all (map flattening (map plain ss)) p here).0 ≤ 16 * (in_order (map doing (map plain ss)) (at l) s).weight
  order_code [] l s here st = omega arith
  order_code (x ∷ xs) l s here st =
      let one = x.kind.1 l x.span.start s here st in
      let next = (do_kind x.kind.0 (at l) x.span.start s).state in
      let rest = order_code xs l next (flat_stmt x.kind.0 p here).1 (static_behind (at l) x.span.start s here st x.kind.0) in
      omega (arith, one, rest)

  abbrev inner : List (Spanned Known) → Places → List Stmt
  inner ss here = (flat_all (map flattening (map plain ss)) p ([] ∷ here)).0

  layer_code : (y : StmtKind-F Known) (l : Bool) (place : ℕ) (s : State) (here : Places) → Static here s.scopes → let z = map-StmtKind Known StmtKind (λ c. c.0) y in
      code (flat_layer (map-StmtKind StmtKind Flattening flat_stmt z) p here).0 ≤ 16 * (do_layer (map-StmtKind StmtKind Doing do_kind z) (at l) place s).weight
  layer_code source.Skip l place s here st = let c = code_skip in omega (arith, c)
  layer_code (source.Decl x v) l place s here st =
      let f = flat v here in
      let t = count here + words_of f.shape in
      let g = settle f.rows t in
      let c = seq_code (g.before ++ assign_row (count here) g.words) in
      let w = declared_worth (count here) f.rows t in
      let k = cheap_at here s.scopes st v in
      let a = k.wide in
      let b = k.sum in
      let z = k.size in
      let m = weights_more (check.judged v s.scopes) [] in
      omega (arith, c, w, a, b, z, m)
  layer_code (source.Assign x v) l place s here st =
      let f = flat v here in
      let q = (place_at (innermost x here)).first in
      let c = seq_code (assigned q f.rows (count here)) in
      let w = assigned_worth q f.rows (count here) in
      let k = cheap_at here s.scopes st v in
      let a = k.wide in
      let b = k.sum in
      let z = k.size in
      let m = weights_more (check.judged v s.scopes) [] in
      omega (arith, c, w, a, b, z, m)
  layer_code (source.StoreWords a v) l place s here st =
      let f = flat v here in
      let c = seq_code (stored (word_in (flat a here)) f.rows (count here)) in
      let w = stored_worth (word_in (flat a here)) f.rows (count here) in
      let k = cheap_at here s.scopes st v in
      let i = k.wide in
      let b = k.sum in
      let z = k.size in
      let wa = word_at here s.scopes st a in
      let m = weights_more (check.judged a s.scopes) (check.judged v s.scopes ∷ []) in
      let n = weights_more (check.judged v s.scopes) [] in
      omega (arith, c, w, i, b, z, m, n, wa)
  layer_code (source.StoreByte a v) l place s here st =
      let c = code_store_byte (word_in (flat a here)) (word_in (flat v here)) in
      let wa = word_at here s.scopes st a in
      let wv = word_at here s.scopes st v in
      let m = weights_more (check.judged a s.scopes) (check.judged v s.scopes ∷ []) in
      let n = weights_more (check.judged v s.scopes) [] in
      omega (arith, c, wa, wv, m, n)
  layer_code (source.If v a b) l place s here st =
      let x = inner a.stmts here in
      let y = inner b.stmts here in
      let c = code_if (word_in (flat v here)) (stmt.Seq x) (stmt.Seq y) in
      let i = seq_code x in
      let j = seq_code y in
      let one = in_order (map doing (map plain a.stmts)) (at l) (record s { scopes = [] ∷ s.scopes }) in
      let first = order_code a.stmts l (record s { scopes = [] ∷ s.scopes }) ([] ∷ here) (static_block here s.scopes st) in
      let second = order_code b.stmts l (record { scopes = [] ∷ s.scopes; names = (one.state).names }) ([] ∷ here) (static_block here s.scopes st) in
      let w = word_at here s.scopes st v in
      let m = weights_more (check.judged v s.scopes) [] in
      omega (arith, c, i, j, first, second, w, m)
  layer_code (source.While v b) l place s here st =
      let y = inner b.stmts here in
      let c = code_while [] (word_in (flat v here)) (stmt.Seq y) in
      let j = seq_code y in
      let second = order_code b.stmts true (record s { scopes = [] ∷ s.scopes }) ([] ∷ here) (static_block here s.scopes st) in
      let w = word_at here s.scopes st v in
      let m = weights_more (check.judged v s.scopes) [] in
      omega (arith, c, j, second, w, m)
  layer_code source.Break l place s here st = let c = code_break in omega (arith, c)
  layer_code source.Continue l place s here st = let c = code_continue in omega (arith, c)
  layer_code (source.Call k) l place s here st = handled k.handler
    where
      r : Shape
      r = result_of (function_of k.function p)

      behind : Places
      behind = after_target k.into (spread r) here

      rs : List Row
      rs = rows_of (map (λ v. flat v here) k.args)

      words : List Expr
      words = (settle rs (count here)).words

      into : List ℕ
      into = results k.into (spread r) here

      n : ℕ
      n = numbered (function_index k.function p)

      handled : (h : Option (HandlerOf (Spanned Known))) → let y : StmtKind-F Known = source.Call (record { into = k.into; function = k.function; args = k.args; handler = h }) in let z = map-StmtKind Known StmtKind (λ c. c.0) y in
          code (flat_layer (map-StmtKind StmtKind Flattening flat_stmt z) p here).0 ≤ 16 * (do_layer (map-StmtKind StmtKind Doing do_kind z) (at l) place s).weight
      handled None =
          let c = last_code rs (count here) (stmt.Call into n words None) in
          let i = code_call into n words None in
          let w = passed_at here s.scopes st k.args (count here) in
          let f = results_few k.into (spread r) here in
          let z = spread_size r in
          omega (arith, c, i, w, f, z)
      handled (Some h) =
          let known = exception_of h.exception p in
          let value = option_map_or (λ (x : Exception). x.shape) known shape.Word in
          let s' : State = record s { scopes = check.after_target k.into r s.scopes } in
          let inside : Places = ((h.name, new_place (exception_shape known) behind) ∷ []) ∷ behind in
          let ss = (flat_all (map flattening (map plain (h.body).stmts)) p inside).0 in
          let vs = numbers_from (count behind) (words_of (exception_shape known)) in
          let hd : Handler Stmt = record { exception = numbered (exception_index h.exception p); variables = vs; body = stmt.Seq (cleared k.into (spread r) here ++ ss) } in
          let c = last_code rs (count here) (stmt.Call into n words (Some hd)) in
          let i = code_call into n words (Some hd) in
          let j = seq_code (cleared k.into (spread r) here ++ ss) ∙ all_code_append (cleared k.into (spread r) here) ss in
          let g = cleared_few k.into (spread r) here in
          let order = order_code (h.body).stmts l (record s' { scopes = ((h.name, value) ∷ []) ∷ s'.scopes }) inside (static_more h.name (new_place (exception_shape known) behind) value behind s'.scopes (value_is known) (static_target k.into r here s.scopes st)) in
          let w = passed_at here s.scopes st k.args (count here) in
          let f = results_few k.into (spread r) here in
          let z = spread_size r in
          let x = count_numbers (count behind) (words_of (exception_shape known)) in
          let u = ap words_of (value_is known) ∙ spread_size value in
          omega (arith, c, i, j, g, order, w, f, z, x, u)
  layer_code (source.Return v) l place s here st =
      let q = settle (flat v here).rows (count here) in
      let c = last_code (flat v here).rows (count here) (stmt.Return q.words) in
      let i = code_return q.words in
      let w = passed_one here s.scopes st v (count here) in
      let m = weights_more (check.judged v s.scopes) [] in
      omega (arith, c, i, w, m)
  layer_code (source.TailCall x es) l place s here st =
      let rs = rows_of (map (λ v. flat v here) es) in
      let q = settle rs (count here) in
      let c = last_code rs (count here) (stmt.TailCall (numbered (function_index x p)) q.words) in
      let i = code_tail_call (numbered (function_index x p)) q.words in
      let w = passed_at here s.scopes st es (count here) in
      omega (arith, c, i, w)
  layer_code (source.Raise x v) l place s here st =
      let q = settle (flat v here).rows (count here) in
      let c = last_code (flat v here).rows (count here) (stmt.Raise (numbered (exception_index x p)) q.words) in
      let i = code_raise (numbered (exception_index x p)) q.words in
      let w = passed_one here s.scopes st v (count here) in
      let m = weights_more (check.judged v s.scopes) [] in
      omega (arith, c, i, w, m)
  layer_code (source.SharedLoad z x a) l place s here st =
      let c = code_shared_load z (place_at (innermost x here)).first (word_in (flat a here)) in
      let w = word_at here s.scopes st a in
      let m = weights_more (check.judged a s.scopes) [] in
      omega (arith, c, w, m)
  layer_code (source.SharedStore z a v) l place s here st =
      let c = code_shared_store z (word_in (flat a here)) (word_in (flat v here)) in
      let wa = word_at here s.scopes st a in
      let wv = word_at here s.scopes st v in
      let m = weights_more (check.judged a s.scopes) (check.judged v s.scopes ∷ []) in
      let n = weights_more (check.judged v s.scopes) [] in
      omega (arith, c, wa, wv, m, n)
  layer_code (source.Foreign x a b e f) l place s here st =
      let j = λ (y : Spanned ExprKind). check.judged y s.scopes in
      let c = code_foreign (numbered (foreign_index x p)) (word_in (flat a here)) (word_in (flat b here)) (word_in (flat e here)) (word_in (flat f here)) in
      let w1 = word_at here s.scopes st a in
      let w2 = word_at here s.scopes st b in
      let w3 = word_at here s.scopes st e in
      let w4 = word_at here s.scopes st f in
      let m1 = weights_more (j a) (j b ∷ j e ∷ j f ∷ []) in
      let m2 = weights_more (j b) (j e ∷ j f ∷ []) in
      let m3 = weights_more (j e) (j f ∷ []) in
      let m4 = weights_more (j f) [] in
      omega (arith, c, w1, w2, w3, w4, m1, m2, m3, m4)

  kind_code : (k : StmtKind) → Fits k
  kind_code = by_layers Fits (λ y l place s here st.
      let z = map-StmtKind Known StmtKind (λ c. c.0) y in
      subst (λ (f : Flattening). code (f p here).0 ≤ 16 * (do_kind (roll-StmtKind z) (at l) place s).weight) (sym (stmt_roll z))
      (subst (λ (d : Doing). code (flat_layer (map-StmtKind StmtKind Flattening flat_stmt z) p here).0 ≤ 16 * (d (at l) place s).weight) (sym (do_roll z)) (layer_code y l place s here st)))

  -- statements one after another
  pub all_fits : (ss : List (Spanned StmtKind)) (l : Bool) (s : State) (here : Places) → Static here s.scopes → all_code (flat_all (map flattening ss) p here).0 ≤ 16 * (in_order (map doing ss) (at l) s).weight
  all_fits [] l s here st = omega arith
  all_fits (x ∷ xs) l s here st =
      let one = kind_code x.kind l x.span.start s here st in
      let next = (do_kind x.kind (at l) x.span.start s).state in
      let rest = all_fits xs l next (flat_stmt x.kind p here).1 (static_behind (at l) x.span.start s here st x.kind) in
      omega (arith, one, rest)
