-- A program in words has the source's face and sites.
use Rattle.std.proofs.Common.{◌≡◌, ℕ, suc, ◌+◌, Bool, true, false, List, [], ◌∷◌, ◌++◌, map, length, append_assoc, append-nil, Option, Some, None, refl, sym, ap, ◌∙◌}
use Rattle.std.specs.Prelude.{flat_map, nat_le, if◌then◌else◌, replicate}
use Rattle.std.specs.List.{list_any}
use Rattle.pan_stage.specs.Stage.{Site}
use Rattle.pan_stage.specs.Stage as site
use Rattle.pan_tree.specs.Scopes.{innermost}
use Rattle.pan_tree.specs.Shapes.{words_of}
use Rattle.pan_tree.specs.declared.shape.Shape.{Shape}
use Rattle.pan_tree.specs.declared.spanned.Spanned.{Spanned}
use Rattle.pan_tree.specs.declared.syntax.Target.{Target}
use Rattle.pan_tree.specs.declared.syntax.Target.TheVariants as target
use Rattle.pan_tree.specs.declared.syntax.HandlerOf.{HandlerOf}
use Rattle.pan_tree.specs.declared.syntax.StmtKind.{StmtKind, StmtKind-F, roll-StmtKind, map-StmtKind, fold-roll-StmtKind}
use Rattle.pan_tree.specs.declared.syntax.StmtKind.TheOpen as source
use Rattle.pan_tree.specs.declared.program.Function.{Function}
use Rattle.pan_tree.specs.declared.program.Program.{Program as Source}
use Rattle.pan_tree.specs.Check.{result_of, function_of, exception_of}
use Rattle.pan_tree.specs.Meaning.{function_index, exception_index, foreign_index}
use Rattle.pan_stage.specs.Locals.{numbers_from}
use Rattle.pan_stage.specs.declared.program.Handler.{Handler}
use Rattle.pan_tree.proofs.MeaningLayers.{by_layers}
use Rattle.check_soundness.specs.Spread.{spread}
use Rattle.crep_lang.specs.Stage as crep
use Rattle.crep_lang.specs.Text.{sites}
use Rattle.crep_lang.specs.declared.syntax.CrepFun.{CrepFun}
use Rattle.crep_lang.specs.declared.syntax.Expr.{Expr}
use Rattle.crep_lang.specs.declared.syntax.Expr.TheVariants as e
use Rattle.crep_lang.specs.declared.syntax.Stmt.{Stmt}
use Rattle.crep_lang.specs.declared.syntax.Stmt.TheVariants as stmt
use Rattle.crep_lang.proofs.Texts.{sites_skip, sites_seq, sites_assign, sites_store_word, sites_store_byte, sites_if, sites_while, sites_break, sites_continue, sites_call, sites_tail_call, sites_return, sites_raise, sites_shared_load, sites_shared_store, sites_foreign}
use Rattle.crep_flatten.specs.declared.rows.Row.{Row}
use Rattle.crep_flatten.specs.declared.rows.Row.TheVariants as row
use Rattle.crep_flatten.specs.Rows.{far, loads, variables, settle}
use Rattle.crep_flatten.specs.Flat.{Places, count, flat, word_in}
use Rattle.crep_flatten.specs.Reads.{is_variable, go_straight, reads_memory}
use Rattle.crep_flatten.specs.Flattened.{assign_row, store_row, one_move, moves, moved, assigned, stored_words, stored, flat_all, Flattening, flattening, flat_layer, flat_stmt, after_target, results, new_place, place_at, with_parameters, numbered, rows_of, exception_shape, cleared, flat_function, flattened}
use Rattle.crep_flatten.specs.Source as source_stage
use Rattle.crep_flatten.specs.Source.{block_sites, sites_layer, face}
use Rattle.crep_flatten.proofs.Places.{stmt_roll}

-- ---- the face

map_map : {A B C : Type 0} (f : B → C) (g : A → B) (xs : List A) → map f (map g xs) ≡ map (λ x. f (g x)) xs
map_map f g [] = refl
map_map f g (x ∷ xs) = ap (λ ys. f (g x) ∷ ys) (map_map f g xs)

pub same_face : (p : Source) → (crep.stage (flattened p)).face ≡ face p
same_face p =
    ap (λ ns. record (face p) { functions = ns; costs = map (λ (f : CrepFun). f.cost) (map (flat_function p) p.functions) }) (map_map (λ (f : CrepFun). f.name) (flat_function p) p.functions)
    ∙ ap (λ cs. record (face p) { costs = cs }) (map_map (λ (f : CrepFun). f.cost) (flat_function p) p.functions)

-- ---- sites

abbrev sites_in : List Stmt → List Site
sites_in ss = flat_map (λ s. s) (map sites ss)

sites_append : (ss ts : List Stmt) → sites_in (ss ++ ts) ≡ sites_in ss ++ sites_in ts
sites_append [] ts = refl
sites_append (s ∷ ss) ts = ap (λ zs. sites s ++ zs) (sites_append ss ts) ∙ sym (append_assoc (sites s) (sites_in ss) (sites_in ts))

-- statements without sites before others
none_before : (ss ts : List Stmt) → sites_in ss ≡ [] → sites_in (ss ++ ts) ≡ sites_in ts
none_before ss ts h = sites_append ss ts ∙ ap (λ zs. zs ++ sites_in ts) h

assigns_none : (x : ℕ) (ws : List Expr) → sites_in (assign_row x ws) ≡ []
assigns_none x [] = refl
assigns_none x (w ∷ ws) = ap (λ zs. zs ++ sites_in (assign_row (suc x) ws)) (sites_assign x w) ∙ assigns_none (suc x) ws

stores_none : (a : Expr) (i : ℕ) (ws : List Expr) → sites_in (store_row a i ws) ≡ []
stores_none a i [] = refl
stores_none a i (w ∷ ws) = ap (λ zs. zs ++ sites_in (store_row a (suc i) ws)) (sites_store_word (far a i) w) ∙ stores_none a (suc i) ws

settled_none : (rs : List Row) (t : ℕ) → sites_in (settle rs t).before ≡ []
settled_none [] t = refl
settled_none (row.Variables x n ∷ rs) t = settled_none rs t
settled_none (row.One x ∷ rs) t = settled_none rs t
settled_none (row.Loads a i n ∷ rs) t = by (nat_le 2 n) (settled_none rs t) (settled_none rs (suc t))
  where
    by : (b : Bool) → sites_in (settle rs t).before ≡ [] → sites_in (settle rs (suc t)).before ≡ []
        → sites_in (if b then (let g = settle rs (suc t) in record g { before = stmt.Assign t a ∷ g.before; words = loads (e.Var t) i n ++ g.words }) else (let g = settle rs t in record g { words = loads a i n ++ g.words })).before ≡ []
    by true h h' = ap (λ zs. zs ++ sites_in (settle rs (suc t)).before) (sites_assign t a) ∙ h'
    by false h h' = h

moves_none : (x : ℕ) (ws : List Expr) → sites_in (moves x ws) ≡ []
moves_none x [] = refl
moves_none x (w ∷ ws) = none_before (one_move x w) (moves (suc x) ws) (by (is_variable w x)) ∙ moves_none (suc x) ws
  where
    by : (b : Bool) → sites_in (if b then [] else stmt.Assign x w ∷ []) ≡ []
    by true = refl
    by false = ap (λ zs. zs ++ []) (sites_assign x w)

moved_none : (x : ℕ) (ws : List Expr) (t : ℕ) → sites_in (moved x ws t) ≡ []
moved_none x ws t = by (go_straight x 0 ws)
  where
    by : (b : Bool) → sites_in (if b then moves x ws else assign_row t ws ++ assign_row x (variables t (length ws))) ≡ []
    by true = moves_none x ws
    by false = none_before (assign_row t ws) (assign_row x (variables t (length ws))) (assigns_none t ws) ∙ assigns_none x (variables t (length ws))

stored_words_none : (a : ℕ) (ws : List Expr) (t : ℕ) → sites_in (stored_words a ws t) ≡ []
stored_words_none a ws t = by (list_any reads_memory ws)
  where
    by : (b : Bool) → sites_in (if b then assign_row t ws ++ store_row (e.Var a) 0 (variables t (length ws)) else store_row (e.Var a) 0 ws) ≡ []
    by true = none_before (assign_row t ws) (store_row (e.Var a) 0 (variables t (length ws))) (assigns_none t ws) ∙ stores_none (e.Var a) 0 (variables t (length ws))
    by false = stores_none (e.Var a) 0 ws

stored_none : (a : Expr) (rs : List Row) (t : ℕ) → sites_in (stored a rs t) ≡ []
stored_none a rs t = by (nat_le (length (settle rs (suc t)).words) 1)
  where
    by : (b : Bool) → let q = settle rs (suc t) in
        sites_in (if b then q.before ++ store_row a 0 q.words else stmt.Assign t a ∷ (q.before ++ stored_words t q.words q.next)) ≡ []
    by true = let q = settle rs (suc t) in none_before q.before (store_row a 0 q.words) (settled_none rs (suc t)) ∙ stores_none a 0 q.words
    by false =
        let q = settle rs (suc t) in
        let rest = stored_words t q.words q.next in
        ap (λ zs. zs ++ sites_in (q.before ++ rest)) (sites_assign t a) ∙ none_before q.before rest (settled_none rs (suc t)) ∙ stored_words_none t q.words q.next

cleared_none : (t : Target) (s : Shape) (here : Places) → sites_in (cleared t s here) ≡ []
cleared_none target.Nothing s here = refl
cleared_none (target.Old x) s here = refl
cleared_none (target.New x) s here = assigns_none (count here) (replicate (words_of s) (e.Num 0))

-- the last of some statements, behind those that compute addresses
last_sites : (rs : List Row) (t : ℕ) (last : Stmt) (zs : List Site) → sites last ≡ zs → sites (stmt.Seq ((settle rs t).before ++ last ∷ [])) ≡ zs
last_sites rs t last zs h = sites_seq ((settle rs t).before ++ last ∷ []) ∙ none_before (settle rs t).before (last ∷ []) (settled_none rs t) ∙ append-nil (sites last) ∙ h

decl_sites : (x : ℕ) (rs : List Row) (t : ℕ) → sites (stmt.Seq ((settle rs t).before ++ assign_row x (settle rs t).words)) ≡ []
decl_sites x rs t = let g = settle rs t in sites_seq (g.before ++ assign_row x g.words) ∙ none_before g.before (assign_row x g.words) (settled_none rs t) ∙ assigns_none x g.words

assigned_sites : (x : ℕ) (rs : List Row) (t : ℕ) → sites (stmt.Seq (assigned x rs t)) ≡ []
assigned_sites x rs t = let g = settle rs t in sites_seq (assigned x rs t) ∙ none_before g.before (moved x g.words g.next) (settled_none rs t) ∙ moved_none x g.words g.next

source_roll : (y : StmtKind-F StmtKind) → source_stage.sites (roll-StmtKind y) ≡ sites_layer (map-StmtKind StmtKind (Source → List Site) source_stage.sites y)
unfolding source_stage.sites
source_roll y = fold-roll-StmtKind (Source → List Site) sites_layer y

module _ (p : Source) where
  abbrev HasSites : StmtKind → Type 0
  HasSites k = (here : Places) → sites (flat_stmt k p here).0 ≡ source_stage.sites k p

  abbrev Known : Type 0
  Known = (k : StmtKind) × HasSites k

  abbrev plain : Spanned Known → Spanned StmtKind
  plain x = record { kind = x.kind.0; span = x.span }

  abbrev siting : Spanned StmtKind → Spanned (Source → List Site)
  siting x = record { kind = source_stage.sites x.kind; span = x.span }

  order_sites : (ss : List (Spanned Known)) (here : Places) → sites_in (flat_all (map flattening (map plain ss)) p here).0 ≡ flat_map (λ (s : Spanned (Source → List Site)). s.kind p) (map siting (map plain ss))
  order_sites [] here = refl
  order_sites (x ∷ xs) here =
      ap (λ zs. zs ++ sites_in (flat_all (map flattening (map plain xs)) p (flat_stmt x.kind.0 p here).1).0) (x.kind.1 here) ∙ ap (λ zs. source_stage.sites x.kind.0 p ++ zs) (order_sites xs (flat_stmt x.kind.0 p here).1)

  abbrev inner : List (Spanned Known) → Places → List Stmt
  inner ss here = (flat_all (map flattening (map plain ss)) p ([] ∷ here)).0

  layer_sites : (y : StmtKind-F Known) (here : Places) → let z = map-StmtKind Known StmtKind (λ c. c.0) y in
      sites (flat_layer (map-StmtKind StmtKind Flattening flat_stmt z) p here).0 ≡ sites_layer (map-StmtKind StmtKind (Source → List Site) source_stage.sites z) p
  layer_sites source.Skip here = sites_skip
  layer_sites (source.Decl x v) here = decl_sites (count here) (flat v here).rows (count here + words_of (flat v here).shape)
  layer_sites (source.Assign x v) here = assigned_sites (place_at (innermost x here)).first (flat v here).rows (count here)
  layer_sites (source.StoreWords a v) here = sites_seq (stored (word_in (flat a here)) (flat v here).rows (count here)) ∙ stored_none (word_in (flat a here)) (flat v here).rows (count here)
  layer_sites (source.StoreByte a v) here = sites_store_byte (word_in (flat a here)) (word_in (flat v here))
  layer_sites (source.If v a b) here =
      let as' = inner a.stmts here in
      let bs' = inner b.stmts here in
      sites_if (word_in (flat v here)) (stmt.Seq as') (stmt.Seq bs') ∙ ap (λ zs. zs ++ sites (stmt.Seq bs')) (sites_seq as' ∙ order_sites a.stmts ([] ∷ here))
      ∙ ap (λ zs. flat_map (λ (s : Spanned (Source → List Site)). s.kind p) (map siting (map plain a.stmts)) ++ zs) (sites_seq bs' ∙ order_sites b.stmts ([] ∷ here))
  layer_sites (source.While v b) here = sites_while [] (word_in (flat v here)) (stmt.Seq (inner b.stmts here)) ∙ sites_seq (inner b.stmts here) ∙ order_sites b.stmts ([] ∷ here)
  layer_sites source.Break here = sites_break
  layer_sites source.Continue here = sites_continue
  layer_sites (source.Call k) here = handled k.handler
    where
      result : Shape
      result = spread (result_of (function_of k.function p))

      behind : Places
      behind = after_target k.into result here

      rs : List Row
      rs = rows_of (map (λ v. flat v here) k.args)

      words : List Expr
      words = (settle rs (count here)).words

      into : List ℕ
      into = results k.into result here

      n : ℕ
      n = numbered (function_index k.function p)

      value : HandlerOf (Spanned Known) → Shape
      value h = exception_shape (exception_of h.exception p)

      inside : HandlerOf (Spanned Known) → Places
      inside h = ((h.name, new_place (value h) behind) ∷ []) ∷ behind

      handled : (h : Option (HandlerOf (Spanned Known))) → let y : StmtKind-F Known = source.Call (record { into = k.into; function = k.function; args = k.args; handler = h }) in let z = map-StmtKind Known StmtKind (λ c. c.0) y in
          sites (flat_layer (map-StmtKind StmtKind Flattening flat_stmt z) p here).0 ≡ sites_layer (map-StmtKind StmtKind (Source → List Site) source_stage.sites z) p
      handled None = last_sites rs (count here) (stmt.Call into n words None) (site.Called n ∷ []) (sites_call into n words None)
      handled (Some h) =
          let ss = (flat_all (map flattening (map plain (h.body).stmts)) p (inside h)).0 in
          let hd : Handler Stmt = record { exception = numbered (exception_index h.exception p); variables = numbers_from (count behind) (words_of (value h)); body = stmt.Seq (cleared k.into result here ++ ss) } in
          last_sites rs (count here) (stmt.Call into n words (Some hd)) (site.Called n ∷ block_sites (record { stmts = map siting (map plain (h.body).stmts) }) p)
          (sites_call into n words (Some hd) ∙ ap (λ zs. site.Called n ∷ zs) (sites_seq (cleared k.into result here ++ ss) ∙ none_before (cleared k.into result here) ss (cleared_none k.into result here) ∙ order_sites (h.body).stmts (inside h)))
  layer_sites (source.Return v) here = let rs = (flat v here).rows in last_sites rs (count here) (stmt.Return (settle rs (count here)).words) [] (sites_return (settle rs (count here)).words)
  layer_sites (source.TailCall x es) here =
      let rs = rows_of (map (λ v. flat v here) es) in
      let n = numbered (function_index x p) in
      last_sites rs (count here) (stmt.TailCall n (settle rs (count here)).words) (site.TailCalled n ∷ []) (sites_tail_call n (settle rs (count here)).words)
  layer_sites (source.Raise x v) here =
      let rs = (flat v here).rows in
      let n = numbered (exception_index x p) in
      last_sites rs (count here) (stmt.Raise n (settle rs (count here)).words) [] (sites_raise n (settle rs (count here)).words)
  layer_sites (source.SharedLoad z x a) here = sites_shared_load z (place_at (innermost x here)).first (word_in (flat a here))
  layer_sites (source.SharedStore z a v) here = sites_shared_store z (word_in (flat a here)) (word_in (flat v here))
  layer_sites (source.Foreign x a b c f) here = sites_foreign (numbered (foreign_index x p)) (word_in (flat a here)) (word_in (flat b here)) (word_in (flat c here)) (word_in (flat f here))

  kind_sites : (k : StmtKind) → HasSites k
  kind_sites = by_layers HasSites (λ y here.
      let z = map-StmtKind Known StmtKind (λ c. c.0) y in
      ap (λ (f : Flattening). sites (f p here).0) (stmt_roll z) ∙ layer_sites y here ∙ sym (ap (λ (f : Source → List Site). f p) (source_roll z)))

  all_sites : (ss : List (Spanned StmtKind)) (here : Places) → sites_in (flat_all (map flattening ss) p here).0 ≡ flat_map (λ (s : Spanned StmtKind). source_stage.sites s.kind p) ss
  all_sites [] here = refl
  all_sites (x ∷ xs) here =
      ap (λ zs. zs ++ sites_in (flat_all (map flattening xs) p (flat_stmt x.kind p here).1).0) (kind_sites x.kind here) ∙ ap (λ zs. source_stage.sites x.kind p ++ zs) (all_sites xs (flat_stmt x.kind p here).1)

  functions_sites : (fs : List Function) → map (λ (f : CrepFun). sites f.body) (map (flat_function p) fs) ≡ map (source_stage.function_sites p) fs
  functions_sites [] = refl
  functions_sites (f ∷ fs) = ap (λ s. s ∷ map (λ (f : CrepFun). sites f.body) (map (flat_function p) fs)) (let here = with_parameters f.params ([] ∷ []) in sites_seq (flat_all (map flattening (f.body).stmts) p here).0 ∙ all_sites (f.body).stmts here) ∙ ap (λ ss. source_stage.function_sites p f ∷ ss) (functions_sites fs)

pub same_sites : (p : Source) → (crep.stage (flattened p)).sites ≡ (source_stage.stage p).sites
same_sites p = functions_sites p p.functions
