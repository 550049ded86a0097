-- A resolved statement does what the source's does.
use Rattle.std.proofs.Common.{◌≡◌, ℕ, ◌^◌, ◌*◌, ◌%◌, nat_eq, Bool, true, false, if◌then◌else◌, List, [], ◌∷◌, map, length, take, drop, Option, Some, None, slice_get, get_or, refl, sym, ap, subst, ◌∙◌}
use Rattle.std.specs.Option.{option_map_or}
use Rattle.std.specs.Str.{bytes_eq}
use Rattle.std.proofs.lemmas.Slice.Eq.{bytes_eq-Decides}
use Rattle.std.proofs.lemmas.Option.{slice_get-get_or}
use Rattle.std.proofs.lemmas.List.Quantifiers.{position-Some}
use Rattle.pan_base.specs.Events.{Load, Store, Foreign, byte_count}
use Rattle.pan_control.specs.World.{tolled}
use Rattle.pan_control.specs.Memory.{is_shared, bytes_at, with_byte, with_words}
use Rattle.pan_control.specs.Control.{Normal, Broken, Continued, Returned, Raised, Over, in_turn, ask, with_value}
use Rattle.pan_control.specs.Runs as runs
use Rattle.pan_control.specs.Runs.{tested_again}
use Rattle.pan_tree.specs.Running.{World, Outcome, Callee}
use Rattle.pan_tree.specs.Scopes.{innermost}
use Rattle.pan_tree.specs.Value.{Value, Word, words_in}
use Rattle.pan_tree.specs.Shapes.{zero_of}
use Rattle.pan_tree.specs.Check.{foreign_names, result_of, function_of}
use Rattle.pan_tree.specs.Meaning as source
use Rattle.pan_tree.specs.Meaning.{Scope, Scopes, function_index, exception_index, foreign_index, expr_weight, own_weight}
use Rattle.pan_tree.specs.declared.shape.Shape.{Shape}
use Rattle.pan_tree.specs.declared.spanned.Spanned.{Spanned}
use Rattle.pan_tree.specs.declared.syntax.BlockOf.{BlockOf}
use Rattle.pan_tree.specs.declared.syntax.HandlerOf.{HandlerOf as SourceHandler}
use Rattle.pan_tree.specs.declared.syntax.Target.{Target as SourceTarget}
use Rattle.pan_tree.specs.declared.syntax.Target.TheVariants as source_target
use Rattle.pan_tree.specs.declared.syntax.ExprKind.{ExprKind}
use Rattle.pan_tree.specs.declared.syntax.StmtKind.{StmtKind, StmtKind-F, ind-StmtKind, roll-StmtKind, map-StmtKind, fold-roll-StmtKind}
use Rattle.pan_tree.specs.declared.syntax.StmtKind.TheOpen as source_stmt
use Rattle.pan_tree.specs.declared.program.Program.{Program as Source}
use Rattle.source_resolver.specs.declared.resolved.CallOf.{CallOf}
use Rattle.source_resolver.specs.declared.resolved.HandlerOf.{HandlerOf}
use Rattle.source_resolver.specs.declared.resolved.Stmt.{Stmt, Stmt-F, roll-Stmt, map-Stmt, fold-roll-Stmt}
use Rattle.source_resolver.specs.declared.resolved.Stmt.TheOpen as open_stmt
use Rattle.source_resolver.specs.declared.resolved.Stmt.TheVariants as stmt
use Rattle.source_resolver.specs.Resolving.{Places, Resolving, count, resolved_expr, resolved_exprs, block, resolving, resolved_stmts, resolved_target, after_target, resolved_handler, resolved_layer, resolved_kind}
use Rattle.source_resolver.specs.Slots as slots
use Rattle.source_resolver.specs.Slots.{Variables}
use Rattle.source_resolver.proofs.Images.{bare, image, Shown, then_shown, shown_as, less_shown, with_shown, with_known_shown, where_shown, choice_shown, ask_shown, on_shown, call_shown, tail_call_shown, turns_shown}
use Rattle.source_resolver.proofs.Placing.{number, contents, placed, flat, placed_count, Inside, inside_as, inside_assign, inside_declare, assign_placed, assigned_flat, declare_placed, declared_flat, left_flat, left_placed}
use Rattle.source_resolver.proofs.ResolvedExprs.{expr_means, word_means, values_mean}

-- ---- layers

pub resolved_roll : (y : StmtKind-F StmtKind) → resolved_kind (roll-StmtKind y) ≡ resolved_layer (map-StmtKind StmtKind Resolving resolved_kind y)
unfolding resolved_kind
resolved_roll y = fold-roll-StmtKind Resolving resolved_layer y

pub statement_induct : (P : StmtKind → Type 0) → ((y : StmtKind-F ((k : StmtKind) × P k)) → P (roll-StmtKind (map-StmtKind ((k : StmtKind) × P k) StmtKind (λ c. c.0) y))) → (k : StmtKind) → P k
statement_induct P at k = ind-StmtKind P (λ x y is. subst (λ x. P (roll-StmtKind x)) is (at y)) k

-- ---- names

foreign_name : (name : List ℕ) (p : Source) (i : ℕ) → foreign_index name p ≡ Some i → slice_get (foreign_names p) i ≡ Some name
foreign_name name p i is =
    let found = position-Some (λ (x : List ℕ). bytes_eq x name) (foreign_names p) i [] is in
    slice_get-get_or (foreign_names p) i [] found.0 ∙ ap Some ((bytes_eq-Decides (get_or (foreign_names p) i []) name).0 found.1)

-- ---- variables behind a statement

-- these variables have these places, in these blocks
abbrev pub Behind : Places → Places → Scopes → Type 0
Behind outer here v = Inside outer v × (placed v ≡ here)

-- they have the same places
abbrev pub Same : Places → Scopes → Type 0
Same here v = placed v ≡ here

module _ (p : Source) (d : ℕ) (callee callee' : Callee (List Value) Value) (means : (i : ℕ) (a : List Value) (w : World) → callee' i a (bare w) ≡ image (λ (u : Unit {0}). u) (callee i a w)) where
  abbrev pub run : StmtKind → source.Does
  run = source.run_kind p d callee

  abbrev pub run' : Stmt → slots.Does
  run' = slots.run (foreign_names p) d callee'

  run_roll : (y : StmtKind-F StmtKind) → run (roll-StmtKind y) ≡ source.run_layer p d callee (map-StmtKind StmtKind source.Does run y)
  unfolding source.run_kind
  run_roll y = fold-roll-StmtKind source.Does (source.run_layer p d callee) y

  slots_roll : (y : Stmt-F Stmt) → run' (roll-Stmt y) ≡ slots.act_layer (foreign_names p) d callee' (map-Stmt Stmt slots.Does run' y)
  unfolding slots.run
  slots_roll y = fold-roll-Stmt slots.Does (slots.act_layer (foreign_names p) d callee') y

  -- a resolved statement at its layer
  at : (y : Stmt-F Stmt) (s : Stmt) → roll-Stmt y ≡ s → (u : Variables) (w : World) → run' s u w ≡ slots.act_layer (foreign_names p) d callee' (map-Stmt Stmt slots.Does run' y) u w
  at y s is u w = ap (λ s. run' s u w) (sym is) ∙ ap (λ g. g u w) (slots_roll y)

  -- what a statement does is shown by what the resolved one does, and the variables behind it are those that resolving says
  abbrev pub Means : StmtKind → Type 0
  Means k = (outer : Places) (v : Scopes) (w : World) → Inside outer v
      → Shown flat (Behind outer (resolved_kind k p (placed v)).1) (Inside outer) (run k v w) (run' (resolved_kind k p (placed v)).0 (flat v) (bare w))

  abbrev Known : Type 0
  Known = (k : StmtKind) × Means k

  abbrev plain : Spanned Known → Spanned StmtKind
  plain s = record { kind = s.kind.0; span = s.span }

  abbrev pub does : Spanned StmtKind → Spanned source.Does
  does s = record { kind = run s.kind; span = s.span }

  -- the same of each
  abbrev pub AllMean : List (Spanned StmtKind) → Type 0
  AllMean [] = Unit {0}
  AllMean (s ∷ ss) = Means s.kind × AllMean ss

  all_known : (ss : List (Spanned Known)) → AllMean (map plain ss)
  all_known [] = tt
  all_known (s ∷ ss) = (s.kind.1, all_known ss)

  -- ---- blocks

  pub order_means : (ss : List (Spanned StmtKind)) → AllMean ss → (outer : Places) (v : Scopes) (w : World) → Inside outer v
      → Shown flat (Behind outer (resolved_stmts ss p (placed v)).1) (Inside outer) (in_turn (map (λ s. s.kind) (map does ss)) v w) (in_turn (map run' (resolved_stmts ss p (placed v)).0) (flat v) (bare w))
  order_means [] h outer v w i = record { same = refl; so = (i, refl) }
  order_means (s ∷ ss) h outer v w i =
      let one = resolved_kind s.kind p (placed v) in
      then_shown flat (Behind outer one.1) (Inside outer) _ (run s.kind v w) _ _ _ (h.0 outer v w i) (λ t w b.
      subst (λ here. Shown flat (Behind outer (resolved_stmts ss p here).1) (Inside outer) (in_turn (map (λ s. s.kind) (map does ss)) t w) (in_turn (map run' (resolved_stmts ss p here).0) (flat t) (bare w)))
      b.1 (order_means ss h.1 outer t w b.0))

  abbrev block_resolving : BlockOf (Spanned Known) → BlockOf (Spanned Resolving)
  block_resolving b = record { stmts = map resolving (map plain b.stmts) }

  abbrev block_does : BlockOf (Spanned Known) → BlockOf (Spanned source.Does)
  block_does b = record { stmts = map does (map plain b.stmts) }

  block_means : (first : Scope) (b : BlockOf (Spanned Known)) (here : Places) (v : Scopes) (w : World) → placed v ≡ here
      → Shown flat (Same here) (Same here) (source.scoped first (block_does b) v w) (slots.scoped (contents first) (map run' (block (number (count here) first) (block_resolving b) p here)) (flat v) (bare w))
  block_means first b here v w e =
      subst (λ here. Shown flat (Same here) (Same here) (source.scoped first (block_does b) v w) (slots.scoped (contents first) (map run' (block (number (count here) first) (block_resolving b) p here)) (flat v) (bare w))) e
      (subst (λ n. Shown flat (Same (placed v)) (Same (placed v)) (source.scoped first (block_does b) v w) (slots.scoped (contents first) (map run' (block (number n first) (block_resolving b) p (placed v))) (flat v) (bare w))) (sym (placed_count v))
      (on_shown flat (Behind (placed v) _) (Inside (placed v)) (Same (placed v)) (Same (placed v)) (drop 1) (take (length (flat v))) _ _ (λ t b. (left_flat v t b.0, left_placed (placed v) t b.0)) (λ t i. (left_flat v t i, left_placed (placed v) t i))
      (order_means (map plain b.stmts) (all_known b.stmts) (placed v) (first ∷ v) w refl)))

  -- what is known behind a block is known behind the statement that it belongs to
  around : (outer : Places) (here : Places) (v t : Scopes) → Inside outer v → placed v ≡ here → placed t ≡ here → Behind outer here t
  around outer here v t i e h = (inside_as outer v t i (h ∙ sym e), h)

  inner_means : (first : Scope) (b : BlockOf (Spanned Known)) (outer here : Places) (v : Scopes) (w : World) → Inside outer v → placed v ≡ here
      → Shown flat (Behind outer here) (Inside outer) (source.scoped first (block_does b) v w) (slots.scoped (contents first) (map run' (block (number (count here) first) (block_resolving b) p here)) (flat v) (bare w))
  inner_means first b outer here v w i e = less_shown flat (Same here) (Same here) (Behind outer here) (Inside outer) _ _ (λ t h. around outer here v t i e h) (λ t h. (around outer here v t i e h).0) (block_means first b here v w e)

  -- ---- loops

  again_shown : (N : Scopes → Type 0) (weight : Scopes → ℕ) (o : Outcome Scopes Value) (o' : Outcome Variables Value) → Shown flat N N o o' → Shown flat N N (tested_again weight o) o'
  again_shown N weight (Normal v w) o' s = record { same = s.same; so = s.so }
  again_shown N weight (Broken v w) o' s = s
  again_shown N weight (Continued v w) o' s = record { same = s.same; so = s.so }
  again_shown N weight (Returned x w) o' s = s
  again_shown N weight (Raised i x w) o' s = s
  again_shown N weight (Over e w) o' s = s

  while_means : (e : Spanned ExprKind) (b : BlockOf (Spanned Known)) (outer : Places) (v : Scopes) (w : World) → Inside outer v
      → Shown flat (Behind outer (placed v)) (Inside outer) (source.act_layer p d callee (source_stmt.While e (block_does b)) v w)
      (slots.act_layer (foreign_names p) d callee' (open_stmt.While (resolved_expr e (placed v)) (map run' (block [] (block_resolving b) p (placed v)))) (flat v) (bare w))
  while_means e b outer v w i =
      less_shown flat (Same (placed v)) (Same (placed v)) (Behind outer (placed v)) (Inside outer) _ _ (λ t h. around outer (placed v) v t i refl h) (λ t h. (around outer (placed v) v t i refl h).0)
      (turns_shown flat (Same (placed v)) _ _ _ _ (λ t w h. ap (λ here. slots.word (resolved_expr e here) (flat t) w.memory) (sym h) ∙ word_means e t w.memory)
      (λ t w h. again_shown (Same (placed v)) (expr_weight e) _ _ (block_means [] b (placed v) t w h)) d v w refl)

  -- ---- calls

  into_flat : (into : SourceTarget) (s : Shape) (a : Value) (outer : Places) (v : Scopes) → Inside outer v → slots.into (resolved_target into s (placed v)) a (flat v) ≡ flat (source.into into a v)
  into_flat source_target.Nothing s a outer v i = refl
  into_flat (source_target.Old x) s a outer v i = assigned_flat x a v
  into_flat (source_target.New x) s a outer v i = declared_flat outer x a v i

  into_behind : (into : SourceTarget) (a : Value) (outer : Places) (v : Scopes) → Inside outer v → Behind outer (after_target into (placed v)) (source.into into a v)
  into_behind source_target.Nothing a outer v i = (i, refl)
  into_behind (source_target.Old x) a outer v i = (inside_assign outer x a v i, assign_placed x a v)
  into_behind (source_target.New x) a outer v i = (inside_declare outer x a v i, declare_placed x a v)

  nothing_flat : (into : SourceTarget) (s : Shape) (outer : Places) (v : Scopes) → Inside outer v → slots.into_nothing (resolved_target into s (placed v)) (flat v) ≡ flat (source.into_nothing into s v)
  nothing_flat source_target.Nothing s outer v i = refl
  nothing_flat (source_target.Old x) s outer v i = refl
  nothing_flat (source_target.New x) s outer v i = declared_flat outer x (zero_of s) v i

  nothing_behind : (into : SourceTarget) (s : Shape) (outer : Places) (v : Scopes) → Inside outer v → Behind outer (after_target into (placed v)) (source.into_nothing into s v)
  nothing_behind source_target.Nothing s outer v i = (i, refl)
  nothing_behind (source_target.Old x) s outer v i = (i, refl)
  nothing_behind (source_target.New x) s outer v i = (inside_declare outer x (zero_of s) v i, declare_placed x (zero_of s) v)

  abbrev handler_does : Option (SourceHandler (Spanned Known)) → Option (SourceHandler (Spanned source.Does))
  handler_does None = None
  handler_does (Some h) = Some (record { exception = h.exception; name = h.name; body = block_does h.body })

  abbrev handler_resolving : Option (SourceHandler (Spanned Known)) → Option (SourceHandler (Spanned Resolving))
  handler_resolving None = None
  handler_resolving (Some h) = Some (record { exception = h.exception; name = h.name; body = block_resolving h.body })

  abbrev handler_runs : Option (HandlerOf (List Stmt)) → Option (HandlerOf (List slots.Does))
  handler_runs None = None
  handler_runs (Some h) = Some (record { exception = h.exception; body = map run' h.body })

  caught_means : (h : Option (SourceHandler (Spanned Known))) (outer here : Places) (v : Scopes) → Inside outer v → placed v ≡ here → (i : ℕ) (a : Value) (w : World)
      → Shown flat (Behind outer here) (Inside outer) (source.caught p (handler_does h) v i a w) (slots.caught (handler_runs (resolved_handler (handler_resolving h) p here)) (flat v) i a (bare w))
  caught_means None outer here v inside e i a w = record { same = refl; so = tt }
  caught_means (Some h) outer here v inside e i a w = by (option_map_or (nat_eq i) (exception_index h.exception p) false)
    where
      by : (b : Bool)
          → Shown flat (Behind outer here) (Inside outer) (if b then source.scoped ((h.name, a) ∷ []) (block_does h.body) v w else Raised i a w)
          (if b then slots.scoped (a ∷ []) (map run' (block ((h.name, count here) ∷ []) (block_resolving h.body) p here)) (flat v) (bare w) else Raised i a (bare w))
      by true = inner_means ((h.name, a) ∷ []) h.body outer here v w inside e
      by false = record { same = refl; so = tt }

  call_means : (into : SourceTarget) (f : List ℕ) (args : List (Spanned ExprKind)) (h : Option (SourceHandler (Spanned Known))) (outer : Places) (v : Scopes) (w : World) → Inside outer v
      → Shown flat (Behind outer (after_target into (placed v))) (Inside outer) (source.act_layer p d callee (source_stmt.Call (record { into = into; function = f; args = args; handler = handler_does h })) v w)
      (slots.act_layer (foreign_names p) d callee' (open_stmt.Call (record {
        into = resolved_target into (result_of (function_of f p)) (placed v);
        function = function_index f p;
        args = resolved_exprs args (placed v);
        handler = handler_runs (resolved_handler (handler_resolving h) p (after_target into (placed v)));
      })) (flat v) (bare w))
  call_means into f args h outer v w i =
      let s = result_of (function_of f p) in
      let here = after_target into (placed v) in
      let nothing = nothing_behind into s outer v i in
      with_shown flat (Behind outer here) (Inside outer) (function_index f p) (function_index f p) refl w _ _ (λ k.
      call_shown flat (Behind outer here) (Inside outer) callee callee' means k _ _ (values_mean args v w.memory) w _ _ _ _
      (λ a w. record { same = ap (λ u. Normal u (bare w)) (into_flat into s a outer v i); so = into_behind into a outer v i })
      (λ j a w.
      subst (λ u. Shown flat (Behind outer here) (Inside outer) (source.caught p (handler_does h) (source.into_nothing into s v) j a w) (slots.caught (handler_runs (resolved_handler (handler_resolving h) p here)) u j a (bare w)))
      (sym (nothing_flat into s outer v i)) (caught_means h outer here (source.into_nothing into s v) nothing.0 nothing.1 j a w)))

  -- ---- all statements

  abbrev parts : StmtKind-F Known → StmtKind-F StmtKind
  parts y = map-StmtKind Known StmtKind (λ c. c.0) y

  abbrev layer : StmtKind-F Known → Resolving
  layer y = resolved_layer (map-StmtKind StmtKind Resolving resolved_kind (parts y))

  -- a statement that is resolved to this one does what that one does at its layer
  shown_at : (N B : Scopes → Type 0) (o : Outcome Scopes Value) (y : Stmt-F Stmt) (s : Stmt) (v : Scopes) (w : World) → roll-Stmt y ≡ s
      → Shown flat N B o (slots.act_layer (foreign_names p) d callee' (map-Stmt Stmt slots.Does run' y) (flat v) (bare w)) → Shown flat N B o (run' s (flat v) (bare w))
  shown_at N B o y s v w is h = shown_as flat N B o _ _ (at y s is (flat v) (bare w)) h

  call_layer_means : (into : SourceTarget) (f : List ℕ) (args : List (Spanned ExprKind)) (h : Option (SourceHandler (Spanned Known))) (outer : Places) (v : Scopes) (w : World) → Inside outer v
      → Shown flat (Behind outer (layer (source_stmt.Call (record { into = into; function = f; args = args; handler = h })) p (placed v)).1) (Inside outer)
      (source.act_layer p d callee (map-StmtKind StmtKind source.Does run (parts (source_stmt.Call (record { into = into; function = f; args = args; handler = h })))) v w)
      (run' (layer (source_stmt.Call (record { into = into; function = f; args = args; handler = h })) p (placed v)).0 (flat v) (bare w))
  call_layer_means into f args None outer v w i =
      let c : CallOf (List Stmt) = record { into = resolved_target into (result_of (function_of f p)) (placed v); function = function_index f p; args = resolved_exprs args (placed v); handler = None } in
      shown_at _ _ _ (open_stmt.Call _) _ v w (stmt.rolls-Call c) (call_means into f args None outer v w i)
  call_layer_means into f args (Some h) outer v w i =
      let c : CallOf (List Stmt) = record {
        into = resolved_target into (result_of (function_of f p)) (placed v);
        function = function_index f p;
        args = resolved_exprs args (placed v);
        handler = resolved_handler (handler_resolving (Some h)) p (after_target into (placed v));
      } in
      shown_at _ _ _ (open_stmt.Call _) _ v w (stmt.rolls-Call c) (call_means into f args (Some h) outer v w i)

  foreign_means : (k : ℕ) (x : List ℕ) (conf conf_len array array_len : ℕ) (outer : Places) (v : Scopes) (w : World) → Inside outer v → foreign_index x p ≡ Some k
      → Shown flat (Behind outer (placed v)) (Inside outer) (runs.foreign k x conf conf_len array array_len v w) (slots.foreign (foreign_names p) k conf conf_len array array_len (flat v) (bare w))
  foreign_means k x conf conf_len array array_len outer v w i is =
      subst (λ o. Shown {X = Value} flat (Behind outer (placed v)) (Inside outer) (runs.foreign k x conf conf_len array array_len v w)
      (with_value o (bare w) (λ name. with_value (bytes_at w.memory conf conf_len) (bare w) (λ c. with_value (bytes_at w.memory array array_len) (bare w) (λ a.
      ask (Foreign k name c a) (bare w) (λ r w. Normal (flat v) (record w { memory = runs.with_reply w.memory array r }))))))) (sym (foreign_name x p k is))
      (with_shown flat _ _ (bytes_at w.memory conf conf_len) _ refl w _ _ (λ c. with_shown flat _ _ (bytes_at w.memory array array_len) _ refl w _ _ (λ a.
      ask_shown flat _ _ (Foreign k x c a) w _ _ (λ r w. record { same = refl; so = (i, refl) }))))

  layer_means : (y : StmtKind-F Known) (outer : Places) (v : Scopes) (w : World) → Inside outer v
      → Shown flat (Behind outer (layer y p (placed v)).1) (Inside outer) (source.act_layer p d callee (map-StmtKind StmtKind source.Does run (parts y)) v w) (run' (layer y p (placed v)).0 (flat v) (bare w))
  layer_means source_stmt.Skip outer v w i = shown_at _ _ _ open_stmt.Skip _ v w stmt.rolls-Skip (record { same = refl; so = (i, refl) })
  layer_means (source_stmt.Decl x e) outer v w i =
      shown_at _ _ _ (open_stmt.Declare _) _ v w (stmt.rolls-Declare (resolved_expr e (placed v))) (with_shown flat _ _ _ _ (expr_means e v w.memory) w _ _ (λ a.
      record { same = ap (λ u. Normal u (bare w)) (declared_flat outer x a v i); so = (inside_declare outer x a v i, declare_placed x a v) }))
  layer_means (source_stmt.Assign x e) outer v w i =
      shown_at _ _ _ (open_stmt.Assign _ _) _ v w (stmt.rolls-Assign (innermost x (placed v)) (resolved_expr e (placed v))) (with_shown flat _ _ _ _ (expr_means e v w.memory) w _ _ (λ a.
      record { same = ap (λ u. Normal u (bare w)) (assigned_flat x a v); so = (inside_assign outer x a v i, assign_placed x a v) }))
  layer_means (source_stmt.StoreWords a e) outer v w i =
      shown_at _ _ _ (open_stmt.StoreWords _ _) _ v w (stmt.rolls-StoreWords (resolved_expr a (placed v)) (resolved_expr e (placed v))) (with_shown flat _ _ _ _ (word_means a v w.memory) w _ _ (λ addr.
      with_shown flat _ _ _ _ (expr_means e v w.memory) w _ _ (λ x. with_shown flat _ _ (with_words w.memory addr (words_in x)) _ refl w _ _ (λ m. record { same = refl; so = (i, refl) }))))
  layer_means (source_stmt.StoreByte a e) outer v w i =
      shown_at _ _ _ (open_stmt.StoreByte _ _) _ v w (stmt.rolls-StoreByte (resolved_expr a (placed v)) (resolved_expr e (placed v))) (with_shown flat _ _ _ _ (word_means a v w.memory) w _ _ (λ addr.
      with_shown flat _ _ _ _ (word_means e v w.memory) w _ _ (λ n. with_shown flat _ _ (with_byte w.memory addr (n % 256)) _ refl w _ _ (λ m. record { same = refl; so = (i, refl) }))))
  layer_means (source_stmt.If e a b) outer v w i =
      let first = block [] (block_resolving a) p (placed v) in
      let second = block [] (block_resolving b) p (placed v) in
      shown_at _ _ _ (open_stmt.If _ _ _) _ v w (stmt.rolls-If (resolved_expr e (placed v)) first second) (with_shown flat _ _ _ _ (word_means e v w.memory) w _ _ (λ n.
      choice_shown flat _ _ n _ _ _ _ (inner_means [] a outer (placed v) v w i refl) (inner_means [] b outer (placed v) v w i refl)))
  layer_means (source_stmt.While e b) outer v w i =
      shown_at _ _ _ (open_stmt.While _ _) _ v w (stmt.rolls-While (resolved_expr e (placed v)) (block [] (block_resolving b) p (placed v))) (while_means e b outer v w i)
  layer_means source_stmt.Break outer v w i = shown_at _ _ _ open_stmt.Break _ v w stmt.rolls-Break (record { same = refl; so = i })
  layer_means source_stmt.Continue outer v w i = shown_at _ _ _ open_stmt.Continue _ v w stmt.rolls-Continue (record { same = refl; so = i })
  layer_means (source_stmt.Call c) outer v w i = call_layer_means c.into c.function c.args c.handler outer v w i
  layer_means (source_stmt.Return e) outer v w i =
      shown_at _ _ _ (open_stmt.Return _) _ v w (stmt.rolls-Return (resolved_expr e (placed v))) (with_shown flat _ _ _ _ (expr_means e v w.memory) w _ _ (λ a. record { same = refl; so = tt }))
  layer_means (source_stmt.TailCall f args) outer v w i =
      shown_at _ _ _ (open_stmt.TailCall _ _) _ v w (stmt.rolls-TailCall (function_index f p) (resolved_exprs args (placed v))) (with_shown flat _ _ (function_index f p) _ refl w _ _ (λ k.
      tail_call_shown flat _ _ callee callee' means k _ _ (values_mean args v w.memory) w))
  layer_means (source_stmt.Raise x e) outer v w i =
      shown_at _ _ _ (open_stmt.Raise _ _) _ v w (stmt.rolls-Raise (exception_index x p) (resolved_expr e (placed v))) (with_shown flat _ _ (exception_index x p) _ refl w _ _ (λ k.
      with_shown flat _ _ _ _ (expr_means e v w.memory) w _ _ (λ a. record { same = refl; so = tt })))
  layer_means (source_stmt.SharedLoad size x a) outer v w i =
      shown_at _ _ _ (open_stmt.SharedLoad size _ _) _ v w (stmt.rolls-SharedLoad size (innermost x (placed v)) (resolved_expr a (placed v))) (with_shown flat _ _ _ _ (word_means a v w.memory) w _ _ (λ addr.
      where_shown flat _ _ (is_shared size addr) w _ _ (ask_shown flat _ _ (Load size addr) w _ _ (λ r w.
      let value = Word (runs.number r) in record { same = ap (λ u. Normal u (bare w)) (assigned_flat x value v); so = (inside_assign outer x value v i, assign_placed x value v) }))))
  layer_means (source_stmt.SharedStore size a e) outer v w i =
      shown_at _ _ _ (open_stmt.SharedStore size _ _) _ v w (stmt.rolls-SharedStore size (resolved_expr a (placed v)) (resolved_expr e (placed v))) (with_shown flat _ _ _ _ (word_means a v w.memory) w _ _ (λ addr.
      with_shown flat _ _ _ _ (word_means e v w.memory) w _ _ (λ n. where_shown flat _ _ (is_shared size addr) w _ _ (ask_shown flat _ _ (Store size addr (n % 2 ^ (8 * byte_count size))) w _ _ (λ r w.
      record { same = refl; so = (i, refl) })))))
  layer_means (source_stmt.Foreign x c l a m) outer v w i =
      shown_at _ _ _ (open_stmt.Foreign _ _ _ _ _) _ v w (stmt.rolls-Foreign (foreign_index x p) (resolved_expr c (placed v)) (resolved_expr l (placed v)) (resolved_expr a (placed v)) (resolved_expr m (placed v)))
      (with_known_shown flat _ _ (foreign_index x p) w _ _ (λ k is. with_shown flat _ _ _ _ (word_means c v w.memory) w _ _ (λ conf. with_shown flat _ _ _ _ (word_means l v w.memory) w _ _ (λ conf_len.
      with_shown flat _ _ _ _ (word_means a v w.memory) w _ _ (λ array. with_shown flat _ _ _ _ (word_means m v w.memory) w _ _ (λ array_len. foreign_means k x conf conf_len array array_len outer v w i is))))))

  pub kind_means : (k : StmtKind) → Means k
  kind_means = statement_induct Means (λ y outer v w i.
      subst (λ (r : Resolving). Shown flat (Behind outer (r p (placed v)).1) (Inside outer) (run (roll-StmtKind (parts y)) v w) (run' (r p (placed v)).0 (flat v) (bare w))) (sym (resolved_roll (parts y)))
      (subst (λ (g : source.Does). Shown flat (Behind outer (layer y p (placed v)).1) (Inside outer) (g v w) (run' (layer y p (placed v)).0 (flat v) (bare w))) (sym (run_roll (parts y)))
      (layer_means y outer v (tolled (own_weight p (map-StmtKind StmtKind source.Does run (parts y)) v) w) i)))

  pub all_mean : (ss : List (Spanned StmtKind)) → AllMean ss
  all_mean [] = tt
  all_mean (s ∷ ss) = (kind_means s.kind, all_mean ss)
