-- No program ends in a fault or for want of a stack.
use Rattle.std.proofs.Common.{ℕ, zero, suc, ◌*◌, ◌%◌, ◌^◌, List, [], ◌∷◌, map, Option, Some, None, Bool, true, false, sym, subst}
use Rattle.std.specs.Prelude.{nat_eq, if◌then◌else◌, slice_get, drop, codes}
use Rattle.std.specs.Option.{option_map_or}
use Rattle.pan_base.specs.Events.{Load, Store, Foreign, Replied, byte_count}
use Rattle.pan_control.specs.World.{entered, tolled}
use Rattle.pan_control.specs.Memory.{is_shared, bytes_at, with_byte, with_words}
use Rattle.pan_control.specs.Control.{Normal, Broken, Continued, Returned, Raised, Over, with_value, call}
use Rattle.pan_control.proofs.Ends.{IsHigh, EndsHigh, RunsHigh, CallsHigh, AllHigh, tested_high, foreign_high, nested_high, seen_high, in_turn_high, value_high, where_high, choice_high, ask_high, turns_high, call_high, tail_high, left_high, on_high}
use Rattle.pan_tree.specs.Running.{World, Outcome, Callee}
use Rattle.pan_tree.specs.Value.{Value, word_of, words_in}
use Rattle.pan_tree.specs.Check.{cost, function_of, result_of}
use Rattle.pan_tree.specs.Meaning.{Does, Scope, Scopes, scoped, into, into_nothing, caught, expr_weight, own_weight, act_layer, run_layer, run_kind, value, values, word, function_index, exception_index, foreign_index, parameters, entry_weight, body_of, enter, calls, source, start}
use Rattle.pan_tree.specs.Ends.{IsSourceLike}
use Rattle.pan_tree.specs.declared.spanned.Spanned.{Spanned}
use Rattle.pan_tree.specs.declared.syntax.ExprKind.{ExprKind}
use Rattle.pan_tree.specs.declared.syntax.StmtKind.{StmtKind, StmtKind-F, map-StmtKind}
use Rattle.pan_tree.specs.declared.syntax.StmtKind.TheOpen as stmt
use Rattle.pan_tree.specs.declared.syntax.CallOf.{CallOf}
use Rattle.pan_tree.specs.declared.syntax.HandlerOf.{HandlerOf}
use Rattle.pan_tree.specs.declared.syntax.Target.{Target}
use Rattle.pan_tree.specs.declared.program.Program.{Program}
use Rattle.pan_tree.specs.declared.program.Function.{Function}
use Rattle.pan_tree.proofs.MeaningLayers.{by_layers, run_roll}

if_high : (b : Bool) (o r : Outcome Scopes Value) → EndsHigh o → EndsHigh r → EndsHigh (if b then o else r)
if_high true o r h k = h
if_high false o r h k = k

module _ (p : Program) (d : ℕ) (c : Callee (List Value) Value) (hc : CallsHigh c) where
  -- no run of the statement ends in a fault or for want of a stack
  abbrev StatementHigh : StmtKind → Type 0
  StatementHigh s = RunsHigh (run_kind p d c s)

  -- a statement with that claim
  abbrev Claimed : Type 0
  Claimed = Spanned ((s : StmtKind) × StatementHigh s)

  -- the statement without its claim
  abbrev part : Claimed → Spanned StmtKind
  part s = record { kind = (s.kind).0; span = s.span }

  -- what it does
  abbrev done : Spanned StmtKind → Spanned Does
  done s = record { kind = run_kind p d c s.kind; span = s.span }

  all_high : (ss : List Claimed) → AllHigh (map (λ s. s.kind) (map done (map part ss)))
  all_high [] = tt
  all_high (s ∷ ss) = ((s.kind).1, all_high ss)

  scoped_high : (first : Scope) (ss : List Claimed) → RunsHigh (scoped first (record { stmts = map done (map part ss) }))
  scoped_high first ss v w = on_high (drop 1) _ (in_turn_high _ (all_high ss) (first ∷ v) w)

  -- the layer without the claims about its parts
  abbrev parts : StmtKind-F ((s : StmtKind) × StatementHigh s) → StmtKind-F StmtKind
  parts y = map-StmtKind ((s : StmtKind) × StatementHigh s) StmtKind (λ p. p.0) y

  abbrev acts : StmtKind-F ((s : StmtKind) × StatementHigh s) → Does
  acts y = act_layer p d c (map-StmtKind StmtKind Does (run_kind p d c) (parts y))

  -- a call, once what is done about an exception ends so
  called_high : (to : Target) (name : List ℕ) (es : List (Spanned ExprKind)) (threw : Scopes → ℕ → Value → World → Outcome Scopes Value) → ((v : Scopes) (i : ℕ) (x : Value) (w : World) → EndsHigh (threw v i x w))
      → RunsHigh (λ v w. with_value (function_index name p) w (λ f. call c f (values es v w.memory) w (λ x w. Normal (into to x v) w) (threw v)))
  called_high to name es threw ht v w = value_high (function_index name p) w _ (λ f. call_high c f (values es v w.memory) w _ (threw v) hc (λ x w. record { over = tt }) (ht v))

  handled_high : (to : Target) (name : List ℕ) (es : List (Spanned ExprKind)) (h : Option (HandlerOf Claimed)) → let k : CallOf Claimed = record { into = to; function = name; args = es; handler = h } in RunsHigh (acts (stmt.Call k))
  handled_high to name es None = called_high to name es (λ v i x w. Raised i x w) (λ v i x w. record { over = tt })
  handled_high to name es (Some h) =
      let at = λ (v : Scopes). into_nothing to (result_of (function_of name p)) v in
      called_high to name es
      (λ v. caught p (Some (record { exception = h.exception; name = h.name; body = record { stmts = map done (map part (h.body).stmts) } })) (at v))
      (λ v i x w. if_high (option_map_or (nat_eq i) (exception_index h.exception p) false) _ _ (scoped_high ((h.name, x) ∷ []) (h.body).stmts (at v) w) (record { over = tt }))

  layer_high : (y : StmtKind-F ((s : StmtKind) × StatementHigh s)) → RunsHigh (acts y)
  layer_high stmt.Skip v w = record { over = tt }
  layer_high (stmt.Decl x e) v w = value_high (value e v w.memory) w _ (λ a. record { over = tt })
  layer_high (stmt.Assign x e) v w = value_high (value e v w.memory) w _ (λ a. record { over = tt })
  layer_high (stmt.StoreWords a e) v w = value_high (word a v w.memory) w _ (λ addr. value_high (value e v w.memory) w _ (λ x. value_high (with_words w.memory addr (words_in x)) w _ (λ m. record { over = tt })))
  layer_high (stmt.StoreByte a e) v w = value_high (word a v w.memory) w _ (λ addr. value_high (word e v w.memory) w _ (λ n. value_high (with_byte w.memory addr (n % 256)) w _ (λ m. record { over = tt })))
  layer_high (stmt.If e a b) v w = value_high (word e v w.memory) w _ (λ n. choice_high n _ _ (scoped_high [] a.stmts v w) (scoped_high [] b.stmts v w))
  layer_high (stmt.While e b) v w = turns_high d _ (λ v w. word e v w.memory) _ (λ v w. record { over = tt }) (λ v w. tested_high (expr_weight e) _ (scoped_high [] b.stmts v w)) v w
  layer_high stmt.Break v w = record { over = tt }
  layer_high stmt.Continue v w = record { over = tt }
  layer_high (stmt.Call k) v w = handled_high k.into k.function k.args k.handler v w
  layer_high (stmt.Return e) v w = value_high (value e v w.memory) w _ (λ a. record { over = tt })
  layer_high (stmt.TailCall name es) v w = value_high (function_index name p) w _ (λ f. tail_high Scopes c f (values es v w.memory) w hc)
  layer_high (stmt.Raise name e) v w = value_high (exception_index name p) w _ (λ i. value_high (value e v w.memory) w _ (λ a. record { over = tt }))
  layer_high (stmt.SharedLoad size x a) v w = value_high (word a v w.memory) w _ (λ addr. where_high (is_shared size addr) w _ (ask_high (Load size addr) w _ (λ r w. record { over = tt })))
  layer_high (stmt.SharedStore size a e) v w =
      value_high (word a v w.memory) w _ (λ addr. value_high (word e v w.memory) w _ (λ n.
      where_high (is_shared size addr) w _ (ask_high (Store size addr (n % 2 ^ (8 * byte_count size))) w _ (λ r w. record { over = tt }))))
  layer_high (stmt.Foreign name e f g h) v w =
      value_high (foreign_index name p) w _ (λ i. value_high (word e v w.memory) w _ (λ a. value_high (word f v w.memory) w _ (λ l.
      value_high (word g v w.memory) w _ (λ b. value_high (word h v w.memory) w _ (λ n. foreign_high i name a l b n v w)))))

  worked_high : (y : StmtKind-F ((s : StmtKind) × StatementHigh s)) → RunsHigh (run_layer p d c (map-StmtKind StmtKind Does (run_kind p d c) (parts y)))
  worked_high y v w = layer_high y v (tolled (own_weight p (map-StmtKind StmtKind Does (run_kind p d c) (parts y)) v) w)

  statement_high : (s : StmtKind) → StatementHigh s
  statement_high = by_layers StatementHigh (λ y. subst (λ (m : Does). RunsHigh m) (sym (run_roll p d c (parts y))) (worked_high y))

  each_high : (ss : List (Spanned StmtKind)) → AllHigh (map (λ s. run_kind p d c s.kind) ss)
  each_high [] = tt
  each_high (s ∷ ss) = (statement_high s.kind, each_high ss)

  function_high : (f : Function) (xs : List Value) (w : World) → EndsHigh (body_of p d c f xs w)
  function_high f xs w =
      value_high (parameters f.params xs) w _ (λ scope. left_high (Unit {0}) _ (in_turn_high _ (each_high (f.body).stmts) (scope ∷ []) (entered (cost p f) (tolled (entry_weight f) w))))

calls_high : (p : Program) (d : ℕ) → CallsHigh (calls p d)
calls_high p = nested_high (enter p) (λ d c hc f xs w. value_high (slice_get p.functions f) w _ (λ g. function_high p d c hc g xs w))

source_high : (p : Program) (m : List ℕ) (r : List Replied) (n : ℕ) → IsHigh (((source p m r n).behaviour).ending)
source_high p m r n = seen_high word_of _ (value_high (function_index (codes "main") p) (start m r n) _ (λ f. calls_high p (suc n) f [] (start m r n)))

pub source_like : (p : Program) (m : List ℕ) (r : List Replied) → IsSourceLike (source p m r)
source_like p m r = record { no_fault = λ n. (source_high p m r n).no_fault; no_stack = λ n. (source_high p m r n).no_stack }
