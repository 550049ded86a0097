-- Induction over statements, where each part comes with what is known of it.
use Rattle.std.proofs.Common.{◌≡◌, ℕ, ◌+◌, true, false, List, [], ◌∷◌, map, Option, Some, None, refl, sym, ap, subst, ◌∙◌}
use Rattle.pan_tree.specs.declared.spanned.Spanned.{Spanned}
use Rattle.pan_tree.specs.declared.syntax.HandlerOf.{HandlerOf}
use Rattle.pan_tree.specs.declared.syntax.BlockOf.{BlockOf}
use Rattle.pan_tree.specs.declared.syntax.StmtKind.{StmtKind, StmtKind-F, ind-StmtKind, roll-StmtKind, map-StmtKind}
use Rattle.pan_tree.specs.declared.syntax.StmtKind.TheOpen as open_stmt
use Rattle.pan_tree.specs.declared.program.Function.{Function}
use Rattle.pan_tree.specs.declared.program.Program.{Program}
use Rattle.pan_tree.specs.Check.{Scope, Scopes, Context, State, Doing, Done, doing, do_kind, do_layer, in_order, block, handle, body, parameters, weights, judged, exception_of, after_target, result_of, function_of}
use Rattle.pan_shapes.specs.Doings.{call_alone}
use Rattle.pan_tree.specs.declared.syntax.ExprKind.{ExprKind}
use Rattle.pan_tree.specs.declared.syntax.Target.{Target}
use Rattle.std.specs.Option.{option_map_or}
use Rattle.pan_tree.specs.Shapes.{words_of}
use Rattle.pan_tree.specs.declared.shape.Shape.TheVariants as shape
use Rattle.pan_tree.specs.declared.program.Exception.{Exception}
use Rattle.pan_tree.proofs.CheckLayers.{do_roll}

pub statement_induct : (P : StmtKind → Type 0) → ((y : StmtKind-F ((k : StmtKind) × P k)) → P (roll-StmtKind (map-StmtKind ((k : StmtKind) × P k) StmtKind (λ c. c.0) y))) → (k : StmtKind) → P k
statement_induct P at k = ind-StmtKind P (λ x y is. subst (λ x. P (roll-StmtKind x)) is (at y)) k

-- ---- what a statement weighs doesn't turn on the foreign names before it

abbrev at_names : Scopes → List (List ℕ) → State
at_names v ns = record { scopes = v; names = ns }

-- both weigh the same, and leave the same variables
abbrev Alike : Done → Done → Type 0
Alike d e = (d.weight ≡ e.weight) × ((d.state).scopes ≡ (e.state).scopes)

abbrev Steady : Doing → Type 0
Steady d = (c : Context) (place : ℕ) (v : Scopes) (ns ms : List (List ℕ)) → Alike (d c place (at_names v ns)) (d c place (at_names v ms))

abbrev Known : Type 0
Known = (k : StmtKind) × Steady (do_kind k)

-- the parts, without what is known of them, and what they do
abbrev plain_stmt : Spanned Known → Spanned StmtKind
plain_stmt x = record { kind = x.kind.0; span = x.span }

abbrev do_all : List (Spanned Known) → List (Spanned Doing)
do_all xs = map doing (map plain_stmt xs)

order_steady : (xs : List (Spanned Known)) (c : Context) (v w : Scopes) (ns ms : List (List ℕ)) → v ≡ w → Alike (in_order (do_all xs) c (at_names v ns)) (in_order (do_all xs) c (at_names w ms))
order_steady [] c v w ns ms e = (refl, e)
order_steady (x ∷ xs) c v w ns ms e = subst (λ u. Alike (in_order (do_all (x ∷ xs)) c (at_names v ns)) (in_order (do_all (x ∷ xs)) c (at_names u ms))) e
    (let one = x.kind.1 c (x.span).start v ns ms in
    let first = λ (names : List (List ℕ)). do_kind x.kind.0 c (x.span).start (at_names v names) in
    let more = order_steady xs c ((first ns).state).scopes ((first ms).state).scopes ((first ns).state).names ((first ms).state).names one.1 in
    ((λ i. one.0 i + more.0 i), more.1))

abbrev do_block : BlockOf (Spanned Known) → BlockOf (Spanned Doing)
do_block b = record { stmts = do_all b.stmts }

block_steady : (scope : Scope) (b : BlockOf (Spanned Known)) (c : Context) (v : Scopes) (ns ms : List (List ℕ)) → (block scope (do_block b) c (at_names v ns)).weight ≡ (block scope (do_block b) c (at_names v ms)).weight
block_steady scope b c v ns ms = (order_steady b.stmts c (scope ∷ v) (scope ∷ v) ns ms refl).0

-- what a handler does
abbrev do_handler : Option (HandlerOf (Spanned Known)) → Option (HandlerOf (Spanned Doing))
do_handler None = None
do_handler (Some h) = Some (record { exception = h.exception; name = h.name; body = do_block h.body })

handle_steady : (h : Option (HandlerOf (Spanned Known))) (c : Context) (v : Scopes) (ns ms : List (List ℕ)) → Alike (handle (do_handler h) c (at_names v ns)) (handle (do_handler h) c (at_names v ms))
handle_steady None c v ns ms = (refl, refl)
handle_steady (Some h) c v ns ms =
    let value = option_map_or (λ (x : Exception). x.shape) (exception_of h.exception c.program) shape.Word in
    let one = block_steady ((h.name, value) ∷ []) h.body c v ns ms in
    ((λ i. 4 + words_of value + one i), refl)

call_steady : (into : Target) (f : List ℕ) (args : List (Spanned ExprKind)) (h : Option (HandlerOf (Spanned Known)))
    → Steady (do_layer (map-StmtKind StmtKind Doing do_kind (map-StmtKind Known StmtKind (λ c. c.0) (open_stmt.Call (record { into = into; function = f; args = args; handler = h })))))
call_steady into f args None c place v ns ms = (refl, refl)
call_steady into f args (Some h) c place v ns ms =
    let one = handle_steady (Some h) c (after_target into (result_of (function_of f c.program)) v) ns ms in
    ((λ i. (call_alone into f args true c place (at_names v ns)).weight + one.0 i), one.1)

layer_steady : (y : StmtKind-F Known) → Steady (do_layer (map-StmtKind StmtKind Doing do_kind (map-StmtKind Known StmtKind (λ c. c.0) y)))
layer_steady open_stmt.Skip c place v ns ms = (refl, refl)
layer_steady (open_stmt.Decl x e) c place v ns ms = (refl, refl)
layer_steady (open_stmt.Assign x e) c place v ns ms = (refl, refl)
layer_steady (open_stmt.StoreWords a e) c place v ns ms = (refl, refl)
layer_steady (open_stmt.StoreByte a e) c place v ns ms = (refl, refl)
layer_steady (open_stmt.If e a b) c place v ns ms =
    let one = block_steady [] a c v ns ms in
    let two = block_steady [] b c v (in_order (do_all a.stmts) c (at_names ([] ∷ v) ns)).state.names (in_order (do_all a.stmts) c (at_names ([] ∷ v) ms)).state.names in
    ((λ i. 4 + weights (judged e v ∷ []) + 0 + one i + two i), refl)
layer_steady (open_stmt.While e b) c place v ns ms = let one = block_steady [] b (record c { in_loop = true }) v ns ms in ((λ i. 4 + weights (judged e v ∷ []) + 0 + one i), refl)
layer_steady open_stmt.Break c place v ns ms = (refl, refl)
layer_steady open_stmt.Continue c place v ns ms = (refl, refl)
layer_steady (open_stmt.Call k) c place v ns ms = call_steady k.into k.function k.args k.handler c place v ns ms
layer_steady (open_stmt.Return e) c place v ns ms = (refl, refl)
layer_steady (open_stmt.TailCall f xs) c place v ns ms = (refl, refl)
layer_steady (open_stmt.Raise i e) c place v ns ms = (refl, refl)
layer_steady (open_stmt.SharedLoad n x a) c place v ns ms = (refl, refl)
layer_steady (open_stmt.SharedStore n a e) c place v ns ms = (refl, refl)
layer_steady (open_stmt.Foreign f a b d e) c place v ns ms = (refl, refl)

kind_steady : (k : StmtKind) → Steady (do_kind k)
kind_steady = statement_induct (λ k. Steady (do_kind k)) (λ y. subst Steady (sym (do_roll (map-StmtKind Known StmtKind (λ c. c.0) y))) (layer_steady y))

-- the statements, each with what is known of it
abbrev all_known : List (Spanned StmtKind) → List (Spanned Known)
all_known xs = map (λ x. record { kind = (x.kind, kind_steady x.kind); span = x.span }) xs

same_all : (xs : List (Spanned StmtKind)) → do_all (all_known xs) ≡ map doing xs
same_all [] = refl
same_all (x ∷ xs) = ap (λ ds. doing x ∷ ds) (same_all xs)

pub body_weight : (p : Program) (f : Function) (names : List (List ℕ)) → (body p f names).weight ≡ (body p f []).weight
body_weight p f names =
    let c : Context = record { program = p; result = f.result; in_loop = false } in
    let scope = parameters f.params in
    let inside = λ (ds : List (Spanned Doing)) (ns : List (List ℕ)). (in_order ds c (record { scopes = scope ∷ []; names = ns })).weight in
    ap (λ ds. inside ds names) (sym (same_all (f.body).stmts)) ∙ (order_steady (all_known (f.body).stmts) c (scope ∷ []) (scope ∷ []) names [] refl).0 ∙ ap (λ ds. inside ds []) (same_all (f.body).stmts)
