-- What statements do, at each variant.
use Rattle.std.proofs.Common.{◌≡◌, ℕ, List, [], ◌∷◌, map, drop, Option, Some, None, inl, inr, refl, sym, ap, ◌∙◌}
use Rattle.std.specs.Prelude.{◌⊎◌}
use Rattle.pan_base.specs.declared.events.Size.{Size}
use Rattle.pan_tree.specs.declared.shape.Shape.{Shape}
use Rattle.pan_tree.specs.declared.spanned.Spanned.{Spanned}
use Rattle.pan_tree.specs.declared.syntax.ExprKind.{ExprKind}
use Rattle.pan_tree.specs.declared.syntax.BlockOf.{BlockOf}
use Rattle.pan_tree.specs.declared.syntax.HandlerOf.{HandlerOf}
use Rattle.pan_tree.specs.declared.syntax.CallOf.{CallOf}
use Rattle.pan_tree.specs.declared.syntax.Target.{Target}
use Rattle.pan_tree.specs.declared.syntax.Target.TheVariants as target
use Rattle.pan_tree.specs.declared.syntax.StmtKind.{StmtKind, StmtKind-F, fold-roll-StmtKind, roll-StmtKind, out-StmtKind, roll-out-StmtKind, map-StmtKind}
use Rattle.pan_tree.specs.declared.syntax.StmtKind.TheOpen as open_stmt
use Rattle.pan_tree.specs.declared.syntax.StmtKind.TheVariants as s
use Rattle.pan_tree.specs.Check.{Scopes, Context, State, Doing, doing, do_layer, do_kind, declare, after_target, result_of, function_of, handle, in_order}
use Rattle.pan_tree.proofs.CheckLayers.{do_roll, do_at}
use Rattle.pan_shapes.specs.Doings.{doings, handler_doings, call_doings}

pub do_skip : do_kind s.Skip ≡ do_layer open_stmt.Skip
do_skip = do_at open_stmt.Skip s.Skip s.rolls-Skip

pub do_decl : (x : List ℕ) (e : Spanned ExprKind) → do_kind (s.Decl x e) ≡ do_layer (open_stmt.Decl x e)
do_decl x e = do_at (open_stmt.Decl x e) (s.Decl x e) (s.rolls-Decl x e)

pub do_assign : (x : List ℕ) (e : Spanned ExprKind) → do_kind (s.Assign x e) ≡ do_layer (open_stmt.Assign x e)
do_assign x e = do_at (open_stmt.Assign x e) (s.Assign x e) (s.rolls-Assign x e)

pub do_store_words : (a e : Spanned ExprKind) → do_kind (s.StoreWords a e) ≡ do_layer (open_stmt.StoreWords a e)
do_store_words a e = do_at (open_stmt.StoreWords a e) (s.StoreWords a e) (s.rolls-StoreWords a e)

pub do_store_byte : (a e : Spanned ExprKind) → do_kind (s.StoreByte a e) ≡ do_layer (open_stmt.StoreByte a e)
do_store_byte a e = do_at (open_stmt.StoreByte a e) (s.StoreByte a e) (s.rolls-StoreByte a e)

pub do_if : (e : Spanned ExprKind) (a b : BlockOf (Spanned StmtKind)) → do_kind (s.If e a b) ≡ do_layer (open_stmt.If e (doings a) (doings b))
do_if e a b = do_at (open_stmt.If e a b) (s.If e a b) (s.rolls-If e a b)

pub do_while : (e : Spanned ExprKind) (b : BlockOf (Spanned StmtKind)) → do_kind (s.While e b) ≡ do_layer (open_stmt.While e (doings b))
do_while e b = do_at (open_stmt.While e b) (s.While e b) (s.rolls-While e b)

pub do_break : do_kind s.Break ≡ do_layer open_stmt.Break
do_break = do_at open_stmt.Break s.Break s.rolls-Break

pub do_continue : do_kind s.Continue ≡ do_layer open_stmt.Continue
do_continue = do_at open_stmt.Continue s.Continue s.rolls-Continue

pub do_return : (e : Spanned ExprKind) → do_kind (s.Return e) ≡ do_layer (open_stmt.Return e)
do_return e = do_at (open_stmt.Return e) (s.Return e) (s.rolls-Return e)

pub do_tail_call : (f : List ℕ) (xs : List (Spanned ExprKind)) → do_kind (s.TailCall f xs) ≡ do_layer (open_stmt.TailCall f xs)
do_tail_call f xs = do_at (open_stmt.TailCall f xs) (s.TailCall f xs) (s.rolls-TailCall f xs)

pub do_raise : (i : List ℕ) (e : Spanned ExprKind) → do_kind (s.Raise i e) ≡ do_layer (open_stmt.Raise i e)
do_raise i e = do_at (open_stmt.Raise i e) (s.Raise i e) (s.rolls-Raise i e)

pub do_shared_load : (n : Size) (x : List ℕ) (a : Spanned ExprKind) → do_kind (s.SharedLoad n x a) ≡ do_layer (open_stmt.SharedLoad n x a)
do_shared_load n x a = do_at (open_stmt.SharedLoad n x a) (s.SharedLoad n x a) (s.rolls-SharedLoad n x a)

pub do_shared_store : (n : Size) (a e : Spanned ExprKind) → do_kind (s.SharedStore n a e) ≡ do_layer (open_stmt.SharedStore n a e)
do_shared_store n a e = do_at (open_stmt.SharedStore n a e) (s.SharedStore n a e) (s.rolls-SharedStore n a e)

pub do_foreign : (f : List ℕ) (a b d e : Spanned ExprKind) → do_kind (s.Foreign f a b d e) ≡ do_layer (open_stmt.Foreign f a b d e)
do_foreign f a b d e = do_at (open_stmt.Foreign f a b d e) (s.Foreign f a b d e) (s.rolls-Foreign f a b d e)

-- ---- two kinds that are checked alike

pub leave_is : (k : StmtKind) → (k ≡ s.Break) ⊎ (k ≡ s.Continue) → do_kind k ≡ do_layer open_stmt.Break
leave_is k (inl is) = ap do_kind is ∙ do_break
leave_is k (inr is) = ap do_kind is ∙ do_continue

pub two_words_is : (k : StmtKind) (a e : Spanned ExprKind) → (k ≡ s.StoreByte a e) ⊎ ((n : Size) × (k ≡ s.SharedStore n a e)) → do_kind k ≡ do_layer (open_stmt.StoreByte a e)
two_words_is k a e (inl is) = ap do_kind is ∙ do_store_byte a e
two_words_is k a e (inr (n, is)) = ap do_kind is ∙ do_shared_store n a e

-- ---- calls

call_by : (into : Target) (f : List ℕ) (args : List (Spanned ExprKind)) (h : Option (HandlerOf (Spanned StmtKind)))
    → do_kind (s.Call (record { into = into; function = f; args = args; handler = h })) ≡ do_layer (open_stmt.Call (record { into = into; function = f; args = args; handler = handler_doings h }))
call_by into f args None =
    do_at (open_stmt.Call (record { into = into; function = f; args = args; handler = None })) _ (s.rolls-Call (record { into = into; function = f; args = args; handler = None }))
call_by into f args (Some h) =
    do_at (open_stmt.Call (record { into = into; function = f; args = args; handler = Some h })) _ (s.rolls-Call (record { into = into; function = f; args = args; handler = Some h }))

pub do_call : (k : CallOf (Spanned StmtKind)) → do_kind (s.Call k) ≡ do_layer (open_stmt.Call (call_doings k))
do_call k = call_by k.into k.function k.args k.handler

-- ---- a statement changes no block but the innermost

abbrev Keeps : Doing → Type 0
Keeps d = (c : Context) (place : ℕ) (s : State) → drop 1 ((d c place s).state).scopes ≡ drop 1 s.scopes

declare_keeps : (x : List ℕ) (z : Shape) (v : Scopes) → drop 1 (declare x z v) ≡ drop 1 v
declare_keeps x z [] = refl
declare_keeps x z (scope ∷ scopes) = refl

target_keeps : (into : Target) (z : Shape) (v : Scopes) → drop 1 (after_target into z v) ≡ drop 1 v
target_keeps target.Nothing z v = refl
target_keeps (target.Old x) z v = refl
target_keeps (target.New x) z v = declare_keeps x z v

handle_keeps : (h : Option (HandlerOf (Spanned Doing))) (c : Context) (s : State) → ((handle h c s).state).scopes ≡ s.scopes
handle_keeps None c s = refl
handle_keeps (Some h) c s = refl

layer_keeps : (y : StmtKind-F Doing) → Keeps (do_layer y)
layer_keeps open_stmt.Skip c place s = refl
layer_keeps (open_stmt.Decl x e) c place s = declare_keeps x _ s.scopes
layer_keeps (open_stmt.Assign x e) c place s = refl
layer_keeps (open_stmt.StoreWords a e) c place s = refl
layer_keeps (open_stmt.StoreByte a e) c place s = refl
layer_keeps (open_stmt.If e a b) c place s = refl
layer_keeps (open_stmt.While e b) c place s = refl
layer_keeps open_stmt.Break c place s = refl
layer_keeps open_stmt.Continue c place s = refl
layer_keeps (open_stmt.Call k) c place s = ap (drop 1) (handle_keeps k.handler c _) ∙ target_keeps k.into (result_of (function_of k.function c.program)) s.scopes
layer_keeps (open_stmt.Return e) c place s = refl
layer_keeps (open_stmt.TailCall f xs) c place s = refl
layer_keeps (open_stmt.Raise i e) c place s = refl
layer_keeps (open_stmt.SharedLoad n x a) c place s = refl
layer_keeps (open_stmt.SharedStore n a e) c place s = refl
layer_keeps (open_stmt.Foreign f a b d e) c place s = refl

kind_keeps : (k : StmtKind) → Keeps (do_kind k)
kind_keeps k c place s =
    ap (λ x. drop 1 ((do_kind x c place s).state).scopes) (sym (roll-out-StmtKind k))
    ∙ ap (λ (d : Doing). drop 1 ((d c place s).state).scopes) (do_roll (out-StmtKind k)) ∙ layer_keeps (map-StmtKind StmtKind Doing do_kind (out-StmtKind k)) c place s

pub order_keeps : (xs : List (Spanned StmtKind)) (c : Context) (s : State) → drop 1 ((in_order (map doing xs) c s).state).scopes ≡ drop 1 s.scopes
order_keeps [] c s = refl
order_keeps (x ∷ xs) c s = order_keeps xs c (do_kind x.kind c (x.span).start s).state ∙ kind_keeps x.kind c (x.span).start s
