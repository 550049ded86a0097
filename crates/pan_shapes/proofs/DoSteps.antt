-- Parts of statements one after another.
use Rattle.std.proofs.Common.{◌≡◌, ℕ, ◌+◌, ◌-◌, ◌^◌, ◌≤◌, min, arith, List, [], ◌∷◌, ◌++◌, map, drop, Option, Some, None, option_map, Err, Result, refl, sym, ap, subst, ◌∙◌}
use Rattle.std.specs.Option.{option_map_or}
use Rattle.std.specs.Result.{IsErrAnd}
use Rattle.pan_tree.specs.declared.spanned.Spanned.{Spanned}
use Rattle.pan_tree.specs.declared.syntax.StmtKind.{StmtKind}
use Rattle.pan_tree.specs.Check.{Break, Scope, Scopes, Context, State, Done, Doing, doing, do_kind, and_block, block, in_order, handle, exception_of, or_word}
use Rattle.pan_tree.specs.Shapes.{words_of}
use Rattle.pan_tree.specs.declared.shape.Shape.TheVariants as shape
use Rattle.pan_tree.specs.declared.program.Exception.{Exception}
use Rattle.pan_tree.specs.declared.syntax.HandlerOf.{HandlerOf}
use Rattle.pan_shapes.specs.declared.error.CheckError.{CheckError}
use Rattle.pan_shapes.specs.declared.walking.Walk.{Walk}
use Rattle.pan_shapes.specs.Doings.{IsDone, doings, handler_doings}
use Rattle.pan_shapes.proofs.Answering.{Refuses, refused_alone, refused}
use Rattle.pan_shapes.proofs.DoLayers.{order_keeps}

-- what is known after a part that breaks no rule
abbrev pub DoneAs : Done → ℕ → State → Type 0
DoneAs d n s = (d.breaks ≡ []) × ((n ≡ min d.weight (2 ^ 64 - 1)) × (s ≡ d.state))

pub at_kind : (k : StmtKind) (d : Doing) (c : Context) (place : ℕ) (s : State) (w : Walk) (r : Result ℕ CheckError) → do_kind k ≡ d → IsDone (d c place s) w r → IsDone (do_kind k c place s) w r
at_kind k d c place s w r is done = subst (λ (x : Doing). IsDone (x c place s) w r) (sym is) done

pub done_wrong : (d : Done) (w : Walk) (r : Result ℕ CheckError) (e : CheckError) → IsErrAnd r (λ y. y ≡ e) → Refuses d.breaks e → IsDone d w r
done_wrong d w r e gives wrong = refused_alone _ r d.breaks e refl gives wrong

refuses_more : (bs cs : List Break) (e : CheckError) → Refuses bs e → Refuses (bs ++ cs) e
refuses_more bs cs e wrong = refused {X = Unit {0}} (λ _. Unit {0}) (Err e) bs cs e refl refl wrong

pub wrong_first : (d : Done) (b : State → Done) (e : CheckError) → Refuses d.breaks e → Refuses (and_block d b).breaks e
wrong_first d b e wrong = refuses_more d.breaks (b d.state).breaks e wrong

pub wrong_then : (d : Done) (b : State → Done) (n : ℕ) (s : State) (e : CheckError) → DoneAs d n s → Refuses (b s).breaks e → Refuses (and_block d b).breaks e
wrong_then d b n s e done wrong =
    subst (λ bs. Refuses (bs ++ (b d.state).breaks) e) (sym done.0) (subst (λ (x : State). Refuses (b x).breaks e) done.1.1 wrong)

pub goes_on : (d : Done) (b : State → Done) (n m k : ℕ) (s t : State) → DoneAs d n s → DoneAs (b s) m t → k ≡ min (n + m) (2 ^ 64 - 1) → DoneAs (and_block d b) k t
goes_on d b n m k s t done more is =
    let after : DoneAs (b d.state) m t = subst (λ (x : State). DoneAs (b x) m t) done.1.1 more in
    let weight : k ≡ min (d.weight + (b d.state).weight) (2 ^ 64 - 1) = omega (arith, done.1.0, after.1.0) in
    (ap (λ bs. bs ++ (b d.state).breaks) done.0 ∙ after.0, (weight, after.1.1))

-- a block that begins with these variables
pub block_done : (scope : Scope) (stmts xs : List (Spanned StmtKind)) (c : Context) (s t : State) (v u : Scopes) (n : ℕ) → v ≡ scope ∷ s.scopes → xs ≡ stmts
    → DoneAs (in_order (map doing xs) c (record { scopes = v; names = s.names })) n t → u ≡ drop 1 t.scopes
    → DoneAs (block scope (record { stmts = map doing stmts }) c s) n (record { scopes = u; names = t.names })
block_done scope stmts xs c s t v u n entered same done left =
    let inner = λ (ys : List (Spanned StmtKind)) (w : Scopes). in_order (map doing ys) c (record { scopes = w; names = s.names }) in
    let here : DoneAs (inner stmts (scope ∷ s.scopes)) n t =
    subst (λ w. DoneAs (inner stmts w) n t) entered (subst (λ ys. DoneAs (inner ys v) n t) same done) in
    let out : u ≡ s.scopes = left ∙ ap (λ (x : State). drop 1 x.scopes) here.1.1 ∙ order_keeps stmts c (record { scopes = scope ∷ s.scopes; names = s.names }) in
    (here.0, (here.1.0, ap (λ w. record { scopes = w; names = t.names }) out ∙ ap (λ ns. record { scopes = s.scopes; names = ns }) (ap (λ (x : State). x.names) here.1.1)))

-- ---- at the end

pub all_weight : (all done left m : ℕ) → min all m ≡ min (done + left) m → left ≡ 0 → done ≤ m → done ≡ min all m
all_weight all done left m e none fits = omega arith

-- ---- handlers

pub value_known : (o : Option Exception) → or_word (option_map (λ (x : Exception). x.shape) o) ≡ option_map_or (λ (x : Exception). x.shape) o shape.Word
value_known None = refl
value_known (Some x) = refl

-- a handler, from its block
pub handler_done : (h : HandlerOf (Spanned StmtKind)) (c : Context) (s t : State) (n k : ℕ)
    → DoneAs (block ((h.name, option_map_or (λ (x : Exception). x.shape) (exception_of h.exception c.program) shape.Word) ∷ []) (doings h.body) c s) n t
    → k ≡ min (4 + words_of (option_map_or (λ (x : Exception). x.shape) (exception_of h.exception c.program) shape.Word) + n) (2 ^ 64 - 1)
    → DoneAs (handle (handler_doings (Some h)) c s) k t
handler_done h c s t n k done is = (done.0, (omega (arith, is, done.1.0), done.1.1))
