-- A statement's own weight doesn't depend on what its blocks are.
use Rattle.std.proofs.Common.{◌≡◌, ℕ, ◌+◌, List, [], ◌∷◌, map, Option, Some, None, refl, sym, ap, ◌∙◌}
use Rattle.pan_tree.specs.Check as check
use Rattle.pan_tree.specs.Meaning.{Scopes, shapes, weightless, own_weight}
use Rattle.std.specs.Option.{option_map_or}
use Rattle.std.specs.Prelude.{true}
use Rattle.pan_tree.specs.Shapes.{words_of}
use Rattle.pan_tree.specs.declared.program.Program.{Program}
use Rattle.pan_tree.specs.declared.program.Exception.{Exception}
use Rattle.pan_tree.specs.declared.shape.Shape.{Shape}
use Rattle.pan_tree.specs.declared.shape.Shape.TheVariants as shape
use Rattle.pan_tree.specs.declared.syntax.ExprKind.{ExprKind}
use Rattle.pan_tree.specs.declared.syntax.Target.{Target}
use Rattle.pan_tree.specs.declared.spanned.Spanned.{Spanned}
use Rattle.pan_tree.specs.declared.syntax.BlockOf.{BlockOf}
use Rattle.pan_tree.specs.declared.syntax.CallOf.{CallOf}
use Rattle.pan_tree.specs.declared.syntax.HandlerOf.{HandlerOf}
use Rattle.pan_tree.specs.declared.syntax.StmtKind.{StmtKind-F, map-StmtKind}
use Rattle.pan_tree.specs.declared.syntax.StmtKind.TheOpen as stmt

module _ {A : Type 0} where
  -- the statements of a block, as ones that weigh nothing
  abbrev nothings : List (Spanned A) → List (Spanned check.Doing)
  nothings xs = map (λ (x : Spanned A). record { kind = weightless; span = x.span }) xs

  nothings_weigh : (xs : List (Spanned A)) (c : check.Context) (s : check.State) → (check.in_order (nothings xs) c s).weight ≡ 0
  nothings_weigh [] c s = refl
  nothings_weigh (x ∷ xs) c s = ap (λ n. 0 + n) (nothings_weigh xs c s)

  nothings_leave : (xs : List (Spanned A)) (c : check.Context) (s : check.State) → (check.in_order (nothings xs) c s).state ≡ s
  nothings_leave [] c s = refl
  nothings_leave (x ∷ xs) c s = nothings_leave xs c s

  -- what a block of these statements weighs, and a handler with such a block but for its 4 and its words
  block_weighs : (scope : check.Scope) (xs : List (Spanned A)) (c : check.Context) (s : check.State) → (check.block scope (record { stmts = nothings xs }) c s).weight ≡ 0
  block_weighs scope xs c s = nothings_weigh xs c (record s { scopes = scope ∷ s.scopes })

  if_weighs : (p : Program) (e : Spanned ExprKind) (a b : BlockOf (Spanned A)) (v : Scopes) → own_weight {A = A} p (stmt.If e a b) v ≡ 4 + check.weights (check.judged e (shapes v) ∷ []) + 0 + 0 + 0
  if_weighs p e a b v =
      let c : check.Context = record { program = p; result = Shape.Word; in_loop = true } in
      let s : check.State = record { scopes = shapes v; names = [] } in
      let own = 4 + check.weights (check.judged e (shapes v) ∷ []) + 0 in
      let inner = (check.block [] (record { stmts = nothings a.stmts }) c s).state in
      ap (λ n. own + n + (check.block [] (record { stmts = nothings b.stmts }) c inner).weight) (block_weighs [] a.stmts c s) ∙ ap (λ n. own + 0 + n) (block_weighs [] b.stmts c inner)

  while_weighs : (p : Program) (e : Spanned ExprKind) (b : BlockOf (Spanned A)) (v : Scopes) → own_weight {A = A} p (stmt.While e b) v ≡ 4 + check.weights (check.judged e (shapes v) ∷ []) + 0 + 0
  while_weighs p e b v =
      let own = 4 + check.weights (check.judged e (shapes v) ∷ []) + 0 in
      ap (λ n. own + n) (block_weighs [] b.stmts (record { program = p; result = Shape.Word; in_loop = true }) (record { scopes = shapes v; names = [] }))

  -- what a call weighs without its handler, and what its handler weighs without its block
  abbrev handler_weight : Option (HandlerOf (Spanned A)) → Program → ℕ
  handler_weight None p = 0
  handler_weight (Some h) p = 4 + words_of (option_map_or (λ (x : Exception). x.shape) (check.exception_of h.exception p) shape.Word) + 0

  abbrev call_weight : CallOf (Spanned A) → Program → Scopes → ℕ
  call_weight k p v =
      let result = check.result_of (check.function_of k.function p) in
      4 + check.weights (map (λ x. check.judged x (shapes v)) k.args) + (check.target_words k.into result (shapes v) + words_of result) + handler_weight k.handler p

  call_weighs : (p : Program) (into : Target) (name : List ℕ) (args : List (Spanned ExprKind)) (h : Option (HandlerOf (Spanned A))) (v : Scopes)
      → let k : CallOf (Spanned A) = record { into = into; function = name; args = args; handler = h } in own_weight {A = A} p (stmt.Call k) v ≡ call_weight k p v
  call_weighs p into name args None v = refl
  call_weighs p into name args (Some h) v =
      let result = check.result_of (check.function_of name p) in
      let value = option_map_or (λ (x : Exception). x.shape) (check.exception_of h.exception p) shape.Word in
      let own = 4 + check.weights (map (λ x. check.judged x (shapes v)) args) + (check.target_words into result (shapes v) + words_of result) in
      ap (λ n. own + (4 + words_of value + n)) (block_weighs ((h.name, value) ∷ []) (h.body).stmts (record { program = p; result = Shape.Word; in_loop = true }) (record { scopes = check.after_target into result (shapes v); names = [] }))

pub own_weight_same : {A B : Type 0} (f : A → B) (p : Program) (y : StmtKind-F A) (v : Scopes) → own_weight p (map-StmtKind A B f y) v ≡ own_weight p y v
own_weight_same f p stmt.Skip v = refl
own_weight_same f p (stmt.Decl x e) v = refl
own_weight_same f p (stmt.Assign x e) v = refl
own_weight_same f p (stmt.StoreWords a e) v = refl
own_weight_same f p (stmt.StoreByte a e) v = refl
own_weight_same {A} {B} f p (stmt.If e a b) v = if_weighs {A = B} p e (record { stmts = map (λ (x : Spanned A). record { kind = f x.kind; span = x.span }) a.stmts }) (record { stmts = map (λ (x : Spanned A). record { kind = f x.kind; span = x.span }) b.stmts }) v ∙ sym (if_weighs {A = A} p e a b v)
own_weight_same {A} {B} f p (stmt.While e b) v = while_weighs {A = B} p e (record { stmts = map (λ (x : Spanned A). record { kind = f x.kind; span = x.span }) b.stmts }) v ∙ sym (while_weighs {A = A} p e b v)
own_weight_same f p stmt.Break v = refl
own_weight_same f p stmt.Continue v = refl
own_weight_same {A} {B} f p (stmt.Call k) v = call_same k.into k.function k.args k.handler
  where
    call_same : (into : Target) (name : List ℕ) (args : List (Spanned ExprKind)) (h : Option (HandlerOf (Spanned A)))
        → own_weight p (map-StmtKind A B f (stmt.Call (record { into = into; function = name; args = args; handler = h }))) v ≡ own_weight {A = A} p (stmt.Call (record { into = into; function = name; args = args; handler = h })) v
    call_same into name args None = refl
    call_same into name args (Some h) =
        call_weighs {A = B} p into name args (Some (record { exception = h.exception; name = h.name; body = record { stmts = map (λ (x : Spanned A). record { kind = f x.kind; span = x.span }) (h.body).stmts } })) v
        ∙ sym (call_weighs {A = A} p into name args (Some h) v)
own_weight_same f p (stmt.Return e) v = refl
own_weight_same f p (stmt.TailCall x args) v = refl
own_weight_same f p (stmt.Raise x e) v = refl
own_weight_same f p (stmt.SharedLoad size x a) v = refl
own_weight_same f p (stmt.SharedStore size a e) v = refl
own_weight_same f p (stmt.Foreign x a b c d) v = refl
