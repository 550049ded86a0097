-- What a statement is in words, at each variant, with the places behind it; and that its numbers are words.
use Rattle.std.proofs.Common.{◌≡◌, ℕ, ◌+◌, Bool, true, false, List, [], ◌∷◌, ◌++◌, map, drop, Option, Some, None, add-zero, refl, sym, ap, ◌∙◌}
use Rattle.std.specs.Prelude.{◌&&◌}
use Rattle.std.specs.List.{list_all}
use Rattle.pan_base.specs.declared.events.Size.{Size}
use Rattle.pan_stage.specs.declared.program.Handler.{Handler}
use Rattle.pan_tree.specs.Scopes.{innermost, declare}
use Rattle.pan_tree.specs.Shapes.{words_of}
use Rattle.pan_tree.specs.Check.{function_of, result_of}
use Rattle.pan_tree.specs.Meaning.{function_index, exception_index, foreign_index}
use Rattle.pan_tree.specs.declared.shape.Shape.{Shape}
use Rattle.pan_tree.specs.declared.spanned.Spanned.{Spanned}
use Rattle.pan_tree.specs.declared.syntax.ExprKind.{ExprKind}
use Rattle.pan_tree.specs.declared.syntax.BlockOf.{BlockOf}
use Rattle.pan_tree.specs.declared.syntax.HandlerOf.{HandlerOf}
use Rattle.pan_tree.specs.declared.syntax.CallOf.{CallOf}
use Rattle.pan_tree.specs.declared.syntax.Target.{Target}
use Rattle.pan_tree.specs.declared.syntax.Target.TheVariants as target
use Rattle.pan_tree.specs.declared.syntax.StmtKind.{StmtKind, StmtKind-F, roll-StmtKind, out-StmtKind, roll-out-StmtKind, map-StmtKind, fold-roll-StmtKind}
use Rattle.pan_tree.specs.declared.syntax.StmtKind.TheOpen as open_stmt
use Rattle.pan_tree.specs.declared.syntax.StmtKind.TheVariants as source
use Rattle.pan_tree.specs.declared.program.Program.{Program as Source}
use Rattle.check_soundness.specs.Spread.{spread}
use Rattle.crep_lang.specs.declared.syntax.Expr.{Expr}
use Rattle.crep_lang.specs.declared.syntax.Stmt.{Stmt}
use Rattle.crep_lang.specs.declared.syntax.Stmt.TheVariants as stmt
use Rattle.crep_flatten.specs.declared.rows.Row.{Row}
use Rattle.crep_flatten.specs.Rows.{settle}
use Rattle.crep_flatten.specs.Flat.{Place, Places, count, word_in, flat}
use Rattle.crep_flatten.specs.Flattened.{assign_row, assigned, stored, rows_of, Flattening, flat_all, block, place_at, numbered, new_place, results, after_target, cleared, handler, flat_layer, flat_stmt, flattening, block_flattening, handler_flattening}
use Rattle.crep_flatten.specs.Literals.{fits, stmt_layer, stmt_fits, stmts_fit, caught_fits}
use Rattle.crep_flatten.proofs.Places.{stmt_roll}

-- ---- each kind

-- the words of rows behind the statements that compute their addresses, in a last statement
abbrev settled_in : List Row → (List Expr → Stmt) → ℕ → Stmt
settled_in rs last t = let g = settle rs t in stmt.Seq (g.before ++ last g.words ∷ [])

module _ (p : Source) (v : Places) where
  at : (y : StmtKind-F StmtKind) (k : StmtKind) → roll-StmtKind y ≡ k → flat_stmt k p v ≡ flat_layer (map-StmtKind StmtKind Flattening flat_stmt y) p v
  at y k is = ap (λ k. flat_stmt k p v) (sym is) ∙ ap (λ (f : Flattening). f p v) (stmt_roll y)

  pub flat_skip : flat_stmt source.Skip p v ≡ (stmt.Skip, v)
  flat_skip = at open_stmt.Skip _ source.rolls-Skip

  pub flat_decl : (x : List ℕ) (e : Spanned ExprKind) → flat_stmt (source.Decl x e) p v
      ≡ (let g = settle (flat e v).rows (count v + words_of (flat e v).shape) in (stmt.Seq (g.before ++ assign_row (count v) g.words), declare x (new_place (flat e v).shape v) v))
  flat_decl x e = at (open_stmt.Decl x e) _ (source.rolls-Decl x e)

  pub flat_assign : (x : List ℕ) (e : Spanned ExprKind) → flat_stmt (source.Assign x e) p v ≡ (stmt.Seq (assigned (place_at (innermost x v)).first (flat e v).rows (count v)), v)
  flat_assign x e = at (open_stmt.Assign x e) _ (source.rolls-Assign x e)

  pub flat_store_words : (a e : Spanned ExprKind) → flat_stmt (source.StoreWords a e) p v ≡ (stmt.Seq (stored (word_in (flat a v)) (flat e v).rows (count v)), v)
  flat_store_words a e = at (open_stmt.StoreWords a e) _ (source.rolls-StoreWords a e)

  pub flat_store_byte : (a e : Spanned ExprKind) → flat_stmt (source.StoreByte a e) p v ≡ (stmt.StoreByte (word_in (flat a v)) (word_in (flat e v)), v)
  flat_store_byte a e = at (open_stmt.StoreByte a e) _ (source.rolls-StoreByte a e)

  pub flat_if : (e : Spanned ExprKind) (a b : BlockOf (Spanned StmtKind)) → flat_stmt (source.If e a b) p v ≡ (stmt.If (word_in (flat e v)) (block [] [] (block_flattening a) p v) (block [] [] (block_flattening b) p v), v)
  flat_if e a b = at (open_stmt.If e a b) _ (source.rolls-If e a b)

  pub flat_while : (e : Spanned ExprKind) (b : BlockOf (Spanned StmtKind)) → flat_stmt (source.While e b) p v ≡ (stmt.While [] (word_in (flat e v)) (block [] [] (block_flattening b) p v), v)
  flat_while e b = at (open_stmt.While e b) _ (source.rolls-While e b)

  pub flat_break : flat_stmt source.Break p v ≡ (stmt.Break, v)
  flat_break = at open_stmt.Break _ source.rolls-Break

  pub flat_continue : flat_stmt source.Continue p v ≡ (stmt.Continue, v)
  flat_continue = at open_stmt.Continue _ source.rolls-Continue

  -- a call of these parts, whose result has this shape
  abbrev called : CallOf (Spanned StmtKind) → Shape → Stmt × Places
  called c s = (
    settled_in (rows_of (map (λ e. flat e v) c.args)) (λ ws. stmt.Call (results c.into s v) (numbered (function_index c.function p)) ws (handler (handler_flattening c.handler) (cleared c.into s v) p (after_target c.into s v))) (count v),
    after_target c.into s v,
  )

  call_by : (into : Target) (f : List ℕ) (args : List (Spanned ExprKind)) (h : Option (HandlerOf (Spanned StmtKind)))
      → (let c : CallOf (Spanned StmtKind) = record { into = into; function = f; args = args; handler = h } in flat_stmt (source.Call c) p v ≡ called c (spread (result_of (function_of f p))))
  call_by into f args None = at (open_stmt.Call (record { into = into; function = f; args = args; handler = None })) _ (source.rolls-Call (record { into = into; function = f; args = args; handler = None }))
  call_by into f args (Some h) = at (open_stmt.Call (record { into = into; function = f; args = args; handler = Some h })) _ (source.rolls-Call (record { into = into; function = f; args = args; handler = Some h }))

  pub flat_call : (c : CallOf (Spanned StmtKind)) → flat_stmt (source.Call c) p v ≡ called c (spread (result_of (function_of c.function p)))
  flat_call c = call_by c.into c.function c.args c.handler

  -- a call that is made of its parts
  pub called_from : (c : CallOf (Spanned StmtKind)) (before : List Stmt) (xs : List ℕ) (f : ℕ) (ws : List Expr) (h : Option (Handler Stmt)) (s : Stmt)
      → (let g = settle (rows_of (map (λ e. flat e v) c.args)) (count v) in let r = spread (result_of (function_of c.function p)) in
      before ≡ g.before → xs ≡ results c.into r v → f ≡ numbered (function_index c.function p) → ws ≡ g.words → h ≡ handler (handler_flattening c.handler) (cleared c.into r v) p (after_target c.into r v)
      → s ≡ stmt.Seq (before ++ stmt.Call xs f ws h ∷ []) → s ≡ (flat_stmt (source.Call c) p v).0)
  called_from c before xs f ws h s is_before is_xs is_f is_ws is_h is =
      let g = settle (rows_of (map (λ e. flat e v) c.args)) (count v) in
      let r = spread (result_of (function_of c.function p)) in
      is ∙ ap (λ b. stmt.Seq (b ++ stmt.Call xs f ws h ∷ [])) is_before ∙ ap (λ y. stmt.Seq (g.before ++ stmt.Call y f ws h ∷ [])) is_xs ∙ ap (λ y. stmt.Seq (g.before ++ stmt.Call (results c.into r v) y ws h ∷ [])) is_f
      ∙ ap (λ y. stmt.Seq (g.before ++ stmt.Call (results c.into r v) (numbered (function_index c.function p)) y h ∷ [])) is_ws
      ∙ ap (λ y. stmt.Seq (g.before ++ stmt.Call (results c.into r v) (numbered (function_index c.function p)) g.words y ∷ [])) is_h ∙ sym (ap (λ (q : Stmt × Places). q.0) (flat_call c))

  pub flat_return : (e : Spanned ExprKind) → flat_stmt (source.Return e) p v ≡ (settled_in (flat e v).rows stmt.Return (count v), v)
  flat_return e = at (open_stmt.Return e) _ (source.rolls-Return e)

  pub flat_tail_call : (f : List ℕ) (args : List (Spanned ExprKind)) → flat_stmt (source.TailCall f args) p v ≡ (settled_in (rows_of (map (λ e. flat e v) args)) (stmt.TailCall (numbered (function_index f p))) (count v), v)
  flat_tail_call f args = at (open_stmt.TailCall f args) _ (source.rolls-TailCall f args)

  pub flat_raise : (x : List ℕ) (e : Spanned ExprKind) → flat_stmt (source.Raise x e) p v ≡ (settled_in (flat e v).rows (stmt.Raise (numbered (exception_index x p))) (count v), v)
  flat_raise x e = at (open_stmt.Raise x e) _ (source.rolls-Raise x e)

  pub flat_shared_load : (n : Size) (x : List ℕ) (a : Spanned ExprKind) → flat_stmt (source.SharedLoad n x a) p v ≡ (stmt.SharedLoad n (place_at (innermost x v)).first (word_in (flat a v)), v)
  flat_shared_load n x a = at (open_stmt.SharedLoad n x a) _ (source.rolls-SharedLoad n x a)

  pub flat_shared_store : (n : Size) (a e : Spanned ExprKind) → flat_stmt (source.SharedStore n a e) p v ≡ (stmt.SharedStore n (word_in (flat a v)) (word_in (flat e v)), v)
  flat_shared_store n a e = at (open_stmt.SharedStore n a e) _ (source.rolls-SharedStore n a e)

  pub flat_foreign : (x : List ℕ) (a b c d : Spanned ExprKind)
      → flat_stmt (source.Foreign x a b c d) p v ≡ (stmt.Foreign (numbered (foreign_index x p)) (word_in (flat a v)) (word_in (flat b v)) (word_in (flat c v)) (word_in (flat d v)), v)
  flat_foreign x a b c d = at (open_stmt.Foreign x a b c d) _ (source.rolls-Foreign x a b c d)

-- ---- numbers

both : (a b : Bool) → a ≡ true → b ≡ true → (a && b) ≡ true
both a b h g = ap (λ a. a && b) h ∙ g

fits_at : (y : StmtKind-F StmtKind) (k : StmtKind) → roll-StmtKind y ≡ k → stmt_layer (map-StmtKind StmtKind Bool stmt_fits y) ≡ true → stmt_fits k ≡ true
unfolding stmt_fits
fits_at y k is h = ap stmt_fits (sym is) ∙ fold-roll-StmtKind Bool stmt_layer y ∙ h

pub fits_skip : stmt_fits source.Skip ≡ true
fits_skip = fits_at open_stmt.Skip _ source.rolls-Skip refl

pub fits_decl : (x : List ℕ) (e : Spanned ExprKind) → fits e ≡ true → stmt_fits (source.Decl x e) ≡ true
fits_decl x e h = fits_at (open_stmt.Decl x e) _ (source.rolls-Decl x e) h

pub fits_assign : (x : List ℕ) (e : Spanned ExprKind) → fits e ≡ true → stmt_fits (source.Assign x e) ≡ true
fits_assign x e h = fits_at (open_stmt.Assign x e) _ (source.rolls-Assign x e) h

pub fits_store_words : (a e : Spanned ExprKind) → fits a ≡ true → fits e ≡ true → stmt_fits (source.StoreWords a e) ≡ true
fits_store_words a e h g = fits_at (open_stmt.StoreWords a e) _ (source.rolls-StoreWords a e) (both (fits a) (fits e) h g)

pub fits_store_byte : (a e : Spanned ExprKind) → fits a ≡ true → fits e ≡ true → stmt_fits (source.StoreByte a e) ≡ true
fits_store_byte a e h g = fits_at (open_stmt.StoreByte a e) _ (source.rolls-StoreByte a e) (both (fits a) (fits e) h g)

-- the same of statements, each with what is said of it
all_fit : (ss : List (Spanned StmtKind)) → stmts_fit ss ≡ true → list_all (λ (x : Spanned Bool). x.kind) (map (λ (s : Spanned StmtKind). record { kind = stmt_fits s.kind; span = s.span }) ss) ≡ true
all_fit [] h = refl
all_fit (s ∷ ss) h = by (stmt_fits s.kind) h (all_fit ss)
  where
    by : (a : Bool) → (a && stmts_fit ss) ≡ true → (stmts_fit ss ≡ true → list_all (λ (x : Spanned Bool). x.kind) (map (λ (s : Spanned StmtKind). record { kind = stmt_fits s.kind; span = s.span }) ss) ≡ true)
        → (a && list_all (λ (x : Spanned Bool). x.kind) (map (λ (s : Spanned StmtKind). record { kind = stmt_fits s.kind; span = s.span }) ss)) ≡ true
    by true h go = go h
    by false h go = h

pub fits_if : (e : Spanned ExprKind) (a b : BlockOf (Spanned StmtKind)) → fits e ≡ true → stmts_fit a.stmts ≡ true → stmts_fit b.stmts ≡ true → stmt_fits (source.If e a b) ≡ true
fits_if e a b h g k = fits_at (open_stmt.If e a b) _ (source.rolls-If e a b) (both (fits e) _ h (both _ _ (all_fit a.stmts g) (all_fit b.stmts k)))

pub fits_while : (e : Spanned ExprKind) (b : BlockOf (Spanned StmtKind)) → fits e ≡ true → stmts_fit b.stmts ≡ true → stmt_fits (source.While e b) ≡ true
fits_while e b h g = fits_at (open_stmt.While e b) _ (source.rolls-While e b) (both (fits e) _ h (all_fit b.stmts g))

pub fits_break : stmt_fits source.Break ≡ true
fits_break = fits_at open_stmt.Break _ source.rolls-Break refl

pub fits_continue : stmt_fits source.Continue ≡ true
fits_continue = fits_at open_stmt.Continue _ source.rolls-Continue refl

fits_call_by : (into : Target) (f : List ℕ) (args : List (Spanned ExprKind)) (h : Option (HandlerOf (Spanned StmtKind))) → list_all fits args ≡ true → caught_fits h ≡ true
    → stmt_fits (source.Call (record { into = into; function = f; args = args; handler = h })) ≡ true
fits_call_by into f args None g k =
    fits_at (open_stmt.Call (record { into = into; function = f; args = args; handler = None })) _ (source.rolls-Call (record { into = into; function = f; args = args; handler = None })) (both (list_all fits args) _ g refl)
fits_call_by into f args (Some h) g k =
    fits_at (open_stmt.Call (record { into = into; function = f; args = args; handler = Some h })) _ (source.rolls-Call (record { into = into; function = f; args = args; handler = Some h })) (both (list_all fits args) _ g (all_fit (h.body).stmts k))

pub fits_call : (c : CallOf (Spanned StmtKind)) → list_all fits c.args ≡ true → caught_fits c.handler ≡ true → stmt_fits (source.Call c) ≡ true
fits_call c g k = fits_call_by c.into c.function c.args c.handler g k

pub fits_return : (e : Spanned ExprKind) → fits e ≡ true → stmt_fits (source.Return e) ≡ true
fits_return e h = fits_at (open_stmt.Return e) _ (source.rolls-Return e) h

pub fits_tail_call : (f : List ℕ) (args : List (Spanned ExprKind)) → list_all fits args ≡ true → stmt_fits (source.TailCall f args) ≡ true
fits_tail_call f args h = fits_at (open_stmt.TailCall f args) _ (source.rolls-TailCall f args) h

pub fits_raise : (x : List ℕ) (e : Spanned ExprKind) → fits e ≡ true → stmt_fits (source.Raise x e) ≡ true
fits_raise x e h = fits_at (open_stmt.Raise x e) _ (source.rolls-Raise x e) h

pub fits_shared_load : (n : Size) (x : List ℕ) (a : Spanned ExprKind) → fits a ≡ true → stmt_fits (source.SharedLoad n x a) ≡ true
fits_shared_load n x a h = fits_at (open_stmt.SharedLoad n x a) _ (source.rolls-SharedLoad n x a) h

pub fits_shared_store : (n : Size) (a e : Spanned ExprKind) → fits a ≡ true → fits e ≡ true → stmt_fits (source.SharedStore n a e) ≡ true
fits_shared_store n a e h g = fits_at (open_stmt.SharedStore n a e) _ (source.rolls-SharedStore n a e) (both (fits a) (fits e) h g)

pub fits_foreign : (x : List ℕ) (a b c d : Spanned ExprKind) → fits a ≡ true → fits b ≡ true → fits c ≡ true → fits d ≡ true → stmt_fits (source.Foreign x a b c d) ≡ true
fits_foreign x a b c d h g k l = fits_at (open_stmt.Foreign x a b c d) _ (source.rolls-Foreign x a b c d) (both (fits a) _ h (both (fits b) _ g (both (fits c) (fits d) k l)))

-- ---- a statement changes no block but the innermost

declare_keeps : (x : List ℕ) (q : Place) (v : Places) → drop 1 (declare x q v) ≡ drop 1 v
declare_keeps x q [] = refl
declare_keeps x q (scope ∷ scopes) = refl

target_keeps : (into : Target) (s : Shape) (v : Places) → drop 1 (after_target into s v) ≡ drop 1 v
target_keeps target.Nothing s v = refl
target_keeps (target.Old x) s v = refl
target_keeps (target.New x) s v = declare_keeps x _ v

layer_keeps : (y : StmtKind-F Flattening) (p : Source) (v : Places) → drop 1 (flat_layer y p v).1 ≡ drop 1 v
layer_keeps open_stmt.Skip p v = refl
layer_keeps (open_stmt.Decl x e) p v = declare_keeps x _ v
layer_keeps (open_stmt.Assign x e) p v = refl
layer_keeps (open_stmt.StoreWords a e) p v = refl
layer_keeps (open_stmt.StoreByte a e) p v = refl
layer_keeps (open_stmt.If e a b) p v = refl
layer_keeps (open_stmt.While e b) p v = refl
layer_keeps open_stmt.Break p v = refl
layer_keeps open_stmt.Continue p v = refl
layer_keeps (open_stmt.Call c) p v = target_keeps c.into (spread (result_of (function_of c.function p))) v
layer_keeps (open_stmt.Return e) p v = refl
layer_keeps (open_stmt.TailCall f args) p v = refl
layer_keeps (open_stmt.Raise x e) p v = refl
layer_keeps (open_stmt.SharedLoad n x a) p v = refl
layer_keeps (open_stmt.SharedStore n a e) p v = refl
layer_keeps (open_stmt.Foreign x a b c d) p v = refl

kind_keeps : (k : StmtKind) (p : Source) (v : Places) → drop 1 (flat_stmt k p v).1 ≡ drop 1 v
kind_keeps k p v =
    ap (λ k. drop 1 (flat_stmt k p v).1) (sym (roll-out-StmtKind k)) ∙ ap (λ (f : Flattening). drop 1 (f p v).1) (stmt_roll (out-StmtKind k))
    ∙ layer_keeps (map-StmtKind StmtKind Flattening flat_stmt (out-StmtKind k)) p v

all_keep : (ss : List (Spanned StmtKind)) (p : Source) (v : Places) → drop 1 (flat_all (map flattening ss) p v).1 ≡ drop 1 v
all_keep [] p v = refl
all_keep (s ∷ ss) p v = all_keep ss p (flat_stmt s.kind p v).1 ∙ kind_keeps s.kind p v

-- what a block leaves when it is closed
pub kept_behind : (ss : List (Spanned StmtKind)) (p : Source) (opened after closed v : Places) → drop 1 opened ≡ v → after ≡ (flat_all (map flattening ss) p opened).1 → closed ≡ drop 1 after → closed ≡ v
kept_behind ss p opened after closed v is went left = left ∙ ap (drop 1) went ∙ all_keep ss p opened ∙ is

-- a block that begins with a variable
pub opened_with : (x : List ℕ) (s : Shape) (opened begun v : Places) → opened ≡ [] ∷ v → begun ≡ declare x (new_place s opened) opened → begun ≡ ((x, new_place s v) ∷ []) ∷ v
opened_with x s opened begun v o h = h ∙ ap (λ v. declare x (new_place s v) v) o ∙ ap (λ n. ((x, record { first = n; shape = s }) ∷ []) ∷ v) (add-zero (count v))

pub ruleset stmt_rules = (
  flat_skip,
  flat_decl,
  flat_assign,
  flat_store_words,
  flat_store_byte,
  flat_if,
  flat_while,
  flat_break,
  flat_continue,
  flat_call,
  flat_return,
  flat_tail_call,
  flat_raise,
  flat_shared_load,
  flat_shared_store,
  flat_foreign,
  fits_skip,
  fits_decl,
  fits_assign,
  fits_store_words,
  fits_store_byte,
  fits_if,
  fits_while,
  fits_break,
  fits_continue,
  fits_call,
  fits_return,
  fits_tail_call,
  fits_raise,
  fits_shared_load,
  fits_shared_store,
  fits_foreign,
)
