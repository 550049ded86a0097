-- What the machine reads as a statement or an item is in the grammar.
use Rattle.std.proofs.Common.{◌≡◌, ◌⊎◌, inl, inr, ⊎_elim, ℕ, ◌+◌, ◌≤◌, Bool, true, false, if◌then◌else◌, List, [], ◌∷◌, None, sym, ap, ◌∙◌, subst, refl}
use Rattle.pan_base.specs.declared.tokens.Keyword.{Keyword}
use Rattle.pan_base.specs.declared.tokens.Keyword.TheVariants as keyword
use Rattle.pan_base.specs.declared.tokens.Sign.{Sign}
use Rattle.pan_base.specs.declared.tokens.Sign.TheVariants as sign
use Rattle.pan_base.specs.Tokens.{Placed, Kind, Name, Reserved, Number, Load, Store, Foreign, ASign}
use Rattle.pan_tree.specs.declared.program.Exception.{Exception}
use Rattle.pan_tree.specs.Nodes.{Expr}
use Rattle.pan_tree.specs.Grammar as grammar
use Rattle.pan_tree.specs.Grammar.{Stmt, Is, IsWord, IsName}
use Rattle.pan_parser.specs.Machine as machine
use Rattle.pan_parser.specs.Machine.{WantSign, WantWord, WantName, WantNumber, WantShape, MayShape, WantExpr, MoreFields, MayArguments, WantPlain, WantDeclared, WantAssigned, WantReturned, AfterName, AfterStmtName, WantStmt, MoreStmts, WantBlock, WantParam, MayParams, MoreItems, Stack, Step, Goes, Refused, Deep, is_sign, is_word, opens, a_name, a_number, begin, begin_shape, expr_rest, after_name, call_rest, begin_value, begin_assigned, after_stmt_name, two_exprs, begin_stmt, begin_item, step}
use Rattle.pan_parser.proofs.Ends.{sign_is, word_is}
use Rattle.pan_parser.proofs.Spells.{Call, Value, Reads, Spells, After}
use Rattle.pan_parser.proofs.SoundExprs.{opened, shape_reads, begin_reads, expr_after, after_name_reads}

-- an expression, two of them, a call, each with its semicolon
module _ (May : ℕ → List Placed → Type 0) where
  expr_ends : (k : ℕ) (a b c : List Placed) (x : Expr) → grammar.AnExpr May k a b x → Reads May (WantSign sign.Semicolon) b c → grammar.ExprEnd May k a c x
  expr_ends k a b c x e s = grammar.expr_end k s.0 a c x (subst (λ b. grammar.AnExpr May k a b x) s.1 e) s.2

  call_ends : (k : ℕ) (a b c : List Placed) (d : Call May true k a b) → Reads May (WantSign sign.Semicolon) b c → grammar.CallEnd May k a c d.0 d.1 d.3
  call_ends k a b c d s = grammar.call_end k s.0 a d.2 c d.0 d.1 d.3 d.4 (subst (λ b. grammar.MayHandle May k d.2 b d.3) s.1 d.5) s.2

  two_end : (k : ℕ) (a : List Placed) (K : Stack) → Spells May (two_exprs k K) a → (b : List Placed) × ((x : Expr) × (y : Expr) × grammar.TwoExprs May k a b x y) × Spells May K b
  two_end k a K h =
      let c = h.2 in
      let e = c.2 in
      let s = e.2 in
      (s.0, (h.1.0, e.1.0, grammar.two_exprs k c.1.0 a c.0 s.0 h.1.0 e.1.0 (subst (λ b. grammar.AnExpr May k a b h.1.0) c.1.1 h.1.1) c.1.2 (expr_ends k c.0 e.0 s.0 e.1.0 e.1.1 s.1)), s.2)

module _ (n : ℕ) (Free : Type 0) (May : ℕ → List Placed → Type 0) (may : (j : ℕ) (rest : List Placed) → (j ≤ n) ⊎ Free → May j rest) where
  -- ---- words

  pub sign_reads : (w : Sign) (t : Placed) (a : List Placed) (K : Stack) (b : Bool) → is_sign w t.kind ≡ b → After May Free (if b then Goes K else Refused) a → Spells May (WantSign w ∷ K) (t ∷ a)
  sign_reads w t a K true f h = (a, (t, refl, sign_is w t.kind f), h)
  sign_reads w t a K false f h = absurd h

  pub word_reads : (w : Keyword) (t : Placed) (a : List Placed) (K : Stack) (b : Bool) → is_word w t.kind ≡ b → After May Free (if b then Goes K else Refused) a → Spells May (WantWord w ∷ K) (t ∷ a)
  word_reads w t a K true f h = (a, (t, refl, word_is w t.kind f), h)
  word_reads w t a K false f h = absurd h

  pub name_reads : (t : Placed) (a : List Placed) (v : Kind) (K : Stack) → t.kind ≡ v → After May Free (a_name v K) a → Spells May (WantName ∷ K) (t ∷ a)
  name_reads t a (Name x) K f h = (a, (t, x, refl, f), h)
  name_reads t a _ K f h = absurd h

  pub number_reads : (t : Placed) (a : List Placed) (v : Kind) (K : Stack) → t.kind ≡ v → After May Free (a_number v K) a → Spells May (WantNumber ∷ K) (t ∷ a)
  number_reads t a (Number i) K f h = (a, (t, i, refl, f), h)
  number_reads t a _ K f h = absurd h

  -- ---- calls and values

  -- what comes behind the parenthesis of a call
  call_after : (handles : Bool) (k : ℕ) (u : Placed) (a : List Placed) (K : Stack) → Is sign.OpenParen u → Spells May (call_rest handles k K) a → (b : List Placed) × ((t : Placed) (x : List ℕ) → IsName x t → Call May handles k (t ∷ u ∷ a) b) × Spells May K b
  call_after false k u a K e h =
      let c = h.2 in
      (c.0, λ t x f. (x, h.1.0, grammar.plain k t u c.1.0 a c.0 x h.1.0 f e (subst (λ b. grammar.Arguments May k a b h.1.0) c.1.1 h.1.1) c.1.2), c.2)
  call_after true k u a K e h =
      let c = h.2 in
      let m = c.2 in
      (m.0, λ t x f. (x, h.1.0, c.0, m.1.0, grammar.plain k t u c.1.0 a c.0 x h.1.0 f e (subst (λ b. grammar.Arguments May k a b h.1.0) c.1.1 h.1.1) c.1.2, m.1.1), m.2)

  pub plain_reads : (k : ℕ) (a : List Placed) (K : Stack) → Spells May (WantName ∷ WantSign sign.OpenParen ∷ call_rest false k K) a → Spells May (WantPlain k ∷ K) a
  plain_reads k a K h =
      let u = h.2 in
      let c = call_after false k u.1.0 u.0 K u.1.2 u.2 in
      (c.0, subst (λ a. Call May false k a c.0) (sym (h.1.2 ∙ ap (λ l. h.1.0 ∷ l) u.1.1)) (c.1 h.1.0 h.1.1 h.1.3), c.2)

  pub arguments_read : (t : Placed) (a : List Placed) (k : ℕ) (K : Stack) → (After May Free (step n K t) a → Spells May K (t ∷ a)) → After May Free (begin n k t.kind (expr_rest k (machine.MoreExprs k ∷ K)) (step n K t)) a → Spells May (MayArguments k ∷ K) (t ∷ a)
  arguments_read t a k K other h = ⊎_elim
      (λ e. let m = e.2 in (m.0, (_, grammar.arguments k (t ∷ a) e.0 m.0 e.1.0 m.1.0 e.1.1 m.1.1), m.2))
      (λ z. (t ∷ a, ([], grammar.no_argument k (t ∷ a)), other z))
      (begin_reads n Free May may t a k t.kind (machine.MoreExprs k ∷ K) (step n K t) refl h)

  pub handler_reads : (t : Placed) (a : List Placed) (k : ℕ) (K : Stack) (b : Bool) → is_word keyword.Handle t.kind ≡ b → (After May Free (step n K t) a → Spells May K (t ∷ a)) → After May Free (if b then Goes (WantName ∷ WantName ∷ WantBlock k ∷ K) else step n K t) a → Spells May (machine.MayHandle k ∷ K) (t ∷ a)
  handler_reads t a k K false f other h = (t ∷ a, (None, grammar.no_handler k (t ∷ a)), other h)
  handler_reads t a k K true f other h =
      let u = h.1 in
      let g = h.2 in
      let v = g.1 in
      let y = g.2 in (
        y.0,
        subst (λ a. Reads May (machine.MayHandle k) (t ∷ a) y.0) (sym (u.2 ∙ ap (λ l. u.0 ∷ l) v.2))
            (_, grammar.handler k t u.0 v.0 g.0 y.0 u.1 v.1 y.1.0 (word_is keyword.Handle t.kind f) u.3 v.3 y.1.1),
        y.2,
      )

  pub named_reads : (handles : Bool) (t : Placed) (a : List Placed) (k : ℕ) (K : Stack) (b : Bool) → is_sign sign.OpenParen t.kind ≡ b → (After May Free (step n K t) a → Spells May K (t ∷ a)) → After May Free (if b then Goes (call_rest handles k K) else after_name k t.kind K (step n K t)) a → Spells May (AfterName handles k ∷ K) (t ∷ a)
  named_reads handles t a k K true f other h =
      let c = call_after handles k t a K (sign_is sign.OpenParen t.kind f) h in
      (c.0, λ u x e. inr (c.1 u x e), c.2)
  named_reads handles t a k K false f other h =
      let m = after_name_reads n Free May may t a k K other h in
      let r = expr_after May k m.0 K m.2 in
      (r.0, λ u x e. inl (r.1 (u ∷ t ∷ a) _ (grammar.postfix k (u ∷ t ∷ a) (t ∷ a) m.0 _ m.1.0 (grammar.variable k u (t ∷ a) x e) m.1.1)), r.2)

  pub value_reads : (handles : Bool) (t : Placed) (a : List Placed) (k : ℕ) (v : Kind) (K : Stack) → t.kind ≡ v → After May Free (begin_value n handles k v K) a → (b : List Placed) × Value May handles k (t ∷ a) b × Spells May K b
  value_reads handles t a k (Name x) K f h = (h.0, h.1 t x f, h.2)
  value_reads handles t a k v K f h = ⊎_elim
      (λ e. (e.0, inl e.1, e.2))
      (λ z. absurd z)
      (begin_reads n Free May may t a k v K Refused f h)

  pub assigned_reads : (t : Placed) (a : List Placed) (k : ℕ) (v : Kind) (K : Stack) → t.kind ≡ v → After May Free (begin_assigned n k v K) a → Spells May (WantAssigned k ∷ K) (t ∷ a)
  assigned_reads t a k (Load size) K f h = (h.0, inr (t, a, size, h.1.0, refl, f, h.1.1), h.2)
  assigned_reads t a k v K f h = let r = value_reads true t a k v K f h in (r.0, inl r.1, r.2)

  -- ---- statements

  -- what is assigned, after the name and the sign
  assigned : (k : ℕ) (t u : Placed) (a b c : List Placed) (x : List ℕ) → IsName x t → Is sign.Assign u → Reads May (WantAssigned k) a b → Reads May (WantSign sign.Semicolon) b c → (y : Stmt) × grammar.AStmt May k (t ∷ u ∷ a) c y
  assigned k t u a b c x e f v s = ⊎_elim
      (λ v. ⊎_elim
      (λ y. (_, grammar.assignment k t u a c x y.0 e f (expr_ends May k a b c y.0 y.1 s)))
      (λ d. (_, grammar.assignment_call k t u a c x d.0 d.1 d.3 e f (call_ends May k a b c d s)))
      v)
      (λ l. subst (λ a. (y : Stmt) × grammar.AStmt May k (t ∷ u ∷ a) c y) (sym l.4) (_, grammar.shared_load k t u l.0 l.1 c x l.2 l.3 e f l.5 (expr_ends May k l.1 b c l.3 l.6 s)))
      v

  pub stmt_name_reads : (u : Placed) (a : List Placed) (k : ℕ) (v : Kind) (K : Stack) → u.kind ≡ v → After May Free (after_stmt_name k v K) a → Spells May (AfterStmtName k ∷ K) (u ∷ a)
  stmt_name_reads u a k (ASign sign.Assign) K f h =
      let s = h.2 in
      (s.0, λ t x e. assigned k t u a h.0 s.0 x e f h.1 s.1, s.2)
  stmt_name_reads u a k (ASign sign.OpenParen) K f h =
      let c = call_after true k u a (WantSign sign.Semicolon ∷ K) f h in
      let s = c.2 in
      (s.0, λ t x e. let d = c.1 t x e in (_, grammar.call k (t ∷ u ∷ a) s.0 d.0 d.1 d.3 (call_ends May k (t ∷ u ∷ a) c.0 s.0 d s.1)), s.2)
  stmt_name_reads u a k _ K f h = absurd h

  pub stmt_reads : (t : Placed) (a : List Placed) (k : ℕ) (v : Kind) (L : Stack) (other : Step) → t.kind ≡ v → After May Free (begin_stmt k v L other) a → Spells May (WantStmt k ∷ L) (t ∷ a) ⊎ After May Free other a
  stmt_reads t a k (Name x) L other f h = inl (h.0, h.1 t x f, h.2)
  stmt_reads t a k (Reserved keyword.Skip) L other f h = inl (h.0, subst (λ a. (y : Stmt) × grammar.AStmt May k (t ∷ a) h.0 y) (sym h.1.1) (_, grammar.skip k t h.1.0 h.0 f h.1.2), h.2)
  stmt_reads t a k (Reserved keyword.Break) L other f h = inl (h.0, subst (λ a. (y : Stmt) × grammar.AStmt May k (t ∷ a) h.0 y) (sym h.1.1) (_, grammar.break k t h.1.0 h.0 f h.1.2), h.2)
  stmt_reads t a k (Reserved keyword.Continue) L other f h = inl (h.0, subst (λ a. (y : Stmt) × grammar.AStmt May k (t ∷ a) h.0 y) (sym h.1.1) (_, grammar.continue k t h.1.0 h.0 f h.1.2), h.2)
  stmt_reads t a k (Reserved keyword.Var) L other f h =
      let u = h.1 in
      let v = h.2 in
      let d = v.2 in
      let s = d.2 in
      inl (
        s.0,
        subst (λ a. (y : Stmt) × grammar.AStmt May k (t ∷ a) s.0 y) (sym (u.2 ∙ ap (λ l. u.0 ∷ l) v.1.1)) (⊎_elim
            (λ y. (_, grammar.declaration k t u.0 v.1.0 v.0 s.0 u.1 y.0 f u.3 v.1.2 (expr_ends May k v.0 d.0 s.0 y.0 y.1 s.1)))
            (λ c. (_, grammar.declaration_call k t u.0 v.1.0 v.0 s.0 u.1 c.0 c.1 c.3 f u.3 v.1.2 (call_ends May k v.0 d.0 s.0 c s.1)))
            d.1),
        s.2,
      )
  stmt_reads t a k (Reserved keyword.St) L other f h = let r = two_end May k a L h in inl (r.0, (_, grammar.store_words k t a r.0 r.1.0 r.1.1 f r.1.2), r.2)
  stmt_reads t a k (Reserved keyword.Stb) L other f h = let r = two_end May k a L h in inl (r.0, (_, grammar.store_byte k t a r.0 r.1.0 r.1.1 f r.1.2), r.2)
  stmt_reads t a k (Store size) L other f h = let r = two_end May k a L h in inl (r.0, (_, grammar.shared_store k t a r.0 size r.1.0 r.1.1 f r.1.2), r.2)
  stmt_reads t a k (Reserved keyword.If) L other f h =
      let y = h.2 in
      let u = y.2 in
      let z = u.2 in
      inl (z.0, (_, grammar.branch k t u.1.0 a h.0 u.0 z.0 h.1.0 y.1.0 z.1.0 f h.1.1 (subst (λ b. grammar.ABlock May k h.0 b y.1.0) u.1.1 y.1.1) u.1.2 z.1.1), z.2)
  stmt_reads t a k (Reserved keyword.While) L other f h =
      let y = h.2 in
      inl (y.0, (_, grammar.loop k t a h.0 y.0 h.1.0 y.1.0 f h.1.1 y.1.1), y.2)
  stmt_reads t a k (Reserved keyword.Return) L other f h =
      let s = h.2 in
      inl (
        s.0,
        ⊎_elim
            (λ x. (_, grammar.return k t a s.0 x.0 f (expr_ends May k a h.0 s.0 x.0 x.1 s.1)))
            (λ c. (_, grammar.tail_call k t s.1.0 a s.0 c.0 c.1 f (subst (λ b. grammar.Plain May k a b c.0 c.1) s.1.1 c.2) s.1.2))
            h.1,
        s.2,
      )
  stmt_reads t a k (Reserved keyword.Raise) L other f h =
      let u = h.1 in
      let x = h.2 in
      let s = x.2 in
      inl (s.0, subst (λ a. (y : Stmt) × grammar.AStmt May k (t ∷ a) s.0 y) (sym u.2) (_, grammar.raise k t u.0 h.0 s.0 u.1 x.1.0 f u.3 (expr_ends May k h.0 x.0 s.0 x.1.0 x.1.1 s.1)), s.2)
  stmt_reads t a k (Foreign x) L other f h =
      let p = h.2 in
      let v = p.2 in
      let q = v.2 in
      let w = q.2 in
      let r = w.2 in
      let m = r.2 in
      let z = m.2 in
      let c = z.2 in
      let s = c.2 in
      inl (
        s.0,
        subst (λ a. (y : Stmt) × grammar.AStmt May k (t ∷ a) s.0 y) (sym h.1.1) (
          _,
          grammar.foreign k t h.1.0 v.1.0 w.1.0 m.1.0 c.1.0 s.1.0 h.0 v.0 w.0 m.0 s.0 x p.1.0 q.1.0 r.1.0 z.1.0 f h.1.2
              (subst (λ b. grammar.AnExpr May k h.0 b p.1.0) v.1.1 p.1.1) v.1.2
              (subst (λ b. grammar.AnExpr May k v.0 b q.1.0) w.1.1 q.1.1) w.1.2
              (subst (λ b. grammar.AnExpr May k w.0 b r.1.0) m.1.1 r.1.1) m.1.2
              (subst (λ b. grammar.AnExpr May k m.0 b z.1.0) (c.1.1 ∙ ap (λ l. c.1.0 ∷ l) s.1.1) z.1.1) c.1.2 s.1.2,
        ),
        s.2,
      )
  stmt_reads t a k _ L other f h = inr h

  pub block_reads : (t : Placed) (a : List Placed) (k : ℕ) (K : Stack) (b : Bool) → is_sign sign.OpenBrace t.kind ≡ b → After May Free (if b then opens n k (MoreStmts (k + 1) ∷ WantSign sign.CloseBrace ∷ K) else Refused) a → Spells May (WantBlock k ∷ K) (t ∷ a)
  block_reads t a k K true f h =
      let o = opened n Free May may t a k (MoreStmts (k + 1) ∷ WantSign sign.CloseBrace ∷ K) h in
      let m = o.1 in
      let c = m.2 in
      (c.0, (_, grammar.block k t c.1.0 a c.0 m.1.0 (sign_is sign.OpenBrace t.kind f) o.0 (subst (λ b. grammar.Stmts May (k + 1) a b m.1.0) c.1.1 m.1.1) c.1.2), c.2)
  block_reads t a k K false f h = absurd h

  -- ---- items

  pub param_reads : (k : ℕ) (a : List Placed) (K : Stack) → Spells May (WantShape k ∷ WantName ∷ K) a → Spells May (WantParam k ∷ K) a
  param_reads k a K h =
      let u = h.2 in
      (u.0, (_, grammar.param k u.1.0 a u.0 h.1.0 u.1.1 (subst (λ b. grammar.AShape May k a b h.1.0) u.1.2 h.1.1) u.1.3), u.2)

  pub params_read : (t : Placed) (a : List Placed) (k : ℕ) (K : Stack) (b : Bool) → is_sign sign.Comma t.kind ≡ b → (After May Free (step n K t) a → Spells May K (t ∷ a)) → After May Free (if b then Goes (WantParam k ∷ machine.MoreParams k ∷ K) else step n K t) a → Spells May (machine.MoreParams k ∷ K) (t ∷ a)
  params_read t a k K false f other h = (t ∷ a, ([], grammar.no_param k (t ∷ a)), other h)
  params_read t a k K true f other h = let m = h.2 in (m.0, (_, grammar.next_param k t a h.0 m.0 h.1.0 m.1.0 (sign_is sign.Comma t.kind f) h.1.1 m.1.1), m.2)

  pub may_params_read : (t : Placed) (a : List Placed) (k : ℕ) (K : Stack) → (After May Free (step n K t) a → Spells May K (t ∷ a)) → After May Free (begin_shape n k t.kind (WantName ∷ machine.MoreParams k ∷ K) (step n K t)) a → Spells May (MayParams k ∷ K) (t ∷ a)
  may_params_read t a k K other h = ⊎_elim
      (λ z. let p = param_reads k (t ∷ a) (machine.MoreParams k ∷ K) z in let m = p.2 in (m.0, (_, grammar.params k (t ∷ a) p.0 m.0 p.1.0 m.1.0 p.1.1 m.1.1), m.2))
      (λ z. (t ∷ a, ([], grammar.no_params k (t ∷ a)), other z))
      (shape_reads n Free May may t a k t.kind (WantName ∷ machine.MoreParams k ∷ K) (step n K t) refl h)

  pub may_shape_reads : (t : Placed) (a : List Placed) (k : ℕ) (K : Stack) → (After May Free (step n K t) a → Spells May K (t ∷ a)) → After May Free (begin_shape n k t.kind K (step n K t)) a → Spells May (MayShape k ∷ K) (t ∷ a)
  may_shape_reads t a k K other h = ⊎_elim
      (λ z. (z.0, (z.1.0, grammar.result k (t ∷ a) z.0 z.1.0 z.1.1), z.2))
      (λ z. (t ∷ a, (_, grammar.no_result k (t ∷ a)), other z))
      (shape_reads n Free May may t a k t.kind K (step n K t) refl h)

  pub items_read : (t : Placed) (a : List Placed) (v : Kind) (K : Stack) (other : Step) → t.kind ≡ v → After May Free (begin_item v (MoreItems ∷ K) other) a → Spells May (MoreItems ∷ K) (t ∷ a) ⊎ After May Free other a
  items_read t a (Reserved keyword.Exception) K other f h =
      let u = h.1 in
      let z = h.2 in
      let s = z.2 in
      let m = s.2 in
      let x : (x : Exception) × grammar.AnException May (t ∷ a) s.0 x = subst (λ a. (x : Exception) × grammar.AnException May (t ∷ a) s.0 x) (sym u.2) (_, grammar.exception t u.0 s.1.0 h.0 s.0 u.1 z.1.0 f u.3 (subst (λ b. grammar.AShape May 0 h.0 b z.1.0) s.1.1 z.1.1) s.1.2) in
      inl (m.0, λ xs fs i. let r = m.1 xs fs i in (_, _, grammar.next_exception (t ∷ a) s.0 x.0 r.0 r.1 x.1 r.2), m.2)
  items_read t a (Reserved keyword.Fun) K other f h =
      let u = h.2 in
      let v = u.2 in
      let p = v.2 in
      let w = p.2 in
      let y = w.2 in
      let m = y.2 in
      let x = grammar.function t u.1.0 v.1.0 w.1.0 a v.0 w.0 y.0 h.1.0 u.1.1 p.1.0 y.1.0 f
      (subst (λ b. grammar.Result May 0 a b h.1.0) (u.1.2 ∙ ap (λ l. u.1.0 ∷ l) v.1.1) h.1.1) u.1.3 v.1.2
      (subst (λ b. grammar.Params May 0 v.0 b p.1.0) w.1.1 p.1.1) w.1.2 y.1.1 in
      inl (m.0, λ xs fs i. let r = m.1 xs fs i in (_, _, grammar.next_function (t ∷ a) y.0 _ r.0 r.1 x r.2), m.2)
  items_read t a _ K other f h = inr h
