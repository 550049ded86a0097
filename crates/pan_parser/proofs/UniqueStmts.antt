-- The tokens spell one statement and one block.
use Rattle.std.proofs.Common.{◌≡◌, ℕ, List, ◌∷◌, Option, Some, sym, ap, ap₂, ◌∙◌, subst, refl}
use Rattle.pan_base.specs.declared.events.Size.{Size}
use Rattle.pan_base.specs.declared.tokens.Keyword.TheVariants as keyword
use Rattle.pan_base.specs.declared.tokens.Sign.TheVariants as sign
use Rattle.pan_base.specs.Tokens.{Placed, Kind, Name, Reserved, Load, Store, Foreign}
use Rattle.pan_tree.specs.declared.syntax.StmtKind.{StmtKind}
use Rattle.pan_tree.specs.declared.syntax.StmtKind.TheVariants as stmt
use Rattle.pan_tree.specs.declared.syntax.Target.{Target}
use Rattle.pan_tree.specs.declared.syntax.Target.TheVariants as target
use Rattle.pan_tree.specs.Nodes.{Expr, node}
use Rattle.pan_tree.specs.Grammar.{Stmt, Block, Handler, Is, IsName, AnExpr, Arguments, no_argument, arguments, Plain, plain, ExprEnd, expr_end, TwoExprs, two_exprs, AStmt, skip, declaration, declaration_call, assignment, assignment_call, shared_load, call, store_words, store_byte, branch, loop, break, continue, return, tail_call, raise, shared_store, foreign, CallEnd, call_end, MayHandle, no_handler, handler, ABlock, block, Stmts, no_stmt, next_stmt}
use Rattle.pan_parser.proofs.Ends.{apart, sign_not, no_sign, closing, more_exprs_after, block_after, Begins, begins_expr, begins_not, expr_begins, not_close, name_expr}
use Rattle.pan_parser.proofs.UniqueExprs.{Same, tail_of, clash, same_name, same_end, unique_expr, unique_exprs}

-- ---- a statement by its first token

abbrev call_to : Target → List ℕ → List Expr → Option Handler → StmtKind
call_to into f xs h = stmt.Call (record { into = into; function = f; args = xs; handler = h })

same_call : {i j : Target} {f g : List ℕ} {xs ys : List Expr} {h l : Option Handler} → i ≡ j → f ≡ g → xs ≡ ys → h ≡ l → call_to i f xs h ≡ call_to j g ys l
same_call {j = j} {f = f} {g = g} {xs = xs} {ys = ys} {h = h} p q r s = ap (λ i. call_to i f xs h) p ∙ ap (λ f. call_to j f xs h) q ∙ ap (λ xs. call_to j g xs h) r ∙ ap (call_to j g ys) s

abbrev handler_of : List ℕ → List ℕ → Block → Option Handler
handler_of i x y = Some (record { exception = i; name = x; body = y })

same_handler : {i j x y : List ℕ} {z w : Block} → i ≡ j → x ≡ y → z ≡ w → handler_of i x z ≡ handler_of j y w
same_handler {j = j} {x = x} {z = z} p q r = ap (λ i. handler_of i x z) p ∙ ap₂ (handler_of j) q r

abbrev block_of : List Stmt → Block
block_of xs = record { stmts = xs }

same_branch : {x y : Expr} {z w u v : Block} → x ≡ y → z ≡ w → u ≡ v → stmt.If x z u ≡ stmt.If y w v
same_branch {y = y} {z = z} {u = u} p q r = ap (λ x. stmt.If x z u) p ∙ ap₂ (stmt.If y) q r

same_foreign : {p q r z p3 q3 r3 z3 : Expr} (x : List ℕ) → p ≡ p3 → q ≡ q3 → r ≡ r3 → z ≡ z3 → stmt.Foreign x p q r z ≡ stmt.Foreign x p3 q3 r3 z3
same_foreign {r = r} {z = z} {p3 = p3} {q3 = q3} x e f g h = ap₂ (λ p q. stmt.Foreign x p q r z) e f ∙ ap₂ (stmt.Foreign x p3 q3) g h

same_load : {v : Kind} {m n : Size} → v ≡ Load m → v ≡ Load n → m ≡ n
same_load e f = cc

module _ (May : ℕ → List Placed → Type 0) where
  -- what is declared or assigned: an expression or a call, and the statement that each makes
  data Value (valued : Expr → StmtKind) (called : List ℕ → List Expr → Option Handler → StmtKind) (k : ℕ) (a b : List Placed) : StmtKind → Type 0 where
    by_expr : (y : Expr) → ExprEnd May k a b y → Value valued called k a b (valued y)
    by_call : (f : List ℕ) (ys : List Expr) (h : Option Handler) → CallEnd May k a b f ys h → Value valued called k a b (called f ys h)

  -- what begins with the name x, the token t
  data Named (x : List ℕ) (k : ℕ) (t : Placed) (b : List Placed) : List Placed → StmtKind → Type 0 where
    assigned : (u : Placed) (a : List Placed) (z : StmtKind) → Is sign.Assign u → Value (stmt.Assign x) (call_to (target.Old x)) k a b z → Named x k t b (u ∷ a) z
    loaded : (u v : Placed) (a : List Placed) (n : Size) (y : Expr)
        → Is sign.Assign u → v.kind ≡ Load n → ExprEnd May k a b y → Named x k t b (u ∷ v ∷ a) (stmt.SharedLoad n x y)
    called : (a : List Placed) (f : List ℕ) (ys : List Expr) (h : Option Handler) → CallEnd May k (t ∷ a) b f ys h → Named x k t b a (call_to target.Nothing f ys h)

  -- what is returned: an expression, or a call's value
  data Returned (k : ℕ) (a b : List Placed) : StmtKind → Type 0 where
    by_value : (y : Expr) → ExprEnd May k a b y → Returned k a b (stmt.Return y)
    by_tail : (u : Placed) (f : List ℕ) (ys : List Expr) → Plain May k a (u ∷ b) f ys → Is sign.Semicolon u → Returned k a b (stmt.TailCall f ys)

  -- '(' expr ',' expr ',' expr ',' expr ')' ';'
  data FourExprs (k : ℕ) : List Placed → List Placed → Expr → Expr → Expr → Expr → Type 0 where
    four_exprs : (u v w m n o : Placed) (a b c d f : List Placed) (p q r z : Expr)
        → Is sign.OpenParen u → AnExpr May k a (v ∷ b) p → Is sign.Comma v → AnExpr May k b (w ∷ c) q → Is sign.Comma w
        → AnExpr May k c (m ∷ d) r → Is sign.Comma m → AnExpr May k d (n ∷ o ∷ f) z → Is sign.CloseParen n → Is sign.Semicolon o
        → FourExprs k (u ∷ a) f p q r z

  -- what spells z between t ∷ a and b, where the kind of t is given
  abbrev StmtBy : Kind → ℕ → Placed → List Placed → List Placed → StmtKind → Type 0
  StmtBy (Name x) k t a b z = Named x k t b a z
  StmtBy (Store n) k t a b z = (x : Expr) × (y : Expr) × TwoExprs May k a b x y × (z ≡ stmt.SharedStore n x y)
  StmtBy (Foreign x) k t a b z = (p : Expr) × (q : Expr) × (r : Expr) × (y : Expr) × FourExprs k a b p q r y × (z ≡ stmt.Foreign x p q r y)
  StmtBy (Reserved keyword.Skip) k t a b z = (u : Placed) × (a ≡ u ∷ b) × (z ≡ stmt.Skip)
  StmtBy (Reserved keyword.Break) k t a b z = (u : Placed) × (a ≡ u ∷ b) × (z ≡ stmt.Break)
  StmtBy (Reserved keyword.Continue) k t a b z = (u : Placed) × (a ≡ u ∷ b) × (z ≡ stmt.Continue)
  StmtBy (Reserved keyword.Var) k t a b z =
      (u : Placed) × (v : Placed) × (c : List Placed) × (x : List ℕ) × (a ≡ u ∷ v ∷ c) × IsName x u × Value (stmt.Decl x) (call_to (target.New x)) k c b z
  StmtBy (Reserved keyword.St) k t a b z = (x : Expr) × (y : Expr) × TwoExprs May k a b x y × (z ≡ stmt.StoreWords x y)
  StmtBy (Reserved keyword.Stb) k t a b z = (x : Expr) × (y : Expr) × TwoExprs May k a b x y × (z ≡ stmt.StoreByte x y)
  StmtBy (Reserved keyword.If) k t a b z =
      (u : Placed) × (c : List Placed) × (d : List Placed) × (x : Expr) × (y : Block) × (w : Block)
      × AnExpr May k a c x × ABlock May k c (u ∷ d) y × ABlock May k d b w × (z ≡ stmt.If x y w)
  StmtBy (Reserved keyword.While) k t a b z = (c : List Placed) × (x : Expr) × (y : Block) × AnExpr May k a c x × ABlock May k c b y × (z ≡ stmt.While x y)
  StmtBy (Reserved keyword.Return) k t a b z = Returned k a b z
  StmtBy (Reserved keyword.Raise) k t a b z =
      (u : Placed) × (c : List Placed) × (x : List ℕ) × (y : Expr) × (a ≡ u ∷ c) × IsName x u × ExprEnd May k c b y × (z ≡ stmt.Raise x y)
  StmtBy _ k t a b z = ⊥

  abbrev StmtOf : Kind → ℕ → Placed → List Placed → List Placed → Stmt → Type 0
  StmtOf v k t a b x = (z : StmtKind) × (x ≡ node (t ∷ a) b z) × StmtBy v k t a b z

  -- the same by an equation of the kind
  of_kind : (v : Kind) (k : ℕ) (t : Placed) (a b : List Placed) (z : StmtKind) → t.kind ≡ v → StmtBy v k t a b z → StmtOf t.kind k t a b (node (t ∷ a) b z)
  of_kind v k t a b z m p = (z, refl, subst (λ v. StmtBy v k t a b z) (sym m) p)

  call_name : {k : ℕ} {t : Placed} {a b : List Placed} {f : List ℕ} {ys : List Expr} {h : Option Handler} → CallEnd May k (t ∷ a) b f ys h → IsName f t
  call_name (call_end k t _ b c f xs h (plain _ _ u v a _ _ _ m n p o) q r) = m

  call_paren : {k : ℕ} {t u : Placed} {a b : List Placed} {f : List ℕ} {ys : List Expr} {h : Option Handler} → CallEnd May k (t ∷ u ∷ a) b f ys h → Is sign.OpenParen u
  call_paren (call_end k t _ b c f xs h (plain _ _ u v a _ _ _ m n p o) q r) = n

  stmt_by : {k : ℕ} {t : Placed} {a b : List Placed} {x : Stmt} → AStmt May k (t ∷ a) b x → StmtOf t.kind k t a b x
  stmt_by (skip k t u a m n) = of_kind _ k t (u ∷ a) a _ m (u, refl, refl)
  stmt_by (declaration k t u v a b x y m n o p) = of_kind _ k t (u ∷ v ∷ a) b _ m (u, v, a, x, refl, n, by_expr y p)
  stmt_by (declaration_call k t u v a b x f ys h m n o p) = of_kind _ k t (u ∷ v ∷ a) b _ m (u, v, a, x, refl, n, by_call f ys h p)
  stmt_by (assignment k t u a b x y m n p) = of_kind _ k t (u ∷ a) b _ m (assigned u a _ n (by_expr y p))
  stmt_by (assignment_call k t u a b x f ys h m n p) = of_kind _ k t (u ∷ a) b _ m (assigned u a _ n (by_call f ys h p))
  stmt_by (shared_load k t u v a b x n y m o l p) = of_kind _ k t (u ∷ v ∷ a) b _ m (loaded u v a n y o l p)
  stmt_by {t = t} {a = a} (call k _ b f ys h p) = of_kind (Name f) k t a b _ (call_name p) (called a f ys h p)
  stmt_by (store_words k t a b x y m p) = of_kind _ k t a b _ m (x, y, p, refl)
  stmt_by (store_byte k t a b x y m p) = of_kind _ k t a b _ m (x, y, p, refl)
  stmt_by (branch k t u a b c d x y z m p q n r) = of_kind _ k t a d _ m (u, b, c, x, y, z, p, q, r, refl)
  stmt_by (loop k t a b c x y m p q) = of_kind _ k t a c _ m (b, x, y, p, q, refl)
  stmt_by (break k t u a m n) = of_kind _ k t (u ∷ a) a _ m (u, refl, refl)
  stmt_by (continue k t u a m n) = of_kind _ k t (u ∷ a) a _ m (u, refl, refl)
  stmt_by (return k t a b x m p) = of_kind _ k t a b _ m (by_value x p)
  stmt_by (tail_call k t u a b f xs m p n) = of_kind _ k t a b _ m (by_tail u f xs p n)
  stmt_by (raise k t u a b x y m n p) = of_kind _ k t (u ∷ a) b _ m (u, a, x, y, refl, n, p, refl)
  stmt_by (shared_store k t a b n x y m p) = of_kind _ k t a b _ m (x, y, p, refl)
  stmt_by (foreign k t u v w l n o a b c d f x p q r z m i p1 i1 p2 i2 p3 i3 p4 i4 i5) =
      of_kind _ k t (u ∷ a) f _ m (p, q, r, z, four_exprs u v w l n o a b c d f p q r z i p1 i1 p2 i2 p3 i3 p4 i4 i5, refl)

  -- where equal tokens begin with a token of this kind
  stmt_as : (t : Placed) (a : List Placed) (v : Kind) {k : ℕ} {b c : List Placed} {x : Stmt} → t ∷ a ≡ b → t.kind ≡ v → AStmt May k b c x → StmtOf v k t a c x
  stmt_as t a v {k = k} {c = c} {x = x} e m p = subst (λ v. StmtOf v k t a c x) m (stmt_by (subst (λ b. AStmt May k b c x) (sym e) p))

  end_begins : {k : ℕ} {a b : List Placed} {y : Expr} → ExprEnd May k a b y → Begins begins_expr a
  end_begins (expr_end k t a b x p m) = expr_begins May p

  value_begins : {valued : Expr → StmtKind} {called : List ℕ → List Expr → Option Handler → StmtKind} {k : ℕ} {t : Placed} {a b : List Placed} {z : StmtKind}
      → Value valued called k (t ∷ a) b z → Begins begins_expr (t ∷ a)
  value_begins (by_expr y p) = end_begins p
  value_begins (by_call f ys h p) = ap begins_expr (call_name p)

-- ---- no expression is a call

end_not_plain : (M N : ℕ → List Placed → Type 0) {k j : ℕ} {a b c f : List Placed} {y : Expr} {g : List ℕ} {ys : List Expr} → ExprEnd M k a c y → Plain N j b f g ys → a ≡ b → ⊥
end_not_plain M N (expr_end k t a c x p m) (plain j t3 u3 v3 b f g ys n o q r) e =
    sign_not sign.OpenParen u3 b o (name_expr M (subst (λ a. AnExpr M k a (t ∷ c) x) e p) n (no_sign sign.OpenParen t c _ m refl))

end_not_call : (M N : ℕ → List Placed → Type 0) {k j : ℕ} {a b c f : List Placed} {y : Expr} {g : List ℕ} {ys : List Expr} {h : Option Handler} → ExprEnd M k a c y → CallEnd N j b f g ys h → a ≡ b → ⊥
end_not_call M N p (call_end j t b d f g ys h q r n) e = end_not_plain M N p q e

module _ (M N : ℕ → List Placed → Type 0) where
  -- ---- which of two or three productions it is

  value_expr : {valued : Expr → StmtKind} {called : List ℕ → List Expr → Option Handler → StmtKind} {k j : ℕ} {a b c f : List Placed} {y : Expr} {z : StmtKind}
      → ExprEnd M k a c y → Value N valued called j b f z → a ≡ b → (w : Expr) × ExprEnd N j b f w × (z ≡ valued w)
  value_expr p (by_expr w q) e = (w, q, refl)
  value_expr p (by_call g ys h q) e = absurd (end_not_call M N p q e)

  value_call : {valued : Expr → StmtKind} {called : List ℕ → List Expr → Option Handler → StmtKind} {k j : ℕ} {a b c f : List Placed} {g : List ℕ} {xs : List Expr} {h : Option Handler} {z : StmtKind}
      → CallEnd M k a c g xs h → Value N valued called j b f z → a ≡ b → (l : List ℕ) × (ys : List Expr) × (i : Option Handler) × CallEnd N j b f l ys i × (z ≡ called l ys i)
  value_call p (by_expr w q) e = absurd (end_not_call N M q p (sym e))
  value_call p (by_call l ys i q) e = (l, ys, i, q, refl)

  named_expr : {x : List ℕ} {k j : ℕ} {t u : Placed} {a c f : List Placed} {y : Expr} {z : StmtKind}
      → ExprEnd M k a c y → Is sign.Assign u → Named N x j t f (u ∷ a) z → (w : Expr) × ExprEnd N j a f w × (z ≡ stmt.Assign x w)
  named_expr p m (assigned u a z n q) = value_expr p q refl
  named_expr p m (loaded u v a n w o l q) = absurd (begins_not begins_expr v a (Load n) l (end_begins M p) refl)
  named_expr {u = u} p m (called _ g ys h q) = absurd (apart u.kind _ _ m (call_paren N q) refl)

  named_call : {x : List ℕ} {k j : ℕ} {t u : Placed} {a c f : List Placed} {g : List ℕ} {xs : List Expr} {h : Option Handler} {z : StmtKind}
      → CallEnd M k a c g xs h → Is sign.Assign u → Named N x j t f (u ∷ a) z
      → (l : List ℕ) × (ys : List Expr) × (i : Option Handler) × CallEnd N j a f l ys i × (z ≡ call_to (target.Old x) l ys i)
  named_call p m (assigned u a z n q) = value_call p q refl
  named_call p m (loaded u v a n w o l q) = absurd (apart v.kind _ _ l (call_name M p) refl)
  named_call {u = u} p m (called _ g ys h q) = absurd (apart u.kind _ _ m (call_paren N q) refl)

  named_load : {x : List ℕ} {j : ℕ} {t u v : Placed} {a f : List Placed} {n : Size} {z : StmtKind}
      → Is sign.Assign u → v.kind ≡ Load n → Named N x j t f (u ∷ v ∷ a) z → (w : Expr) × ExprEnd N j a f w × (z ≡ stmt.SharedLoad n x w)
  named_load {v = v} {a = a} {n = n} m l (assigned u _ z i q) = absurd (begins_not begins_expr v a (Load n) l (value_begins N q) refl)
  named_load {x = x} m l (loaded u v a i w o r q) = (w, q, ap (λ n. stmt.SharedLoad n x w) (same_load r l))
  named_load {u = u} m l (called _ g ys h q) = absurd (apart u.kind _ _ m (call_paren N q) refl)

  named_called : {x : List ℕ} {k j : ℕ} {t : Placed} {a c f : List Placed} {g : List ℕ} {xs : List Expr} {h : Option Handler} {z : StmtKind}
      → CallEnd M k (t ∷ a) c g xs h → Named N x j t f a z
      → (l : List ℕ) × (ys : List Expr) × (i : Option Handler) × CallEnd N j (t ∷ a) f l ys i × (z ≡ call_to target.Nothing l ys i)
  named_called p (assigned u a z n q) = absurd (apart u.kind _ _ n (call_paren M p) refl)
  named_called p (loaded u v a n w o l q) = absurd (apart u.kind _ _ o (call_paren M p) refl)
  named_called p (called _ l ys i q) = (l, ys, i, q, refl)

  returned_expr : {k j : ℕ} {a c f : List Placed} {y : Expr} {z : StmtKind} → ExprEnd M k a c y → Returned N j a f z → (w : Expr) × ExprEnd N j a f w × (z ≡ stmt.Return w)
  returned_expr p (by_value w q) = (w, q, refl)
  returned_expr p (by_tail u g ys q n) = absurd (end_not_plain M N p q refl)

  returned_call : {k j : ℕ} {a c f : List Placed} {g : List ℕ} {xs : List Expr} {z : StmtKind}
      → Plain M k a c g xs → Returned N j a f z → (u : Placed) × (l : List ℕ) × (ys : List Expr) × Plain N j a (u ∷ f) l ys × (z ≡ stmt.TailCall l ys)
  returned_call p (by_value w q) = absurd (end_not_plain N M q p refl)
  returned_call p (by_tail u l ys q n) = (u, l, ys, q, refl)

  call_as : {k j : ℕ} {a b c f : List Placed} {g : List ℕ} {xs : List Expr} {h : Option Handler} {y : Stmt}
      → CallEnd M k a c g xs h → AStmt N j b f y → a ≡ b
      → (l : List ℕ) × (ys : List Expr) × (i : Option Handler) × CallEnd N j a f l ys i × (y ≡ node a f (call_to target.Nothing l ys i))
  call_as {f = f} (call_end k t _ d c g xs h (plain _ t3 u v a _ _ _ m n p o) q r) s e =
      let by = stmt_as N t3 (u ∷ a) (Name g) e m s in
      let is = named_called (call_end k t (t3 ∷ u ∷ a) d c g xs h (plain k t3 u v a d g xs m n p o) q r) by.2 in
      (is.0, is.1, is.2, is.3, by.1 ∙ ap (node (t3 ∷ u ∷ a) f) is.4)

  -- ---- expressions in statements

  unique_arguments : {k j : ℕ} {u v : Placed} {a b c f : List Placed} {xs ys : List Expr} → Arguments M k a (u ∷ c) xs → Arguments N j b (v ∷ f) ys → a ≡ b
      → Is sign.CloseParen u → Is sign.CloseParen v → Same (u ∷ c) (v ∷ f) xs ys
  unique_arguments (no_argument k _) (no_argument j _) e m n = (e, refl)
  unique_arguments {u = u} {c = c} (no_argument k _) (arguments j b d _ y ys p q) e m n = absurd (begins_not begins_expr u c _ m (subst (Begins begins_expr) (sym e) (expr_begins N p)) refl)
  unique_arguments {v = v} {f = f} (arguments k a d _ x xs p q) (no_argument j _) e m n = absurd (begins_not begins_expr v f _ n (subst (Begins begins_expr) e (expr_begins M p)) refl)
  unique_arguments {u = u} {v = v} {c = c} {f = f} (arguments k a d _ x xs p q) (arguments j b d3 _ y ys p3 q3) e m n =
      let end = closing sign.CloseParen u c refl m in
      let end_by = closing sign.CloseParen v f refl n in
      let one = unique_expr M N p p3 e (more_exprs_after M q end) (more_exprs_after N q3 end_by) in
      let rest = unique_exprs M N q q3 one.0 end end_by (no_sign sign.Comma u c _ m refl) (no_sign sign.Comma v f _ n refl) in
      (rest.0, ap₂ (λ x xs. x ∷ xs) one.1 rest.1)

  unique_plain : {k j : ℕ} {a b c d : List Placed} {f g : List ℕ} {xs ys : List Expr} → Plain M k a c f xs → Plain N j b d g ys → a ≡ b → (c ≡ d) × (f ≡ g) × (xs ≡ ys)
  unique_plain (plain k t u v a c f xs m n p o) (plain j t3 u3 v3 b d g ys m3 n3 p3 o3) e =
      let rest = unique_arguments p p3 (tail_of (tail_of e)) o o3 in
      (tail_of rest.0, same_name e m m3, rest.1)

  unique_end : {k j : ℕ} {a b c f : List Placed} {x y : Expr} → ExprEnd M k a c x → ExprEnd N j b f y → a ≡ b → Same c f x y
  unique_end (expr_end k t a c x p m) (expr_end j t3 b f y q n) e =
      let one = unique_expr M N p q e (closing sign.Semicolon t c refl m) (closing sign.Semicolon t3 f refl n) in
      (tail_of one.0, one.1)

  unique_two : {k j : ℕ} {a b c f : List Placed} {x y z w : Expr} → TwoExprs M k a c x y → TwoExprs N j b f z w → a ≡ b → (c ≡ f) × (x ≡ z) × (y ≡ w)
  unique_two (two_exprs k t a d c x y p m q) (two_exprs j t3 b d3 f z w p3 m3 q3) e =
      let one = unique_expr M N p p3 e (closing sign.Comma t d refl m) (closing sign.Comma t3 d3 refl m3) in
      let two = unique_end q q3 (tail_of one.0) in
      (two.0, one.1, two.1)

  unique_four : {k j : ℕ} {a b c f : List Placed} {p q r x y z w v : Expr} → FourExprs M k a c p q r x → FourExprs N j b f y z w v → a ≡ b
      → (c ≡ f) × (p ≡ y) × (q ≡ z) × (r ≡ w) × (x ≡ v)
  unique_four (four_exprs u v w m n o a b c d f x1 x2 x3 x4 i p1 i1 p2 i2 p3 i3 p4 i4 i5) (four_exprs u3 v3 w3 m3 n3 o3 a3 b3 c3 d3 f3 y1 y2 y3 y4 j q1 j1 q2 j2 q3 j3 q4 j4 j5) e =
      let one = unique_expr M N p1 q1 (tail_of e) (closing sign.Comma v b refl i1) (closing sign.Comma v3 b3 refl j1) in
      let two = unique_expr M N p2 q2 (tail_of one.0) (closing sign.Comma w c refl i2) (closing sign.Comma w3 c3 refl j2) in
      let three = unique_expr M N p3 q3 (tail_of two.0) (closing sign.Comma m d refl i3) (closing sign.Comma m3 d3 refl j3) in
      let four = unique_expr M N p4 q4 (tail_of three.0) (closing sign.CloseParen n (o ∷ f) refl i4) (closing sign.CloseParen n3 (o3 ∷ f3) refl j4) in
      (tail_of (tail_of four.0), one.1, two.1, three.1, four.1)

  -- ---- statements

  mutual
    pub unique_stmt : {k j : ℕ} {a b c f : List Placed} {x y : Stmt} → AStmt M k a c x → AStmt N j b f y → a ≡ b → Same c f x y
    unique_stmt (skip k t u a m n) q e =
        let by = stmt_as N t (u ∷ a) (Reserved keyword.Skip) e m q in
        let end = tail_of by.2.1 in
        (end, same_end (t ∷ u ∷ a) end (sym by.2.2) ∙ sym by.1)
    unique_stmt (declaration k t u v a b x y m n o p) q e =
        let by = stmt_as N t (u ∷ v ∷ a) (Reserved keyword.Var) e m q in
        let is = value_expr p by.2.6 (tail_of (tail_of by.2.4)) in
        let one = unique_end p is.1 (tail_of (tail_of by.2.4)) in
        (one.0, same_end (t ∷ u ∷ v ∷ a) one.0 (ap₂ stmt.Decl (same_name by.2.4 n by.2.5) one.1 ∙ sym is.2) ∙ sym by.1)
    unique_stmt (declaration_call k t u v a b x g xs h m n o p) q e =
        let by = stmt_as N t (u ∷ v ∷ a) (Reserved keyword.Var) e m q in
        let is = value_call p by.2.6 (tail_of (tail_of by.2.4)) in
        let one = unique_call p is.3 (tail_of (tail_of by.2.4)) in
        (one.0, same_end (t ∷ u ∷ v ∷ a) one.0 (same_call (ap target.New (same_name by.2.4 n by.2.5)) one.1 one.2 one.3 ∙ sym is.4) ∙ sym by.1)
    unique_stmt (assignment k t u a b x y m n p) q e =
        let by = stmt_as N t (u ∷ a) (Name x) e m q in
        let is = named_expr p n by.2 in
        let one = unique_end p is.1 refl in
        (one.0, same_end (t ∷ u ∷ a) one.0 (ap (stmt.Assign x) one.1 ∙ sym is.2) ∙ sym by.1)
    unique_stmt (assignment_call k t u a b x g xs h m n p) q e =
        let by = stmt_as N t (u ∷ a) (Name x) e m q in
        let is = named_call p n by.2 in
        let one = unique_call p is.3 refl in
        (one.0, same_end (t ∷ u ∷ a) one.0 (same_call refl one.1 one.2 one.3 ∙ sym is.4) ∙ sym by.1)
    unique_stmt (shared_load k t u v a b x n y m o l p) q e =
        let by = stmt_as N t (u ∷ v ∷ a) (Name x) e m q in
        let is = named_load o l by.2 in
        let one = unique_end p is.1 refl in
        (one.0, same_end (t ∷ u ∷ v ∷ a) one.0 (ap (stmt.SharedLoad n x) one.1 ∙ sym is.2) ∙ sym by.1)
    unique_stmt (call k a b g xs h p) q e =
        let is = call_as p q e in
        let one = unique_call p is.3 refl in
        (one.0, same_end a one.0 (same_call refl one.1 one.2 one.3) ∙ sym is.4)
    unique_stmt (store_words k t a b x y m p) q e =
        let by = stmt_as N t a (Reserved keyword.St) e m q in
        let one = unique_two p by.2.2 refl in
        (one.0, same_end (t ∷ a) one.0 (ap₂ stmt.StoreWords one.1 one.2 ∙ sym by.2.3) ∙ sym by.1)
    unique_stmt (store_byte k t a b x y m p) q e =
        let by = stmt_as N t a (Reserved keyword.Stb) e m q in
        let one = unique_two p by.2.2 refl in
        (one.0, same_end (t ∷ a) one.0 (ap₂ stmt.StoreByte one.1 one.2 ∙ sym by.2.3) ∙ sym by.1)
    unique_stmt (branch k t u a b c d x y z m p q n r) s e =
        let by = stmt_as N t a (Reserved keyword.If) e m s in
        let one = unique_expr M N p by.2.6 refl (block_after M q) (block_after N by.2.7) in
        let two = unique_block q by.2.7 one.0 in
        let three = unique_block r by.2.8 (tail_of two.0) in
        (three.0, same_end (t ∷ a) three.0 (same_branch one.1 two.1 three.1 ∙ sym by.2.9) ∙ sym by.1)
    unique_stmt (loop k t a b c x y m p q) s e =
        let by = stmt_as N t a (Reserved keyword.While) e m s in
        let one = unique_expr M N p by.2.3 refl (block_after M q) (block_after N by.2.4) in
        let two = unique_block q by.2.4 one.0 in
        (two.0, same_end (t ∷ a) two.0 (ap₂ stmt.While one.1 two.1 ∙ sym by.2.5) ∙ sym by.1)
    unique_stmt (break k t u a m n) q e =
        let by = stmt_as N t (u ∷ a) (Reserved keyword.Break) e m q in
        let end = tail_of by.2.1 in
        (end, same_end (t ∷ u ∷ a) end (sym by.2.2) ∙ sym by.1)
    unique_stmt (continue k t u a m n) q e =
        let by = stmt_as N t (u ∷ a) (Reserved keyword.Continue) e m q in
        let end = tail_of by.2.1 in
        (end, same_end (t ∷ u ∷ a) end (sym by.2.2) ∙ sym by.1)
    unique_stmt (return k t a b x m p) q e =
        let by = stmt_as N t a (Reserved keyword.Return) e m q in
        let is = returned_expr p by.2 in
        let one = unique_end p is.1 refl in
        (one.0, same_end (t ∷ a) one.0 (ap stmt.Return one.1 ∙ sym is.2) ∙ sym by.1)
    unique_stmt (tail_call k t u a b g xs m p n) q e =
        let by = stmt_as N t a (Reserved keyword.Return) e m q in
        let is = returned_call p by.2 in
        let one = unique_plain p is.3 refl in
        let end = tail_of one.0 in
        (end, same_end (t ∷ a) end (ap₂ stmt.TailCall one.1 one.2 ∙ sym is.4) ∙ sym by.1)
    unique_stmt (raise k t u a b x y m n p) q e =
        let by = stmt_as N t (u ∷ a) (Reserved keyword.Raise) e m q in
        let one = unique_end p by.2.6 (tail_of by.2.4) in
        (one.0, same_end (t ∷ u ∷ a) one.0 (ap₂ stmt.Raise (same_name by.2.4 n by.2.5) one.1 ∙ sym by.2.7) ∙ sym by.1)
    unique_stmt (shared_store k t a b n x y m p) q e =
        let by = stmt_as N t a (Store n) e m q in
        let one = unique_two p by.2.2 refl in
        (one.0, same_end (t ∷ a) one.0 (ap₂ (stmt.SharedStore n) one.1 one.2 ∙ sym by.2.3) ∙ sym by.1)
    unique_stmt (foreign k t u v w l n o a b c d f x x1 x2 x3 x4 m i p1 i1 p2 i2 p3 i3 p4 i4 i5) q e =
        let by = stmt_as N t (u ∷ a) (Foreign x) e m q in
        let one = unique_four (four_exprs u v w l n o a b c d f x1 x2 x3 x4 i p1 i1 p2 i2 p3 i3 p4 i4 i5) by.2.4 refl in
        (one.0, same_end (t ∷ u ∷ a) one.0 (same_foreign x one.1 one.2 one.3 one.4 ∙ sym by.2.5) ∙ sym by.1)

    unique_call : {k j : ℕ} {a b c d : List Placed} {f g : List ℕ} {xs ys : List Expr} {h i : Option Handler} → CallEnd M k a c f xs h → CallEnd N j b d g ys i → a ≡ b
        → (c ≡ d) × (f ≡ g) × (xs ≡ ys) × (h ≡ i)
    unique_call (call_end k t a b c f xs h p q m) (call_end j t3 a3 b3 c3 f3 xs3 h3 p3 q3 m3) e =
        let one = unique_plain p p3 e in
        let two = unique_handler q q3 one.0 m m3 in
        (tail_of two.0, one.1, one.2, two.1)

    unique_handler : {k j : ℕ} {t u : Placed} {a b c f : List Placed} {h i : Option Handler} → MayHandle M k a (t ∷ c) h → MayHandle N j b (u ∷ f) i → a ≡ b
        → Is sign.Semicolon t → Is sign.Semicolon u → Same (t ∷ c) (u ∷ f) h i
    unique_handler (no_handler k _) (no_handler j _) e m n = (e, refl)
    unique_handler (no_handler k _) (handler j t3 u3 v3 a3 _ i x y o p q r) e m n = absurd (clash e m o refl)
    unique_handler (handler k t u v a _ i x y o p q r) (no_handler j _) e m n = absurd (clash e o n refl)
    unique_handler (handler k t u v a _ i x y o p q r) (handler j t3 u3 v3 a3 _ i3 x3 y3 o3 p3 q3 r3) e m n =
        let one = unique_block r r3 (tail_of (tail_of (tail_of e))) in
        (one.0, same_handler (same_name (tail_of e) p p3) (same_name (tail_of (tail_of e)) q q3) one.1)

    pub unique_block : {k j : ℕ} {a b c f : List Placed} {x y : Block} → ABlock M k a c x → ABlock N j b f y → a ≡ b → Same c f x y
    unique_block (block k t u a c xs m o p n) (block j t3 u3 b f ys m3 o3 p3 n3) e =
        let one = unique_stmts p p3 (tail_of e) n n3 in
        (tail_of one.0, ap block_of one.1)

    unique_stmts : {k j : ℕ} {t u : Placed} {a b c f : List Placed} {xs ys : List Stmt} → Stmts M k a (t ∷ c) xs → Stmts N j b (u ∷ f) ys → a ≡ b
        → Is sign.CloseBrace t → Is sign.CloseBrace u → Same (t ∷ c) (u ∷ f) xs ys
    unique_stmts (no_stmt k _) (no_stmt j _) e m n = (e, refl)
    unique_stmts (no_stmt k _) (next_stmt j b d _ y ys p q) e m n = absurd (not_close N (subst (λ a. AStmt N j a d y) (sym e) p) m)
    unique_stmts (next_stmt k a d _ x xs p q) (no_stmt j _) e m n = absurd (not_close M (subst (λ a. AStmt M k a d x) e p) n)
    unique_stmts (next_stmt k a d _ x xs p q) (next_stmt j b d3 _ y ys p3 q3) e m n =
        let one = unique_stmt p p3 e in
        let rest = unique_stmts q q3 one.0 m n in
        (rest.0, ap₂ (λ x xs. x ∷ xs) one.1 rest.1)
