-- What the machine reads as a shape or an expression is in the grammar.
use Rattle.std.proofs.Common.{◌≡◌, ◌⊎◌, inl, inr, ⊎_elim, ℕ, zero, suc, ◌+◌, ◌<◌, ◌≤◌, Bool, true, false, if◌then◌else◌, List, [], ◌∷◌, Option, Some, None, sym, subst, refl, nat_lt, arith, ltb-true}
use Rattle.pan_base.specs.declared.operators.BinOp.{BinOp}
use Rattle.pan_base.specs.declared.operators.ShOp.{ShOp}
use Rattle.pan_base.specs.declared.operators.Cmp.{Cmp}
use Rattle.pan_base.specs.declared.tokens.Keyword.TheVariants as keyword
use Rattle.pan_base.specs.declared.tokens.Sign.TheVariants as sign
use Rattle.pan_base.specs.Tokens.{Placed, Kind, Name, Reserved, Number, Base, Biw, ASign}
use Rattle.pan_tree.specs.declared.level.Level.{Level}
use Rattle.pan_tree.specs.declared.level.Level.TheVariants as level
use Rattle.pan_tree.specs.Nodes.{Expr, operator_at, shift_operator, comparison}
use Rattle.pan_tree.specs.Grammar as grammar
use Rattle.pan_parser.specs.Machine as machine
use Rattle.pan_parser.specs.Machine.{WantSign, WantNumber, WantShape, WantExpr, MayCompare, WantChain, WantOperand, MoreTerms, WantShift, MoreShifts, WantUnary, WantPrimary, MoreFields, Stack, Step, Goes, Deep, is_sign, opens, continues, begin_shape, begin_primary, begin, operand_rest, expr_rest, after_name, step}
use Rattle.pan_parser.proofs.Ends.{sign_is}
use Rattle.pan_parser.proofs.Spells.{Spells, After}

-- ---- what a first unary expression begins

module _ (May : ℕ → List Placed → Type 0) where
  -- what comes between a and b makes an operand of each unary expression before it
  abbrev pub OperandRest : Level → ℕ → List Placed → List Placed → Type 0
  OperandRest l k a b = (p : List Placed) (x : Expr) → grammar.Unary May k p a x → (y : Expr) × grammar.Operand May l k p b y

  abbrev pub ChainRest : Level → ℕ → List Placed → List Placed → Type 0
  ChainRest l k a b = (p : List Placed) (x : Expr) → grammar.Unary May k p a x → (y : Expr) × grammar.Chain May l k p b y

  abbrev pub ExprRest : ℕ → List Placed → List Placed → Type 0
  ExprRest k a b = (p : List Placed) (x : Expr) → grammar.Unary May k p a x → (y : Expr) × grammar.AnExpr May k p b y

  -- an operand and the terms behind it
  with_terms : (l : Level) (k : ℕ) (a : List Placed) (K : Stack) → (b : List Placed) × OperandRest l k a b × Spells May (MoreTerms l k ∷ K) b → (b : List Placed) × ChainRest l k a b × Spells May K b
  with_terms l k a K h =
      let m = h.2 in
      (m.0, λ p x u. let y = h.1 p x u in (_, grammar.chained l k p h.0 m.0 y.0 m.1.0 y.1 m.1.1), m.2)

  product_operand : (k : ℕ) (a : List Placed) (K : Stack) → Spells May K a → (b : List Placed) × OperandRest level.Product k a b × Spells May K b
  product_operand k a K h = (a, λ p x u. (x, grammar.of_product k p a x u), h)

  sum_operand : (k : ℕ) (a : List Placed) (K : Stack) → Spells May (operand_rest level.Sum k K) a → (b : List Placed) × OperandRest level.Sum k a b × Spells May K b
  sum_operand k a K h =
      let c = with_terms level.Product k a K (product_operand k a (MoreTerms level.Product k ∷ K) h) in
      (c.0, λ p x u. let y = c.1 p x u in (y.0, grammar.of_sum k p c.0 y.0 y.1), c.2)

  and_operand : (k : ℕ) (a : List Placed) (K : Stack) → Spells May (operand_rest level.And k K) a → (b : List Placed) × OperandRest level.And k a b × Spells May K b
  and_operand k a K h =
      let c = with_terms level.Sum k a (MoreShifts ∷ K) (sum_operand k a (MoreTerms level.Sum k ∷ MoreShifts ∷ K) h) in
      let m = c.2 in
      (m.0, λ p x u. let y = c.1 p x u in (_, grammar.of_and k p m.0 _ (grammar.shift k p c.0 m.0 y.0 m.1.0 y.1 m.1.1)), m.2)

  xor_operand : (k : ℕ) (a : List Placed) (K : Stack) → Spells May (operand_rest level.Xor k K) a → (b : List Placed) × OperandRest level.Xor k a b × Spells May K b
  xor_operand k a K h =
      let c = with_terms level.And k a K (and_operand k a (MoreTerms level.And k ∷ K) h) in
      (c.0, λ p x u. let y = c.1 p x u in (y.0, grammar.of_xor k p c.0 y.0 y.1), c.2)

  or_operand : (k : ℕ) (a : List Placed) (K : Stack) → Spells May (operand_rest level.Or k K) a → (b : List Placed) × OperandRest level.Or k a b × Spells May K b
  or_operand k a K h =
      let c = with_terms level.Xor k a K (xor_operand k a (MoreTerms level.Xor k ∷ K) h) in
      (c.0, λ p x u. let y = c.1 p x u in (y.0, grammar.of_or k p c.0 y.0 y.1), c.2)

  operand_after : (l : Level) (k : ℕ) (a : List Placed) (K : Stack) → Spells May (operand_rest l k K) a → (b : List Placed) × OperandRest l k a b × Spells May K b
  operand_after level.Product k a K h = product_operand k a K h
  operand_after level.Sum k a K h = sum_operand k a K h
  operand_after level.And k a K h = and_operand k a K h
  operand_after level.Xor k a K h = xor_operand k a K h
  operand_after level.Or k a K h = or_operand k a K h

  chain_after : (l : Level) (k : ℕ) (a : List Placed) (K : Stack) → Spells May (operand_rest l k (MoreTerms l k ∷ K)) a → (b : List Placed) × ChainRest l k a b × Spells May K b
  chain_after l k a K h = with_terms l k a K (operand_after l k a (MoreTerms l k ∷ K) h)

  pub expr_after : (k : ℕ) (a : List Placed) (K : Stack) → Spells May (expr_rest k K) a → (b : List Placed) × ExprRest k a b × Spells May K b
  expr_after k a K h =
      let c = chain_after level.Or k a (MayCompare k ∷ K) h in
      let m = c.2 in
      (m.0, λ p x u. let y = c.1 p x u in m.1 p y.0 y.1, m.2)

  pub operand_reads : (l : Level) (k : ℕ) (a : List Placed) (K : Stack) → Spells May (WantUnary k ∷ operand_rest l k K) a → Spells May (WantOperand l k ∷ K) a
  operand_reads l k a K h = let r = operand_after l k h.0 K h.2 in (r.0, r.1 a h.1.0 h.1.1, r.2)

  pub chain_reads : (l : Level) (k : ℕ) (a : List Placed) (K : Stack) → Spells May (WantUnary k ∷ operand_rest l k (MoreTerms l k ∷ K)) a → Spells May (WantChain l k ∷ K) a
  chain_reads l k a K h = let r = chain_after l k h.0 K h.2 in (r.0, r.1 a h.1.0 h.1.1, r.2)

  pub expr_reads : (k : ℕ) (a : List Placed) (K : Stack) → Spells May (WantUnary k ∷ expr_rest k K) a → Spells May (WantExpr k ∷ K) a
  expr_reads k a K h = let r = expr_after k h.0 K h.2 in (r.0, r.1 a h.1.0 h.1.1, r.2)

  pub of_and_shift : (k : ℕ) (a : List Placed) (K : Stack) → Spells May (WantOperand level.And k ∷ K) a → Spells May (WantShift k ∷ K) a
  of_and_shift k a K h = (h.0, shift_of h.1.1, h.2)
    where
      shift_of : {a b : List Placed} {x : Expr} → grammar.Operand May level.And k a b x → (y : Expr) × grammar.AShift May k a b y
      shift_of (grammar.of_and k a b x s) = (x, s)

-- ---- steps

module _ (n : ℕ) (Free : Type 0) (May : ℕ → List Placed → Type 0) (may : (j : ℕ) (rest : List Placed) → (j ≤ n) ⊎ Free → May j rest) where
  pub opened : (t : Placed) (a : List Placed) (k : ℕ) (L : Stack) → After May Free (opens n k L) a → May (k + 1) (t ∷ a) × Spells May L a
  opened t a k L h = decide (nat_lt k n) refl h
    where
      decide : (b : Bool) → nat_lt k n ≡ b → After May Free (if b then Goes L else Deep L) a → May (k + 1) (t ∷ a) × Spells May L a
      decide true e h = let l : k < n = ltb-true k n e in (may (k + 1) (t ∷ a) (inl (omega (arith, l))), h)
      decide false e h = (may (k + 1) (t ∷ a) (inr h.0), h.1)

  -- ---- where something begins

  pub shape_reads : (t : Placed) (a : List Placed) (k : ℕ) (v : Kind) (L : Stack) (other : Step) → t.kind ≡ v → After May Free (begin_shape n k v L other) a → Spells May (WantShape k ∷ L) (t ∷ a) ⊎ After May Free other a
  shape_reads t a k (Number zero) L other f h = inr h
  shape_reads t a k (Number (suc zero)) L other f h = inl (a, (_, grammar.one_word k t a f), h)
  shape_reads t a k (Number (suc (suc i))) L other f h = inl (a, (_, grammar.many_words k t a (suc (suc i)) f (omega arith)), h)
  shape_reads t a k (ASign sign.OpenBrace) L other f h =
      let o = opened t a k (WantShape (k + 1) ∷ machine.MoreShapes (k + 1) ∷ WantSign sign.CloseBrace ∷ L) h in
      let x = o.1 in
      let m = x.2 in
      let c = m.2 in
      inl (c.0, (_, grammar.group k t c.1.0 a x.0 c.0 x.1.0 m.1.0 f o.0 x.1.1 (subst (λ b. grammar.MoreShapes May (k + 1) x.0 b m.1.0) c.1.1 m.1.1) c.1.2), c.2)
  shape_reads t a k _ L other f h = inr h

  pub primary_reads : (t : Placed) (a : List Placed) (k : ℕ) (v : Kind) (L : Stack) (other : Step) → t.kind ≡ v → After May Free (begin_primary n k v L other) a → Spells May (WantPrimary k ∷ L) (t ∷ a) ⊎ After May Free other a
  primary_reads t a k (Number i) L other f h = inl (a, (_, grammar.number k t a i f), h)
  primary_reads t a k (Name x) L other f h = inl (a, (_, grammar.variable k t a x f), h)
  primary_reads t a k Base L other f h = inl (a, (_, grammar.base k t a f), h)
  primary_reads t a k Biw L other f h = inl (a, (_, grammar.biw k t a f), h)
  primary_reads t a k (ASign sign.OpenParen) L other f h =
      let o = opened t a k (WantExpr (k + 1) ∷ WantSign sign.CloseParen ∷ L) h in
      let x = o.1 in
      let c = x.2 in
      inl (c.0, (_, grammar.parentheses k t c.1.0 a c.0 x.1.0 f o.0 (subst (λ b. grammar.AnExpr May (k + 1) a b x.1.0) c.1.1 x.1.1) c.1.2), c.2)
  primary_reads t a k (ASign sign.Less) L other f h =
      let o = opened t a k (WantExpr (k + 1) ∷ machine.MoreExprs (k + 1) ∷ WantSign sign.Greater ∷ L) h in
      let x = o.1 in
      let m = x.2 in
      let c = m.2 in
      inl (c.0, (_, grammar.struct k t c.1.0 a x.0 c.0 x.1.0 m.1.0 f o.0 x.1.1 (subst (λ b. grammar.MoreExprs May (k + 1) x.0 b m.1.0) c.1.1 m.1.1) c.1.2), c.2)
  primary_reads t a k _ L other f h = inr h

  pub unary_reads : (t : Placed) (a : List Placed) (k : ℕ) (v : Kind) (L : Stack) (other : Step) → t.kind ≡ v → After May Free (begin n k v L other) a → Spells May (WantUnary k ∷ L) (t ∷ a) ⊎ After May Free other a
  unary_reads t a k (ASign sign.Minus) L other f h =
      let o = opened t a k (WantUnary (k + 1) ∷ L) h in
      let x = o.1 in
      inl (x.0, (_, grammar.negation k t a x.0 x.1.0 f o.0 x.1.1), x.2)
  unary_reads t a k (Reserved keyword.Lds) L other f h =
      let o = opened t a k (WantShape (k + 1) ∷ WantUnary (k + 1) ∷ L) h in
      let z = o.1 in
      let x = z.2 in
      inl (x.0, (_, grammar.load_words k t a z.0 x.0 z.1.0 x.1.0 f o.0 z.1.1 x.1.1), x.2)
  unary_reads t a k (Reserved keyword.Ldb) L other f h =
      let o = opened t a k (WantUnary (k + 1) ∷ L) h in
      let x = o.1 in
      inl (x.0, (_, grammar.load_byte k t a x.0 x.1.0 f o.0 x.1.1), x.2)
  unary_reads t a k v L other f h = ⊎_elim
      (λ p. let m = p.2 in inl (m.0, (_, grammar.postfix k (t ∷ a) p.0 m.0 p.1.0 m.1.0 p.1.1 m.1.1), m.2))
      (λ z. inr z)
      (primary_reads t a k v (MoreFields ∷ L) other f h)

  -- an expression begins, or else
  pub begin_reads : (t : Placed) (a : List Placed) (k : ℕ) (v : Kind) (K : Stack) (other : Step) → t.kind ≡ v → After May Free (begin n k v (expr_rest k K) other) a → Spells May (WantExpr k ∷ K) (t ∷ a) ⊎ After May Free other a
  begin_reads t a k v K other f h = ⊎_elim (λ u. inl (expr_reads May k (t ∷ a) K u)) (λ z. inr z) (unary_reads t a k v (expr_rest k K) other f h)

  -- ---- what may come again, or once

  pub terms_read : (t : Placed) (a : List Placed) (l : Level) (k : ℕ) (K : Stack) (o : Option BinOp) → operator_at l t.kind ≡ o → (After May Free (step n K t) a → Spells May K (t ∷ a)) → After May Free (continues o (WantOperand l k ∷ MoreTerms l k ∷ K) (step n K t)) a → Spells May (MoreTerms l k ∷ K) (t ∷ a)
  terms_read t a l k K None f other h = (t ∷ a, ([], grammar.no_term l k (t ∷ a)), other h)
  terms_read t a l k K (Some o) f other h =
      let m = h.2 in
      (m.0, (_, grammar.next_term l k t a h.0 m.0 o h.1.0 m.1.0 f h.1.1 m.1.1), m.2)

  pub shifts_read : (t : Placed) (a : List Placed) (K : Stack) (o : Option ShOp) → shift_operator t.kind ≡ o → (After May Free (step n K t) a → Spells May K (t ∷ a)) → After May Free (continues o (WantNumber ∷ MoreShifts ∷ K) (step n K t)) a → Spells May (MoreShifts ∷ K) (t ∷ a)
  shifts_read t a K None f other h = (t ∷ a, ([], grammar.no_shift (t ∷ a)), other h)
  shifts_read t a K (Some o) f other h =
      let u = h.1 in
      let m = h.2 in
      (m.0, ((o, u.1) ∷ m.1.0, subst (λ a. grammar.Shifts (t ∷ a) m.0 ((o, u.1) ∷ m.1.0)) (sym u.2) (grammar.next_shift t u.0 h.0 m.0 o u.1 m.1.0 f u.3 m.1.1)), m.2)

  pub fields_read : (t : Placed) (a : List Placed) (K : Stack) (b : Bool) → is_sign sign.Dot t.kind ≡ b → (After May Free (step n K t) a → Spells May K (t ∷ a)) → After May Free (if b then Goes (WantNumber ∷ MoreFields ∷ K) else step n K t) a → Spells May (MoreFields ∷ K) (t ∷ a)
  fields_read t a K false f other h = (t ∷ a, ([], grammar.no_field (t ∷ a)), other h)
  fields_read t a K true f other h =
      let u = h.1 in
      let m = h.2 in
      (m.0, (u.1 ∷ m.1.0, subst (λ a. grammar.Fields (t ∷ a) m.0 (u.1 ∷ m.1.0)) (sym u.2) (grammar.next_field t u.0 h.0 m.0 u.1 m.1.0 (sign_is sign.Dot t.kind f) u.3 m.1.1)), m.2)

  pub compare_reads : (t : Placed) (a : List Placed) (k : ℕ) (K : Stack) (o : Option Cmp) → comparison t.kind ≡ o → (After May Free (step n K t) a → Spells May K (t ∷ a)) → After May Free (continues o (WantChain level.Or k ∷ K) (step n K t)) a → Spells May (MayCompare k ∷ K) (t ∷ a)
  compare_reads t a k K None f other h = (t ∷ a, λ p x c. (x, grammar.no_comparison k p (t ∷ a) x c), other h)
  compare_reads t a k K (Some o) f other h = (h.0, λ p x c. (_, grammar.one_comparison k t p a h.0 o x h.1.0 c f h.1.1), h.2)

  pub shapes_read : (t : Placed) (a : List Placed) (k : ℕ) (K : Stack) (b : Bool) → is_sign sign.Comma t.kind ≡ b → (After May Free (step n K t) a → Spells May K (t ∷ a)) → After May Free (if b then Goes (WantShape k ∷ machine.MoreShapes k ∷ K) else step n K t) a → Spells May (machine.MoreShapes k ∷ K) (t ∷ a)
  shapes_read t a k K false f other h = (t ∷ a, ([], grammar.no_shape k (t ∷ a)), other h)
  shapes_read t a k K true f other h = let m = h.2 in (m.0, (_, grammar.next_shape k t a h.0 m.0 h.1.0 m.1.0 (sign_is sign.Comma t.kind f) h.1.1 m.1.1), m.2)

  pub exprs_read : (t : Placed) (a : List Placed) (k : ℕ) (K : Stack) (b : Bool) → is_sign sign.Comma t.kind ≡ b → (After May Free (step n K t) a → Spells May K (t ∷ a)) → After May Free (if b then Goes (WantExpr k ∷ machine.MoreExprs k ∷ K) else step n K t) a → Spells May (machine.MoreExprs k ∷ K) (t ∷ a)
  exprs_read t a k K false f other h = (t ∷ a, ([], grammar.no_expr k (t ∷ a)), other h)
  exprs_read t a k K true f other h = let m = h.2 in (m.0, (_, grammar.next_expr k t a h.0 m.0 h.1.0 m.1.0 (sign_is sign.Comma t.kind f) h.1.1 m.1.1), m.2)

  -- After a name that begins an expression the machine goes on as behind the fields of a first primary.
  pub after_name_reads : (t : Placed) (a : List Placed) (k : ℕ) (K : Stack) → (After May Free (step n K t) a → Spells May K (t ∷ a)) → After May Free (after_name k t.kind K (step n K t)) a → Spells May (MoreFields ∷ expr_rest k K) (t ∷ a)
  after_name_reads t a k K other h =
      let compare = compare_reads t a k K (comparison t.kind) refl other in
      let ors = terms_read t a level.Or k (MayCompare k ∷ K) (operator_at level.Or t.kind) refl compare in
      let xors = terms_read t a level.Xor k (MoreTerms level.Or k ∷ MayCompare k ∷ K) (operator_at level.Xor t.kind) refl ors in
      let ands = terms_read t a level.And k (MoreTerms level.Xor k ∷ MoreTerms level.Or k ∷ MayCompare k ∷ K) (operator_at level.And t.kind) refl xors in
      let shifts = shifts_read t a (MoreTerms level.And k ∷ MoreTerms level.Xor k ∷ MoreTerms level.Or k ∷ MayCompare k ∷ K) (shift_operator t.kind) refl ands in
      let sums = terms_read t a level.Sum k (MoreShifts ∷ MoreTerms level.And k ∷ MoreTerms level.Xor k ∷ MoreTerms level.Or k ∷ MayCompare k ∷ K) (operator_at level.Sum t.kind) refl shifts in
      let products = terms_read t a level.Product k (MoreTerms level.Sum k ∷ MoreShifts ∷ MoreTerms level.And k ∷ MoreTerms level.Xor k ∷ MoreTerms level.Or k ∷ MayCompare k ∷ K) (operator_at level.Product t.kind) refl sums in
      fields_read t a (expr_rest k K) (is_sign sign.Dot t.kind) refl products h
