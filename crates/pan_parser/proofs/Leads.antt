-- What is in the grammar, the machine reads, unless it nests too deep: what leads to what, and the steps of the machine alone.
use Rattle.std.proofs.Common.{◌≡◌, ℕ, zero, suc, ◌+◌, ◌<◌, ◌≤◌, Bool, true, false, if◌then◌else◌, List, [], ◌∷◌, Some, ap, ◌∙◌, sym, refl, nat_lt, arith, ltb-false}
use Rattle.pan_base.specs.declared.operators.BinOp.{BinOp}
use Rattle.pan_base.specs.declared.operators.ShOp.{ShOp}
use Rattle.pan_base.specs.declared.operators.Cmp.{Cmp}
use Rattle.pan_base.specs.declared.tokens.Keyword.{Keyword}
use Rattle.pan_base.specs.declared.tokens.Keyword.TheVariants as keyword
use Rattle.pan_base.specs.declared.tokens.Sign.{Sign}
use Rattle.pan_base.specs.declared.tokens.Sign.TheVariants as sign
use Rattle.pan_base.specs.Tokens.{Placed, Kind, Name, Reserved, Number, Store, Foreign, Base, Biw, ASign}
use Rattle.pan_tree.specs.declared.level.Level.{Level}
use Rattle.pan_tree.specs.declared.level.Level.TheVariants as level
use Rattle.pan_tree.specs.Nodes.{operator_at, shift_operator, comparison}
use Rattle.pan_tree.specs.Grammar.{Is, IsWord, IsName}
use Rattle.pan_parser.specs.Machine as machine
use Rattle.pan_parser.specs.Machine.{Stack, Step, Goes, Refused, Deep, is_sign, is_word, sign_order, word_order, opens, a_name, a_number, continues, a_width, begin_shape, begin_primary, begin, begin_stmt, expr_rest, step, TooDeep, go_on, run}
use Rattle.pan_parser.specs.Follow.{NoSign, NoTerm, NoShift, NoCompare, NoHandler}
use Rattle.pan_parser.proofs.Ends.{sign_true, word_true, false_true, Begins, begins_expr, begins_shape, begins_stmt}

-- this sign comes
abbrev pub Comes : Sign → List Placed → Type 0
Comes w [] = ⊥
Comes w (t ∷ a) = Is w t

-- a name comes
abbrev pub NameComes : List Placed → Type 0
NameComes [] = ⊥
NameComes (t ∷ a) = (x : List ℕ) × IsName x t

-- the machine comes from a under K to b under L, or to a token that may stand there and is too deep for it
pub data Leads (n : ℕ) (May : ℕ → List Placed → Type 0) (a : List Placed) (K : Stack) (b : List Placed) (L : Stack) : Type 0 where
  there : run n a K ≡ run n b L → Leads n May a K b L
  deep : (j : ℕ) (rest : List Placed) → May j rest → n < j → run n a K ≡ TooDeep rest → Leads n May a K b L

-- ---- what begins a part is read alike, whatever else might come there

pub shape_alone : (n k : ℕ) (v : Kind) (K : Stack) (other : Step) → begins_shape v ≡ true → begin_shape n k v K other ≡ begin_shape n k v K Refused
shape_alone n k (Number zero) K other e = absurd (false_true e)
shape_alone n k (Number (suc i)) K other e = refl
shape_alone n k (ASign sign.OpenBrace) K other e = refl
shape_alone n k _ K other e = absurd (false_true e)

pub expr_alone : (n k : ℕ) (v : Kind) (K : Stack) (other : Step) → begins_expr v ≡ true → begin n k v K other ≡ begin n k v K Refused
expr_alone n k (Number i) K other e = refl
expr_alone n k (Name x) K other e = refl
expr_alone n k Base K other e = refl
expr_alone n k Biw K other e = refl
expr_alone n k (ASign sign.OpenParen) K other e = refl
expr_alone n k (ASign sign.Less) K other e = refl
expr_alone n k (ASign sign.Minus) K other e = refl
expr_alone n k (Reserved keyword.Lds) K other e = refl
expr_alone n k (Reserved keyword.Ldb) K other e = refl
expr_alone n k _ K other e = absurd (false_true e)

pub stmt_alone : (k : ℕ) (v : Kind) (K : Stack) (other : Step) → begins_stmt v ≡ true → begin_stmt k v K other ≡ begin_stmt k v K Refused
stmt_alone k (Name x) K other e = refl
stmt_alone k (Store i) K other e = refl
stmt_alone k (Foreign x) K other e = refl
stmt_alone k (Reserved keyword.Skip) K other e = refl
stmt_alone k (Reserved keyword.Var) K other e = refl
stmt_alone k (Reserved keyword.St) K other e = refl
stmt_alone k (Reserved keyword.Stb) K other e = refl
stmt_alone k (Reserved keyword.If) K other e = refl
stmt_alone k (Reserved keyword.While) K other e = refl
stmt_alone k (Reserved keyword.Break) K other e = refl
stmt_alone k (Reserved keyword.Continue) K other e = refl
stmt_alone k (Reserved keyword.Return) K other e = refl
stmt_alone k (Reserved keyword.Raise) K other e = refl
stmt_alone k _ K other e = absurd (false_true e)

-- two words or more
pub words_go : (i : ℕ) (K : Stack) (other : Step) → 2 ≤ i → a_width i K other ≡ Goes K
words_go zero K other l = absurd (omega (arith, l))
words_go (suc i) K other l = refl

module _ {n : ℕ} {May : ℕ → List Placed → Type 0} where
  -- one after the other
  pub joined : {a b c : List Placed} {K L J : Stack} → Leads n May a K b L → Leads n May b L c J → Leads n May a K c J
  joined (there e) (there f) = there (e ∙ f)
  joined (there e) (deep j rest m l f) = deep j rest m l (e ∙ f)
  joined (deep j rest m l e) x = deep j rest m l e

  pub going : (t : Placed) (a : List Placed) (K L : Stack) → step n K t ≡ Goes L → Leads n May (t ∷ a) K a L
  going t a K L e = there (ap (λ z. go_on z (t ∷ a) (run n a)) e)

  pub opening : (t : Placed) (a : List Placed) (K L : Stack) (k : ℕ) → step n K t ≡ opens n k L → May (k + 1) (t ∷ a) → Leads n May (t ∷ a) K a L
  opening t a K L k e m = decide (nat_lt k n) refl
    where
      decide : (b : Bool) → nat_lt k n ≡ b → Leads n May (t ∷ a) K a L
      decide true h = there (ap (λ z. go_on z (t ∷ a) (run n a)) (e ∙ ap (λ b. if b then Goes L else Deep L) h))
      decide false h = let l : n ≤ k = ltb-false k n h in
          deep (k + 1) (t ∷ a) m (omega (arith, l)) (ap (λ z. go_on z (t ∷ a) (run n a)) (e ∙ ap (λ b. if b then Goes L else Deep L) h))

  -- ---- tokens

  pub sign_leads : (w : Sign) (t : Placed) (a : List Placed) (K : Stack) → Is w t → Leads n May (t ∷ a) (machine.WantSign w ∷ K) a K
  sign_leads w t a K e = going t a (machine.WantSign w ∷ K) K (ap (λ z. if z then Goes K else Refused) (sign_true w t.kind e))

  pub word_leads : (w : Keyword) (t : Placed) (a : List Placed) (K : Stack) → IsWord w t → Leads n May (t ∷ a) (machine.WantWord w ∷ K) a K
  word_leads w t a K e = going t a (machine.WantWord w ∷ K) K (ap (λ z. if z then Goes K else Refused) (word_true w t.kind e))

  pub name_leads : (x : List ℕ) (t : Placed) (a : List Placed) (K : Stack) → IsName x t → Leads n May (t ∷ a) (machine.WantName ∷ K) a K
  name_leads x t a K e = going t a (machine.WantName ∷ K) K (ap (λ v. a_name v K) e)

  pub number_leads : (i : ℕ) (t : Placed) (a : List Placed) (K : Stack) → t.kind ≡ Number i → Leads n May (t ∷ a) (machine.WantNumber ∷ K) a K
  number_leads i t a K e = going t a (machine.WantNumber ∷ K) K (ap (λ v. a_number v K) e)

  -- ---- or goes on

  pub shapes_go : (t : Placed) (a : List Placed) (k : ℕ) (K : Stack) → Is sign.Comma t → Leads n May (t ∷ a) (machine.MoreShapes k ∷ K) a (machine.WantShape k ∷ machine.MoreShapes k ∷ K)
  shapes_go t a k K e =
      let L : Stack = machine.WantShape k ∷ machine.MoreShapes k ∷ K in
      going t a (machine.MoreShapes k ∷ K) L (ap (λ z. if z then Goes L else step n K t) (sign_true sign.Comma t.kind e))

  pub terms_go : (l : Level) (t : Placed) (a : List Placed) (o : BinOp) (k : ℕ) (K : Stack) → operator_at l t.kind ≡ Some o
      → Leads n May (t ∷ a) (machine.MoreTerms l k ∷ K) a (machine.WantOperand l k ∷ machine.MoreTerms l k ∷ K)
  terms_go l t a o k K e =
      let L : Stack = machine.WantOperand l k ∷ machine.MoreTerms l k ∷ K in
      going t a (machine.MoreTerms l k ∷ K) L (ap (λ z. continues z L (step n K t)) e)

  pub shifts_go : (t : Placed) (a : List Placed) (o : ShOp) (K : Stack) → shift_operator t.kind ≡ Some o → Leads n May (t ∷ a) (machine.MoreShifts ∷ K) a (machine.WantNumber ∷ machine.MoreShifts ∷ K)
  shifts_go t a o K e =
      let L : Stack = machine.WantNumber ∷ machine.MoreShifts ∷ K in
      going t a (machine.MoreShifts ∷ K) L (ap (λ z. continues z L (step n K t)) e)

  pub compare_go : (t : Placed) (a : List Placed) (o : Cmp) (k : ℕ) (K : Stack) → comparison t.kind ≡ Some o → Leads n May (t ∷ a) (machine.MayCompare k ∷ K) a (machine.WantChain level.Or k ∷ K)
  compare_go t a o k K e =
      let L : Stack = machine.WantChain level.Or k ∷ K in
      going t a (machine.MayCompare k ∷ K) L (ap (λ z. continues z L (step n K t)) e)

  pub fields_go : (t : Placed) (a : List Placed) (K : Stack) → Is sign.Dot t → Leads n May (t ∷ a) (machine.MoreFields ∷ K) a (machine.WantNumber ∷ machine.MoreFields ∷ K)
  fields_go t a K e =
      let L : Stack = machine.WantNumber ∷ machine.MoreFields ∷ K in
      going t a (machine.MoreFields ∷ K) L (ap (λ z. if z then Goes L else step n K t) (sign_true sign.Dot t.kind e))

  pub exprs_go : (t : Placed) (a : List Placed) (k : ℕ) (K : Stack) → Is sign.Comma t → Leads n May (t ∷ a) (machine.MoreExprs k ∷ K) a (machine.WantExpr k ∷ machine.MoreExprs k ∷ K)
  exprs_go t a k K e =
      let L : Stack = machine.WantExpr k ∷ machine.MoreExprs k ∷ K in
      going t a (machine.MoreExprs k ∷ K) L (ap (λ z. if z then Goes L else step n K t) (sign_true sign.Comma t.kind e))

  pub handler_go : (t : Placed) (a : List Placed) (k : ℕ) (K : Stack) → IsWord keyword.Handle t
      → Leads n May (t ∷ a) (machine.MayHandle k ∷ K) a (machine.WantName ∷ machine.WantName ∷ machine.WantBlock k ∷ K)
  handler_go t a k K e =
      let L : Stack = machine.WantName ∷ machine.WantName ∷ machine.WantBlock k ∷ K in
      going t a (machine.MayHandle k ∷ K) L (ap (λ z. if z then Goes L else step n K t) (word_true keyword.Handle t.kind e))

  pub params_go : (t : Placed) (a : List Placed) (k : ℕ) (K : Stack) → Is sign.Comma t → Leads n May (t ∷ a) (machine.MoreParams k ∷ K) a (machine.WantParam k ∷ machine.MoreParams k ∷ K)
  params_go t a k K e =
      let L : Stack = machine.WantParam k ∷ machine.MoreParams k ∷ K in
      going t a (machine.MoreParams k ∷ K) L (ap (λ z. if z then Goes L else step n K t) (sign_true sign.Comma t.kind e))

module _ (n : ℕ) where
  -- ---- what may come again ends, where what comes begins no more

  pub shapes_end : (a : List Placed) (k : ℕ) (K : Stack) → NoSign sign.Comma a → run n a (machine.MoreShapes k ∷ K) ≡ run n a K
  shapes_end [] k K h = refl
  shapes_end (t ∷ a) k K h = ap (λ z. go_on (if z then Goes (machine.WantShape k ∷ machine.MoreShapes k ∷ K) else step n K t) (t ∷ a) (run n a)) h

  pub terms_end : (l : Level) (a : List Placed) (k : ℕ) (K : Stack) → NoTerm l a → run n a (machine.MoreTerms l k ∷ K) ≡ run n a K
  terms_end l [] k K h = refl
  terms_end l (t ∷ a) k K h = ap (λ z. go_on (continues z (machine.WantOperand l k ∷ machine.MoreTerms l k ∷ K) (step n K t)) (t ∷ a) (run n a)) h

  pub shifts_end : (a : List Placed) (K : Stack) → NoShift a → run n a (machine.MoreShifts ∷ K) ≡ run n a K
  shifts_end [] K h = refl
  shifts_end (t ∷ a) K h = ap (λ z. go_on (continues z (machine.WantNumber ∷ machine.MoreShifts ∷ K) (step n K t)) (t ∷ a) (run n a)) h

  pub compare_end : (a : List Placed) (k : ℕ) (K : Stack) → NoCompare a → run n a (machine.MayCompare k ∷ K) ≡ run n a K
  compare_end [] k K h = refl
  compare_end (t ∷ a) k K h = ap (λ z. go_on (continues z (machine.WantChain level.Or k ∷ K) (step n K t)) (t ∷ a) (run n a)) h

  pub fields_end : (a : List Placed) (K : Stack) → NoSign sign.Dot a → run n a (machine.MoreFields ∷ K) ≡ run n a K
  fields_end [] K h = refl
  fields_end (t ∷ a) K h = ap (λ z. go_on (if z then Goes (machine.WantNumber ∷ machine.MoreFields ∷ K) else step n K t) (t ∷ a) (run n a)) h

  pub exprs_end : (a : List Placed) (k : ℕ) (K : Stack) → NoSign sign.Comma a → run n a (machine.MoreExprs k ∷ K) ≡ run n a K
  exprs_end [] k K h = refl
  exprs_end (t ∷ a) k K h = ap (λ z. go_on (if z then Goes (machine.WantExpr k ∷ machine.MoreExprs k ∷ K) else step n K t) (t ∷ a) (run n a)) h

  pub handler_end : (a : List Placed) (k : ℕ) (K : Stack) → NoHandler a → run n a (machine.MayHandle k ∷ K) ≡ run n a K
  handler_end [] k K h = refl
  handler_end (t ∷ a) k K h = ap (λ z. go_on (if z then Goes (machine.WantName ∷ machine.WantName ∷ machine.WantBlock k ∷ K) else step n K t) (t ∷ a) (run n a)) h

  pub more_params_end : (a : List Placed) (k : ℕ) (K : Stack) → NoSign sign.Comma a → run n a (machine.MoreParams k ∷ K) ≡ run n a K
  more_params_end [] k K h = refl
  more_params_end (t ∷ a) k K h = ap (λ z. go_on (if z then Goes (machine.WantParam k ∷ machine.MoreParams k ∷ K) else step n K t) (t ∷ a) (run n a)) h

  -- a name follows an absent result
  pub result_end : (a : List Placed) (k : ℕ) (K : Stack) → NameComes a → run n a (machine.MayShape k ∷ K) ≡ run n a K
  result_end [] k K h = absurd h
  result_end (t ∷ a) k K h = ap (λ v. go_on (begin_shape n k v K (step n K t)) (t ∷ a) (run n a)) h.1

  pub arguments_end : (a : List Placed) (k : ℕ) (K : Stack) → Comes sign.CloseParen a → run n a (machine.MayArguments k ∷ K) ≡ run n a K
  arguments_end [] k K h = absurd h
  arguments_end (t ∷ a) k K h = ap (λ v. go_on (begin n k v (expr_rest k (machine.MoreExprs k ∷ K)) (step n K t)) (t ∷ a) (run n a)) h

  pub params_end : (a : List Placed) (k : ℕ) (K : Stack) → Comes sign.CloseParen a → run n a (machine.MayParams k ∷ K) ≡ run n a K
  params_end [] k K h = absurd h
  params_end (t ∷ a) k K h = ap (λ v. go_on (begin_shape n k v (machine.WantName ∷ machine.MoreParams k ∷ K) (step n K t)) (t ∷ a) (run n a)) h

  pub stmts_end : (a : List Placed) (k : ℕ) (K : Stack) → Comes sign.CloseBrace a → run n a (machine.MoreStmts k ∷ K) ≡ run n a K
  stmts_end [] k K h = absurd h
  stmts_end (t ∷ a) k K h = ap (λ v. go_on (begin_stmt k v (machine.MoreStmts k ∷ K) (step n K t)) (t ∷ a) (run n a)) h

  -- ---- a symbol is read as those of its parts

  pub expr_start : (a : List Placed) (k : ℕ) (K : Stack) → run n a (machine.WantExpr k ∷ K) ≡ run n a (machine.WantChain level.Or k ∷ machine.MayCompare k ∷ K)
  expr_start [] k K = refl
  expr_start (t ∷ a) k K = refl

  pub chain_start : (l : Level) (a : List Placed) (k : ℕ) (K : Stack) → run n a (machine.WantChain l k ∷ K) ≡ run n a (machine.WantOperand l k ∷ machine.MoreTerms l k ∷ K)
  chain_start l [] k K = refl
  chain_start l (t ∷ a) k K = refl

  pub or_start : (a : List Placed) (k : ℕ) (K : Stack) → run n a (machine.WantOperand level.Or k ∷ K) ≡ run n a (machine.WantChain level.Xor k ∷ K)
  or_start [] k K = refl
  or_start (t ∷ a) k K = refl

  pub xor_start : (a : List Placed) (k : ℕ) (K : Stack) → run n a (machine.WantOperand level.Xor k ∷ K) ≡ run n a (machine.WantChain level.And k ∷ K)
  xor_start [] k K = refl
  xor_start (t ∷ a) k K = refl

  pub and_start : (a : List Placed) (k : ℕ) (K : Stack) → run n a (machine.WantOperand level.And k ∷ K) ≡ run n a (machine.WantShift k ∷ K)
  and_start [] k K = refl
  and_start (t ∷ a) k K = refl

  pub shift_start : (a : List Placed) (k : ℕ) (K : Stack) → run n a (machine.WantShift k ∷ K) ≡ run n a (machine.WantChain level.Sum k ∷ machine.MoreShifts ∷ K)
  shift_start [] k K = refl
  shift_start (t ∷ a) k K = refl

  pub sum_start : (a : List Placed) (k : ℕ) (K : Stack) → run n a (machine.WantOperand level.Sum k ∷ K) ≡ run n a (machine.WantChain level.Product k ∷ K)
  sum_start [] k K = refl
  sum_start (t ∷ a) k K = refl

  pub product_start : (a : List Placed) (k : ℕ) (K : Stack) → run n a (machine.WantOperand level.Product k ∷ K) ≡ run n a (machine.WantUnary k ∷ K)
  product_start [] k K = refl
  product_start (t ∷ a) k K = refl

  pub param_start : (a : List Placed) (k : ℕ) (K : Stack) → run n a (machine.WantParam k ∷ K) ≡ run n a (machine.WantShape k ∷ machine.WantName ∷ K)
  param_start [] k K = refl
  param_start (t ∷ a) k K = refl

  -- ---- what may come is read as what must, where it begins

  pub result_start : (a : List Placed) (k : ℕ) (K : Stack) → Begins begins_shape a → run n a (machine.MayShape k ∷ K) ≡ run n a (machine.WantShape k ∷ K)
  result_start [] k K h = absurd h
  result_start (t ∷ a) k K h = ap (λ z. go_on z (t ∷ a) (run n a)) (shape_alone n k t.kind K (step n K t) h)

  pub params_start : (a : List Placed) (k : ℕ) (K : Stack) → Begins begins_shape a → run n a (machine.MayParams k ∷ K) ≡ run n a (machine.WantParam k ∷ machine.MoreParams k ∷ K)
  params_start [] k K h = absurd h
  params_start (t ∷ a) k K h = ap (λ z. go_on z (t ∷ a) (run n a)) (shape_alone n k t.kind (machine.WantName ∷ machine.MoreParams k ∷ K) (step n K t) h)

  pub arguments_start : (a : List Placed) (k : ℕ) (K : Stack) → Begins begins_expr a → run n a (machine.MayArguments k ∷ K) ≡ run n a (machine.WantExpr k ∷ machine.MoreExprs k ∷ K)
  arguments_start [] k K h = absurd h
  arguments_start (t ∷ a) k K h = ap (λ z. go_on z (t ∷ a) (run n a)) (expr_alone n k t.kind (expr_rest k (machine.MoreExprs k ∷ K)) (step n K t) h)

  pub stmts_start : (a : List Placed) (k : ℕ) (K : Stack) → Begins begins_stmt a → run n a (machine.MoreStmts k ∷ K) ≡ run n a (machine.WantStmt k ∷ machine.MoreStmts k ∷ K)
  stmts_start [] k K h = absurd h
  stmts_start (t ∷ a) k K h = ap (λ z. go_on z (t ∷ a) (run n a)) (stmt_alone k t.kind (machine.MoreStmts k ∷ K) (step n K t) h)

  -- a unary expression is a primary with fields, where no sign or word of a unary one comes
  pub primary_as : (t : Placed) (a : List Placed) (k : ℕ) (v : Kind) (K : Stack) → t.kind ≡ v → begin n k v K Refused ≡ begin_primary n k v (machine.MoreFields ∷ K) Refused
      → run n (t ∷ a) (machine.WantUnary k ∷ K) ≡ run n (t ∷ a) (machine.WantPrimary k ∷ machine.MoreFields ∷ K)
  primary_as t a k v K e same = ap (λ z. go_on z (t ∷ a) (run n a)) (ap (λ v. begin n k v K Refused) e ∙ same ∙ sym (ap (λ v. begin_primary n k v (machine.MoreFields ∷ K) Refused) e))
