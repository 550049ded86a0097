-- An expression or a call, where either may come: the token behind a name decides.
use Rattle.std.proofs.Common.{◌≡◌, ℕ, Bool, true, false, if◌then◌else◌, List, [], ◌∷◌, ap, ◌∙◌, sym, refl}
use Rattle.pan_base.specs.declared.events.Size.{Size}
use Rattle.pan_base.specs.declared.tokens.Sign.TheVariants as sign
use Rattle.pan_base.specs.Tokens.{Placed, Kind, Name, Load, ASign}
use Rattle.pan_tree.specs.Nodes.{Expr}
use Rattle.pan_tree.specs.Grammar as grammar
use Rattle.pan_tree.specs.Grammar.{IsName}
use Rattle.pan_parser.specs.Machine as machine
use Rattle.pan_parser.specs.Machine.{Stack, Goes, Refused, a_name, begin, expr_rest, after_name, call_rest, begin_value, begin_assigned, after_stmt_name, begin_stmt, step, go_on, run}
use Rattle.pan_parser.specs.Follow.{NoSign, AfterExpr}
use Rattle.pan_parser.proofs.Ends.{sign_true, false_true, begins_expr, begins_not, expr_begins, name_expr}
use Rattle.pan_parser.proofs.Leads.{Comes, Leads, there, joined}
use Rattle.pan_parser.proofs.LeadsExprs.{expr_leads}

-- the tokens begin no call
abbrev pub NoCall : List Placed → Type 0
NoCall [] = Unit {0}
NoCall (t ∷ a) = (x : List ℕ) → IsName x t → NoSign sign.OpenParen a

-- no load comes
abbrev pub NoLoad : List Placed → Type 0
NoLoad [] = Unit {0}
NoLoad (t ∷ a) = (size : Size) → ¬ (t.kind ≡ Load size)

module _ (n : ℕ) where
  -- behind a name comes what comes behind the first primary of an expression, or a parenthesis

  pub name_rest : (handles : Bool) (a : List Placed) (k : ℕ) (K : Stack) → NoSign sign.OpenParen a → run n a (machine.AfterName handles k ∷ K) ≡ run n a (machine.MoreFields ∷ expr_rest k K)
  name_rest handles [] k K h = refl
  name_rest handles (u ∷ a) k K h = ap (λ z. go_on (if z then Goes (call_rest handles k K) else after_name k u.kind K (step n K u)) (u ∷ a) (run n a)) h

  pub name_call : (handles : Bool) (a : List Placed) (k : ℕ) (K : Stack) → Comes sign.OpenParen a
      → run n a (machine.AfterName handles k ∷ K) ≡ run n a (machine.WantSign sign.OpenParen ∷ call_rest handles k K)
  name_call handles [] k K h = absurd h
  name_call handles (u ∷ a) k K h =
      let e = sign_true sign.OpenParen u.kind h in
      ap (λ z. go_on (if z then Goes (call_rest handles k K) else after_name k u.kind K (step n K u)) (u ∷ a) (run n a)) e
      ∙ sym (ap (λ z. go_on (if z then Goes (call_rest handles k K) else Refused) (u ∷ a) (run n a)) e)

  -- ---- where no call begins, a value is read as an expression

  value_kind : (handles : Bool) (t : Placed) (a : List Placed) (k : ℕ) (K : Stack) (v : Kind) → t.kind ≡ v → NoCall (t ∷ a)
      → go_on (begin_value n handles k v K) (t ∷ a) (run n a) ≡ go_on (begin n k v (expr_rest k K) Refused) (t ∷ a) (run n a)
  value_kind handles t a k K (Name x) e h = name_rest handles a k K (h x e)
  value_kind handles t a k K _ e h = refl

  assigned_kind : (k : ℕ) (K : Stack) (v : Kind) → ((size : Size) → ¬ (v ≡ Load size)) → begin_assigned n k v K ≡ begin_value n true k v K
  assigned_kind k K (Load size) h = absurd (h size refl)
  assigned_kind k K _ h = refl

  pub declared_expr : (a : List Placed) (k : ℕ) (K : Stack) → NoCall a → run n a (machine.WantDeclared k ∷ K) ≡ run n a (machine.WantExpr k ∷ K)
  declared_expr [] k K h = refl
  declared_expr (t ∷ a) k K h = value_kind true t a k K t.kind refl h

  pub returned_expr : (a : List Placed) (k : ℕ) (K : Stack) → NoCall a → run n a (machine.WantReturned k ∷ K) ≡ run n a (machine.WantExpr k ∷ K)
  returned_expr [] k K h = refl
  returned_expr (t ∷ a) k K h = value_kind false t a k K t.kind refl h

  pub assigned_expr : (a : List Placed) (k : ℕ) (K : Stack) → NoLoad a → NoCall a → run n a (machine.WantAssigned k ∷ K) ≡ run n a (machine.WantExpr k ∷ K)
  assigned_expr [] k K g h = refl
  assigned_expr (t ∷ a) k K g h = ap (λ z. go_on z (t ∷ a) (run n a)) (assigned_kind k K t.kind g) ∙ value_kind true t a k K t.kind refl h

  -- the same of a step, at what is no name
  value_step : (handles : Bool) (k : ℕ) (K : Stack) (v : Kind) → ((x : List ℕ) → ¬ (v ≡ Name x)) → begin_value n handles k v K ≡ begin n k v (expr_rest k K) Refused
  value_step handles k K (Name x) h = absurd (h x refl)
  value_step handles k K _ h = refl

  pub declared_step : (t : Placed) (k : ℕ) (K : Stack) → ((x : List ℕ) → ¬ IsName x t) → step n (machine.WantDeclared k ∷ K) t ≡ step n (machine.WantExpr k ∷ K) t
  declared_step t k K h = value_step true k K t.kind h

  pub returned_step : (t : Placed) (k : ℕ) (K : Stack) → ((x : List ℕ) → ¬ IsName x t) → step n (machine.WantReturned k ∷ K) t ≡ step n (machine.WantExpr k ∷ K) t
  returned_step t k K h = value_step false k K t.kind h

  pub assigned_step : (t : Placed) (k : ℕ) (K : Stack) → ((size : Size) → ¬ (t.kind ≡ Load size)) → ((x : List ℕ) → ¬ IsName x t) → step n (machine.WantAssigned k ∷ K) t ≡ step n (machine.WantExpr k ∷ K) t
  assigned_step t k K g h = assigned_kind k K t.kind g ∙ value_step true k K t.kind h

  -- behind a load is an expression
  pub assigned_load : (size : Size) (t : Placed) (a : List Placed) (k : ℕ) (K : Stack) → t.kind ≡ Load size → run n (t ∷ a) (machine.WantAssigned k ∷ K) ≡ run n a (machine.WantExpr k ∷ K)
  assigned_load size t a k K e = ap (λ v. go_on (begin_assigned n k v K) (t ∷ a) (run n a)) e

  -- ---- where a call begins, a value is read as a call

  pub plain_name : (x : List ℕ) (t : Placed) (a : List Placed) (k : ℕ) (K : Stack) → IsName x t → run n (t ∷ a) (machine.WantPlain k ∷ K) ≡ run n a (machine.WantSign sign.OpenParen ∷ call_rest false k K)
  plain_name x t a k K e = ap (λ v. go_on (a_name v (machine.WantSign sign.OpenParen ∷ call_rest false k K)) (t ∷ a) (run n a)) e

  pub declared_call : (x : List ℕ) (t : Placed) (a : List Placed) (k : ℕ) (K : Stack) → IsName x t → Comes sign.OpenParen a
      → run n (t ∷ a) (machine.WantDeclared k ∷ K) ≡ run n (t ∷ a) (machine.WantPlain k ∷ machine.MayHandle k ∷ K)
  declared_call x t a k K e h = ap (λ v. go_on (begin_value n true k v K) (t ∷ a) (run n a)) e ∙ name_call true a k K h ∙ sym (plain_name x t a k (machine.MayHandle k ∷ K) e)

  pub assigned_call : (x : List ℕ) (t : Placed) (a : List Placed) (k : ℕ) (K : Stack) → IsName x t → Comes sign.OpenParen a
      → run n (t ∷ a) (machine.WantAssigned k ∷ K) ≡ run n (t ∷ a) (machine.WantPlain k ∷ machine.MayHandle k ∷ K)
  assigned_call x t a k K e h = ap (λ v. go_on (begin_assigned n k v K) (t ∷ a) (run n a)) e ∙ name_call true a k K h ∙ sym (plain_name x t a k (machine.MayHandle k ∷ K) e)

  pub returned_call : (x : List ℕ) (t : Placed) (a : List Placed) (k : ℕ) (K : Stack) → IsName x t → Comes sign.OpenParen a
      → run n (t ∷ a) (machine.WantReturned k ∷ K) ≡ run n (t ∷ a) (machine.WantPlain k ∷ K)
  returned_call x t a k K e h = ap (λ v. go_on (begin_value n false k v K) (t ∷ a) (run n a)) e ∙ name_call false a k K h ∙ sym (plain_name x t a k K e)

  -- ---- a statement that begins with a name

  after_kind : (k : ℕ) (v : Kind) (K : Stack) → machine.is_sign sign.Assign v ≡ false
      → after_stmt_name k v K ≡ (if machine.is_sign sign.OpenParen v then Goes (call_rest true k (machine.WantSign sign.Semicolon ∷ K)) else Refused)
  after_kind k (ASign sign.Assign) K h = absurd (false_true (sym h))
  after_kind k (ASign sign.OpenParen) K h = refl
  after_kind k _ K h = refl

  pub stmt_name : (x : List ℕ) (t : Placed) (a : List Placed) (k : ℕ) (K : Stack) → IsName x t → run n (t ∷ a) (machine.WantStmt k ∷ K) ≡ run n a (machine.AfterStmtName k ∷ K)
  stmt_name x t a k K e = ap (λ v. go_on (begin_stmt k v K Refused) (t ∷ a) (run n a)) e

  pub stmt_assign : (x : List ℕ) (t u : Placed) (a : List Placed) (k : ℕ) (K : Stack) → IsName x t → grammar.Is sign.Assign u
      → run n (t ∷ u ∷ a) (machine.WantStmt k ∷ K) ≡ run n a (machine.WantAssigned k ∷ machine.WantSign sign.Semicolon ∷ K)
  stmt_assign x t u a k K e f = stmt_name x t (u ∷ a) k K e ∙ ap (λ v. go_on (after_stmt_name k v K) (u ∷ a) (run n a)) f

  -- is read as a call, if no assignment comes
  pub stmt_call : (x : List ℕ) (t : Placed) (a : List Placed) (k : ℕ) (K : Stack) → IsName x t → NoSign sign.Assign a
      → run n (t ∷ a) (machine.WantStmt k ∷ K) ≡ run n (t ∷ a) (machine.WantPlain k ∷ machine.MayHandle k ∷ machine.WantSign sign.Semicolon ∷ K)
  stmt_call x t a k K e h = stmt_name x t a k K e ∙ behind a h ∙ sym (plain_name x t a k (machine.MayHandle k ∷ machine.WantSign sign.Semicolon ∷ K) e)
    where
      behind : (a : List Placed) → NoSign sign.Assign a
          → run n a (machine.AfterStmtName k ∷ K) ≡ run n a (machine.WantSign sign.OpenParen ∷ call_rest true k (machine.WantSign sign.Semicolon ∷ K))
      behind [] h = refl
      behind (u ∷ a) h = ap (λ z. go_on z (u ∷ a) (run n a)) (after_kind k u.kind K h)

-- ---- expressions where calls may come

module _ (May : ℕ → List Placed → Type 0) where
  pub no_call : {k : ℕ} {a b : List Placed} {x : Expr} → grammar.AnExpr May k a b x → NoSign sign.OpenParen b → NoCall a
  no_call {k = k} {a = a} {b = b} {x = x} p h = first a p
    where
      first : (a : List Placed) → grammar.AnExpr May k a b x → NoCall a
      first [] p = tt
      first (t ∷ a) p = λ y e. name_expr May p e h

  pub no_load : {k : ℕ} {a b : List Placed} {x : Expr} → grammar.AnExpr May k a b x → NoLoad a
  no_load {k = k} {a = a} {b = b} {x = x} p = first a p
    where
      first : (a : List Placed) → grammar.AnExpr May k a b x → NoLoad a
      first [] p = tt
      first (t ∷ a) p = λ size e. begins_not begins_expr t a (Load size) e (expr_begins May p) refl

module _ (n : ℕ) (May : ℕ → List Placed → Type 0) where
  pub declared_leads : {k : ℕ} {a c : List Placed} {x : Expr} → grammar.AnExpr May k a c x → AfterExpr c → NoSign sign.OpenParen c → (K : Stack) → Leads n May a (machine.WantDeclared k ∷ K) c K
  declared_leads {k = k} {a = a} p h g K = joined (there (declared_expr n a k K (no_call May p g))) (expr_leads n May p h K)

  pub assigned_leads : {k : ℕ} {a c : List Placed} {x : Expr} → grammar.AnExpr May k a c x → AfterExpr c → NoSign sign.OpenParen c → (K : Stack) → Leads n May a (machine.WantAssigned k ∷ K) c K
  assigned_leads {k = k} {a = a} p h g K = joined (there (assigned_expr n a k K (no_load May p) (no_call May p g))) (expr_leads n May p h K)

  pub returned_leads : {k : ℕ} {a c : List Placed} {x : Expr} → grammar.AnExpr May k a c x → AfterExpr c → NoSign sign.OpenParen c → (K : Stack) → Leads n May a (machine.WantReturned k ∷ K) c K
  returned_leads {k = k} {a = a} p h g K = joined (there (returned_expr n a k K (no_call May p g))) (expr_leads n May p h K)

  pub load_leads : (size : Size) (t : Placed) (a : List Placed) (k : ℕ) (K : Stack) → t.kind ≡ Load size → Leads n May (t ∷ a) (machine.WantAssigned k ∷ K) a (machine.WantExpr k ∷ K)
  load_leads size t a k K e = there (assigned_load n size t a k K e)
