-- Statements, items and programs of the grammar are read by the machine.
use Rattle.std.proofs.Common.{◌≡◌, ◌⊎◌, inl, inr, ℕ, ◌+◌, ◌<◌, ◌≤◌, if◌then◌else◌, List, [], ◌∷◌, length, Option, ap, refl, arith}
use Rattle.pan_base.specs.declared.tokens.Keyword.TheVariants as keyword
use Rattle.pan_base.specs.declared.tokens.Sign.TheVariants as sign
use Rattle.pan_base.specs.Tokens.{Placed}
use Rattle.pan_tree.specs.declared.program.Param.{Param}
use Rattle.pan_tree.specs.declared.program.Exception.{Exception}
use Rattle.pan_tree.specs.declared.program.Function.{Function}
use Rattle.pan_tree.specs.declared.program.Program.{Program}
use Rattle.pan_tree.specs.Nodes.{Expr}
use Rattle.pan_tree.specs.Grammar as grammar
use Rattle.pan_tree.specs.Grammar.{Stmt, Block, Handler, IsProgram, Derives, Tree, Within, nesting_limit}
use Rattle.pan_parser.specs.Machine as machine
use Rattle.pan_parser.specs.Machine.{Stack, Goes, Refused, opens, begin_stmt, begin_item, step, Accepted, TooDeep, run, whole}
use Rattle.pan_parser.specs.Answers.{InFront}
use Rattle.pan_parser.specs.Follow.{NoSign, NoHandler}
use Rattle.pan_parser.proofs.Ends.{sign_true, closing, no_sign, no_handle, Begins, begins_shape, block_after, shape_begins, stmt_begins}
use Rattle.pan_parser.proofs.Leads.{Comes, Leads, there, deep, joined, going, opening, sign_leads, word_leads, name_leads, handler_end, handler_go, stmts_end, stmts_start, more_params_end, params_end, params_go, params_start, param_start}
use Rattle.pan_parser.proofs.LeadsExprs.{shape_leads, result_leads, expr_leads, plain_leads}
use Rattle.pan_parser.proofs.LeadsValues.{declared_leads, assigned_leads, returned_leads, declared_call, assigned_call, returned_call, load_leads, stmt_assign, stmt_call}

module _ (n : ℕ) (May : ℕ → List Placed → Type 0) where
  -- ---- expressions with the sign behind them

  pub end_leads : {k : ℕ} {a c : List Placed} {x : Expr} → grammar.ExprEnd May k a c x → (K : Stack) → Leads n May a (machine.WantExpr k ∷ machine.WantSign sign.Semicolon ∷ K) c K
  end_leads (grammar.expr_end k t a b x p e) K = joined (expr_leads n May p (closing sign.Semicolon t b refl e) _) (sign_leads sign.Semicolon t b K e)

  pub declared_end : {k : ℕ} {a c : List Placed} {x : Expr} → grammar.ExprEnd May k a c x → (K : Stack) → Leads n May a (machine.WantDeclared k ∷ machine.WantSign sign.Semicolon ∷ K) c K
  declared_end (grammar.expr_end k t a b x p e) K =
      joined (declared_leads n May p (closing sign.Semicolon t b refl e) (no_sign sign.OpenParen t b _ e refl) _) (sign_leads sign.Semicolon t b K e)

  pub assigned_end : {k : ℕ} {a c : List Placed} {x : Expr} → grammar.ExprEnd May k a c x → (K : Stack) → Leads n May a (machine.WantAssigned k ∷ machine.WantSign sign.Semicolon ∷ K) c K
  assigned_end (grammar.expr_end k t a b x p e) K =
      joined (assigned_leads n May p (closing sign.Semicolon t b refl e) (no_sign sign.OpenParen t b _ e refl) _) (sign_leads sign.Semicolon t b K e)

  pub returned_end : {k : ℕ} {a c : List Placed} {x : Expr} → grammar.ExprEnd May k a c x → (K : Stack) → Leads n May a (machine.WantReturned k ∷ machine.WantSign sign.Semicolon ∷ K) c K
  returned_end (grammar.expr_end k t a b x p e) K =
      joined (returned_leads n May p (closing sign.Semicolon t b refl e) (no_sign sign.OpenParen t b _ e refl) _) (sign_leads sign.Semicolon t b K e)

  pub comma_leads : {k : ℕ} {a c : List Placed} {x : Expr} (t : Placed) → grammar.AnExpr May k a (t ∷ c) x → grammar.Is sign.Comma t → (K : Stack)
      → Leads n May a (machine.WantExpr k ∷ machine.WantSign sign.Comma ∷ K) c K
  comma_leads {c = c} t p e K = joined (expr_leads n May p (closing sign.Comma t c refl e) _) (sign_leads sign.Comma t c K e)

  pub two_leads : {k : ℕ} {a c : List Placed} {x y : Expr} → grammar.TwoExprs May k a c x y → (K : Stack) → Leads n May a (machine.two_exprs k K) c K
  two_leads (grammar.two_exprs k t a b c x y p e q) K = joined (comma_leads t p e _) (end_leads q K)

  -- ---- calls begin with a name and a parenthesis, wherever they stand

  plain_declared : {k : ℕ} {a c : List Placed} {f : List ℕ} {xs : List Expr} → grammar.Plain May k a c f xs → (K : Stack)
      → run n a (machine.WantDeclared k ∷ K) ≡ run n a (machine.WantPlain k ∷ machine.MayHandle k ∷ K)
  plain_declared (grammar.plain k t u v a b f xs e g p i) K = declared_call n f t (u ∷ a) k K e g

  plain_assigned : {k : ℕ} {a c : List Placed} {f : List ℕ} {xs : List Expr} → grammar.Plain May k a c f xs → (K : Stack)
      → run n a (machine.WantAssigned k ∷ K) ≡ run n a (machine.WantPlain k ∷ machine.MayHandle k ∷ K)
  plain_assigned (grammar.plain k t u v a b f xs e g p i) K = assigned_call n f t (u ∷ a) k K e g

  plain_returned : {k : ℕ} {a c : List Placed} {f : List ℕ} {xs : List Expr} → grammar.Plain May k a c f xs → (K : Stack)
      → run n a (machine.WantReturned k ∷ K) ≡ run n a (machine.WantPlain k ∷ K)
  plain_returned (grammar.plain k t u v a b f xs e g p i) K = returned_call n f t (u ∷ a) k K e g

  plain_stmt : {k : ℕ} {a c : List Placed} {f : List ℕ} {xs : List Expr} → grammar.Plain May k a c f xs → (K : Stack)
      → run n a (machine.WantStmt k ∷ K) ≡ run n a (machine.WantPlain k ∷ machine.MayHandle k ∷ machine.WantSign sign.Semicolon ∷ K)
  plain_stmt (grammar.plain k t u v a b f xs e g p i) K = stmt_call n f t (u ∷ a) k K e (no_sign sign.Assign u a _ g refl)

  -- ---- statements

  mutual
    pub stmt_leads : {k : ℕ} {a c : List Placed} {x : Stmt} → grammar.AStmt May k a c x → (K : Stack) → Leads n May a (machine.WantStmt k ∷ K) c K
    stmt_leads (grammar.skip k t u a e f) K = joined (going t (u ∷ a) _ _ (ap (λ v. begin_stmt k v K Refused) e)) (sign_leads sign.Semicolon u a K f)
    stmt_leads (grammar.declaration k t u v a b x y e f g p) K =
        joined (going t (u ∷ v ∷ a) _ _ (ap (λ v. begin_stmt k v K Refused) e))
        (joined (name_leads x u (v ∷ a) _ f) (joined (sign_leads sign.Assign v a _ g) (declared_end p K)))
    stmt_leads (grammar.declaration_call k t u v a b x f ys h e g i p) K =
        joined (going t (u ∷ v ∷ a) _ _ (ap (λ v. begin_stmt k v K Refused) e))
        (joined (name_leads x u (v ∷ a) _ g) (joined (sign_leads sign.Assign v a _ i) (declared_call_leads p K)))
    stmt_leads (grammar.assignment k t u a b x y e f p) K = joined (there (stmt_assign n x t u a k K e f)) (assigned_end p K)
    stmt_leads (grammar.assignment_call k t u a b x f ys h e g p) K = joined (there (stmt_assign n x t u a k K e g)) (assigned_call_leads p K)
    stmt_leads (grammar.shared_load k t u v a b x i y e f g p) K =
        joined (there (stmt_assign n x t u (v ∷ a) k K e f)) (joined (load_leads n May i v a k _ g) (end_leads p K))
    stmt_leads (grammar.call k a b f ys h p) K = stmt_call_leads p K
    stmt_leads (grammar.store_words k t a b x y e p) K = joined (going t a _ _ (ap (λ v. begin_stmt k v K Refused) e)) (two_leads p K)
    stmt_leads (grammar.store_byte k t a b x y e p) K = joined (going t a _ _ (ap (λ v. begin_stmt k v K Refused) e)) (two_leads p K)
    stmt_leads (grammar.branch k t u a b c d x y z e p q f r) K =
        joined (going t a _ _ (ap (λ v. begin_stmt k v K Refused) e))
        (joined (expr_leads n May p (block_after May q) _) (joined (block_leads q _) (joined (word_leads keyword.Else u c _ f) (block_leads r K))))
    stmt_leads (grammar.loop k t a b c x y e p q) K =
        joined (going t a _ _ (ap (λ v. begin_stmt k v K Refused) e)) (joined (expr_leads n May p (block_after May q) _) (block_leads q K))
    stmt_leads (grammar.break k t u a e f) K = joined (going t (u ∷ a) _ _ (ap (λ v. begin_stmt k v K Refused) e)) (sign_leads sign.Semicolon u a K f)
    stmt_leads (grammar.continue k t u a e f) K = joined (going t (u ∷ a) _ _ (ap (λ v. begin_stmt k v K Refused) e)) (sign_leads sign.Semicolon u a K f)
    stmt_leads (grammar.return k t a b x e p) K = joined (going t a _ _ (ap (λ v. begin_stmt k v K Refused) e)) (returned_end p K)
    stmt_leads (grammar.tail_call k t u a b f xs e p g) K =
        joined (going t a _ _ (ap (λ v. begin_stmt k v K Refused) e))
        (joined (there (plain_returned p _)) (joined (plain_leads n May p _) (sign_leads sign.Semicolon u b K g)))
    stmt_leads (grammar.raise k t u a b x y e f p) K =
        joined (going t (u ∷ a) _ _ (ap (λ v. begin_stmt k v K Refused) e)) (joined (name_leads x u a _ f) (end_leads p K))
    stmt_leads (grammar.shared_store k t a b i x y e p) K = joined (going t a _ _ (ap (λ v. begin_stmt k v K Refused) e)) (two_leads p K)
    stmt_leads (grammar.foreign k t u v w m i o a b c d f x p q r z e eu pp ev pq ew pr em pz ei eo) K =
        joined (going t (u ∷ a) _ _ (ap (λ v. begin_stmt k v K Refused) e))
        (joined (sign_leads sign.OpenParen u a _ eu)
        (joined (comma_leads v pp ev _)
        (joined (comma_leads w pq ew _)
        (joined (comma_leads m pr em _)
        (joined (expr_leads n May pz (closing sign.CloseParen i (o ∷ f) refl ei) _)
        (joined (sign_leads sign.CloseParen i (o ∷ f) _ ei) (sign_leads sign.Semicolon o f K eo)))))))

    -- a call with what ends the statement, in each position
    pub declared_call_leads : {k : ℕ} {a c : List Placed} {f : List ℕ} {xs : List Expr} {h : Option Handler} → grammar.CallEnd May k a c f xs h → (K : Stack)
        → Leads n May a (machine.WantDeclared k ∷ machine.WantSign sign.Semicolon ∷ K) c K
    declared_call_leads (grammar.call_end k t a b c f xs h p m e) K =
        joined (there (plain_declared p _)) (joined (plain_leads n May p _) (joined (handler_leads m (no_handle t c _ e refl) _) (sign_leads sign.Semicolon t c K e)))

    pub assigned_call_leads : {k : ℕ} {a c : List Placed} {f : List ℕ} {xs : List Expr} {h : Option Handler} → grammar.CallEnd May k a c f xs h → (K : Stack)
        → Leads n May a (machine.WantAssigned k ∷ machine.WantSign sign.Semicolon ∷ K) c K
    assigned_call_leads (grammar.call_end k t a b c f xs h p m e) K =
        joined (there (plain_assigned p _)) (joined (plain_leads n May p _) (joined (handler_leads m (no_handle t c _ e refl) _) (sign_leads sign.Semicolon t c K e)))

    pub stmt_call_leads : {k : ℕ} {a c : List Placed} {f : List ℕ} {xs : List Expr} {h : Option Handler} → grammar.CallEnd May k a c f xs h → (K : Stack)
        → Leads n May a (machine.WantStmt k ∷ K) c K
    stmt_call_leads (grammar.call_end k t a b c f xs h p m e) K =
        joined (there (plain_stmt p K)) (joined (plain_leads n May p _) (joined (handler_leads m (no_handle t c _ e refl) _) (sign_leads sign.Semicolon t c K e)))

    pub handler_leads : {k : ℕ} {a c : List Placed} {h : Option Handler} → grammar.MayHandle May k a c h → NoHandler c → (K : Stack) → Leads n May a (machine.MayHandle k ∷ K) c K
    handler_leads (grammar.no_handler k a) h K = there (handler_end n a k K h)
    handler_leads (grammar.handler k t u v a b i x y e f g p) h K =
        joined (handler_go t (u ∷ v ∷ a) k K e) (joined (name_leads i u (v ∷ a) _ f) (joined (name_leads x v a _ g) (block_leads p K)))

    pub block_leads : {k : ℕ} {a c : List Placed} {y : Block} → grammar.ABlock May k a c y → (K : Stack) → Leads n May a (machine.WantBlock k ∷ K) c K
    block_leads (grammar.block k t u a b xs e m p f) K =
        let L : Stack = machine.MoreStmts (k + 1) ∷ machine.WantSign sign.CloseBrace ∷ K in
        joined (opening t a (machine.WantBlock k ∷ K) L k (ap (λ z. if z then opens n k L else Refused) (sign_true sign.OpenBrace t.kind e)) m)
        (joined (stmts_leads p f _) (sign_leads sign.CloseBrace u b K f))

    pub stmts_leads : {k : ℕ} {a c : List Placed} {xs : List Stmt} → grammar.Stmts May k a c xs → Comes sign.CloseBrace c → (K : Stack) → Leads n May a (machine.MoreStmts k ∷ K) c K
    stmts_leads (grammar.no_stmt k a) h K = there (stmts_end n a k K h)
    stmts_leads (grammar.next_stmt k a b c x xs p q) h K = joined (there (stmts_start n a k K (stmt_begins May p))) (joined (stmt_leads p _) (stmts_leads q h K))

  -- ---- programs

  pub param_leads : {k : ℕ} {a c : List Placed} {x : Param} → grammar.AParam May k a c x → (K : Stack) → Leads n May a (machine.WantParam k ∷ K) c K
  param_leads (grammar.param k t a b z x p e) K = joined (there (param_start n a k K)) (joined (shape_leads n May p _) (name_leads x t b K e))

  pub more_params_leads : {k : ℕ} {a c : List Placed} {xs : List Param} → grammar.MoreParams May k a c xs → NoSign sign.Comma c → (K : Stack) → Leads n May a (machine.MoreParams k ∷ K) c K
  more_params_leads (grammar.no_param k a) h K = there (more_params_end n a k K h)
  more_params_leads (grammar.next_param k t a b c x xs e p q) h K = joined (params_go t a k K e) (joined (param_leads p _) (more_params_leads q h K))

  pub params_leads : {k : ℕ} {a c : List Placed} {xs : List Param} → grammar.Params May k a c xs → Comes sign.CloseParen c → (K : Stack) → Leads n May a (machine.MayParams k ∷ K) c K
  params_leads (grammar.no_params k a) h K = there (params_end n a k K h)
  params_leads (grammar.params k a b c x xs p q) h K =
      joined (there (params_start n a k K (begun p))) (joined (param_leads p _) (more_params_leads q (no_comma c h) K))
    where
      begun : {x : Param} → grammar.AParam May k a b x → Begins begins_shape a
      begun (grammar.param _ t _ b z y p e) = shape_begins May p

      no_comma : (c : List Placed) → Comes sign.CloseParen c → NoSign sign.Comma c
      no_comma [] h = absurd h
      no_comma (u ∷ c) h = no_sign sign.Comma u c _ h refl

  pub exception_leads : {a c : List Placed} {x : Exception} → grammar.AnException May a c x → (K : Stack) → Leads n May a (machine.MoreItems ∷ K) c (machine.MoreItems ∷ K)
  exception_leads (grammar.exception t u v a b x z e f p g) K =
      joined (going t (u ∷ a) _ _ (ap (λ v. begin_item v (machine.MoreItems ∷ K) (step n K t)) e))
      (joined (name_leads x u a _ f) (joined (shape_leads n May p _) (sign_leads sign.Semicolon v b _ g)))

  pub function_leads : {a c : List Placed} {f : Function} → grammar.AFunction May a c f → (K : Stack) → Leads n May a (machine.MoreItems ∷ K) c (machine.MoreItems ∷ K)
  function_leads (grammar.function t u v w a b c d z f xs y e p g i q j r) K =
      joined (going t a _ _ (ap (λ v. begin_item v (machine.MoreItems ∷ K) (step n K t)) e))
      (joined (result_leads n May p (f, g) _)
      (joined (name_leads f u (v ∷ b) _ g)
      (joined (sign_leads sign.OpenParen v b _ i)
      (joined (params_leads q j _) (joined (sign_leads sign.CloseParen w c _ j) (block_leads r _))))))

  pub items_leads : {a : List Placed} {xs : List Exception} {fs : List Function} → grammar.Items May a xs fs → (K : Stack) → Leads n May a (machine.MoreItems ∷ K) [] K
  items_leads grammar.no_item K = there refl
  items_leads (grammar.next_exception a b x xs fs p q) K = joined (exception_leads p K) (items_leads q K)
  items_leads (grammar.next_function a b f xs fs p q) K = joined (function_leads p K) (items_leads q K)

  pub program_leads : {a : List Placed} {xs : List Exception} {fs : List Function} → grammar.Items May a xs fs → Leads n May a whole [] []
  program_leads p = items_leads p []

-- ---- how the run of a program ends

-- however deep it nests: never refused
pub derived_run : (n : ℕ) {a : List Placed} {p : Program} → Derives a p → (run n a whole ≡ Accepted) ⊎ ((rest : List Placed) × (run n a whole ≡ TooDeep rest))
derived_run n d = elim (program_leads n (λ j rest. Unit {0}) d) [
  | there e ↦ inl e
  | deep j rest m l e ↦ inr (rest, e)
]

-- within the limit in front of `more`: it is too deep at `more` or behind
pub front_run : (more : List Placed) {a : List Placed} {p : Program} → IsProgram (InFront more) a p
    → (run nesting_limit a whole ≡ Accepted) ⊎ ((rest : List Placed) × (run nesting_limit a whole ≡ TooDeep rest) × (length rest ≤ length more))
front_run more d = elim (program_leads nesting_limit (InFront more) d) [
  | there e ↦ inl e
  | deep j rest m l e ↦ inr (rest, e, behind more rest j m l)
]
  where
    within : (x y j : ℕ) → (x < y → j ≤ 128) → 128 < j → y ≤ x
    within x y j m l = grind (arith, m, l)

    behind : (more rest : List Placed) (j : ℕ) → InFront more j rest → nesting_limit < j → length rest ≤ length more
    behind more rest j m l = within (length more) (length rest) j m l

-- within the limit
pub tree_run : {a : List Placed} {p : Program} → Tree a p → run nesting_limit a whole ≡ Accepted
tree_run d = elim (program_leads nesting_limit Within d) [
  | there e ↦ e
  | deep j rest m l e ↦ absurd (omega (arith, m, l))
]
