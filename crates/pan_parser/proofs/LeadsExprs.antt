-- Shapes, expressions and arguments of the grammar are read by the machine.
use Rattle.std.proofs.Common.{◌≡◌, ℕ, false, List, [], ◌∷◌, ap, ◌∙◌, refl}
use Rattle.pan_base.specs.declared.operators.BinOp.{BinOp}
use Rattle.pan_base.specs.declared.operators.ShOp.{ShOp}
use Rattle.pan_base.specs.declared.tokens.Sign.TheVariants as sign
use Rattle.pan_base.specs.Tokens.{Placed}
use Rattle.pan_tree.specs.declared.level.Level.{Level}
use Rattle.pan_tree.specs.declared.level.Level.TheVariants as level
use Rattle.pan_tree.specs.declared.shape.Shape.{Shape}
use Rattle.pan_tree.specs.Nodes.{Expr}
use Rattle.pan_tree.specs.Grammar as grammar
use Rattle.pan_parser.specs.Machine as machine
use Rattle.pan_parser.specs.Machine.{Stack, Step, Goes, Refused, opens, a_name, a_width, begin_shape, begin_primary, begin, expr_rest, call_rest, step, go_on, run}
use Rattle.pan_parser.specs.Follow.{NoSign, AfterOperand, AfterChain, AfterExpr}
use Rattle.pan_parser.proofs.Ends.{closing, no_sign, compare_first, shifts_after, terms_after, more_exprs_after, expr_begins, shape_begins, or_operand, xor_operand, sum_operand}
use Rattle.pan_parser.proofs.Leads.{Comes, NameComes, words_go, result_start, arguments_start, primary_as, Leads, there, joined, going, opening, sign_leads, number_leads, shapes_end, shapes_go, terms_end, terms_go, shifts_end, shifts_go, compare_end, compare_go, fields_end, fields_go, exprs_end, exprs_go, result_end, arguments_end, expr_start, chain_start, or_start, xor_start, and_start, shift_start, sum_start, product_start}

module _ (n : ℕ) (May : ℕ → List Placed → Type 0) where
  pub primary_start : {k : ℕ} {a b : List Placed} {x : Expr} → grammar.Primary May k a b x → (K : Stack)
      → run n a (machine.WantUnary k ∷ K) ≡ run n a (machine.WantPrimary k ∷ machine.MoreFields ∷ K)
  primary_start (grammar.number k t a i e) K = primary_as n t a k _ K e refl
  primary_start (grammar.variable k t a x e) K = primary_as n t a k _ K e refl
  primary_start (grammar.base k t a e) K = primary_as n t a k _ K e refl
  primary_start (grammar.biw k t a e) K = primary_as n t a k _ K e refl
  primary_start (grammar.parentheses k t u a b x e m p f) K = primary_as n t a k _ K e refl
  primary_start (grammar.struct k t u a b c x xs e m p q f) K = primary_as n t a k _ K e refl

  -- ---- shapes

  mutual
    pub shape_leads : {k : ℕ} {a b : List Placed} {z : Shape} → grammar.AShape May k a b z → (K : Stack) → Leads n May a (machine.WantShape k ∷ K) b K
    shape_leads (grammar.one_word k t a e) K = going t a _ K (ap (λ v. begin_shape n k v K Refused) e)
    shape_leads (grammar.many_words k t a i e l) K = going t a _ K (ap (λ v. begin_shape n k v K Refused) e ∙ words_go i K Refused l)
    shape_leads (grammar.group k t u a b c x xs e m p q f) K =
        joined (opening t a _ _ k (ap (λ v. begin_shape n k v K Refused) e) m)
        (joined (shape_leads p _) (joined (shapes_leads q (no_sign sign.Comma u c _ f refl) _) (sign_leads sign.CloseBrace u c K f)))

    pub shapes_leads : {k : ℕ} {a b : List Placed} {zs : List Shape} → grammar.MoreShapes May k a b zs → NoSign sign.Comma b → (K : Stack) → Leads n May a (machine.MoreShapes k ∷ K) b K
    shapes_leads (grammar.no_shape k a) h K = there (shapes_end n a k K h)
    shapes_leads (grammar.next_shape k t a b c x xs e p q) h K = joined (shapes_go t a k K e) (joined (shape_leads p _) (shapes_leads q h K))

  pub result_leads : {k : ℕ} {a b : List Placed} {z : Shape} → grammar.Result May k a b z → NameComes b → (K : Stack) → Leads n May a (machine.MayShape k ∷ K) b K
  result_leads (grammar.no_result k a) h K = there (result_end n a k K h)
  result_leads (grammar.result k a b z p) h K = joined (there (result_start n a k K (shape_begins May p))) (shape_leads p K)

  -- ---- expressions

  pub shifts_leads : {a c : List Placed} {ns : List (ShOp × ℕ)} → grammar.Shifts a c ns → AfterOperand level.And c → (K : Stack) → Leads n May a (machine.MoreShifts ∷ K) c K
  shifts_leads (grammar.no_shift a) h K = there (shifts_end n a K h.3)
  shifts_leads (grammar.next_shift t u a b o i ns e f p) h K = joined (shifts_go t (u ∷ a) o K e) (joined (number_leads i u a _ f) (shifts_leads p h K))

  pub fields_leads : {a c : List Placed} {is : List ℕ} → grammar.Fields a c is → NoSign sign.Dot c → (K : Stack) → Leads n May a (machine.MoreFields ∷ K) c K
  fields_leads (grammar.no_field a) h K = there (fields_end n a K h)
  fields_leads (grammar.next_field t u a b i is e f p) h K = joined (fields_go t (u ∷ a) K e) (joined (number_leads i u a _ f) (fields_leads p h K))

  mutual
    pub expr_leads : {k : ℕ} {a c : List Placed} {x : Expr} → grammar.AnExpr May k a c x → AfterExpr c → (K : Stack) → Leads n May a (machine.WantExpr k ∷ K) c K
    expr_leads (grammar.no_comparison k a b x p) h K = joined (there (expr_start n a k K)) (joined (chain_leads p h.0 _) (there (compare_end n b k K h.1)))
    expr_leads (grammar.one_comparison k t a b c o x y p e q) h K =
        joined (there (expr_start n a k K)) (joined (chain_leads p (compare_first t b o e) _) (joined (compare_go t b o k K e) (chain_leads q h.0 K)))

    pub chain_leads : {l : Level} {k : ℕ} {a c : List Placed} {x : Expr} → grammar.Chain May l k a c x → AfterChain l c → (K : Stack) → Leads n May a (machine.WantChain l k ∷ K) c K
    chain_leads (grammar.chained l k a b c x ys p q) h K = joined (there (chain_start n l a k K)) (joined (operand_leads p (terms_after May q h) _) (terms_leads q h K))

    pub operand_leads : {l : Level} {k : ℕ} {a c : List Placed} {x : Expr} → grammar.Operand May l k a c x → AfterOperand l c → (K : Stack) → Leads n May a (machine.WantOperand l k ∷ K) c K
    operand_leads (grammar.of_or k a b x p) h K = joined (there (or_start n a k K)) (chain_leads p (or_operand b h) K)
    operand_leads (grammar.of_xor k a b x p) h K = joined (there (xor_start n a k K)) (chain_leads p (xor_operand b h) K)
    operand_leads (grammar.of_and k a b x p) h K = joined (there (and_start n a k K)) (shift_leads p h K)
    operand_leads (grammar.of_sum k a b x p) h K = joined (there (sum_start n a k K)) (chain_leads p (sum_operand b h) K)
    operand_leads (grammar.of_product k a b x p) h K = joined (there (product_start n a k K)) (unary_leads p h K)

    pub terms_leads : {l : Level} {k : ℕ} {a c : List Placed} {ys : List (BinOp × Expr)} → grammar.Terms May l k a c ys → AfterChain l c → (K : Stack) → Leads n May a (machine.MoreTerms l k ∷ K) c K
    terms_leads (grammar.no_term l k a) h K = there (terms_end n l a k K h.1)
    terms_leads (grammar.next_term l k t a b c o y ys e p q) h K = joined (terms_go l t a o k K e) (joined (operand_leads p (terms_after May q h) _) (terms_leads q h K))

    pub shift_leads : {k : ℕ} {a c : List Placed} {x : Expr} → grammar.AShift May k a c x → AfterOperand level.And c → (K : Stack) → Leads n May a (machine.WantShift k ∷ K) c K
    shift_leads (grammar.shift k a b c x ns p q) h K = joined (there (shift_start n a k K)) (joined (chain_leads p (shifts_after q h) _) (shifts_leads q h K))

    pub unary_leads : {k : ℕ} {a c : List Placed} {x : Expr} → grammar.Unary May k a c x → NoSign sign.Dot c → (K : Stack) → Leads n May a (machine.WantUnary k ∷ K) c K
    unary_leads (grammar.negation k t a b x e m p) h K = joined (opening t a _ _ k (ap (λ v. begin n k v K Refused) e) m) (unary_leads p h K)
    unary_leads (grammar.load_words k t a b c z x e m p q) h K =
        joined (opening t a _ _ k (ap (λ v. begin n k v K Refused) e) m) (joined (shape_leads p _) (unary_leads q h K))
    unary_leads (grammar.load_byte k t a b x e m p) h K = joined (opening t a _ _ k (ap (λ v. begin n k v K Refused) e) m) (unary_leads p h K)
    unary_leads (grammar.postfix k a b c x is p q) h K = joined (there (primary_start p K)) (joined (primary_leads p _) (fields_leads q h K))

    pub primary_leads : {k : ℕ} {a c : List Placed} {x : Expr} → grammar.Primary May k a c x → (K : Stack) → Leads n May a (machine.WantPrimary k ∷ K) c K
    primary_leads (grammar.number k t a i e) K = going t a _ K (ap (λ v. begin_primary n k v K Refused) e)
    primary_leads (grammar.variable k t a x e) K = going t a _ K (ap (λ v. begin_primary n k v K Refused) e)
    primary_leads (grammar.base k t a e) K = going t a _ K (ap (λ v. begin_primary n k v K Refused) e)
    primary_leads (grammar.biw k t a e) K = going t a _ K (ap (λ v. begin_primary n k v K Refused) e)
    primary_leads (grammar.parentheses k t u a b x e m p f) K =
        joined (opening t a _ _ k (ap (λ v. begin_primary n k v K Refused) e) m)
        (joined (expr_leads p (closing sign.CloseParen u b refl f) _) (sign_leads sign.CloseParen u b K f))
    primary_leads (grammar.struct k t u a b c x xs e m p q f) K =
        let h = closing sign.Greater u c refl f in
        joined (opening t a _ _ k (ap (λ v. begin_primary n k v K Refused) e) m)
        (joined (expr_leads p (more_exprs_after May q h) _) (joined (more_exprs_leads q h (no_sign sign.Comma u c _ f refl) _) (sign_leads sign.Greater u c K f)))

    pub more_exprs_leads : {k : ℕ} {a c : List Placed} {xs : List Expr} → grammar.MoreExprs May k a c xs → AfterExpr c → NoSign sign.Comma c → (K : Stack) → Leads n May a (machine.MoreExprs k ∷ K) c K
    more_exprs_leads (grammar.no_expr k a) h j K = there (exprs_end n a k K j)
    more_exprs_leads (grammar.next_expr k t a b c x xs e p q) h j K =
        joined (exprs_go t a k K e) (joined (expr_leads p (more_exprs_after May q h) _) (more_exprs_leads q h j K))

  -- ---- arguments

  pub arguments_leads : {k : ℕ} {a c : List Placed} {xs : List Expr} → grammar.Arguments May k a c xs → Comes sign.CloseParen c → (K : Stack) → Leads n May a (machine.MayArguments k ∷ K) c K
  arguments_leads (grammar.no_argument k a) h K = there (arguments_end n a k K h)
  arguments_leads (grammar.arguments k a b c x xs p q) h K =
      joined (there (arguments_start n a k K (expr_begins May p)))
      (joined (expr_leads p (more_exprs_after May q (closed c h)) _) (more_exprs_leads q (closed c h) (no_comma c h) K))
    where
      closed : (c : List Placed) → Comes sign.CloseParen c → AfterExpr c
      closed [] h = absurd h
      closed (u ∷ c) h = closing sign.CloseParen u c refl h

      no_comma : (c : List Placed) → Comes sign.CloseParen c → NoSign sign.Comma c
      no_comma [] h = absurd h
      no_comma (u ∷ c) h = no_sign sign.Comma u c _ h refl

  pub plain_leads : {k : ℕ} {a c : List Placed} {f : List ℕ} {xs : List Expr} → grammar.Plain May k a c f xs → (K : Stack) → Leads n May a (machine.WantPlain k ∷ K) c K
  plain_leads (grammar.plain k t u v a b f xs e g p i) K =
      joined (going t (u ∷ a) _ (machine.WantSign sign.OpenParen ∷ call_rest false k K) (ap (λ v. a_name v (machine.WantSign sign.OpenParen ∷ call_rest false k K)) e))
      (joined (sign_leads sign.OpenParen u a _ g) (joined (arguments_leads p i _) (sign_leads sign.CloseParen v b K i)))
