-- What the machine reads is in the grammar, and each stack can be finished.
use Rattle.std.proofs.Common.{◌⊎◌, inl, ⊎_elim, ℕ, ◌+◌, ◌≤◌, true, false, List, [], ◌∷◌, length, None, refl, arith}
use Rattle.pan_base.specs.declared.tokens.Keyword.TheVariants as keyword
use Rattle.pan_base.specs.declared.tokens.Sign.TheVariants as sign
use Rattle.pan_base.specs.Tokens.{Placed, Kind, Name, Reserved, Number, ASign}
use Rattle.pan_tree.specs.declared.level.Level.{Level}
use Rattle.pan_tree.specs.declared.level.Level.TheVariants as level
use Rattle.pan_tree.specs.declared.syntax.ExprKind.TheVariants as e
use Rattle.pan_tree.specs.Nodes.{Expr, node, operator_at, shift_operator, comparison}
use Rattle.pan_tree.specs.Grammar as grammar
use Rattle.pan_parser.specs.Machine as machine
use Rattle.pan_parser.specs.Machine.{WantSign, WantWord, WantName, WantNumber, WantShape, MayShape, WantExpr, MayCompare, WantChain, WantOperand, MoreTerms, WantShift, MoreShifts, WantUnary, WantPrimary, MoreFields, MayArguments, WantPlain, WantDeclared, WantAssigned, WantReturned, AfterName, AfterStmtName, WantStmt, MoreStmts, WantBlock, WantParam, MayParams, MoreItems, Stack, Step, Refused, is_sign, is_word, operand_rest, call_rest, step}
use Rattle.pan_parser.proofs.Spells.{Spells, After}
use Rattle.pan_parser.proofs.SoundExprs.{shape_reads, primary_reads, unary_reads, operand_reads, chain_reads, of_and_shift, begin_reads, terms_read, shifts_read, fields_read, compare_reads, shapes_read, exprs_read}
use Rattle.pan_parser.proofs.SoundStmts.{sign_reads, word_reads, name_reads, number_reads, plain_reads, arguments_read, handler_reads, named_reads, value_reads, assigned_reads, stmt_name_reads, stmt_reads, block_reads, param_reads, params_read, may_params_read, may_shape_reads, items_read}

-- what must come
must : {A : Type 0} → A ⊎ ⊥ → A
must h = ⊎_elim (λ x. x) (λ z. absurd z) h

module _ (n : ℕ) (Free : Type 0) (May : ℕ → List Placed → Type 0) (may : (j : ℕ) (rest : List Placed) → (j ≤ n) ⊎ Free → May j rest) where
  operand_begins : (t : Placed) (a : List Placed) (l : Level) (k : ℕ) (K : Stack) → After May Free (step n (WantOperand l k ∷ K) t) a → Spells May (WantOperand l k ∷ K) (t ∷ a)
  operand_begins t a l k K h = operand_reads May l k (t ∷ a) K (must (unary_reads n Free May may t a k t.kind (operand_rest l k K) Refused refl h))

  pub sound : (K : Stack) (t : Placed) (a : List Placed) → After May Free (step n K t) a → Spells May K (t ∷ a)
  sound [] t a h = absurd h
  sound (WantSign w ∷ K) t a h = sign_reads n Free May may w t a K (is_sign w t.kind) refl h
  sound (WantWord w ∷ K) t a h = word_reads n Free May may w t a K (is_word w t.kind) refl h
  sound (WantName ∷ K) t a h = name_reads n Free May may t a t.kind K refl h
  sound (WantNumber ∷ K) t a h = number_reads n Free May may t a t.kind K refl h
  sound (WantShape k ∷ K) t a h = must (shape_reads n Free May may t a k t.kind K Refused refl h)
  sound (machine.MoreShapes k ∷ K) t a h = shapes_read n Free May may t a k K (is_sign sign.Comma t.kind) refl (sound K t a) h
  sound (MayShape k ∷ K) t a h = may_shape_reads n Free May may t a k K (sound K t a) h
  sound (WantExpr k ∷ K) t a h = must (begin_reads n Free May may t a k t.kind K Refused refl h)
  sound (MayCompare k ∷ K) t a h = compare_reads n Free May may t a k K (comparison t.kind) refl (sound K t a) h
  sound (WantChain l k ∷ K) t a h = chain_reads May l k (t ∷ a) K (must (unary_reads n Free May may t a k t.kind (operand_rest l k (MoreTerms l k ∷ K)) Refused refl h))
  sound (WantOperand l k ∷ K) t a h = operand_begins t a l k K h
  sound (MoreTerms l k ∷ K) t a h = terms_read n Free May may t a l k K (operator_at l t.kind) refl (sound K t a) h
  sound (WantShift k ∷ K) t a h = of_and_shift May k (t ∷ a) K (operand_begins t a level.And k K h)
  sound (MoreShifts ∷ K) t a h = shifts_read n Free May may t a K (shift_operator t.kind) refl (sound K t a) h
  sound (WantUnary k ∷ K) t a h = must (unary_reads n Free May may t a k t.kind K Refused refl h)
  sound (WantPrimary k ∷ K) t a h = must (primary_reads n Free May may t a k t.kind K Refused refl h)
  sound (MoreFields ∷ K) t a h = fields_read n Free May may t a K (is_sign sign.Dot t.kind) refl (sound K t a) h
  sound (machine.MoreExprs k ∷ K) t a h = exprs_read n Free May may t a k K (is_sign sign.Comma t.kind) refl (sound K t a) h
  sound (MayArguments k ∷ K) t a h = arguments_read n Free May may t a k K (sound K t a) h
  sound (WantPlain k ∷ K) t a h = plain_reads n Free May may k (t ∷ a) K (name_reads n Free May may t a t.kind (WantSign sign.OpenParen ∷ call_rest false k K) refl h)
  sound (WantDeclared k ∷ K) t a h = value_reads n Free May may true t a k t.kind K refl h
  sound (WantAssigned k ∷ K) t a h = assigned_reads n Free May may t a k t.kind K refl h
  sound (WantReturned k ∷ K) t a h = value_reads n Free May may false t a k t.kind K refl h
  sound (AfterName handles k ∷ K) t a h = named_reads n Free May may handles t a k K (is_sign sign.OpenParen t.kind) refl (sound K t a) h
  sound (AfterStmtName k ∷ K) t a h = stmt_name_reads n Free May may t a k t.kind K refl h
  sound (machine.MayHandle k ∷ K) t a h = handler_reads n Free May may t a k K (is_word keyword.Handle t.kind) refl (sound K t a) h
  sound (WantStmt k ∷ K) t a h = must (stmt_reads n Free May may t a k t.kind K Refused refl h)
  sound (MoreStmts k ∷ K) t a h = ⊎_elim
      (λ x. let m = x.2 in (m.0, (_, grammar.next_stmt k (t ∷ a) x.0 m.0 x.1.0 m.1.0 x.1.1 m.1.1), m.2))
      (λ z. (t ∷ a, ([], grammar.no_stmt k (t ∷ a)), sound K t a z))
      (stmt_reads n Free May may t a k t.kind (MoreStmts k ∷ K) (step n K t) refl h)
  sound (WantBlock k ∷ K) t a h = block_reads n Free May may t a k K (is_sign sign.OpenBrace t.kind) refl h
  sound (WantParam k ∷ K) t a h = param_reads n Free May may k (t ∷ a) K (must (shape_reads n Free May may t a k t.kind (WantName ∷ K) Refused refl h))
  sound (machine.MoreParams k ∷ K) t a h = params_read n Free May may t a k K (is_sign sign.Comma t.kind) refl (sound K t a) h
  sound (MayParams k ∷ K) t a h = may_params_read n Free May may t a k K (sound K t a) h
  sound (MoreItems ∷ K) t a h = ⊎_elim
      (λ x. x)
      (λ z. (t ∷ a, λ xs fs i. (xs, fs, i), sound K t a z))
      (items_read n Free May may t a t.kind K (step n K t) refl h)

-- ---- each stack has tokens that finish it

abbrev token : Kind → Placed
token v = record { kind = v; span = record { start = 0; end = 0 } }

abbrev zero_word : Placed
zero_word = token (Number 0)

abbrev one_word : Placed
one_word = token (Number 1)

abbrev no_name : Placed
no_name = token (Name [])

abbrev semicolon : Placed
semicolon = token (ASign sign.Semicolon)

abbrev pub finish : Stack → List Placed
finish [] = []
finish (WantSign w ∷ K) = token (ASign w) ∷ finish K
finish (WantWord w ∷ K) = token (Reserved w) ∷ finish K
finish (WantName ∷ K) = no_name ∷ finish K
finish (WantNumber ∷ K) = zero_word ∷ finish K
finish (WantShape k ∷ K) = one_word ∷ finish K
finish (machine.MoreShapes k ∷ K) = finish K
finish (MayShape k ∷ K) = finish K
finish (WantExpr k ∷ K) = zero_word ∷ finish K
finish (MayCompare k ∷ K) = finish K
finish (WantChain l k ∷ K) = zero_word ∷ finish K
finish (WantOperand l k ∷ K) = zero_word ∷ finish K
finish (MoreTerms l k ∷ K) = finish K
finish (WantShift k ∷ K) = zero_word ∷ finish K
finish (MoreShifts ∷ K) = finish K
finish (WantUnary k ∷ K) = zero_word ∷ finish K
finish (WantPrimary k ∷ K) = zero_word ∷ finish K
finish (MoreFields ∷ K) = finish K
finish (machine.MoreExprs k ∷ K) = finish K
finish (MayArguments k ∷ K) = finish K
finish (WantPlain k ∷ K) = no_name ∷ token (ASign sign.OpenParen) ∷ token (ASign sign.CloseParen) ∷ finish K
finish (WantDeclared k ∷ K) = zero_word ∷ finish K
finish (WantAssigned k ∷ K) = zero_word ∷ finish K
finish (WantReturned k ∷ K) = zero_word ∷ finish K
finish (AfterName handles k ∷ K) = finish K
finish (AfterStmtName k ∷ K) = token (ASign sign.Assign) ∷ zero_word ∷ semicolon ∷ finish K
finish (machine.MayHandle k ∷ K) = finish K
finish (WantStmt k ∷ K) = token (Reserved keyword.Skip) ∷ semicolon ∷ finish K
finish (MoreStmts k ∷ K) = finish K
finish (WantBlock k ∷ K) = token (ASign sign.OpenBrace) ∷ token (ASign sign.CloseBrace) ∷ finish K
finish (WantParam k ∷ K) = one_word ∷ no_name ∷ finish K
finish (machine.MoreParams k ∷ K) = finish K
finish (MayParams k ∷ K) = finish K
finish (MoreItems ∷ K) = finish K

module _ (May : ℕ → List Placed → Type 0) where
  -- a unary expression alone is an expression of each kind
  chain_alone : {l : Level} {k : ℕ} {a b : List Placed} {x : Expr} → grammar.Operand May l k a b x → grammar.Chain May l k a b x
  chain_alone {l} {k} {a} {b} {x} o = grammar.chained l k a b b x [] o (grammar.no_term l k b)

  product_alone : {k : ℕ} {a b : List Placed} {x : Expr} → grammar.Unary May k a b x → grammar.Operand May level.Product k a b x
  product_alone {k} {a} {b} {x} u = grammar.of_product k a b x u

  sum_alone : {k : ℕ} {a b : List Placed} {x : Expr} → grammar.Unary May k a b x → grammar.Operand May level.Sum k a b x
  sum_alone {k} {a} {b} {x} u = grammar.of_sum k a b x (chain_alone (product_alone u))

  shift_alone : {k : ℕ} {a b : List Placed} {x : Expr} → grammar.Unary May k a b x → grammar.AShift May k a b x
  shift_alone {k} {a} {b} {x} u = grammar.shift k a b b x [] (chain_alone (sum_alone u)) (grammar.no_shift b)

  xor_alone : {k : ℕ} {a b : List Placed} {x : Expr} → grammar.Unary May k a b x → grammar.Operand May level.Xor k a b x
  xor_alone {k} {a} {b} {x} u = grammar.of_xor k a b x (chain_alone (grammar.of_and k a b x (shift_alone u)))

  operand_alone : (l : Level) {k : ℕ} {a b : List Placed} {x : Expr} → grammar.Unary May k a b x → grammar.Operand May l k a b x
  operand_alone level.Product u = product_alone u
  operand_alone level.Sum u = sum_alone u
  operand_alone level.And {k} {a} {b} {x} u = grammar.of_and k a b x (shift_alone u)
  operand_alone level.Xor u = xor_alone u
  operand_alone level.Or {k} {a} {b} {x} u = grammar.of_or k a b x (chain_alone (xor_alone u))

  expr_alone : {k : ℕ} {a b : List Placed} {x : Expr} → grammar.Unary May k a b x → grammar.AnExpr May k a b x
  expr_alone {k} {a} {b} {x} u = grammar.no_comparison k a b x (chain_alone (operand_alone level.Or u))

  unary_alone : {k : ℕ} {a b : List Placed} {x : Expr} → grammar.Primary May k a b x → grammar.Unary May k a b x
  unary_alone {k} {a} {b} {x} p = grammar.postfix k a b b x [] p (grammar.no_field b)

  zero_unary : (k : ℕ) (a : List Placed) → grammar.Unary May k (zero_word ∷ a) a (node (zero_word ∷ a) a (e.Number 0))
  zero_unary k a = unary_alone (grammar.number k zero_word a 0 refl)

  pub finished : (K : Stack) → ((j : ℕ) (rest : List Placed) → length rest ≤ length (finish K) → May j rest) → Spells May K (finish K)
  finished [] m = refl
  finished (WantSign w ∷ K) m = (finish K, (token (ASign w), refl, refl), finished K (λ j rest l. m j rest (omega (arith, l))))
  finished (WantWord w ∷ K) m = (finish K, (token (Reserved w), refl, refl), finished K (λ j rest l. m j rest (omega (arith, l))))
  finished (WantName ∷ K) m = (finish K, (no_name, [], refl, refl), finished K (λ j rest l. m j rest (omega (arith, l))))
  finished (WantNumber ∷ K) m = (finish K, (zero_word, 0, refl, refl), finished K (λ j rest l. m j rest (omega (arith, l))))
  finished (WantShape k ∷ K) m = (finish K, (_, grammar.one_word k one_word (finish K) refl), finished K (λ j rest l. m j rest (omega (arith, l))))
  finished (machine.MoreShapes k ∷ K) m = (finish K, ([], grammar.no_shape k (finish K)), finished K m)
  finished (MayShape k ∷ K) m = (finish K, (_, grammar.no_result k (finish K)), finished K m)
  finished (WantExpr k ∷ K) m = (finish K, (_, expr_alone (zero_unary k (finish K))), finished K (λ j rest l. m j rest (omega (arith, l))))
  finished (MayCompare k ∷ K) m = (finish K, λ p x c. (x, grammar.no_comparison k p (finish K) x c), finished K m)
  finished (WantChain l k ∷ K) m = (finish K, (_, chain_alone (operand_alone l (zero_unary k (finish K)))), finished K (λ j rest l. m j rest (omega (arith, l))))
  finished (WantOperand l k ∷ K) m = (finish K, (_, operand_alone l (zero_unary k (finish K))), finished K (λ j rest l. m j rest (omega (arith, l))))
  finished (MoreTerms l k ∷ K) m = (finish K, ([], grammar.no_term l k (finish K)), finished K m)
  finished (WantShift k ∷ K) m = (finish K, (_, shift_alone (zero_unary k (finish K))), finished K (λ j rest l. m j rest (omega (arith, l))))
  finished (MoreShifts ∷ K) m = (finish K, ([], grammar.no_shift (finish K)), finished K m)
  finished (WantUnary k ∷ K) m = (finish K, (_, zero_unary k (finish K)), finished K (λ j rest l. m j rest (omega (arith, l))))
  finished (WantPrimary k ∷ K) m = (finish K, (_, grammar.number k zero_word (finish K) 0 refl), finished K (λ j rest l. m j rest (omega (arith, l))))
  finished (MoreFields ∷ K) m = (finish K, ([], grammar.no_field (finish K)), finished K m)
  finished (machine.MoreExprs k ∷ K) m = (finish K, ([], grammar.no_expr k (finish K)), finished K m)
  finished (MayArguments k ∷ K) m = (finish K, ([], grammar.no_argument k (finish K)), finished K m)
  finished (WantPlain k ∷ K) m =
      let close = token (ASign sign.CloseParen) in
      (finish K, ([], [], grammar.plain k no_name (token (ASign sign.OpenParen)) close (close ∷ finish K) (finish K) [] [] refl refl (grammar.no_argument k (close ∷ finish K)) refl), finished K (λ j rest l. m j rest (omega (arith, l))))
  finished (WantDeclared k ∷ K) m = (finish K, inl (_, expr_alone (zero_unary k (finish K))), finished K (λ j rest l. m j rest (omega (arith, l))))
  finished (WantAssigned k ∷ K) m = (finish K, inl (inl (_, expr_alone (zero_unary k (finish K)))), finished K (λ j rest l. m j rest (omega (arith, l))))
  finished (WantReturned k ∷ K) m = (finish K, inl (_, expr_alone (zero_unary k (finish K))), finished K (λ j rest l. m j rest (omega (arith, l))))
  finished (AfterName handles k ∷ K) m = (finish K, λ t x f. inl (_, expr_alone (unary_alone (grammar.variable k t (finish K) x f))), finished K m)
  finished (AfterStmtName k ∷ K) m = (
    finish K,
    λ t x f. (
      _,
      grammar.assignment k t (token (ASign sign.Assign)) (zero_word ∷ semicolon ∷ finish K) (finish K) x _ f refl
          (grammar.expr_end k semicolon (zero_word ∷ semicolon ∷ finish K) (finish K) _ (expr_alone (zero_unary k (semicolon ∷ finish K))) refl),
    ),
    finished K (λ j rest l. m j rest (omega (arith, l))),
  )
  finished (machine.MayHandle k ∷ K) m = (finish K, (None, grammar.no_handler k (finish K)), finished K m)
  finished (WantStmt k ∷ K) m = (finish K, (_, grammar.skip k (token (Reserved keyword.Skip)) semicolon (finish K) refl refl), finished K (λ j rest l. m j rest (omega (arith, l))))
  finished (MoreStmts k ∷ K) m = (finish K, ([], grammar.no_stmt k (finish K)), finished K m)
  finished (WantBlock k ∷ K) m =
      let close = token (ASign sign.CloseBrace) in
      (finish K, (_, grammar.block k (token (ASign sign.OpenBrace)) close (close ∷ finish K) (finish K) [] refl (m (k + 1) (finish (WantBlock k ∷ K)) (omega arith)) (grammar.no_stmt (k + 1) (close ∷ finish K)) refl), finished K (λ j rest l. m j rest (omega (arith, l))))
  finished (WantParam k ∷ K) m = (finish K, (_, grammar.param k no_name (one_word ∷ no_name ∷ finish K) (finish K) _ [] (grammar.one_word k one_word (no_name ∷ finish K) refl) refl), finished K (λ j rest l. m j rest (omega (arith, l))))
  finished (machine.MoreParams k ∷ K) m = (finish K, ([], grammar.no_param k (finish K)), finished K m)
  finished (MayParams k ∷ K) m = (finish K, ([], grammar.no_params k (finish K)), finished K m)
  finished (MoreItems ∷ K) m = (finish K, λ xs fs i. (xs, fs, i), finished K m)
