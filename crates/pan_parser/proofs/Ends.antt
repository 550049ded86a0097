-- What may come behind a part of a program, what a part begins with, and what signs and words are.
use Rattle.std.proofs.Common.{◌≡◌, ℕ, zero, suc, ◌+◌, ◌≤◌, Bool, true, false, List, [], ◌∷◌, Option, Some, None, sym, ap, ◌∙◌, subst, refl, nat_eq, arith}
use denote.Enum.Bare.{tag_one}
use denote.Enum.Declared.{tag_of}
use Rattle.pan_base.specs.contracts.tokens.Sign.{the_type as the_signs}
use Rattle.pan_base.specs.contracts.tokens.Keyword.{the_type as the_words}
use Rattle.pan_base.specs.declared.operators.BinOp.{BinOp}
use Rattle.pan_base.specs.declared.operators.ShOp.{ShOp}
use Rattle.pan_base.specs.declared.operators.Cmp.{Cmp}
use Rattle.pan_base.specs.declared.span.Span.{Span}
use Rattle.pan_base.specs.declared.tokens.Keyword.{Keyword}
use Rattle.pan_base.specs.declared.tokens.Keyword.TheVariants as keyword
use Rattle.pan_base.specs.declared.tokens.Sign.{Sign}
use Rattle.pan_base.specs.declared.tokens.Sign.TheVariants as sign
use Rattle.pan_base.specs.Tokens.{Placed, Kind, Name, Reserved, Number, Load, Store, Foreign, Base, Biw, ASign}
use Rattle.pan_tree.specs.declared.level.Level.{Level}
use Rattle.pan_tree.specs.declared.level.Level.TheVariants as level
use Rattle.pan_tree.specs.declared.shape.Shape.{Shape}
use Rattle.pan_tree.specs.declared.program.Exception.{Exception}
use Rattle.pan_tree.specs.declared.program.Function.{Function}
use Rattle.pan_tree.specs.Nodes.{Expr, operator_at, shift_operator, comparison}
use Rattle.pan_tree.specs.Grammar.{Stmt, Block, Is, IsName, Shifts, no_shift, next_shift, Fields, no_field, next_field, AShape, one_word, many_words, group, AnExpr, no_comparison, one_comparison, Chain, chained, Operand, of_or, of_xor, of_and, of_sum, of_product, Terms, no_term, next_term, AShift, shift, Unary, negation, load_words, load_byte, postfix, Primary, number, variable, base, biw, parentheses, struct, MoreExprs, no_expr, next_expr, Plain, plain, AStmt, skip, declaration, declaration_call, assignment, assignment_call, shared_load, call, store_words, store_byte, branch, loop, break, continue, return, tail_call, raise, shared_store, foreign, call_end, ABlock, block, AnException, exception, AFunction, function}
use Rattle.pan_parser.specs.Machine.{sign_order, word_order, is_sign, is_word}
use Rattle.pan_parser.specs.Follow.{NoSign, NoHandler, AfterOperand, AfterChain, AfterExpr}

-- ---- signs and words

same_sign : (w : Sign) → nat_eq (sign_order w) (sign_order w) ≡ true
same_sign sign.OpenParen = refl
same_sign _ = refl

same_word : (w : Keyword) → nat_eq (word_order w) (word_order w) ≡ true
same_word keyword.Exception = refl
same_word _ = refl

tag_sign : (w : Sign) → tag_of the_signs w ≡ sign_order w
tag_sign sign.OpenParen = refl
tag_sign _ = refl

tag_word : (w : Keyword) → tag_of the_words w ≡ word_order w
tag_word keyword.Exception = refl
tag_word _ = refl

equal_of : (a b : ℕ) → nat_eq a b ≡ true → a ≡ b
equal_of a b e = grind arith

one_sign : (w v : Sign) → nat_eq (sign_order w) (sign_order v) ≡ true → v ≡ w
one_sign w v e = sym (tag_one the_signs tt w v (tag_sign w ∙ equal_of (sign_order w) (sign_order v) e ∙ sym (tag_sign v)))

one_keyword : (w v : Keyword) → nat_eq (word_order w) (word_order v) ≡ true → v ≡ w
one_keyword w v e = sym (tag_one the_words tt w v (tag_word w ∙ equal_of (word_order w) (word_order v) e ∙ sym (tag_word v)))

pub false_true : false ≡ true → ⊥
false_true e = cc

-- the kind is this sign, and the test says so
pub sign_true : (w : Sign) (v : Kind) → v ≡ ASign w → is_sign w v ≡ true
sign_true w v e = ap (is_sign w) e ∙ same_sign w

pub sign_is : (w : Sign) (v : Kind) → is_sign w v ≡ true → v ≡ ASign w
sign_is w (ASign v) e = ap ASign (one_sign w v e)
sign_is w _ e = absurd (false_true e)

pub sign_false : (w : Sign) (v : Kind) → (v ≡ ASign w → ⊥) → is_sign w v ≡ false
sign_false w v f = decide (is_sign w v) refl
  where
    decide : (b : Bool) → is_sign w v ≡ b → is_sign w v ≡ false
    decide true e = absurd (f (sign_is w v e))
    decide false e = e

-- the same of words
pub word_true : (w : Keyword) (v : Kind) → v ≡ Reserved w → is_word w v ≡ true
word_true w v e = ap (is_word w) e ∙ same_word w

pub word_is : (w : Keyword) (v : Kind) → is_word w v ≡ true → v ≡ Reserved w
word_is w (Reserved v) e = ap Reserved (one_keyword w v e)
word_is w _ e = absurd (false_true e)

pub word_false : (w : Keyword) (v : Kind) → (v ≡ Reserved w → ⊥) → is_word w v ≡ false
word_false w v f = decide (is_word w v) refl
  where
    decide : (b : Bool) → is_word w v ≡ b → is_word w v ≡ false
    decide true e = absurd (f (word_is w v e))
    decide false e = e

-- the number of a kind
abbrev pub kind_order : Kind → ℕ
kind_order (ASign w) = sign_order w
kind_order (Reserved w) = 100 + word_order w
kind_order (Name x) = 200
kind_order (Number n) = 201
kind_order (Load n) = 202
kind_order (Store n) = 203
kind_order (Foreign x) = 204
kind_order Base = 205
kind_order Biw = 206

-- no token is two kinds at once
pub apart : (v a b : Kind) → v ≡ a → v ≡ b → nat_eq (kind_order a) (kind_order b) ≡ false → ⊥
apart v a b e f d = differ (kind_order a) (kind_order b) (ap kind_order (sym e ∙ f)) d
  where
    differ : (m n : ℕ) → m ≡ n → nat_eq m n ≡ false → ⊥
    differ m n e d = grind arith

-- a token of another kind is not this sign
pub other_sign : (w : Sign) (v a : Kind) → v ≡ a → is_sign w a ≡ false → is_sign w v ≡ false
other_sign w v a e d = ap (is_sign w) e ∙ d

pub other_word : (w : Keyword) (v a : Kind) → v ≡ a → is_word w a ≡ false → is_word w v ≡ false
other_word w v a e d = ap (is_word w) e ∙ d

pub some_none : {A : Type 0} {x : A} {o : Option A} → o ≡ None → o ≡ Some x → ⊥
some_none e f = cc

pub none_some : {A : Type 0} {x : A} → None ≡ Some x → ⊥
none_some e = cc

-- ---- what a token that comes first rules out

-- a token of this kind
abbrev pub at : Kind → Span → Placed
at v s = record { kind = v; span = s }

-- what holds where a token of a kind comes, holds of each token of that kind
pub first_is : (P : List Placed → Type 0) (t : Placed) (a : List Placed) (v : Kind) → t.kind ≡ v → P (at v t.span ∷ a) → P (t ∷ a)
first_is P t a v e h = subst (λ v. P (at v t.span ∷ a)) (sym e) h

-- an operator of a level is no dot, no operator of a tighter level, no shift where those are tighter, and no parenthesis
term_at : (l : Level) (v : Kind) (s : Span) (a : List Placed) (o : BinOp) → operator_at l v ≡ Some o → AfterOperand l (at v s ∷ a) × (is_sign sign.OpenParen v ≡ false)
term_at level.Or (ASign sign.Or) s a o e = ((refl, refl, refl, refl, refl, refl), refl)
term_at level.Xor (ASign sign.Xor) s a o e = ((refl, refl, refl, refl, refl), refl)
term_at level.And (ASign sign.And) s a o e = ((refl, refl, refl, refl), refl)
term_at level.Sum (ASign sign.Plus) s a o e = ((refl, refl), refl)
term_at level.Sum (ASign sign.Minus) s a o e = ((refl, refl), refl)
term_at level.Product (ASign sign.Star) s a o e = (refl, refl)
term_at _ _ s a o e = absurd (none_some e)

pub term_first : (l : Level) (t : Placed) (a : List Placed) (o : BinOp) → operator_at l t.kind ≡ Some o → AfterOperand l (t ∷ a)
term_first l t a o e = (term_at l t.kind t.span a o e).0

shift_at : (v : Kind) (s : Span) (a : List Placed) (o : ShOp) → shift_operator v ≡ Some o → AfterChain level.Sum (at v s ∷ a) × (is_sign sign.OpenParen v ≡ false)
shift_at (ASign sign.ShiftLeft) s a o e = (((refl, refl), refl), refl)
shift_at (ASign sign.ShiftRight) s a o e = (((refl, refl), refl), refl)
shift_at (ASign sign.ShiftSigned) s a o e = (((refl, refl), refl), refl)
shift_at (ASign sign.Rotate) s a o e = (((refl, refl), refl), refl)
shift_at _ s a o e = absurd (none_some e)

pub shift_first : (t : Placed) (a : List Placed) (o : ShOp) → shift_operator t.kind ≡ Some o → AfterChain level.Sum (t ∷ a)
shift_first t a o e = (shift_at t.kind t.span a o e).0

compare_at : (v : Kind) (s : Span) (a : List Placed) (o : Cmp) → comparison v ≡ Some o → AfterChain level.Or (at v s ∷ a) × (is_sign sign.OpenParen v ≡ false)
compare_at (ASign sign.Equal) s a o e = (((refl, refl, refl, refl, refl, refl), refl), refl)
compare_at (ASign sign.NotEqual) s a o e = (((refl, refl, refl, refl, refl, refl), refl), refl)
compare_at (ASign sign.Less) s a o e = (((refl, refl, refl, refl, refl, refl), refl), refl)
compare_at (ASign sign.NotLess) s a o e = (((refl, refl, refl, refl, refl, refl), refl), refl)
compare_at (ASign sign.LessU) s a o e = (((refl, refl, refl, refl, refl, refl), refl), refl)
compare_at (ASign sign.NotLessU) s a o e = (((refl, refl, refl, refl, refl, refl), refl), refl)
compare_at _ s a o e = absurd (none_some e)

pub compare_first : (t : Placed) (a : List Placed) (o : Cmp) → comparison t.kind ≡ Some o → AfterChain level.Or (t ∷ a)
compare_first t a o e = (compare_at t.kind t.span a o e).0

-- the signs that end an expression
abbrev pub ends_expr : Sign → Bool
ends_expr sign.OpenParen = true
ends_expr sign.CloseParen = true
ends_expr sign.OpenBrace = true
ends_expr sign.CloseBrace = true
ends_expr sign.Greater = true
ends_expr sign.Comma = true
ends_expr sign.Semicolon = true
ends_expr sign.Assign = true
ends_expr _ = false

closed : (w : Sign) (s : Span) (a : List Placed) → ends_expr w ≡ true → AfterExpr (at (ASign w) s ∷ a)
closed sign.OpenParen s a e = (((refl, refl, refl, refl, refl, refl), refl), refl)
closed sign.CloseParen s a e = (((refl, refl, refl, refl, refl, refl), refl), refl)
closed sign.OpenBrace s a e = (((refl, refl, refl, refl, refl, refl), refl), refl)
closed sign.CloseBrace s a e = (((refl, refl, refl, refl, refl, refl), refl), refl)
closed sign.Greater s a e = (((refl, refl, refl, refl, refl, refl), refl), refl)
closed sign.Comma s a e = (((refl, refl, refl, refl, refl, refl), refl), refl)
closed sign.Semicolon s a e = (((refl, refl, refl, refl, refl, refl), refl), refl)
closed sign.Assign s a e = (((refl, refl, refl, refl, refl, refl), refl), refl)
closed _ s a e = absurd (false_true e)

-- such a sign comes: `closing sign.Comma t a refl e`
pub closing : (w : Sign) (t : Placed) (a : List Placed) → ends_expr w ≡ true → Is w t → AfterExpr (t ∷ a)
closing w t a d e = first_is AfterExpr t a (ASign w) e (closed w t.span a d)

-- another sign comes: `no_sign sign.Comma t a _ e refl`
pub no_sign : (w : Sign) (t : Placed) (a : List Placed) (v : Kind) → t.kind ≡ v → is_sign w v ≡ false → NoSign w (t ∷ a)
no_sign w t a v e d = other_sign w t.kind v e d

pub no_handle : (t : Placed) (a : List Placed) (v : Kind) → t.kind ≡ v → is_word keyword.Handle v ≡ false → NoHandler (t ∷ a)
no_handle t a v e d = other_word keyword.Handle t.kind v e d

-- the sign comes that doesn't
pub sign_not : (w : Sign) (t : Placed) (a : List Placed) → Is w t → NoSign w (t ∷ a) → ⊥
sign_not w t a e h = false_true (sym h ∙ sign_true w t.kind e)

-- ---- from a level to the chains that its operands are

pub or_operand : (a : List Placed) → AfterOperand level.Or a → AfterChain level.Xor a
or_operand a h = ((h.0, h.1, h.2, h.3, h.4), h.5)

pub xor_operand : (a : List Placed) → AfterOperand level.Xor a → AfterChain level.And a
xor_operand a h = ((h.0, h.1, h.2, h.3), h.4)

pub and_operand : (a : List Placed) → AfterOperand level.And a → AfterChain level.Sum a
and_operand a h = ((h.0, h.1), h.2)

pub sum_operand : (a : List Placed) → AfterOperand level.Sum a → AfterChain level.Product a
sum_operand a h = (h.0, h.1)

-- ---- what a part begins with

-- the tokens begin with one that passes the test
abbrev pub Begins : (Kind → Bool) → List Placed → Type 0
Begins test [] = ⊥
Begins test (t ∷ a) = test t.kind ≡ true

-- the kinds that begin a primary, an expression, a shape, a statement
abbrev pub begins_primary : Kind → Bool
begins_primary (Number i) = true
begins_primary (Name x) = true
begins_primary Base = true
begins_primary Biw = true
begins_primary (ASign sign.OpenParen) = true
begins_primary (ASign sign.Less) = true
begins_primary _ = false

abbrev pub begins_expr : Kind → Bool
begins_expr (Number i) = true
begins_expr (Name x) = true
begins_expr Base = true
begins_expr Biw = true
begins_expr (ASign sign.OpenParen) = true
begins_expr (ASign sign.Less) = true
begins_expr (ASign sign.Minus) = true
begins_expr (Reserved keyword.Lds) = true
begins_expr (Reserved keyword.Ldb) = true
begins_expr _ = false

abbrev pub is_width : ℕ → Bool
is_width zero = false
is_width (suc n) = true

abbrev pub begins_shape : Kind → Bool
begins_shape (Number i) = is_width i
begins_shape (ASign sign.OpenBrace) = true
begins_shape _ = false

abbrev pub begins_stmt : Kind → Bool
begins_stmt (Name x) = true
begins_stmt (Store n) = true
begins_stmt (Foreign x) = true
begins_stmt (Reserved keyword.Skip) = true
begins_stmt (Reserved keyword.Var) = true
begins_stmt (Reserved keyword.St) = true
begins_stmt (Reserved keyword.Stb) = true
begins_stmt (Reserved keyword.If) = true
begins_stmt (Reserved keyword.While) = true
begins_stmt (Reserved keyword.Break) = true
begins_stmt (Reserved keyword.Continue) = true
begins_stmt (Reserved keyword.Return) = true
begins_stmt (Reserved keyword.Raise) = true
begins_stmt _ = false

-- a token that begins no such part comes: `begins_not begins_expr t a _ e h refl`
pub begins_not : (test : Kind → Bool) (t : Placed) (a : List Placed) (v : Kind) → t.kind ≡ v → Begins test (t ∷ a) → test v ≡ false → ⊥
begins_not test t a v e h d = false_true (sym d ∙ sym (ap test e) ∙ h)

wide : (n : ℕ) → 2 ≤ n → is_width n ≡ true
wide zero h = absurd (omega arith)
wide (suc n) h = refl

-- ---- what comes behind a part

pub shifts_after : {b c : List Placed} {ns : List (ShOp × ℕ)} → Shifts b c ns → AfterOperand level.And c → AfterChain level.Sum b
shifts_after (no_shift a) h = and_operand a h
shifts_after (next_shift t u a b o n ns e f p) h = shift_first t (u ∷ a) o e

module _ (May : ℕ → List Placed → Type 0) where
  pub terms_after : {l : Level} {k : ℕ} {b c : List Placed} {xs : List (BinOp × Expr)} → Terms May l k b c xs → AfterChain l c → AfterOperand l b
  terms_after (no_term l k a) h = h.0
  terms_after (next_term l k t a b c o x xs e p m) h = term_first l t a o e

  pub more_exprs_after : {k : ℕ} {b c : List Placed} {xs : List Expr} → MoreExprs May k b c xs → AfterExpr c → AfterExpr b
  more_exprs_after (no_expr k a) h = h
  more_exprs_after (next_expr k t a b c x xs e p m) h = closing sign.Comma t a refl e

  pub block_after : {k : ℕ} {b c : List Placed} {x : Block} → ABlock May k b c x → AfterExpr b
  block_after (block k t u a b xs e m p f) = closing sign.OpenBrace t a refl e

  -- ---- what a part begins with

  pub primary_begins : {k : ℕ} {a b : List Placed} {x : Expr} → Primary May k a b x → Begins begins_primary a
  primary_begins (number k t a n e) = ap begins_primary e
  primary_begins (variable k t a x e) = ap begins_primary e
  primary_begins (base k t a e) = ap begins_primary e
  primary_begins (biw k t a e) = ap begins_primary e
  primary_begins (parentheses k t u a b x e m p f) = ap begins_primary e
  primary_begins (struct k t u a b c x xs e m p q f) = ap begins_primary e

  primary_begins_expr : {k : ℕ} {a b : List Placed} {x : Expr} → Primary May k a b x → Begins begins_expr a
  primary_begins_expr (number k t a n e) = ap begins_expr e
  primary_begins_expr (variable k t a x e) = ap begins_expr e
  primary_begins_expr (base k t a e) = ap begins_expr e
  primary_begins_expr (biw k t a e) = ap begins_expr e
  primary_begins_expr (parentheses k t u a b x e m p f) = ap begins_expr e
  primary_begins_expr (struct k t u a b c x xs e m p q f) = ap begins_expr e

  mutual
    pub expr_begins : {k : ℕ} {a b : List Placed} {x : Expr} → AnExpr May k a b x → Begins begins_expr a
    expr_begins (no_comparison k a b x p) = chain_begins p
    expr_begins (one_comparison k t a b c o x y p e q) = chain_begins p

    pub chain_begins : {l : Level} {k : ℕ} {a b : List Placed} {x : Expr} → Chain May l k a b x → Begins begins_expr a
    chain_begins (chained l k a b c x ys p m) = operand_begins p

    pub operand_begins : {l : Level} {k : ℕ} {a b : List Placed} {x : Expr} → Operand May l k a b x → Begins begins_expr a
    operand_begins (of_or k a b x p) = chain_begins p
    operand_begins (of_xor k a b x p) = chain_begins p
    operand_begins (of_and k a b x p) = shift_begins p
    operand_begins (of_sum k a b x p) = chain_begins p
    operand_begins (of_product k a b x p) = unary_begins p

    pub shift_begins : {k : ℕ} {a b : List Placed} {x : Expr} → AShift May k a b x → Begins begins_expr a
    shift_begins (shift k a b c x ns p m) = chain_begins p

    pub unary_begins : {k : ℕ} {a b : List Placed} {x : Expr} → Unary May k a b x → Begins begins_expr a
    unary_begins (negation k t a b x e m p) = ap begins_expr e
    unary_begins (load_words k t a b c z x e m p q) = ap begins_expr e
    unary_begins (load_byte k t a b x e m p) = ap begins_expr e
    unary_begins (postfix k a b c x is p m) = primary_begins_expr p

  pub shape_begins : {k : ℕ} {a b : List Placed} {z : Shape} → AShape May k a b z → Begins begins_shape a
  shape_begins (one_word k t a e) = ap begins_shape e
  shape_begins (many_words k t a n e l) = ap begins_shape e ∙ wide n l
  shape_begins (group k t u a b c x xs e m p q f) = ap begins_shape e

  pub plain_begins : {k : ℕ} {a b : List Placed} {f : List ℕ} {xs : List Expr} → Plain May k a b f xs → Begins begins_stmt a
  plain_begins (plain k t u v a b f xs e g p h) = ap begins_stmt e

  pub stmt_begins : {k : ℕ} {a b : List Placed} {x : Stmt} → AStmt May k a b x → Begins begins_stmt a
  stmt_begins (skip k t u a e f) = ap begins_stmt e
  stmt_begins (declaration k t u v a b x y e f g p) = ap begins_stmt e
  stmt_begins (declaration_call k t u v a b x f ys h e m g p) = ap begins_stmt e
  stmt_begins (assignment k t u a b x y e f p) = ap begins_stmt e
  stmt_begins (assignment_call k t u a b x f ys h e m p) = ap begins_stmt e
  stmt_begins (shared_load k t u v a b x n y e f g p) = ap begins_stmt e
  stmt_begins (call k a b f ys h (call_end _ t _ c _ _ _ _ p m e)) = plain_begins p
  stmt_begins (store_words k t a b x y e p) = ap begins_stmt e
  stmt_begins (store_byte k t a b x y e p) = ap begins_stmt e
  stmt_begins (branch k t u a b c d x y z e p q f r) = ap begins_stmt e
  stmt_begins (loop k t a b c x y e p q) = ap begins_stmt e
  stmt_begins (break k t u a e f) = ap begins_stmt e
  stmt_begins (continue k t u a e f) = ap begins_stmt e
  stmt_begins (return k t a b x e p) = ap begins_stmt e
  stmt_begins (tail_call k t u a b f xs e p g) = ap begins_stmt e
  stmt_begins (raise k t u a b x y e f p) = ap begins_stmt e
  stmt_begins (shared_store k t a b n x y e p) = ap begins_stmt e
  stmt_begins (foreign k t u v w m n o a b c d f x p q r z e f1 p1 f2 p2 f3 p3 f4 p4 f5 f6) = ap begins_stmt e

  pub exception_begins : {a b : List Placed} {x : Exception} → AnException May a b x → Begins (is_word keyword.Exception) a
  exception_begins (exception t u v a b x z e f p g) = word_true keyword.Exception t.kind e

  pub function_begins : {a b : List Placed} {x : Function} → AFunction May a b x → Begins (is_word keyword.Fun) a
  function_begins (function t u v w a b c d z f xs y e p n o q r s) = word_true keyword.Fun t.kind e

  -- a block or the program ends where no statement comes
  pub not_close : {k : ℕ} {t : Placed} {a b : List Placed} {x : Stmt} → AStmt May k (t ∷ a) b x → Is sign.CloseBrace t → ⊥
  not_close {t = t} {a = a} p e = begins_not begins_stmt t a (ASign sign.CloseBrace) e (stmt_begins p) refl

  -- ---- an expression that begins with a name is no call: behind the name is no parenthesis, unless one is behind the whole expression

  fields_paren : {a b : List Placed} {is : List ℕ} → Fields a b is → NoSign sign.OpenParen b → NoSign sign.OpenParen a
  fields_paren (no_field a) h = h
  fields_paren (next_field t u a b i is e f p) h = no_sign sign.OpenParen t (u ∷ a) _ e refl

  shifts_paren : {a b : List Placed} {ns : List (ShOp × ℕ)} → Shifts a b ns → NoSign sign.OpenParen b → NoSign sign.OpenParen a
  shifts_paren (no_shift a) h = h
  shifts_paren (next_shift t u a b o n ns e f p) h = (shift_at t.kind t.span (u ∷ a) o e).1

  terms_paren : {l : Level} {k : ℕ} {a b : List Placed} {xs : List (BinOp × Expr)} → Terms May l k a b xs → NoSign sign.OpenParen b → NoSign sign.OpenParen a
  terms_paren (no_term l k a) h = h
  terms_paren (next_term l k t a b c o x xs e p m) h = (term_at l t.kind t.span a o e).1

  mutual
    pub name_expr : {k : ℕ} {t : Placed} {a b : List Placed} {x : Expr} {y : List ℕ} → AnExpr May k (t ∷ a) b x → IsName y t → NoSign sign.OpenParen b → NoSign sign.OpenParen a
    name_expr (no_comparison k _ b x p) n h = name_chain p n h
    name_expr (one_comparison k t _ b c o x y p e q) n h = name_chain p n (compare_at t.kind t.span b o e).1

    name_chain : {l : Level} {k : ℕ} {t : Placed} {a b : List Placed} {x : Expr} {y : List ℕ} → Chain May l k (t ∷ a) b x → IsName y t → NoSign sign.OpenParen b → NoSign sign.OpenParen a
    name_chain (chained l k _ b c x ys p m) n h = name_operand p n (terms_paren m h)

    name_operand : {l : Level} {k : ℕ} {t : Placed} {a b : List Placed} {x : Expr} {y : List ℕ} → Operand May l k (t ∷ a) b x → IsName y t → NoSign sign.OpenParen b → NoSign sign.OpenParen a
    name_operand (of_or k _ b x p) n h = name_chain p n h
    name_operand (of_xor k _ b x p) n h = name_chain p n h
    name_operand (of_and k _ b x p) n h = name_shift p n h
    name_operand (of_sum k _ b x p) n h = name_chain p n h
    name_operand (of_product k _ b x p) n h = name_unary p n h

    name_shift : {k : ℕ} {t : Placed} {a b : List Placed} {x : Expr} {y : List ℕ} → AShift May k (t ∷ a) b x → IsName y t → NoSign sign.OpenParen b → NoSign sign.OpenParen a
    name_shift (shift k _ b c x ns p m) n h = name_chain p n (shifts_paren m h)

    name_unary : {k : ℕ} {t : Placed} {a b : List Placed} {x : Expr} {y : List ℕ} → Unary May k (t ∷ a) b x → IsName y t → NoSign sign.OpenParen b → NoSign sign.OpenParen a
    name_unary (negation k t a b x e m p) n h = absurd (apart t.kind _ _ e n refl)
    name_unary (load_words k t a b c z x e m p q) n h = absurd (apart t.kind _ _ e n refl)
    name_unary (load_byte k t a b x e m p) n h = absurd (apart t.kind _ _ e n refl)
    name_unary (postfix k _ b c x is p m) n h = name_primary p n (fields_paren m h)

    name_primary : {k : ℕ} {t : Placed} {a b : List Placed} {x : Expr} {y : List ℕ} → Primary May k (t ∷ a) b x → IsName y t → NoSign sign.OpenParen b → NoSign sign.OpenParen a
    name_primary (number k t a i e) n h = absurd (apart t.kind _ _ e n refl)
    name_primary (variable k t a x e) n h = h
    name_primary (base k t a e) n h = absurd (apart t.kind _ _ e n refl)
    name_primary (biw k t a e) n h = absurd (apart t.kind _ _ e n refl)
    name_primary (parentheses k t u a b x e m p f) n h = absurd (apart t.kind _ _ e n refl)
    name_primary (struct k t u a b c x xs e m p q f) n h = absurd (apart t.kind _ _ e n refl)
