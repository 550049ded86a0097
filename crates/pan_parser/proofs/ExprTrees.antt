-- The trees of expressions.
use Rattle.std.proofs.Common.{◌≡◌, ℕ, ◌+◌, ◌<◌, List, ◌∷◌, sym, ap, ◌∙◌, subst, arith}
use Rattle.pan_base.specs.declared.operators.BinOp.{BinOp}
use Rattle.pan_base.specs.declared.operators.ShOp.{ShOp}
use Rattle.pan_base.specs.declared.operators.Cmp.{Cmp}
use Rattle.pan_base.specs.declared.tokens.Keyword.TheVariants as keyword
use Rattle.pan_base.specs.declared.tokens.Sign.TheVariants as sign
use Rattle.pan_base.specs.Tokens.{Placed, Number, Base, Biw, ASign}
use Rattle.pan_lexer.specs.TokenRow.{TokenRow}
use Rattle.pan_tree.specs.declared.level.Level.{Level}
use Rattle.pan_tree.specs.declared.level.Level.TheVariants as level
use Rattle.pan_tree.specs.declared.shape.Shape.{Shape}
use Rattle.pan_tree.specs.declared.syntax.ExprKind.{ExprKind}
use Rattle.pan_tree.specs.declared.syntax.ExprKind.TheVariants as e
use Rattle.pan_tree.specs.Nodes.{Expr, node, chain, shifted, field, comparison}
use Rattle.pan_tree.specs.Grammar.{Is, IsWord, IsName, nesting_limit, Within, AShape, Shifts, Fields, AnExpr, one_comparison, Chain, chained, Operand, Terms, AShift, shift, Unary, negation, load_words, load_byte, postfix, Primary, number, variable, base, biw, parentheses, struct, MoreExprs}
use Rattle.pan_parser.specs.Reading.{left, Comes, IsOne, Means, SomeExprs}

-- ---- what stands between operators

pub chain_tree : (l : Level) (k : ℕ) (a b c : List Placed) (x z : Expr) (ys : List (BinOp × Expr)) → Operand Within l k a b x → Terms Within l k b c ys → z ≡ chain a c x ys → Chain Within l k a c z
chain_tree l k a b c x z ys p q is = subst (Chain Within l k a c) (sym is) (chained l k a b c x ys p q)

pub shift_tree : (k : ℕ) (a b c : List Placed) (x z : Expr) (ns : List (ShOp × ℕ)) → Chain Within level.Sum k a b x → Shifts b c ns → z ≡ shifted a c x ns → AShift Within k a c z
shift_tree k a b c x z ns p q is = subst (AShift Within k a c) (sym is) (shift k a b c x ns p q)

pub postfix_tree : (k : ℕ) (a b c : List Placed) (x z : Expr) (is : List ℕ) → Primary Within k a b x → Fields b c is → z ≡ field a c x is → Unary Within k a c z
postfix_tree k a b c x z is p q same = subst (Unary Within k a c) (sym same) (postfix k a b c x is p q)

pub compare_tree : (row : TokenRow) (k at b next after : ℕ) (o : Cmp) (x y x2 y2 z : Expr) → Chain Within level.Or k (left row at) (left row b) x → Means row b next comparison o
    → Chain Within level.Or k (left row next) (left row after) y → x2 ≡ x → y2 ≡ y → z ≡ node (left row at) (left row after) (e.Compare o x2 y2)
    → AnExpr Within k (left row at) (left row after) z
compare_tree row k at b next after o x y x2 y2 z p m q one other is =
    subst (AnExpr Within k (left row at) (left row after)) (sym (is ∙ ap (λ x. node (left row at) (left row after) (e.Compare o x y2)) one ∙ ap (λ y. node (left row at) (left row after) (e.Compare o x y)) other))
    (one_comparison k m.token (left row at) (left row next) (left row after) o x y (subst (λ b. Chain Within level.Or k (left row at) b x) m.comes.all p) m.is q)

-- ---- prefix operators

pub negation_tree : (row : TokenRow) (k d at next after : ℕ) (t : Placed) (x x2 z : Expr) → Comes row at next t → Is sign.Minus t → (d ≡ k + 1) × (k < nesting_limit)
    → Unary Within d (left row next) (left row after) x → x2 ≡ x → z ≡ node (left row at) (left row after) (e.Neg x2) → Unary Within k (left row at) (left row after) z
negation_tree row k d at next after t x x2 z comes is deep p same whole =
    let inner : Unary Within (k + 1) (left row next) (left row after) x = subst (λ d. Unary Within d (left row next) (left row after) x) deep.0 p in
    subst (Unary Within k (left row at) (left row after)) (sym (whole ∙ ap (λ x. node (left row at) (left row after) (e.Neg x)) same))
    (subst (λ a. Unary Within k a (left row after) (node a (left row after) (e.Neg x))) (sym comes.all) (negation k t (left row next) (left row after) x is (omega (arith, deep.1)) inner))

pub load_byte_tree : (row : TokenRow) (k d at next after : ℕ) (t : Placed) (x x2 z : Expr) → Comes row at next t → IsWord keyword.Ldb t → (d ≡ k + 1) × (k < nesting_limit)
    → Unary Within d (left row next) (left row after) x → x2 ≡ x → z ≡ node (left row at) (left row after) (e.LoadByte x2) → Unary Within k (left row at) (left row after) z
load_byte_tree row k d at next after t x x2 z comes is deep p same whole =
    let inner : Unary Within (k + 1) (left row next) (left row after) x = subst (λ d. Unary Within d (left row next) (left row after) x) deep.0 p in
    subst (Unary Within k (left row at) (left row after)) (sym (whole ∙ ap (λ x. node (left row at) (left row after) (e.LoadByte x)) same))
    (subst (λ a. Unary Within k a (left row after) (node a (left row after) (e.LoadByte x))) (sym comes.all) (load_byte k t (left row next) (left row after) x is (omega (arith, deep.1)) inner))

pub load_words_tree : (row : TokenRow) (k d at next b after : ℕ) (t : Placed) (s : Shape) (x x2 z : Expr) → Comes row at next t → IsWord keyword.Lds t → (d ≡ k + 1) × (k < nesting_limit)
    → AShape Within d (left row next) (left row b) s → Unary Within d (left row b) (left row after) x → x2 ≡ x → z ≡ node (left row at) (left row after) (e.Load s x2)
    → Unary Within k (left row at) (left row after) z
load_words_tree row k d at next b after t s x x2 z comes is deep q p same whole =
    let inner : Unary Within (k + 1) (left row b) (left row after) x = subst (λ d. Unary Within d (left row b) (left row after) x) deep.0 p in
    let shape : AShape Within (k + 1) (left row next) (left row b) s = subst (λ d. AShape Within d (left row next) (left row b) s) deep.0 q in
    subst (Unary Within k (left row at) (left row after)) (sym (whole ∙ ap (λ x. node (left row at) (left row after) (e.Load s x)) same))
    (subst (λ a. Unary Within k a (left row after) (node a (left row after) (e.Load s x))) (sym comes.all) (load_words k t (left row next) (left row b) (left row after) s x is (omega (arith, deep.1)) shape inner))

-- ---- primaries

module _ (row : TokenRow) (k at next : ℕ) (t : Placed) (comes : Comes row at next t) where
  one_token : (z : Expr) (kind : ExprKind) → Primary Within k (t ∷ left row next) (left row next) (node (t ∷ left row next) (left row next) kind)
      → z ≡ node (left row at) (left row next) kind → Primary Within k (left row at) (left row next) z
  one_token z kind p whole =
      subst (Primary Within k (left row at) (left row next)) (sym whole)
      (subst (λ a. Primary Within k a (left row next) (node a (left row next) kind)) (sym comes.all) p)

  pub number_tree : (n : ℕ) (z : Expr) → t.kind ≡ Number n → z ≡ node (left row at) (left row next) (e.Number n) → Primary Within k (left row at) (left row next) z
  number_tree n z is = one_token z (e.Number n) (number k t (left row next) n is)

  pub base_tree : (z : Expr) → t.kind ≡ Base → z ≡ node (left row at) (left row next) e.Base → Primary Within k (left row at) (left row next) z
  base_tree z is = one_token z e.Base (base k t (left row next) is)

  pub biw_tree : (z : Expr) → t.kind ≡ Biw → z ≡ node (left row at) (left row next) e.Biw → Primary Within k (left row at) (left row next) z
  biw_tree z is = one_token z e.Biw (biw k t (left row next) is)

  pub variable_tree : (x y : List ℕ) (z : Expr) → IsName x t → y ≡ x → z ≡ node (left row at) (left row next) (e.Var y) → Primary Within k (left row at) (left row next) z
  variable_tree x y z is same whole = one_token z (e.Var x) (variable k t (left row next) x is) (whole ∙ ap (λ x. node (left row at) (left row next) (e.Var x)) same)

  pub parentheses_tree : (d b after : ℕ) (x : Expr) → Is sign.OpenParen t → (d ≡ k + 1) × (k < nesting_limit) → AnExpr Within d (left row next) (left row b) x → IsOne row b after (ASign sign.CloseParen)
      → Primary Within k (left row at) (left row after) x
  parentheses_tree d b after x is deep p close =
      let inner : AnExpr Within (k + 1) (left row next) (close.token ∷ left row after) x =
      subst (λ b. AnExpr Within (k + 1) (left row next) b x) close.comes.all (subst (λ d. AnExpr Within d (left row next) (left row b) x) deep.0 p) in
      subst (λ a. Primary Within k a (left row after) x) (sym comes.all) (parentheses k t close.token (left row next) (left row after) x is (omega (arith, deep.1)) inner close.is)

  pub struct_tree : (d b after : ℕ) (xs : List Expr) (z : Expr) → Is sign.Less t → (d ≡ k + 1) × (k < nesting_limit) → SomeExprs d (left row next) (left row b) xs → IsOne row b after (ASign sign.Greater)
      → z ≡ node (left row at) (left row after) (e.Struct xs) → Primary Within k (left row at) (left row after) z
  struct_tree d b after xs z is deep given close whole =
      let parts : SomeExprs (k + 1) (left row next) (left row b) xs = subst (λ d. SomeExprs d (left row next) (left row b) xs) deep.0 given in
      let more : MoreExprs Within (k + 1) parts.between (close.token ∷ left row after) parts.others = subst (λ d. MoreExprs Within (k + 1) parts.between d parts.others) close.comes.all parts.more in
      subst (Primary Within k (left row at) (left row after)) (sym (whole ∙ ap (λ xs. node (left row at) (left row after) (e.Struct xs)) parts.are))
      (subst (λ a. Primary Within k a (left row after) (node a (left row after) (e.Struct (parts.one ∷ parts.others)))) (sym comes.all)
      (struct k t close.token (left row next) parts.between (left row after) parts.one parts.others is (omega (arith, deep.1)) parts.first more close.is))
