-- The tokens spell one shape and one expression.
use Rattle.std.proofs.Common.{◌≡◌, ℕ, ◌+◌, false, List, ◌∷◌, Option, Some, sym, ap, ap₂, ◌∙◌, subst, refl, nat_eq, arith}
use Rattle.pan_base.specs.declared.operators.BinOp.{BinOp}
use Rattle.pan_base.specs.declared.operators.ShOp.{ShOp}
use Rattle.pan_base.specs.declared.tokens.Sign.TheVariants as sign
use Rattle.pan_base.specs.Tokens.{Placed, Kind, Name, Number, Base, Biw, ASign}
use Rattle.pan_tree.specs.declared.level.Level.{Level}
use Rattle.pan_tree.specs.declared.level.Level.TheVariants as level
use Rattle.pan_tree.specs.declared.shape.Shape.{Shape}
use Rattle.pan_tree.specs.declared.shape.Shape.TheVariants as width
use Rattle.pan_tree.specs.declared.syntax.ExprKind.TheVariants as expr
use Rattle.pan_tree.specs.Nodes.{Expr, node, chain, shifted, field, operator_at, shift_operator, comparison}
use Rattle.pan_tree.specs.Grammar.{Is, Shifts, no_shift, next_shift, Fields, no_field, next_field, AShape, one_word, many_words, group, MoreShapes, no_shape, next_shape, AnExpr, no_comparison, one_comparison, Chain, chained, Operand, of_or, of_xor, of_and, of_sum, of_product, Terms, no_term, next_term, AShift, shift, Unary, negation, load_words, load_byte, postfix, Primary, number, variable, base, biw, parentheses, struct, MoreExprs, no_expr, next_expr}
use Rattle.pan_parser.specs.Follow.{NoSign, NoTerm, NoShift, NoCompare, AfterOperand, AfterChain, AfterExpr}
use Rattle.pan_parser.proofs.Ends.{apart, kind_order, some_none, sign_not, no_sign, closing, compare_first, terms_after, shifts_after, more_exprs_after, or_operand, xor_operand, sum_operand, Begins, begins_primary, begins_not, primary_begins}

-- the two ends, and the two trees
abbrev pub Same : {X : Type 0} → List Placed → List Placed → X → X → Type 0
Same b c x y = (b ≡ c) × (x ≡ y)

-- ---- equal tokens

pub head_of : {t u : Placed} {a b : List Placed} → t ∷ a ≡ u ∷ b → t.kind ≡ u.kind
head_of e = cc

pub tail_of : {t u : Placed} {a b : List Placed} → t ∷ a ≡ u ∷ b → a ≡ b
tail_of e = cc

-- equal lists don't begin with two kinds
pub clash : {t u : Placed} {a b : List Placed} {v w : Kind} → t ∷ a ≡ u ∷ b → t.kind ≡ v → u.kind ≡ w → nat_eq (kind_order v) (kind_order w) ≡ false → ⊥
clash {t = t} {v = v} {w = w} e m n d = apart t.kind v w m (head_of e ∙ n) d

pub same_number : {t u : Placed} {a b : List Placed} {m n : ℕ} → t ∷ a ≡ u ∷ b → t.kind ≡ Number m → u.kind ≡ Number n → m ≡ n
same_number e f g = cc (head_of e)

pub same_name : {t u : Placed} {a b : List Placed} {m n : List ℕ} → t ∷ a ≡ u ∷ b → t.kind ≡ Name m → u.kind ≡ Name n → m ≡ n
same_name e f g = cc (head_of e)

-- what a token is, by one function of its kind
pub same_by : {A : Type 0} {t u : Placed} {a b : List Placed} {m n : A} (f : Kind → Option A) → t ∷ a ≡ u ∷ b → f t.kind ≡ Some m → f u.kind ≡ Some n → m ≡ n
same_by f e g h = same_some (sym g ∙ ap f (head_of e) ∙ h)
  where
    same_some : {A : Type 0} {m n : A} → Some m ≡ Some n → m ≡ n
    same_some e = cc

-- ---- equal nodes

pub same_node : {X : Type 0} {a b c f : List Placed} {x y : X} → a ≡ b → c ≡ f → x ≡ y → node a c x ≡ node b f y
same_node {b = b} {c = c} {f = f} {x = x} p q r = ap (λ a. node a c x) p ∙ ap (λ c. node b c x) q ∙ ap (node b f) r

-- the same of one beginning
pub same_end : {X : Type 0} {c f : List Placed} {x y : X} (a : List Placed) → c ≡ f → x ≡ y → node a c x ≡ node a f y
same_end {f = f} {x = x} a p q = ap (λ c. node a c x) p ∙ ap (node a f) q

same_chain : {a b c f : List Placed} {x y : Expr} {xs ys : List (BinOp × Expr)} → a ≡ b → c ≡ f → x ≡ y → xs ≡ ys → chain a c x xs ≡ chain b f y ys
same_chain {b = b} {c = c} {f = f} {x = x} {y = y} {xs = xs} p q r s = ap (λ a. chain a c x xs) p ∙ ap (λ c. chain b c x xs) q ∙ ap (λ x. chain b f x xs) r ∙ ap (chain b f y) s

same_shift : {a b c f : List Placed} {x y : Expr} {xs ys : List (ShOp × ℕ)} → a ≡ b → c ≡ f → x ≡ y → xs ≡ ys → shifted a c x xs ≡ shifted b f y ys
same_shift {b = b} {c = c} {f = f} {x = x} {y = y} {xs = xs} p q r s = ap (λ a. shifted a c x xs) p ∙ ap (λ c. shifted b c x xs) q ∙ ap (λ x. shifted b f x xs) r ∙ ap (shifted b f y) s

same_field : {a b c f : List Placed} {x y : Expr} {xs ys : List ℕ} → a ≡ b → c ≡ f → x ≡ y → xs ≡ ys → field a c x xs ≡ field b f y ys
same_field {b = b} {c = c} {f = f} {x = x} {y = y} {xs = xs} p q r s = ap (λ a. field a c x xs) p ∙ ap (λ c. field b c x xs) q ∙ ap (λ x. field b f x xs) r ∙ ap (field b f y) s

pub same_more : {A : Type 0} {x y : A} {xs ys : List A} → x ≡ y → xs ≡ ys → x ∷ xs ≡ y ∷ ys
same_more p q = ap₂ (λ x xs. x ∷ xs) p q

-- ---- shifts and fields

pub unique_shifts : {a b c f : List Placed} {ns ms : List (ShOp × ℕ)} → Shifts a c ns → Shifts b f ms → a ≡ b → NoShift c → NoShift f → Same c f ns ms
unique_shifts (no_shift a) (no_shift b) e h i = (e, refl)
unique_shifts (no_shift a) (next_shift t u b f o n ns m m2 p) e h i = absurd (some_none (subst NoShift e h) m)
unique_shifts (next_shift t u a c o n ns m m2 p) (no_shift b) e h i = absurd (some_none (subst NoShift (sym e) i) m)
unique_shifts (next_shift t u a c o n ns m m2 p) (next_shift t3 u3 b f o3 n3 ns3 m3 m4 q) e h i =
    let rest = unique_shifts p q (tail_of (tail_of e)) h i in
    (rest.0, same_more (ap₂ (λ o n. (o, n)) (same_by shift_operator e m m3) (same_number (tail_of e) m2 m4)) rest.1)

pub unique_fields : {a b c f : List Placed} {is js : List ℕ} → Fields a c is → Fields b f js → a ≡ b → NoSign sign.Dot c → NoSign sign.Dot f → Same c f is js
unique_fields (no_field a) (no_field b) e h i = (e, refl)
unique_fields (no_field a) (next_field t u b f n ns m m2 p) e h i = absurd (sign_not sign.Dot t (u ∷ b) m (subst (NoSign sign.Dot) e h))
unique_fields (next_field t u a c n ns m m2 p) (no_field b) e h i = absurd (sign_not sign.Dot t (u ∷ a) m (subst (NoSign sign.Dot) (sym e) i))
unique_fields (next_field t u a c n ns m m2 p) (next_field t3 u3 b f n3 ns3 m3 m4 q) e h i =
    let rest = unique_fields p q (tail_of (tail_of e)) h i in
    (rest.0, same_more (same_number (tail_of e) m2 m4) rest.1)

-- ---- a primary by its first token

-- what spells x between u ∷ a and b, where the kind of u is given
abbrev PrimaryBy : (ℕ → List Placed → Type 0) → Kind → ℕ → Placed → List Placed → List Placed → Expr → Type 0
PrimaryBy May (Number n) k u a b x = (a ≡ b) × (x ≡ node (u ∷ a) b (expr.Number n))
PrimaryBy May (Name y) k u a b x = (a ≡ b) × (x ≡ node (u ∷ a) b (expr.Var y))
PrimaryBy May Base k u a b x = (a ≡ b) × (x ≡ node (u ∷ a) b expr.Base)
PrimaryBy May Biw k u a b x = (a ≡ b) × (x ≡ node (u ∷ a) b expr.Biw)
PrimaryBy May (ASign sign.OpenParen) k u a b x = (v : Placed) × AnExpr May (k + 1) a (v ∷ b) x × Is sign.CloseParen v
PrimaryBy May (ASign sign.Less) k u a b x =
    (v : Placed) × (c : List Placed) × (y : Expr) × (ys : List Expr) × AnExpr May (k + 1) a c y × MoreExprs May (k + 1) c (v ∷ b) ys × Is sign.Greater v
    × (x ≡ node (u ∷ a) b (expr.Struct (y ∷ ys)))
PrimaryBy May _ k u a b x = ⊥

primary_by : (May : ℕ → List Placed → Type 0) {k : ℕ} {u : Placed} {a b : List Placed} {x : Expr} → Primary May k (u ∷ a) b x → PrimaryBy May u.kind k u a b x
primary_by May (number k t a n e) = subst (λ v. PrimaryBy May v k t a a (node (t ∷ a) a (expr.Number n))) (sym e) (refl, refl)
primary_by May (variable k t a x e) = subst (λ v. PrimaryBy May v k t a a (node (t ∷ a) a (expr.Var x))) (sym e) (refl, refl)
primary_by May (base k t a e) = subst (λ v. PrimaryBy May v k t a a (node (t ∷ a) a expr.Base)) (sym e) (refl, refl)
primary_by May (biw k t a e) = subst (λ v. PrimaryBy May v k t a a (node (t ∷ a) a expr.Biw)) (sym e) (refl, refl)
primary_by May (parentheses k t u a b x e m p f) = subst (λ v. PrimaryBy May v k t a b x) (sym e) (u, p, f)
primary_by May (struct k t u a b c x xs e m p q f) = subst (λ v. PrimaryBy May v k t a c (node (t ∷ a) c (expr.Struct (x ∷ xs)))) (sym e) (u, b, x, xs, p, q, f, refl)

-- where equal tokens begin with a token of this kind
primary_as : (May : ℕ → List Placed → Type 0) (t : Placed) (a : List Placed) (v : Kind) {k : ℕ} {b c : List Placed} {x : Expr} → t ∷ a ≡ b → t.kind ≡ v → Primary May k b c x → PrimaryBy May v k t a c x
primary_as May t a v {k = k} {c = c} {x = x} e m p = subst (λ v. PrimaryBy May v k t a c x) m (primary_by May (subst (λ b. Primary May k b c x) (sym e) p))

module _ (M N : ℕ → List Placed → Type 0) where
  -- ---- shapes

  mutual
    pub unique_shape : {k j : ℕ} {a b c f : List Placed} {z w : Shape} → AShape M k a c z → AShape N j b f w → a ≡ b → Same c f z w
    unique_shape (one_word k t a m) (one_word j u b n) e = (tail_of e, refl)
    unique_shape (one_word k t a m) (many_words j u b i n l) e = let same = same_number e m n in absurd (omega arith)
    unique_shape (one_word k t a m) (group j t3 u3 b b3 c3 x3 xs3 n m3 p3 q3 n3) e = absurd (clash e m n refl)
    unique_shape (many_words k t a i m l) (one_word j u b n) e = let same = same_number e m n in absurd (omega arith)
    unique_shape (many_words k t a i m l) (many_words j u b i3 n l3) e = (tail_of e, ap width.Words (same_number e m n))
    unique_shape (many_words k t a i m l) (group j t3 u3 b b3 c3 x3 xs3 n m3 p3 q3 n3) e = absurd (clash e m n refl)
    unique_shape (group k t u a b c x xs m o p q r) (one_word j t3 b3 n) e = absurd (clash e m n refl)
    unique_shape (group k t u a b c x xs m o p q r) (many_words j t3 b3 i n l) e = absurd (clash e m n refl)
    unique_shape (group k t u a b c x xs m o p q r) (group j t3 u3 a3 b3 c3 x3 xs3 m3 o3 p3 q3 r3) e =
        let one = unique_shape p p3 (tail_of e) in
        let rest = unique_shapes q q3 one.0 (no_sign sign.Comma u c _ r refl) (no_sign sign.Comma u3 c3 _ r3 refl) in
        (tail_of rest.0, ap width.Group (same_more one.1 rest.1))

    unique_shapes : {k j : ℕ} {a b c f : List Placed} {zs ws : List Shape} → MoreShapes M k a c zs → MoreShapes N j b f ws → a ≡ b → NoSign sign.Comma c → NoSign sign.Comma f → Same c f zs ws
    unique_shapes (no_shape k a) (no_shape j b) e h i = (e, refl)
    unique_shapes (no_shape k a) (next_shape j t b c f x xs n p q) e h i = absurd (sign_not sign.Comma t b n (subst (NoSign sign.Comma) e h))
    unique_shapes (next_shape k t a b c x xs m p q) (no_shape j b3) e h i = absurd (sign_not sign.Comma t a m (subst (NoSign sign.Comma) (sym e) i))
    unique_shapes (next_shape k t a b c x xs m p q) (next_shape j t3 a3 b3 c3 x3 xs3 m3 p3 q3) e h i =
        let one = unique_shape p p3 (tail_of e) in
        let rest = unique_shapes q q3 one.0 h i in
        (rest.0, same_more one.1 rest.1)

  -- ---- expressions

  mutual
    pub unique_expr : {k j : ℕ} {a b c f : List Placed} {x y : Expr} → AnExpr M k a c x → AnExpr N j b f y → a ≡ b → AfterExpr c → AfterExpr f → Same c f x y
    unique_expr (no_comparison k a c x p) (no_comparison j b f y q) e h i = unique_chain p q e h.0 i.0
    unique_expr (no_comparison k a c x p) (one_comparison j t b d f o y z q m r) e h i =
        let one = unique_chain p q e h.0 (compare_first t d o m) in
        absurd (some_none (subst NoCompare one.0 h.1) m)
    unique_expr (one_comparison k t a b c o x z p m r) (no_comparison j d f y q) e h i =
        let one = unique_chain p q e (compare_first t b o m) i.0 in
        absurd (some_none (subst NoCompare (sym one.0) i.1) m)
    unique_expr (one_comparison k t a b c o x y p m q) (one_comparison j t3 a3 b3 c3 o3 x3 y3 p3 m3 q3) e h i =
        let one = unique_chain p p3 e (compare_first t b o m) (compare_first t3 b3 o3 m3) in
        let two = unique_chain q q3 (tail_of one.0) h.0 i.0 in
        (two.0, same_node e two.0 (ap (λ o. expr.Compare o x y) (same_by comparison one.0 m m3) ∙ ap₂ (expr.Compare o3) one.1 two.1))

    unique_chain : {l : Level} {k j : ℕ} {a b c f : List Placed} {x y : Expr} → Chain M l k a c x → Chain N l j b f y → a ≡ b → AfterChain l c → AfterChain l f → Same c f x y
    unique_chain (chained l k a b c x ys p m) (chained _ j a3 b3 c3 x3 ys3 p3 m3) e h i =
        let one = unique_operand p p3 e (terms_after M m h) (terms_after N m3 i) in
        let rest = unique_terms m m3 one.0 h i in
        (rest.0, same_chain e rest.0 one.1 rest.1)

    unique_operand : {l : Level} {k j : ℕ} {a b c f : List Placed} {x y : Expr} → Operand M l k a c x → Operand N l j b f y → a ≡ b → AfterOperand l c → AfterOperand l f → Same c f x y
    unique_operand (of_or k a c x p) (of_or j b f y q) e h i = unique_chain p q e (or_operand c h) (or_operand f i)
    unique_operand (of_xor k a c x p) (of_xor j b f y q) e h i = unique_chain p q e (xor_operand c h) (xor_operand f i)
    unique_operand (of_and k a c x p) (of_and j b f y q) e h i = unique_shift p q e h i
    unique_operand (of_sum k a c x p) (of_sum j b f y q) e h i = unique_chain p q e (sum_operand c h) (sum_operand f i)
    unique_operand (of_product k a c x p) (of_product j b f y q) e h i = unique_unary p q e h i

    unique_terms : {l : Level} {k j : ℕ} {a b c f : List Placed} {xs ys : List (BinOp × Expr)} → Terms M l k a c xs → Terms N l j b f ys → a ≡ b → AfterChain l c → AfterChain l f → Same c f xs ys
    unique_terms (no_term l k a) (no_term _ j b) e h i = (e, refl)
    unique_terms (no_term l k a) (next_term _ j t b c f o y ys m p q) e h i = absurd (some_none (subst (NoTerm l) e h.1) m)
    unique_terms (next_term l k t a b c o x xs m p q) (no_term _ j b3) e h i = absurd (some_none (subst (NoTerm l) (sym e) i.1) m)
    unique_terms (next_term l k t a b c o x xs m p q) (next_term _ j t3 a3 b3 c3 o3 x3 xs3 m3 p3 q3) e h i =
        let one = unique_operand p p3 (tail_of e) (terms_after M q h) (terms_after N q3 i) in
        let rest = unique_terms q q3 one.0 h i in
        (rest.0, same_more (ap₂ (λ o x. (o, x)) (same_by (operator_at l) e m m3) one.1) rest.1)

    unique_shift : {k j : ℕ} {a b c f : List Placed} {x y : Expr} → AShift M k a c x → AShift N j b f y → a ≡ b → AfterOperand level.And c → AfterOperand level.And f → Same c f x y
    unique_shift (shift k a b c x ns p m) (shift j a3 b3 c3 x3 ns3 p3 m3) e h i =
        let one = unique_chain p p3 e (shifts_after m h) (shifts_after m3 i) in
        let rest = unique_shifts m m3 one.0 h.3 i.3 in
        (rest.0, same_shift e rest.0 one.1 rest.1)

    unique_unary : {k j : ℕ} {a b c f : List Placed} {x y : Expr} → Unary M k a c x → Unary N j b f y → a ≡ b → NoSign sign.Dot c → NoSign sign.Dot f → Same c f x y
    unique_unary (negation k t a b x m o p) (negation j t3 a3 b3 x3 m3 o3 p3) e h i =
        let one = unique_unary p p3 (tail_of e) h i in
        (one.0, same_node e one.0 (ap expr.Neg one.1))
    unique_unary (load_words k t a b c z x m o p q) (load_words j t3 a3 b3 c3 z3 x3 m3 o3 p3 q3) e h i =
        let one = unique_shape p p3 (tail_of e) in
        let two = unique_unary q q3 one.0 h i in
        (two.0, same_node e two.0 (ap₂ expr.Load one.1 two.1))
    unique_unary (load_byte k t a b x m o p) (load_byte j t3 a3 b3 x3 m3 o3 p3) e h i =
        let one = unique_unary p p3 (tail_of e) h i in
        (one.0, same_node e one.0 (ap expr.LoadByte one.1))
    unique_unary (postfix k a b c x is p m) (postfix j a3 b3 c3 x3 is3 p3 m3) e h i =
        let one = unique_primary p p3 e in
        let rest = unique_fields m m3 one.0 h i in
        (rest.0, same_field e rest.0 one.1 rest.1)
    unique_unary (negation k t a b x m o p) (load_words j t3 a3 b3 c3 z3 x3 n o3 p3 q3) e h i = absurd (clash e m n refl)
    unique_unary (negation k t a b x m o p) (load_byte j t3 a3 b3 x3 n o3 p3) e h i = absurd (clash e m n refl)
    unique_unary (load_words k t a b c z x m o p q) (negation j t3 a3 b3 x3 n o3 p3) e h i = absurd (clash e m n refl)
    unique_unary (load_words k t a b c z x m o p q) (load_byte j t3 a3 b3 x3 n o3 p3) e h i = absurd (clash e m n refl)
    unique_unary (load_byte k t a b x m o p) (negation j t3 a3 b3 x3 n o3 p3) e h i = absurd (clash e m n refl)
    unique_unary (load_byte k t a b x m o p) (load_words j t3 a3 b3 c3 z3 x3 n o3 p3 q3) e h i = absurd (clash e m n refl)
    unique_unary (negation k t a b x m o p) (postfix j a3 b3 c3 x3 is3 p3 m3) e h i = absurd (begins_not begins_primary t a _ m (subst (Begins begins_primary) (sym e) (primary_begins N p3)) refl)
    unique_unary (load_words k t a b c z x m o p q) (postfix j a3 b3 c3 x3 is3 p3 m3) e h i = absurd (begins_not begins_primary t a _ m (subst (Begins begins_primary) (sym e) (primary_begins N p3)) refl)
    unique_unary (load_byte k t a b x m o p) (postfix j a3 b3 c3 x3 is3 p3 m3) e h i = absurd (begins_not begins_primary t a _ m (subst (Begins begins_primary) (sym e) (primary_begins N p3)) refl)
    unique_unary (postfix k a b c x is p m) (negation j t3 a3 b3 x3 n o3 p3) e h i = absurd (begins_not begins_primary t3 a3 _ n (subst (Begins begins_primary) e (primary_begins M p)) refl)
    unique_unary (postfix k a b c x is p m) (load_words j t3 a3 b3 c3 z3 x3 n o3 p3 q3) e h i = absurd (begins_not begins_primary t3 a3 _ n (subst (Begins begins_primary) e (primary_begins M p)) refl)
    unique_unary (postfix k a b c x is p m) (load_byte j t3 a3 b3 x3 n o3 p3) e h i = absurd (begins_not begins_primary t3 a3 _ n (subst (Begins begins_primary) e (primary_begins M p)) refl)

    unique_primary : {k j : ℕ} {a b c f : List Placed} {x y : Expr} → Primary M k a c x → Primary N j b f y → a ≡ b → Same c f x y
    unique_primary (number k t a n m) q e = let by = primary_as N t a (Number n) e m q in (by.0, same_end (t ∷ a) by.0 refl ∙ sym by.1)
    unique_primary (variable k t a y m) q e = let by = primary_as N t a (Name y) e m q in (by.0, same_end (t ∷ a) by.0 refl ∙ sym by.1)
    unique_primary (base k t a m) q e = let by = primary_as N t a Base e m q in (by.0, same_end (t ∷ a) by.0 refl ∙ sym by.1)
    unique_primary (biw k t a m) q e = let by = primary_as N t a Biw e m q in (by.0, same_end (t ∷ a) by.0 refl ∙ sym by.1)
    unique_primary {f = f} (parentheses k t u a b x m o p n) q e =
        let by = primary_as N t a (ASign sign.OpenParen) e m q in
        let one = unique_expr p by.1 refl (closing sign.CloseParen u b refl n) (closing sign.CloseParen by.0 f refl by.2) in
        (tail_of one.0, one.1)
    unique_primary {f = f} (struct k t u a b c x xs m o p r n) q e =
        let by = primary_as N t a (ASign sign.Less) e m q in
        let end = closing sign.Greater u c refl n in
        let end_by = closing sign.Greater by.0 f refl by.6 in
        let one = unique_expr p by.4 refl (more_exprs_after M r end) (more_exprs_after N by.5 end_by) in
        let rest = unique_exprs r by.5 one.0 end end_by (no_sign sign.Comma u c _ n refl) (no_sign sign.Comma by.0 f _ by.6 refl) in
        (tail_of rest.0, same_end (t ∷ a) (tail_of rest.0) (ap expr.Struct (same_more one.1 rest.1)) ∙ sym by.7)

    pub unique_exprs : {k j : ℕ} {a b c f : List Placed} {xs ys : List Expr} → MoreExprs M k a c xs → MoreExprs N j b f ys → a ≡ b → AfterExpr c → AfterExpr f → NoSign sign.Comma c → NoSign sign.Comma f → Same c f xs ys
    unique_exprs (no_expr k a) (no_expr j b) e h i o r = (e, refl)
    unique_exprs (no_expr k a) (next_expr j t b c f x xs n p q) e h i o r = absurd (sign_not sign.Comma t b n (subst (NoSign sign.Comma) e o))
    unique_exprs (next_expr k t a b c x xs m p q) (no_expr j b3) e h i o r = absurd (sign_not sign.Comma t a m (subst (NoSign sign.Comma) (sym e) r))
    unique_exprs (next_expr k t a b c x xs m p q) (next_expr j t3 a3 b3 c3 x3 xs3 m3 p3 q3) e h i o r =
        let one = unique_expr p p3 (tail_of e) (more_exprs_after M q h) (more_exprs_after N q3 i) in
        let rest = unique_exprs q q3 one.0 h i o r in
        (rest.0, same_more one.1 rest.1)
