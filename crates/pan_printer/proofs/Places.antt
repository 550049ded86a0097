-- Expressions at places that ask for a binding.
use Rattle.std.proofs.Common.{◌≡◌, ℕ, zero, suc, ◌+◌, ◌-◌, ◌≤◌, Bool, true, false, List, [], ◌∷◌, ◌++◌, refl, sym, ap, ◌∙◌, subst, arith}
use Rattle.std.specs.Prelude.{nat_lt, if◌then◌else◌}
use Rattle.std.proofs.lemmas.Bool.Decides.{nat_tests}
use Rattle.pan_base.specs.declared.tokens.Sign.TheVariants as signs
use Rattle.pan_base.specs.Tokens.{Placed}
use Rattle.pan_tree.specs.declared.level.Level.TheVariants as level
use Rattle.pan_tree.specs.declared.syntax.ExprKind.{ExprKind}
use Rattle.pan_tree.specs.Nodes.{Expr}
use Rattle.pan_tree.specs.Grammar.{AnExpr, no_comparison, Chain, chained, of_or, of_xor, of_and, of_sum, of_product, no_term, AShift, shift, no_shift, Unary, postfix, no_field, Primary, parentheses}
use Rattle.pan_printer.specs.declared.binding.Binding.{Binding}
use Rattle.pan_printer.specs.declared.binding.Binding.TheVariants as binding
use Rattle.pan_printer.specs.Pieces.{sign}
use Rattle.pan_printer.specs.Expressions.{rank, tighter, Written, at}
use Rattle.pan_printer.specs.Unspanned.{unspanned_kind}
use Rattle.pan_printer.proofs.Begins.{Begins, done, next, split}
use Rattle.pan_printer.proofs.TokenTexts.{Good, good_append}
use Rattle.pan_printer.proofs.ShapeReading.{May}

-- the tokens before a tail spell what binds so at least
abbrev pub Binds : Binding → ℕ → List Placed → List Placed → Expr → Type 0
Binds binding.Comparison = AnExpr May
Binds binding.Or = Chain May level.Or
Binds binding.Xor = Chain May level.Xor
Binds binding.And = Chain May level.And
Binds binding.Shift = AShift May
Binds binding.Sum = Chain May level.Sum
Binds binding.Product = Chain May level.Product
Binds binding.Unary = Unary May
Binds binding.Field = Unary May
Binds binding.Primary = Primary May

-- what binds tighter binds so too
step : (b : Binding) (k : ℕ) (a c : List Placed) (x : Expr) → Binds (tighter b) k a c x → Binds b k a c x
step binding.Comparison k a c x d = no_comparison k a c x d
step binding.Or k a c x d = chained level.Or k a c c x [] (of_or k a c x d) (no_term level.Or k c)
step binding.Xor k a c x d = chained level.Xor k a c c x [] (of_xor k a c x d) (no_term level.Xor k c)
step binding.And k a c x d = chained level.And k a c c x [] (of_and k a c x d) (no_term level.And k c)
step binding.Shift k a c x d = shift k a c c x [] d (no_shift c)
step binding.Sum k a c x d = chained level.Sum k a c c x [] (of_sum k a c x d) (no_term level.Sum k c)
step binding.Product k a c x d = chained level.Product k a c c x [] (of_product k a c x d) (no_term level.Product k c)
step binding.Unary k a c x d = d
step binding.Field k a c x d = postfix k a c c x [] d (no_field c)
step binding.Primary k a c x d = d

-- so many steps tighter
abbrev raise : ℕ → Binding → Binding
raise zero b = b
raise (suc n) b = raise n (tighter b)

raise_rank : (b : Binding) → raise (rank b) binding.Comparison ≡ b
raise_rank binding.Comparison = refl
raise_rank binding.Or = refl
raise_rank binding.Xor = refl
raise_rank binding.And = refl
raise_rank binding.Shift = refl
raise_rank binding.Sum = refl
raise_rank binding.Product = refl
raise_rank binding.Unary = refl
raise_rank binding.Field = refl
raise_rank binding.Primary = refl

raise_add : (n m : ℕ) (b : Binding) → raise (n + m) b ≡ raise m (raise n b)
raise_add zero m b = let e : zero + m ≡ m = omega arith in ap (λ i. raise i b) e
raise_add (suc n) m b = let e : suc n + m ≡ suc (n + m) = omega arith in ap (λ i. raise i b) e ∙ raise_add n m (tighter b)

steps : (n : ℕ) (b : Binding) (k : ℕ) (a c : List Placed) (x : Expr) → Binds (raise n b) k a c x → Binds b k a c x
steps zero b k a c x d = d
steps (suc n) b k a c x d = step b k a c x (steps n (tighter b) k a c x d)

-- what binds tighter fits a place that asks for less
pub looser : (own least : Binding) → rank least ≤ rank own → (k : ℕ) (a c : List Placed) (x : Expr) → Binds own k a c x → Binds least k a c x
looser own least h k a c x d =
    let n : ℕ = rank own - rank least in
    let e : rank own ≡ rank least + n = omega arith in
    let is : own ≡ raise n least = sym (raise_rank own) ∙ ap (λ i. raise i binding.Comparison) e ∙ raise_add (rank least) n binding.Comparison ∙ ap (raise n) (raise_rank least) in
    steps n least k a c x (subst (λ b. Binds b k a c x) is d)

-- a tree that the tokens before a tail spell, and that is this one but for spans
pub record ReadsAt (b : Binding) (k : ℕ) (a c : List Placed) (x : ExprKind) : Type 0 where
  pub tree : Expr
  pub derives : Binds b k a c tree
  pub same : unspanned_kind tree.kind ≡ unspanned_kind x

-- The tokens of an expression that is written so can be printed, and are read as it.
pub record ReadsExpr (w : Written) (x : ExprKind) : Type 0 where
  pub good : Good w.pieces
  pub reads : (k : ℕ) (a c : List Placed) → Begins w.pieces a c → ReadsAt w.binding k a c x

-- ---- in parentheses or not

looser_at : (own least : Binding) → rank least ≤ rank own → (k : ℕ) (a c : List Placed) (x : ExprKind) → ReadsAt own k a c x → ReadsAt least k a c x
looser_at own least h k a c x r = record { tree = r.tree; derives = looser own least h k a c r.tree r.derives; same = r.same }

close : (k : ℕ) (t : Placed) (a m c : List Placed) (x : ExprKind) → t.kind ≡ (sign signs.OpenParen).kind → ReadsAt binding.Comparison (k + 1) a m x → Begins (sign signs.CloseParen ∷ []) m c → ReadsAt binding.Primary k (t ∷ a) c x
close k t a _ _ x opens r (next _ u _ _ _ closes (done c)) = record { tree = r.tree; derives = parentheses k t u a c r.tree opens tt r.derives closes; same = r.same }

in_parentheses : (w : Written) (x : ExprKind) → ReadsExpr w x → (k : ℕ) (a c : List Placed) → Begins (sign signs.OpenParen ∷ w.pieces ++ sign signs.CloseParen ∷ []) a c → ReadsAt binding.Primary k a c x
in_parentheses w x r k _ c (next _ t _ a _ is h) =
    let s = split w.pieces (sign signs.CloseParen ∷ []) a c h in
    close k t a s.middle c x is (looser_at w.binding binding.Comparison (omega arith) (k + 1) a s.middle x (r.reads (k + 1) a s.middle s.front)) s.back

rank_below : (b : Binding) → rank b ≤ 9
rank_below binding.Comparison = omega arith
rank_below binding.Or = omega arith
rank_below binding.Xor = omega arith
rank_below binding.And = omega arith
rank_below binding.Shift = omega arith
rank_below binding.Sum = omega arith
rank_below binding.Product = omega arith
rank_below binding.Unary = omega arith
rank_below binding.Field = omega arith
rank_below binding.Primary = omega arith

-- at a place the tokens are read as the expression
pub read_at : (least : Binding) (w : Written) (x : ExprKind) → ReadsExpr w x → (k : ℕ) (a c : List Placed) → Begins (at least w) a c → ReadsAt least k a c x
read_at least w x r k a c h = by_test (nat_lt (rank w.binding) (rank least)) refl h
  where
    by_test : (t : Bool) → nat_lt (rank w.binding) (rank least) ≡ t → Begins (if t then sign signs.OpenParen ∷ w.pieces ++ sign signs.CloseParen ∷ [] else w.pieces) a c → ReadsAt least k a c x
    by_test true e h = looser_at binding.Primary least (rank_below least) k a c x (in_parentheses w x r k a c h)
    by_test false e h = looser_at w.binding least (grind (arith, nat_tests)) k a c x (r.reads k a c h)

pub good_at : (least : Binding) (w : Written) → Good w.pieces → Good (at least w)
good_at least w g = by_test (nat_lt (rank w.binding) (rank least))
  where
    by_test : (t : Bool) → Good (if t then sign signs.OpenParen ∷ w.pieces ++ sign signs.CloseParen ∷ [] else w.pieces)
    by_test true = (refl, good_append w.pieces (sign signs.CloseParen ∷ []) g (refl, tt))
    by_test false = g

-- where any expression may stand
pub read_anywhere : (w : Written) (x : ExprKind) → ReadsExpr w x → (k : ℕ) (a c : List Placed) → Begins w.pieces a c → ReadsAt binding.Comparison k a c x
read_anywhere w x r k a c h = looser_at w.binding binding.Comparison (omega arith) k a c x (r.reads k a c h)
