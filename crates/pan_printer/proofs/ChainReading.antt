-- Printed chains are read as they are.
use Rattle.std.proofs.Common.{◌≡◌, ℕ, List, [], ◌∷◌, ◌++◌, map, Some, refl, sym, ap, ◌∙◌, subst}
use Rattle.pan_base.specs.declared.operators.BinOp.{BinOp}
use Rattle.pan_base.specs.declared.operators.BinOp.TheVariants as bin_op
use Rattle.pan_base.specs.declared.tokens.Sign.TheVariants as signs
use Rattle.pan_base.specs.Tokens.{Kind, Placed, ASign}
use Rattle.pan_tree.specs.declared.level.Level.{Level}
use Rattle.pan_tree.specs.declared.level.Level.TheVariants as level
use Rattle.pan_tree.specs.declared.syntax.ExprKind.TheVariants as e
use Rattle.pan_tree.specs.Nodes.{Expr, node, operator_at}
use Rattle.pan_tree.specs.Grammar.{Chain, chained, Operand, of_or, of_xor, of_and, of_sum, of_product, Terms, no_term, next_term}
use Rattle.pan_printer.specs.declared.binding.Binding.{Binding}
use Rattle.pan_printer.specs.declared.binding.Binding.TheVariants as binding
use Rattle.pan_printer.specs.Pieces.{Piece}
use Rattle.pan_printer.specs.Expressions.{tighter, written, at, operator_sign, operator_binding, kind_written}
use Rattle.pan_printer.specs.Unspanned.{unspanned_kind, unspanned_expr}
use Rattle.pan_printer.proofs.Begins.{Begins, done, next, split}
use Rattle.pan_printer.proofs.TokenTexts.{Good, good_append}
use Rattle.pan_printer.proofs.Spans.{unspanned_term, bare_chain}
use Rattle.pan_printer.proofs.ShapeReading.{May}
use Rattle.pan_printer.proofs.Places.{Binds, ReadsAt, ReadsExpr, read_at, good_at}
use Rattle.pan_printer.proofs.Layers.{terms_of}
use Rattle.pan_printer.proofs.ExprReading.{Again, bare_part}

-- how a chain of the level binds
abbrev pub level_binding : Level → Binding
level_binding level.Or = binding.Or
level_binding level.Xor = binding.Xor
level_binding level.And = binding.And
level_binding level.Sum = binding.Sum
level_binding level.Product = binding.Product

-- an operator of the level: so its chain binds, and its sign is one of the level's
pub record IsOf (l : Level) (o : BinOp) : Type 0 where
  pub binds : operator_binding o ≡ level_binding l
  pub signed : operator_at l (ASign (operator_sign o)) ≡ Some o

pub operator_is_of : (l : Level) (kind : Kind) (o : BinOp) → operator_at l kind ≡ Some o → IsOf l o
operator_is_of level.Or (ASign signs.Or) o h = let e : bin_op.Or ≡ o = cc in subst (IsOf level.Or) e (record { binds = refl; signed = refl })
operator_is_of level.Xor (ASign signs.Xor) o h = let e : bin_op.Xor ≡ o = cc in subst (IsOf level.Xor) e (record { binds = refl; signed = refl })
operator_is_of level.And (ASign signs.And) o h = let e : bin_op.And ≡ o = cc in subst (IsOf level.And) e (record { binds = refl; signed = refl })
operator_is_of level.Sum (ASign signs.Plus) o h = let e : bin_op.Add ≡ o = cc in subst (IsOf level.Sum) e (record { binds = refl; signed = refl })
operator_is_of level.Sum (ASign signs.Minus) o h = let e : bin_op.Sub ≡ o = cc in subst (IsOf level.Sum) e (record { binds = refl; signed = refl })
operator_is_of level.Product (ASign signs.Star) o h = let e : bin_op.Mul ≡ o = cc in subst (IsOf level.Product) e (record { binds = refl; signed = refl })
operator_is_of _ _ o h = absurd (cc)

operand : (l : Level) (k : ℕ) (a c : List Placed) (x : Expr) → Binds (tighter (level_binding l)) k a c x → Operand May l k a c x
operand level.Or k a c x d = of_or k a c x d
operand level.Xor k a c x d = of_xor k a c x d
operand level.And k a c x d = of_and k a c x d
operand level.Sum k a c x d = of_sum k a c x d
operand level.Product k a c x d = of_product k a c x d

a_chain : (l : Level) (k : ℕ) (a c : List Placed) (x : Expr) → Chain May l k a c x → Binds (level_binding l) k a c x
a_chain level.Or k a c x d = d
a_chain level.Xor k a c x d = d
a_chain level.And k a c x d = d
a_chain level.Sum k a c x d = d
a_chain level.Product k a c x d = d

-- ---- the operators of a chain

abbrev pub terms_at : Level → List (BinOp × Expr) → List Piece
terms_at l ys = terms_of (tighter (level_binding l)) ys

pub record ReadsTerms (l : Level) (k : ℕ) (a c : List Placed) (ys : List (BinOp × Expr)) : Type 0 where
  pub trees : List (BinOp × Expr)
  pub derives : Terms May l k a c trees
  pub same : map unspanned_term trees ≡ map unspanned_term ys

pub record TermsAgain (l : Level) (ys : List (BinOp × Expr)) : Type 0 where
  pub good : Good (terms_at l ys)
  pub reads : (k : ℕ) (a c : List Placed) → Begins (terms_at l ys) a c → ReadsTerms l k a c ys

no_terms_read : (l : Level) (k : ℕ) (a c : List Placed) → Begins [] a c → ReadsTerms l k a c []
no_terms_read l k _ _ (done c) = record { trees = []; derives = no_term l k c; same = refl }

pub no_terms_again : (l : Level) → TermsAgain l []
no_terms_again l = record { good = tt; reads = no_terms_read l }

terms_read : (l : Level) (o : BinOp) (y : Expr) (ys : List (BinOp × Expr)) → IsOf l o → Again y.kind → TermsAgain l ys → (k : ℕ) (a c : List Placed) → Begins (terms_at l ((o, y) ∷ ys)) a c → ReadsTerms l k a c ((o, y) ∷ ys)
terms_read l o y ys of_level r others k _ c (next _ t _ a _ is h) =
    let least : Binding = tighter (level_binding l) in
    let s = split (at least (kind_written y.kind)) (terms_at l ys) a c h in
    let z = read_at least (kind_written y.kind) y.kind r k a s.middle s.front in
    let zs = others.reads k s.middle c s.back in
    record {
      trees = (o, z.tree) ∷ zs.trees;
      derives = next_term l k t a s.middle c o z.tree zs.trees (ap (operator_at l) is ∙ of_level.signed) (operand l k a s.middle z.tree z.derives) zs.derives;
      same = ap (λ k. (o, bare_part k) ∷ map unspanned_term zs.trees) z.same ∙ ap (λ more. unspanned_term (o, y) ∷ more) zs.same;
    }

pub terms_again : (l : Level) (o : BinOp) (y : Expr) (ys : List (BinOp × Expr)) → IsOf l o → Again y.kind → TermsAgain l ys → TermsAgain l ((o, y) ∷ ys)
terms_again l o y ys of_level r others = record {
  good = (refl, good_append (at (tighter (level_binding l)) (kind_written y.kind)) (terms_at l ys) (good_at (tighter (level_binding l)) (kind_written y.kind) r.good) others.good);
  reads = terms_read l o y ys of_level r others;
}

-- ---- chains

abbrev chain_pieces : Binding → Expr → List (BinOp × Expr) → List Piece
chain_pieces b x ys = at (tighter b) (kind_written x.kind) ++ terms_of (tighter b) ys

chain_tree : (l : Level) (k : ℕ) (a m c : List Placed) (x : Expr) (y : BinOp × Expr) (ys : List (BinOp × Expr)) (z : Expr) (zs : List (BinOp × Expr)) → Operand May l k a m z → Terms May l k m c zs
    → unspanned_kind z.kind ≡ unspanned_kind x.kind → map unspanned_term zs ≡ map unspanned_term (y ∷ ys) → ReadsAt (level_binding l) k a c (e.Chain x (y ∷ ys))
chain_tree l k a m c x y ys z [] first others same all = absurd (cc)
chain_tree l k a m c x y ys z (t ∷ ts) first others same all = record {
  tree = node a c (e.Chain z (t ∷ ts));
  derives = a_chain l k a c (node a c (e.Chain z (t ∷ ts))) (chained l k a m c z (t ∷ ts) first others);
  same = bare_chain z (t ∷ ts) ∙ ap (λ k. e.Chain (bare_part k) (map unspanned_term (t ∷ ts))) same ∙ ap (e.Chain (unspanned_expr x)) all ∙ sym (bare_chain x (y ∷ ys));
}

chain_read : (l : Level) (x : Expr) (y : BinOp × Expr) (ys : List (BinOp × Expr)) → Again x.kind → TermsAgain l (y ∷ ys) → (k : ℕ) (a c : List Placed) → Begins (chain_pieces (level_binding l) x (y ∷ ys)) a c → ReadsAt (level_binding l) k a c (e.Chain x (y ∷ ys))
chain_read l x y ys r others k a c h =
    let least : Binding = tighter (level_binding l) in
    let s = split (at least (kind_written x.kind)) (terms_at l (y ∷ ys)) a c h in
    let z = read_at least (kind_written x.kind) x.kind r k a s.middle s.front in
    let zs = others.reads k s.middle c s.back in
    chain_tree l k a s.middle c x y ys z.tree zs.trees (operand l k a s.middle z.tree z.derives) zs.derives z.same zs.same

pub chain_again : (l : Level) (x : Expr) (y : BinOp × Expr) (ys : List (BinOp × Expr)) → IsOf l y.0 → Again x.kind → TermsAgain l (y ∷ ys) → ReadsExpr (written (operator_binding y.0) (chain_pieces (operator_binding y.0) x (y ∷ ys))) (e.Chain x (y ∷ ys))
chain_again l x y ys of_level r others =
    subst (λ b. ReadsExpr (written b (chain_pieces b x (y ∷ ys))) (e.Chain x (y ∷ ys))) (sym of_level.binds) (record {
      good = good_append (at (tighter (level_binding l)) (kind_written x.kind)) (terms_at l (y ∷ ys)) (good_at (tighter (level_binding l)) (kind_written x.kind) r.good) others.good;
      reads = chain_read l x y ys r others;
    })
