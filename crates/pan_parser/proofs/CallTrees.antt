-- The trees of calls, and of expressions up to a `;`.
use Rattle.std.proofs.Common.{◌≡◌, ℕ, List, [], ◌∷◌, sym, ap, ◌∙◌, subst}
use Rattle.pan_base.specs.declared.tokens.Sign.{Sign}
use Rattle.pan_base.specs.declared.tokens.Sign.TheVariants as sign
use Rattle.pan_base.specs.Tokens.{Placed, Name, ASign}
use Rattle.pan_lexer.specs.TokenRow.{TokenRow}
use Rattle.pan_tree.specs.Nodes.{Expr}
use Rattle.pan_tree.specs.Grammar.{Within, AnExpr, MoreExprs, Arguments, no_argument, arguments, Plain, plain, ExprEnd, expr_end, TwoExprs, two_exprs}
use Rattle.pan_parser.specs.Reading.{left, IsOne, SomeExprs, ClosedArguments, ExprThen}

pub no_arguments : (row : TokenRow) (k at after : ℕ) (xs : List Expr) → IsOne row at after (ASign sign.CloseParen) → xs ≡ [] → ClosedArguments k (left row at) (left row after) xs
no_arguments row k at after xs close none = record {
  close = close.token;
  is = close.is;
  arguments = subst (Arguments Within k (left row at) (close.token ∷ left row after)) (sym none)
      (subst (λ b. Arguments Within k (left row at) b []) close.comes.all (no_argument k (left row at)));
}

pub some_arguments : (row : TokenRow) (k at b after : ℕ) (xs : List Expr) → SomeExprs k (left row at) (left row b) xs → IsOne row b after (ASign sign.CloseParen)
    → ClosedArguments k (left row at) (left row after) xs
some_arguments row k at b after xs parts close =
    let more : MoreExprs Within k parts.between (close.token ∷ left row after) parts.others = subst (λ d. MoreExprs Within k parts.between d parts.others) close.comes.all parts.more in
    record {
      close = close.token;
      is = close.is;
      arguments = subst (Arguments Within k (left row at) (close.token ∷ left row after)) (sym parts.are)
          (arguments k (left row at) parts.between (close.token ∷ left row after) parts.one parts.others parts.first more);
    }

pub plain_tree : (row : TokenRow) (k at b c after : ℕ) (f : List ℕ) (xs : List Expr) → IsOne row at b (Name f) → IsOne row b c (ASign sign.OpenParen)
    → ClosedArguments k (left row c) (left row after) xs → Plain Within k (left row at) (left row after) f xs
plain_tree row k at b c after f xs name paren closed =
    let all : left row at ≡ name.token ∷ paren.token ∷ left row c = name.comes.all ∙ ap (λ a. name.token ∷ a) paren.comes.all in
    subst (λ a. Plain Within k a (left row after) f xs) (sym all)
    (plain k name.token paren.token closed.close (left row c) (left row after) f xs name.is paren.is closed.arguments closed.is)

pub expr_then_tree : (row : TokenRow) (w : Sign) (k at b after : ℕ) (x : Expr) → AnExpr Within k (left row at) (left row b) x → IsOne row b after (ASign w)
    → ExprThen w k (left row at) (left row after) x
expr_then_tree row w k at b after x p close = record { close = close.token; is = close.is; tree = subst (λ b. AnExpr Within k (left row at) b x) close.comes.all p }

pub expr_end_tree : (k : ℕ) (a c : List Placed) (x : Expr) → ExprThen sign.Semicolon k a c x → ExprEnd Within k a c x
expr_end_tree k a c x p = expr_end k p.close a c x p.tree p.is

pub two_exprs_tree : (k : ℕ) (a b c : List Placed) (x y : Expr) → ExprThen sign.Comma k a b x → ExprEnd Within k b c y → TwoExprs Within k a c x y
two_exprs_tree k a b c x y p q = two_exprs k p.close a b c x y p.tree p.is q
