-- What has been read of chains and of lists of expressions.
use Rattle.std.proofs.Common.{ℕ, ◌<◌, ◌≤◌, if◌then◌else◌, List, [], ◌∷◌, ◌++◌, length, sym, ap, subst, refl, arith, append_assoc, append-nil}
use Rattle.pan_base.specs.declared.operators.BinOp.{BinOp}
use Rattle.pan_base.specs.declared.tokens.Sign.TheVariants as sign
use Rattle.pan_base.specs.Tokens.{Placed, ASign}
use Rattle.pan_lexer.specs.TokenRow.{TokenRow}
use Rattle.pan_tree.specs.declared.level.Level.{Level}
use Rattle.pan_tree.specs.declared.level.Level.TheVariants as level
use Rattle.pan_tree.specs.Nodes.{Expr, operator_at}
use Rattle.pan_tree.specs.Grammar.{nesting_limit, Within, AnExpr, MoreExprs, no_expr, next_expr, Operand, Terms, no_term, next_term}
use Rattle.pan_parser.specs.Machine.{WantExpr, MoreExprs as AlsoExprs, WantOperand, MoreTerms, Goes, continues, is_sign, step}
use Rattle.pan_parser.specs.Reading.{left, IsOne, Means, Reads, SomeExprs}
use Rattle.pan_parser.proofs.Ways.{Passes, on, one_read, goes}

-- ---- ranks of the functions, by what each calls with no token read

abbrev pub operand_rank : Level → ℕ
operand_rank level.Or = 12
operand_rank level.Xor = 10
operand_rank level.And = 8
operand_rank level.Sum = 5
operand_rank level.Product = 3

abbrev pub chain_rank : Level → ℕ
chain_rank level.Or = 13
chain_rank level.Xor = 11
chain_rank level.And = 9
chain_rank level.Sum = 6
chain_rank level.Product = 4

-- ---- lists

pub record ExprsSo (row : TokenRow) (k from at : ℕ) (parts : List Expr) : Type 0 where
  pub tree : (c : List Placed) (ys : List Expr) → MoreExprs Within k (left row at) c ys → SomeExprs k (left row from) c (parts ++ ys)
  pub way : Passes (WantExpr k ∷ AlsoExprs k ∷ []) (left row from) (AlsoExprs k ∷ []) (left row at)
  pub ahead : from < at
  pub within : at ≤ length row.tokens

comma_goes : (row : TokenRow) (k at after : ℕ) → IsOne row at after (ASign sign.Comma) → Passes (AlsoExprs k ∷ []) (left row at) (WantExpr k ∷ AlsoExprs k ∷ []) (left row after)
comma_goes row k at after comma = goes row at after comma.token (AlsoExprs k ∷ []) (WantExpr k ∷ AlsoExprs k ∷ []) comma.comes
    (λ K. ap (λ v. if is_sign sign.Comma v then Goes (WantExpr k ∷ AlsoExprs k ∷ K) else step nesting_limit K comma.token) comma.is)

pub exprs_one : (row : TokenRow) (k from after : ℕ) (z : Expr) → AnExpr Within k (left row from) (left row after) z → Reads (WantExpr k ∷ []) (left row from) (left row after)
    → (from < after) × (after ≤ length row.tokens) → ExprsSo row k from after (z ∷ [])
exprs_one row k from after z one reads ahead = record {
  tree = λ c ys more. record { one = z; others = ys; are = refl; between = left row after; first = one; more = more };
  way = one_read reads;
  ahead = ahead.0;
  within = ahead.1;
}

pub exprs_more : (row : TokenRow) (k from at b after : ℕ) (parts : List Expr) (z : Expr) → ExprsSo row k from at parts → IsOne row at b (ASign sign.Comma)
    → AnExpr Within k (left row b) (left row after) z → Reads (WantExpr k ∷ []) (left row b) (left row after) → (b < after) × (after ≤ length row.tokens)
    → ExprsSo row k from after (parts ++ z ∷ [])
exprs_more row k from at b after parts z so comma one reads ahead = record {
  tree = λ c ys more.
      subst (SomeExprs k (left row from) c) (sym (append_assoc parts (z ∷ []) ys))
      (so.tree c (z ∷ ys) (subst (λ a. MoreExprs Within k a c (z ∷ ys)) (sym comma.comes.all) (next_expr k comma.token (left row b) (left row after) c z ys comma.is one more)));
  way = on so.way (on (comma_goes row k at b comma) (one_read reads));
  ahead = omega (arith, so.ahead, comma.comes.ahead, ahead.0);
  within = ahead.1;
}

pub exprs_done : (row : TokenRow) (k from at : ℕ) (parts : List Expr) → ExprsSo row k from at parts → SomeExprs k (left row from) (left row at) parts
exprs_done row k from at parts so = subst (SomeExprs k (left row from) (left row at)) (append-nil parts) (so.tree (left row at) [] (no_expr k (left row at)))

-- ---- chains

pub record TermsSo (row : TokenRow) (l : Level) (k from at : ℕ) (terms : List (BinOp × Expr)) : Type 0 where
  pub tree : (c : List Placed) (ys : List (BinOp × Expr)) → Terms Within l k (left row at) c ys → Terms Within l k (left row from) c (terms ++ ys)
  pub way : Passes (MoreTerms l k ∷ []) (left row from) (MoreTerms l k ∷ []) (left row at)
  pub ahead : from ≤ at
  pub within : at ≤ length row.tokens

operator_goes : (row : TokenRow) (l : Level) (k at after : ℕ) (o : BinOp) → Means row at after (operator_at l) o
    → Passes (MoreTerms l k ∷ []) (left row at) (WantOperand l k ∷ MoreTerms l k ∷ []) (left row after)
operator_goes row l k at after o m = goes row at after m.token (MoreTerms l k ∷ []) (WantOperand l k ∷ MoreTerms l k ∷ []) m.comes
    (λ K. ap (λ o. continues o (WantOperand l k ∷ MoreTerms l k ∷ K) (step nesting_limit K m.token)) m.is)

pub terms_more : (row : TokenRow) (l : Level) (k from at b after : ℕ) (terms : List (BinOp × Expr)) (o : BinOp) (z : Expr) → TermsSo row l k from at terms → Means row at b (operator_at l) o
    → Operand Within l k (left row b) (left row after) z → Reads (WantOperand l k ∷ []) (left row b) (left row after) → (b < after) × (after ≤ length row.tokens)
    → TermsSo row l k from after (terms ++ (o, z) ∷ [])
terms_more row l k from at b after terms o z so m one reads ahead = record {
  tree = λ c ys more.
      subst (Terms Within l k (left row from) c) (sym (append_assoc terms ((o, z) ∷ []) ys))
      (so.tree c ((o, z) ∷ ys) (subst (λ a. Terms Within l k a c ((o, z) ∷ ys)) (sym m.comes.all) (next_term l k m.token (left row b) (left row after) c o z ys m.is one more)));
  way = on so.way (on (operator_goes row l k at b o m) (one_read reads));
  ahead = omega (arith, so.ahead, m.comes.ahead, ahead.0);
  within = ahead.1;
}

pub terms_done : (row : TokenRow) (l : Level) (k from at : ℕ) (terms : List (BinOp × Expr)) → TermsSo row l k from at terms → Terms Within l k (left row from) (left row at) terms
terms_done row l k from at terms so = subst (Terms Within l k (left row from) (left row at)) (append-nil terms) (so.tree (left row at) [] (no_term l k (left row at)))
