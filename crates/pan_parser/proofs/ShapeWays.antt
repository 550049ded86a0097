-- The trees of shapes, and what has been read of a list of them.
use Rattle.std.proofs.Common.{◌≡◌, ℕ, zero, suc, ◌+◌, ◌<◌, ◌≤◌, if◌then◌else◌, List, [], ◌∷◌, ◌++◌, length, Some, sym, ap, subst, arith, append_assoc, append-nil}
use Rattle.pan_base.specs.declared.tokens.Sign.TheVariants as sign
use Rattle.pan_base.specs.Tokens.{Placed, Number, ASign}
use Rattle.pan_lexer.specs.TokenRow.{TokenRow}
use Rattle.pan_tree.specs.declared.shape.Shape.{Shape}
use Rattle.pan_tree.specs.declared.shape.Shape.TheVariants as shape
use Rattle.pan_tree.specs.Grammar.{Is, nesting_limit, Within, AShape, one_word, many_words, group, MoreShapes, no_shape, next_shape}
use Rattle.pan_parser.specs.Machine.{WantShape, MoreShapes as AlsoShapes, Goes, is_sign, step}
use Rattle.pan_parser.specs.Reading.{left, Comes, IsOne, Reads, SomeShapes, width}
use Rattle.pan_parser.proofs.Ways.{Passes, on, one_read, goes}

pub takes_width : (row : TokenRow) (k at after n : ℕ) (t : Placed) (z : Shape) → Comes row at after t → t.kind ≡ Number n → width n ≡ Some z
    → AShape Within k (left row at) (left row after) z
takes_width row k at after n t z comes is some = subst (λ a. AShape Within k a (left row after) z) (sym comes.all) (by_width n is some)
  where
    by_width : (n : ℕ) → t.kind ≡ Number n → width n ≡ Some z → AShape Within k (t ∷ left row after) (left row after) z
    by_width zero is some = absurd (cc)
    by_width (suc zero) is some = let same : shape.Word ≡ z = cc in subst (AShape Within k (t ∷ left row after) (left row after)) same (one_word k t (left row after) is)
    by_width (suc (suc n)) is some =
        let same : shape.Words (suc (suc n)) ≡ z = cc in
        subst (AShape Within k (t ∷ left row after) (left row after)) same (many_words k t (left row after) (suc (suc n)) is (omega arith))

pub takes_group : (row : TokenRow) (k d at b c after : ℕ) (t : Placed) (zs : List Shape) → Comes row at b t → Is sign.OpenBrace t → (d ≡ k + 1) × (k < nesting_limit)
    → SomeShapes d (left row b) (left row c) zs → IsOne row c after (ASign sign.CloseBrace) → AShape Within k (left row at) (left row after) (shape.Group zs)
takes_group row k d at b c after t zs comes is deep given close =
    let parts : SomeShapes (k + 1) (left row b) (left row c) zs = subst (λ d. SomeShapes d (left row b) (left row c) zs) deep.0 given in
    let more : MoreShapes Within (k + 1) parts.between (close.token ∷ left row after) parts.others = subst (λ d. MoreShapes Within (k + 1) parts.between d parts.others) close.comes.all parts.more in
    subst (λ a. AShape Within k a (left row after) (shape.Group zs)) (sym comes.all)
    (subst (λ zs. AShape Within k (t ∷ left row b) (left row after) (shape.Group zs)) (sym parts.are)
    (group k t close.token (left row b) parts.between (left row after) parts.one parts.others is (omega (arith, deep.1)) parts.first more close.is))

-- what has been read of a list
pub record ShapesSo (row : TokenRow) (k from at : ℕ) (parts : List Shape) : Type 0 where
  pub tree : (c : List Placed) (ys : List Shape) → MoreShapes Within k (left row at) c ys → SomeShapes k (left row from) c (parts ++ ys)
  pub way : Passes (WantShape k ∷ AlsoShapes k ∷ []) (left row from) (AlsoShapes k ∷ []) (left row at)
  pub ahead : from < at
  pub within : at ≤ length row.tokens

comma_goes : (row : TokenRow) (k at after : ℕ) → IsOne row at after (ASign sign.Comma) → Passes (AlsoShapes k ∷ []) (left row at) (WantShape k ∷ AlsoShapes k ∷ []) (left row after)
comma_goes row k at after comma = goes row at after comma.token (AlsoShapes k ∷ []) (WantShape k ∷ AlsoShapes k ∷ []) comma.comes
    (λ K. ap (λ v. if is_sign sign.Comma v then Goes (WantShape k ∷ AlsoShapes k ∷ K) else step nesting_limit K comma.token) comma.is)

pub shapes_more : (row : TokenRow) (k from at b after : ℕ) (parts : List Shape) (z : Shape) → ShapesSo row k from at parts → IsOne row at b (ASign sign.Comma)
    → AShape Within k (left row b) (left row after) z → Reads (WantShape k ∷ []) (left row b) (left row after) → (b < after) × (after ≤ length row.tokens)
    → ShapesSo row k from after (parts ++ z ∷ [])
shapes_more row k from at b after parts z so comma one reads ahead = record {
  tree = λ c ys more.
      subst (SomeShapes k (left row from) c) (sym (append_assoc parts (z ∷ []) ys))
      (so.tree c (z ∷ ys) (subst (λ a. MoreShapes Within k a c (z ∷ ys)) (sym comma.comes.all) (next_shape k comma.token (left row b) (left row after) c z ys comma.is one more)));
  way = on so.way (on (comma_goes row k at b comma) (one_read reads));
  ahead = omega (arith, so.ahead, comma.comes.ahead, ahead.0);
  within = ahead.1;
}

pub shapes_done : (row : TokenRow) (k from at : ℕ) (parts : List Shape) → ShapesSo row k from at parts → SomeShapes k (left row from) (left row at) parts
shapes_done row k from at parts so = subst (SomeShapes k (left row from) (left row at)) (append-nil parts) (so.tree (left row at) [] (no_shape k (left row at)))
