-- An expression that makes a failing step gives nothing.
use Rattle.std.proofs.Common.{◌≡◌, ℕ, zero, suc, List, [], ◌∷◌, map, Option, Some, None, slice_get, refl, sym, ap, subst, ◌∙◌}
use Rattle.std.specs.Prelude.{option_map, option_and_then}
use Rattle.pan_base.specs.Words.{operate, negate, truth}
use Rattle.pan_base.specs.declared.operators.BinOp.{BinOp}
use Rattle.pan_control.specs.Memory.{byte_at, words_at}
use Rattle.pan_tree.specs.Nodes.{Expr}
use Rattle.pan_tree.specs.Value.{Value, Word, Struct, values_of, part_of_part}
use Rattle.pan_tree.specs.Shapes.{words_of, filled}
use Rattle.pan_tree.specs.Meaning as source
use Rattle.pan_tree.specs.Meaning.{Scopes, Giving, as_word, all_given, shifted, value_layer, value_kind, value}
use Rattle.pan_tree.specs.declared.spanned.Spanned.{Spanned}
use Rattle.pan_tree.specs.declared.syntax.ExprKind.{ExprKind, ExprKind-F, out-ExprKind, roll-out-ExprKind, map-ExprKind}
use Rattle.pan_tree.specs.declared.syntax.ExprKind.TheOpen as expr
use Rattle.pan_tree.specs.declared.syntax.ExprKind.TheVariants as variant
use Rattle.check_soundness.specs.FailingSteps.{parts_layer, MakesFailingStep, reads_words, reads_byte, in_part}
use Rattle.check_soundness.proofs.ShapedExprs.{value_roll}

module _ (v : Scopes) (m : List ℕ) where
  abbrev giving : Spanned ExprKind → Spanned Giving
  giving e = record { kind = value_kind e.kind; span = e.span }

  abbrev Nothing : Expr → Type 0
  Nothing a = value_kind a.kind v m ≡ None

  only_part : (e a : Expr) (i : ℕ) → slice_get (e ∷ []) i ≡ Some a → Nothing a → Nothing e
  only_part e a zero h none = let is : e ≡ a = cc in subst Nothing (sym is) none
  only_part e a (suc i) h none = absurd cc

  all_nothing : (es : List Expr) (i : ℕ) (a : Expr) → slice_get es i ≡ Some a → Nothing a → all_given (map (λ (e : Spanned Giving). e.kind v m) (map giving es)) ≡ None
  all_nothing [] i a h none = absurd cc
  all_nothing (e ∷ es) zero a h none = let is : e ≡ a = cc in ap (λ o. all_given (o ∷ map (λ (e : Spanned Giving). e.kind v m) (map giving es))) (subst Nothing (sym is) none)
  all_nothing (e ∷ es) (suc i) a h none = by (value_kind e.kind v m) (all_nothing es i a h none)
    where
      by : (o : Option Value) → all_given (map (λ (e : Spanned Giving). e.kind v m) (map giving es)) ≡ None → all_given (o ∷ map (λ (e : Spanned Giving). e.kind v m) (map giving es)) ≡ None
      by None rest = refl
      by (Some x) rest = ap (option_map (λ others. x ∷ others)) rest

  no_parts : (is : List ℕ) → part_of_part None is ≡ None
  no_parts [] = refl
  no_parts (i ∷ is) = no_parts is

  abbrev givings : List (BinOp × Expr) → List (BinOp × Spanned Giving)
  givings es = map (λ (e : BinOp × Expr). (e.0, giving e.1)) es

  no_chain : (es : List (BinOp × Expr)) → source.chain None (givings es) v m ≡ None
  no_chain [] = refl
  no_chain (e ∷ es) = refl

  chain_nothing : (es : List (BinOp × Expr)) (o : Option ℕ) (i : ℕ) (a : Expr) → slice_get (map (λ (p : BinOp × Expr). p.1) es) i ≡ Some a → Nothing a → source.chain o (givings es) v m ≡ None
  chain_nothing [] o i a h none = absurd cc
  chain_nothing (e ∷ es) None i a h none = refl
  chain_nothing (e ∷ es) (Some k) zero a h none =
      let is : e.1 ≡ a = cc in
      ap (λ (g : Option Value). source.chain (option_map (operate e.0 k) (as_word g)) (givings es) v m) (subst Nothing (sym is) none) ∙ no_chain es
  chain_nothing (e ∷ es) (Some k) (suc i) a h none = chain_nothing es (option_map (operate e.0 k) (as_word (value_kind (e.1).kind v m))) i a h none

  layer_nothing : (y : ExprKind-F ExprKind) (i : ℕ) (a : Expr) → slice_get (parts_layer y) i ≡ Some a → Nothing a → value_layer (map-ExprKind ExprKind Giving value_kind y) v m ≡ None
  layer_nothing (expr.Number n) i a h none = absurd cc
  layer_nothing (expr.Var x) i a h none = absurd cc
  layer_nothing expr.Base i a h none = absurd cc
  layer_nothing expr.Biw i a h none = absurd cc
  layer_nothing (expr.Struct es) i a h none = ap (option_map (λ vs. Struct (values_of vs))) (all_nothing es i a h none)
  layer_nothing (expr.Field e is) i a h none = ap (λ o. part_of_part o is) (only_part e a i h none) ∙ no_parts is
  layer_nothing (expr.Load s e) i a h none = ap (λ o. option_and_then (λ addr. option_map (filled s) (words_at m addr (words_of s))) (as_word o)) (only_part e a i h none)
  layer_nothing (expr.LoadByte e) i a h none = ap (λ o. option_map Word (option_and_then (byte_at m) (as_word o))) (only_part e a i h none)
  layer_nothing (expr.Neg e) i a h none = ap (λ o. option_map (λ n. Word (negate n)) (as_word o)) (only_part e a i h none)
  layer_nothing (expr.Chain e es) zero a h none = let is : Nothing e = only_part e a 0 h none in ap (λ o. option_map Word (source.chain (as_word o) (givings es) v m)) is ∙ ap (option_map Word) (no_chain es)
  layer_nothing (expr.Chain e es) (suc i) a h none = ap (option_map Word) (chain_nothing es (as_word (value_kind e.kind v m)) i a h none)
  layer_nothing (expr.Shift e ns) i a h none = ap (λ o. option_map (λ n. Word (shifted ns n)) (as_word o)) (only_part e a i h none)
  layer_nothing (expr.Compare c x y) zero a h none = ap (λ o. option_and_then (λ n. option_map (λ k. Word (truth c n k)) (as_word (value_kind y.kind v m))) (as_word o)) (only_part x a 0 h none)
  layer_nothing (expr.Compare c x y) (suc i) a h none = ap (λ o. option_and_then (λ n. option_map (λ k. Word (truth c n k)) (as_word o)) (as_word (value_kind x.kind v m))) (only_part y a i h none) ∙ never (as_word (value_kind x.kind v m))
    where
      never : (o : Option ℕ) → option_and_then (λ n. option_map (λ k. Word (truth c n k)) None) o ≡ None
      never None = refl
      never (Some n) = refl

  part_nothing : (k : ExprKind) (i : ℕ) (a : Expr) → slice_get (parts_layer (out-ExprKind k)) i ≡ Some a → Nothing a → value_kind k v m ≡ None
  part_nothing k i a h none =
      ap (λ k. value_kind k v m) (sym (roll-out-ExprKind k)) ∙ ap (λ (g : Giving). g v m) (value_roll (out-ExprKind k)) ∙ layer_nothing (out-ExprKind k) i a h none

  pub fails_nothing : (k : ExprKind) → MakesFailingStep v m k → value_kind k v m ≡ None
  fails_nothing k (reads_words s a addr is none) =
      ap (λ k. value_kind k v m) (sym (variant.rolls-Load s a)) ∙ ap (λ (g : Giving). g v m) (value_roll (expr.Load s a)) ∙ ap (option_and_then (λ addr. option_map (filled s) (words_at m addr (words_of s)))) is ∙ ap (option_map (filled s)) none
  fails_nothing k (reads_byte a addr is none) =
      ap (λ k. value_kind k v m) (sym (variant.rolls-LoadByte a)) ∙ ap (λ (g : Giving). g v m) (value_roll (expr.LoadByte a)) ∙ ap (λ o. option_map Word (option_and_then (byte_at m) o)) is ∙ ap (option_map Word) none
  fails_nothing k (in_part e i a is step) = part_nothing k i a is (fails_nothing a.kind step)
