-- A resolved expression gives what the source's gives.
use Rattle.std.proofs.Common.{◌≡◌, ℕ, List, [], ◌∷◌, map, Option, Some, None, refl, sym, ap, subst, ◌∙◌}
use Rattle.std.specs.Option.{option_map, option_and_then}
use Rattle.pan_base.specs.declared.operators.BinOp.{BinOp}
use Rattle.pan_base.specs.Words.{operate, negate, truth, base_address, bytes_in_word}
use Rattle.pan_control.specs.Memory.{byte_at, words_at}
use Rattle.pan_tree.specs.Value.{Word, Struct, values_of, part_of_part}
use Rattle.pan_tree.specs.Shapes.{words_of, filled}
use Rattle.pan_tree.specs.Meaning as source
use Rattle.pan_tree.specs.Meaning.{Scopes, as_word, all_given, shifted}
use Rattle.pan_tree.specs.declared.spanned.Spanned.{Spanned}
use Rattle.pan_tree.specs.declared.syntax.ExprKind.{ExprKind, ExprKind-F, ind-ExprKind, roll-ExprKind, map-ExprKind, fold-roll-ExprKind}
use Rattle.pan_tree.specs.declared.syntax.ExprKind.TheOpen as source_expr
use Rattle.source_resolver.specs.declared.resolved.Expr.{Expr, Expr-F, roll-Expr, map-Expr, fold-roll-Expr}
use Rattle.source_resolver.specs.declared.resolved.Expr.TheOpen as open_expr
use Rattle.source_resolver.specs.declared.resolved.Expr.TheVariants as expr
use Rattle.source_resolver.specs.Resolving.{Places, resolved_expr_layer, resolved_expr_kind, resolved_expr, resolved_exprs}
use Rattle.source_resolver.specs.Slots as slots
use Rattle.source_resolver.specs.Slots.{Variables, Giving, value_layer, value}
use Rattle.source_resolver.proofs.Placing.{placed, flat, variable_reads}

-- ---- layers

pub value_roll : (y : Expr-F Expr) → value (roll-Expr y) ≡ value_layer (map-Expr Expr Giving value y)
unfolding value
value_roll y = fold-roll-Expr Giving value_layer y

source_value_roll : (y : ExprKind-F ExprKind) → source.value_kind (roll-ExprKind y) ≡ source.value_layer (map-ExprKind ExprKind source.Giving source.value_kind y)
unfolding source.value_kind
source_value_roll y = fold-roll-ExprKind source.Giving source.value_layer y

pub resolved_expr_roll : (y : ExprKind-F ExprKind) → resolved_expr_kind (roll-ExprKind y) ≡ resolved_expr_layer (map-ExprKind ExprKind (Places → Expr) resolved_expr_kind y)
unfolding resolved_expr_kind
resolved_expr_roll y = fold-roll-ExprKind (Places → Expr) resolved_expr_layer y

expr_induct : (P : ExprKind → Type 0) → ((y : ExprKind-F ((k : ExprKind) × P k)) → P (roll-ExprKind (map-ExprKind ((k : ExprKind) × P k) ExprKind (λ c. c.0) y))) → (k : ExprKind) → P k
expr_induct P at k = ind-ExprKind P (λ x y is. subst (λ x. P (roll-ExprKind x)) is (at y)) k

-- a resolved expression at its layer
at : (y : Expr-F Expr) (e : Expr) → roll-Expr y ≡ e → (u : Variables) (m : List ℕ) → value e u m ≡ value_layer (map-Expr Expr Giving value y) u m
at y e is u m = ap (λ e. value e u m) (sym is) ∙ ap (λ g. g u m) (value_roll y)

-- ---- expressions

abbrev Means : ExprKind → Type 0
Means k = (v : Scopes) (m : List ℕ) → value (resolved_expr_kind k (placed v)) (flat v) m ≡ source.value_kind k v m

abbrev Known : Type 0
Known = (k : ExprKind) × Means k

-- the parts, what they are resolved to and what they give
abbrev plain : Spanned Known → Spanned ExprKind
plain e = record { kind = e.kind.0; span = e.span }

abbrev places_of : Spanned ExprKind → Spanned (Places → Expr)
places_of e = record { kind = resolved_expr_kind e.kind; span = e.span }

abbrev giving : Spanned ExprKind → Spanned source.Giving
giving e = record { kind = source.value_kind e.kind; span = e.span }

module _ (v : Scopes) (m : List ℕ) where
  parts_mean : (es : List (Spanned Known))
      → map (λ (g : Giving). g (flat v) m) (map value (map (λ (e : Spanned (Places → Expr)). e.kind (placed v)) (map places_of (map plain es)))) ≡ map (λ (e : Spanned source.Giving). e.kind v m) (map giving (map plain es))
  parts_mean [] = refl
  parts_mean (e ∷ es) = ap (λ o. o ∷ map (λ (g : Giving). g (flat v) m) (map value (map (λ (e : Spanned (Places → Expr)). e.kind (placed v)) (map places_of (map plain es))))) (e.kind.1 v m) ∙ ap (λ os. source.value_kind e.kind.0 v m ∷ os) (parts_mean es)

  chain_means : (a : Option ℕ) (es : List (BinOp × Spanned Known))
      → slots.chain a (map (λ (e : BinOp × Expr). (e.0, value e.1)) (map (λ (e : BinOp × Spanned (Places → Expr)). (e.0, (e.1).kind (placed v))) (map (λ (e : BinOp × Spanned ExprKind). (e.0, places_of e.1)) (map (λ (e : BinOp × Spanned Known). (e.0, plain e.1)) es)))) (flat v) m
      ≡ source.chain a (map (λ (e : BinOp × Spanned ExprKind). (e.0, giving e.1)) (map (λ (e : BinOp × Spanned Known). (e.0, plain e.1)) es)) v m
  chain_means a [] = refl
  chain_means None (e ∷ es) = refl
  chain_means (Some a) (e ∷ es) =
      let others = map (λ (e : BinOp × Expr). (e.0, value e.1)) (map (λ (e : BinOp × Spanned (Places → Expr)). (e.0, (e.1).kind (placed v))) (map (λ (e : BinOp × Spanned ExprKind). (e.0, places_of e.1)) (map (λ (e : BinOp × Spanned Known). (e.0, plain e.1)) es))) in
      ap (λ o. slots.chain (option_map (operate e.0 a) (as_word o)) others (flat v) m) ((e.1).kind.1 v m)
      ∙ chain_means (option_map (operate e.0 a) (as_word (source.value_kind (e.1).kind.0 v m))) es

layer_means : (y : ExprKind-F Known) (v : Scopes) (m : List ℕ)
    → value (resolved_expr_layer (map-ExprKind ExprKind (Places → Expr) resolved_expr_kind (map-ExprKind Known ExprKind (λ c. c.0) y)) (placed v)) (flat v) m
    ≡ source.value_layer (map-ExprKind ExprKind source.Giving source.value_kind (map-ExprKind Known ExprKind (λ c. c.0) y)) v m
layer_means (source_expr.Number n) v m = at (open_expr.Number n) _ (expr.rolls-Number n) (flat v) m
layer_means (source_expr.Var x) v m = at (open_expr.Variable _) _ (expr.rolls-Variable _) (flat v) m ∙ variable_reads x v
layer_means source_expr.Base v m = at (open_expr.Number _) _ (expr.rolls-Number base_address) (flat v) m
layer_means source_expr.Biw v m = at (open_expr.Number _) _ (expr.rolls-Number bytes_in_word) (flat v) m
layer_means (source_expr.Struct es) v m =
    at (open_expr.Struct _) _ (expr.rolls-Struct (map (λ (e : Spanned (Places → Expr)). e.kind (placed v)) (map places_of (map plain es)))) (flat v) m ∙ ap (λ os. option_map (λ vs. Struct (values_of vs)) (all_given os)) (parts_mean v m es)
layer_means (source_expr.Field e is) v m =
    at (open_expr.Field _ is) _ (expr.rolls-Field (resolved_expr (plain e) (placed v)) is) (flat v) m ∙ ap (λ o. part_of_part o is) (e.kind.1 v m)
layer_means (source_expr.Load s a) v m =
    at (open_expr.Load s _) _ (expr.rolls-Load s (resolved_expr (plain a) (placed v))) (flat v) m
    ∙ ap (λ o. option_and_then (λ addr. option_map (filled s) (words_at m addr (words_of s))) (as_word o)) (a.kind.1 v m)
layer_means (source_expr.LoadByte a) v m =
    at (open_expr.LoadByte _) _ (expr.rolls-LoadByte (resolved_expr (plain a) (placed v))) (flat v) m ∙ ap (λ o. option_map Word (option_and_then (byte_at m) (as_word o))) (a.kind.1 v m)
layer_means (source_expr.Neg e) v m =
    at (open_expr.Neg _) _ (expr.rolls-Neg (resolved_expr (plain e) (placed v))) (flat v) m ∙ ap (λ o. option_map (λ n. Word (negate n)) (as_word o)) (e.kind.1 v m)
layer_means (source_expr.Chain e es) v m =
    let sources = map (λ (e : BinOp × Spanned Known). (e.0, plain e.1)) es in
    let rest = map (λ (e : BinOp × Spanned (Places → Expr)). (e.0, (e.1).kind (placed v))) (map (λ (e : BinOp × Spanned ExprKind). (e.0, places_of e.1)) sources) in
    at (open_expr.Chain _ rest) _ (expr.rolls-Chain (resolved_expr (plain e) (placed v)) rest) (flat v) m
    ∙ ap (λ o. option_map Word (slots.chain (as_word o) (map (λ (e : BinOp × Expr). (e.0, value e.1)) rest) (flat v) m)) (e.kind.1 v m)
    ∙ ap (option_map Word) (chain_means v m (as_word (source.value_kind e.kind.0 v m)) es)
layer_means (source_expr.Shift e shifts) v m =
    at (open_expr.Shift _ shifts) _ (expr.rolls-Shift (resolved_expr (plain e) (placed v)) shifts) (flat v) m ∙ ap (λ o. option_map (λ n. Word (shifted shifts n)) (as_word o)) (e.kind.1 v m)
layer_means (source_expr.Compare c a b) v m =
    at (open_expr.Compare c _ _) _ (expr.rolls-Compare c (resolved_expr (plain a) (placed v)) (resolved_expr (plain b) (placed v))) (flat v) m
    ∙ ap (λ o. option_and_then (λ x. option_map (λ y. Word (truth c x y)) (as_word (value (resolved_expr (plain b) (placed v)) (flat v) m))) (as_word o)) (a.kind.1 v m)
    ∙ ap (λ o. option_and_then (λ x. option_map (λ y. Word (truth c x y)) (as_word o)) (as_word (source.value_kind a.kind.0 v m))) (b.kind.1 v m)

pub kind_means : (k : ExprKind) → Means k
kind_means = expr_induct Means (λ y v m. ap (λ (f : Places → Expr). value (f (placed v)) (flat v) m) (resolved_expr_roll (map-ExprKind Known ExprKind (λ c. c.0) y))
    ∙ layer_means y v m ∙ sym (ap (λ (g : source.Giving). g v m) (source_value_roll (map-ExprKind Known ExprKind (λ c. c.0) y))))

pub expr_means : (e : Spanned ExprKind) (v : Scopes) (m : List ℕ) → value (resolved_expr e (placed v)) (flat v) m ≡ source.value e v m
expr_means e v m = kind_means e.kind v m

pub word_means : (e : Spanned ExprKind) (v : Scopes) (m : List ℕ) → slots.word (resolved_expr e (placed v)) (flat v) m ≡ source.word e v m
word_means e v m = ap as_word (expr_means e v m)

all_mean : (es : List (Spanned ExprKind)) (v : Scopes) (m : List ℕ) → map (λ e. value e (flat v) m) (resolved_exprs es (placed v)) ≡ map (λ e. source.value e v m) es
all_mean [] v m = refl
all_mean (e ∷ es) v m = ap (λ o. o ∷ map (λ e. value e (flat v) m) (resolved_exprs es (placed v))) (expr_means e v m) ∙ ap (λ os. source.value e v m ∷ os) (all_mean es v m)

pub values_mean : (es : List (Spanned ExprKind)) (v : Scopes) (m : List ℕ) → slots.values (resolved_exprs es (placed v)) (flat v) m ≡ source.values es v m
values_mean es v m = ap all_given (all_mean es v m)
