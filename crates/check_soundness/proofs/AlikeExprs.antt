-- The check says the same of an expression where the shapes of the variables are the same up to spreading.
use Rattle.std.proofs.Common.{◌≡◌, ℕ, ◌+◌, ◌*◌, Bool, true, false, ◌||◌, not, List, [], ◌∷◌, ◌++◌, map, Option, Some, None, refl, sym, ap, subst, ◌∙◌}
use Rattle.std.specs.Prelude.{option_map, nat_lt}
use Rattle.std.specs.Option.{is_some}
use Rattle.std.specs.List.{list_any}
use Rattle.pan_base.specs.declared.operators.BinOp.{BinOp}
use Rattle.pan_base.specs.declared.operators.ShOp.{ShOp}
use Rattle.pan_tree.specs.Scopes.{innermost}
use Rattle.pan_tree.specs.Shapes.{words_of, is_word, APart, part_at}
use Rattle.pan_tree.specs.Check as check
use Rattle.pan_tree.specs.Check.{Break, Judged, Judging, broken, weights, breaks_of, has_no_word, whole, operators, or_word, part_shape, is_of_word, is_no_part, is_wide, max_words, judge_layer, judge_kind}
use Rattle.pan_tree.specs.declared.rule.Rule.{Rule}
use Rattle.pan_tree.specs.declared.rule.Rule.TheVariants.{UnknownName, ShapeTooWide, NotStruct, NoField, NotWord, BadShift}
use Rattle.pan_tree.specs.declared.shape.Shape.{Shape}
use Rattle.pan_tree.specs.declared.shape.Shape.TheVariants as shape
use Rattle.pan_tree.specs.declared.spanned.Spanned.{Spanned}
use Rattle.pan_tree.specs.declared.syntax.ExprKind.{ExprKind, ExprKind-F, ind-ExprKind, roll-ExprKind, map-ExprKind}
use Rattle.pan_tree.specs.declared.syntax.ExprKind.TheOpen as expr
use Rattle.pan_tree.proofs.CheckLayers.{judge_roll}
use Rattle.check_soundness.specs.Spread.{spread}
use Rattle.check_soundness.proofs.SpreadShapes.{spread_group}
use Rattle.check_soundness.proofs.Alike.{sum_more, same_size, same_is_word, spread_part, part_spread, part_shape_alike, of_word_alike, no_part_alike}
use Rattle.check_soundness.proofs.AlikeScopes.{AlikeScopes, alike_innermost}

-- ---- layers

pub expr_induct : (P : ExprKind → Type 0) → ((y : ExprKind-F ((k : ExprKind) × P k)) → P (roll-ExprKind (map-ExprKind ((k : ExprKind) × P k) ExprKind (λ c. c.0) y))) → (k : ExprKind) → P k
expr_induct P at k = ind-ExprKind P (λ x y is. subst (λ x. P (roll-ExprKind x)) is (at y)) k

-- ---- what the check says

-- the same, but for how the shape is written
pub record AlikeJudged (i j : Judged) : Type 0 where
  pub shape : spread i.shape ≡ spread j.shape
  pub weight : i.weight ≡ j.weight
  pub breaks : i.breaks ≡ j.breaks

-- the same of each
abbrev pub AllAlike : List Judged → List Judged → Type 0
AllAlike [] [] = Unit {0}
AllAlike (i ∷ is) (j ∷ js) = AlikeJudged i j × AllAlike is js
AllAlike _ _ = ⊥

pub weights_more : (j : Judged) (js : List Judged) → weights (j ∷ js) ≡ j.weight + weights js
weights_more j js = sum_more j.weight (map (λ (j : Judged). j.weight) js)

pub alike_weights : (is js : List Judged) → AllAlike is js → weights is ≡ weights js
alike_weights [] [] h = refl
alike_weights [] (j ∷ js) h = absurd h
alike_weights (i ∷ is) [] h = absurd h
alike_weights (i ∷ is) (j ∷ js) h = weights_more i is ∙ ap (λ n. n + weights is) h.0.weight ∙ ap (λ n. j.weight + n) (alike_weights is js h.1) ∙ sym (weights_more j js)

pub alike_breaks : (is js : List Judged) → AllAlike is js → breaks_of is ≡ breaks_of js
alike_breaks [] [] h = refl
alike_breaks [] (j ∷ js) h = absurd h
alike_breaks (i ∷ is) [] h = absurd h
alike_breaks (i ∷ is) (j ∷ js) h = ap (λ bs. bs ++ breaks_of is) h.0.breaks ∙ ap (λ bs. j.breaks ++ bs) (alike_breaks is js h.1)

pub alike_no_word : (is js : List Judged) → AllAlike is js → has_no_word is ≡ has_no_word js
alike_no_word [] [] h = refl
alike_no_word [] (j ∷ js) h = absurd h
alike_no_word (i ∷ is) [] h = absurd h
alike_no_word (i ∷ is) (j ∷ js) h = ap (λ b. not b || has_no_word is) (same_is_word i.shape j.shape h.0.shape) ∙ ap (λ b. not (is_word j.shape) || b) (alike_no_word is js h.1)

alike_shapes : (is js : List Judged) → AllAlike is js → map spread (map (λ (j : Judged). j.shape) is) ≡ map spread (map (λ (j : Judged). j.shape) js)
alike_shapes [] [] h = refl
alike_shapes [] (j ∷ js) h = absurd h
alike_shapes (i ∷ is) [] h = absurd h
alike_shapes (i ∷ is) (j ∷ js) h = ap (λ s. s ∷ map spread (map (λ (j : Judged). j.shape) is)) h.0.shape ∙ ap (λ ss. spread j.shape ∷ ss) (alike_shapes is js h.1)

alike_whole : (place : ℕ) (s t : Shape) (is js : List Judged) (rs qs : List (Rule × Bool)) → spread s ≡ spread t → AllAlike is js → rs ≡ qs → AlikeJudged (whole place s is rs) (whole place t js qs)
alike_whole place s t is js rs qs e h r = record {
  shape = e;
  weight = ap (λ n. 1 + n + weights is) (same_size s t e) ∙ ap (λ n. 1 + words_of t + n) (alike_weights is js h);
  breaks = ap (λ bs. bs ++ broken place rs) (alike_breaks is js h) ∙ ap (λ rules. breaks_of js ++ broken place rules) r;
}

alike_operators : (place count : ℕ) (is js : List Judged) (rs qs : List (Rule × Bool)) → AllAlike is js → rs ≡ qs → AlikeJudged (operators place count is rs) (operators place count js qs)
alike_operators place count is js rs qs h r = record {
  shape = refl;
  weight = ap (λ n. 2 * count + n) (alike_weights is js h);
  breaks = ap (λ bs. bs ++ broken place rs) (alike_breaks is js h) ∙ ap (λ rules. breaks_of js ++ broken place rules) r;
}

-- ---- expressions

abbrev pub IsAlike : ExprKind → Type 0
IsAlike k = (place : ℕ) (s t : check.Scopes) → AlikeScopes s t → AlikeJudged (judge_kind k place s) (judge_kind k place t)

abbrev Known : Type 0
Known = (k : ExprKind) × IsAlike k

abbrev plain : Spanned Known → Spanned ExprKind
plain e = record { kind = e.kind.0; span = e.span }

abbrev judging : Spanned ExprKind → Spanned Judging
judging e = record { kind = judge_kind e.kind; span = e.span }

module _ (place : ℕ) (s t : check.Scopes) (h : AlikeScopes s t) where
  abbrev judged_in : check.Scopes → Spanned Known → Judged
  judged_in v e = judge_kind (e.kind).0 e.span.start v

  part : (e : Spanned Known) → AlikeJudged (judged_in s e) (judged_in t e)
  part e = (e.kind).1 e.span.start s t h

  abbrev all_in : check.Scopes → List (Spanned Known) → List Judged
  all_in v es = map (λ (e : Spanned Judging). e.kind e.span.start v) (map judging (map plain es))

  all_parts : (es : List (Spanned Known)) → AllAlike (all_in s es) (all_in t es)
  all_parts [] = tt
  all_parts (e ∷ es) = (part e, all_parts es)

  abbrev chain_in : check.Scopes → List (BinOp × Spanned Known) → List Judged
  chain_in v ys = map (λ (y : BinOp × Spanned Judging). (y.1).kind (y.1).span.start v) (map (λ (e : BinOp × Spanned ExprKind). (e.0, judging e.1)) (map (λ (e : BinOp × Spanned Known). (e.0, plain e.1)) ys))

  chain_parts : (ys : List (BinOp × Spanned Known)) → AllAlike (chain_in s ys) (chain_in t ys)
  chain_parts [] = tt
  chain_parts (y ∷ ys) = (part y.1, chain_parts ys)

  variable : (o p : Option Shape) → option_map spread o ≡ option_map spread p → AlikeJudged (whole place (or_word o) [] ((UnknownName, not (is_some o)) ∷ [])) (whole place (or_word p) [] ((UnknownName, not (is_some p)) ∷ []))
  variable None None e = alike_whole place shape.Word shape.Word [] [] ((UnknownName, true) ∷ []) ((UnknownName, true) ∷ []) refl tt refl
  variable None (Some b) e = absurd cc
  variable (Some a) None e = absurd cc
  variable (Some a) (Some b) e = let same : spread a ≡ spread b = cc in alike_whole place a b [] [] ((UnknownName, false) ∷ []) ((UnknownName, false) ∷ []) same tt refl

  no_word_rule : (is js : List Judged) (rs : List (Rule × Bool)) → AllAlike is js → let r : List (Rule × Bool) = (NotWord, has_no_word is) ∷ rs in let q : List (Rule × Bool) = (NotWord, has_no_word js) ∷ rs in r ≡ q
  no_word_rule is js rs h = ap (λ b. (NotWord, b) ∷ rs) (alike_no_word is js h)

  layer_alike : (y : ExprKind-F Known)
      → let x = map-ExprKind ExprKind Judging judge_kind (map-ExprKind Known ExprKind (λ c. c.0) y) in AlikeJudged (judge_layer x place s) (judge_layer x place t)
  layer_alike (expr.Number n) = alike_whole place _ _ [] [] [] [] refl tt refl
  layer_alike (expr.Var x) = variable (innermost x s) (innermost x t) (alike_innermost s t h x)
  layer_alike expr.Base = alike_whole place _ _ [] [] [] [] refl tt refl
  layer_alike expr.Biw = alike_whole place _ _ [] [] [] [] refl tt refl
  layer_alike (expr.Struct es) =
      let all = all_parts es in
      let a = shape.Group (map (λ (j : Judged). j.shape) (all_in s es)) in
      let b = shape.Group (map (λ (j : Judged). j.shape) (all_in t es)) in
      let e : spread a ≡ spread b = spread_group (map (λ (j : Judged). j.shape) (all_in s es)) ∙ ap shape.Group (alike_shapes (all_in s es) (all_in t es) all) ∙ sym (spread_group (map (λ (j : Judged). j.shape) (all_in t es))) in
      alike_whole place a b (all_in s es) (all_in t es) _ _ e all (ap (λ n. (ShapeTooWide, nat_lt max_words n) ∷ []) (same_size a b e))
  layer_alike (expr.Field k is) =
      let one = part k in
      let p = APart (judged_in s k).shape in
      let q = APart (judged_in t k).shape in
      let e : spread_part (part_at p is) ≡ spread_part (part_at q is) = sym (part_spread p is) ∙ ap (λ x. part_at (APart x) is) one.shape ∙ part_spread q is in
      alike_whole place (part_shape (part_at p is)) (part_shape (part_at q is)) (judged_in s k ∷ []) (judged_in t k ∷ []) _ _ (part_shape_alike (part_at p is) (part_at q is) e) (one, tt)
      (ap (λ b. (NotStruct, b) ∷ (NoField, is_no_part (part_at p is)) ∷ []) (of_word_alike (part_at p is) (part_at q is) e) ∙ ap (λ b. (NotStruct, is_of_word (part_at q is)) ∷ (NoField, b) ∷ []) (no_part_alike (part_at p is) (part_at q is) e))
  layer_alike (expr.Load x a) = let one = part a in alike_whole place x x (judged_in s a ∷ []) (judged_in t a ∷ []) _ _ refl (one, tt) (no_word_rule (judged_in s a ∷ []) (judged_in t a ∷ []) ((ShapeTooWide, is_wide x) ∷ []) (one, tt))
  layer_alike (expr.LoadByte a) = let one = part a in alike_whole place _ _ (judged_in s a ∷ []) (judged_in t a ∷ []) _ _ refl (one, tt) (no_word_rule (judged_in s a ∷ []) (judged_in t a ∷ []) [] (one, tt))
  layer_alike (expr.Neg a) = let one = part a in alike_whole place _ _ (judged_in s a ∷ []) (judged_in t a ∷ []) _ _ refl (one, tt) (no_word_rule (judged_in s a ∷ []) (judged_in t a ∷ []) [] (one, tt))
  layer_alike (expr.Compare c a b) =
      let both : AllAlike (judged_in s a ∷ judged_in s b ∷ []) (judged_in t a ∷ judged_in t b ∷ []) = (part a, (part b, tt)) in
      alike_whole place _ _ (judged_in s a ∷ judged_in s b ∷ []) (judged_in t a ∷ judged_in t b ∷ []) _ _ refl both (no_word_rule (judged_in s a ∷ judged_in s b ∷ []) (judged_in t a ∷ judged_in t b ∷ []) [] both)
  layer_alike (expr.Chain k ys) =
      let all : AllAlike (judged_in s k ∷ chain_in s ys) (judged_in t k ∷ chain_in t ys) = (part k, chain_parts ys) in
      alike_operators place _ (judged_in s k ∷ chain_in s ys) (judged_in t k ∷ chain_in t ys) _ _ all (no_word_rule (judged_in s k ∷ chain_in s ys) (judged_in t k ∷ chain_in t ys) [] all)
  layer_alike (expr.Shift k ns) =
      let one : AllAlike (judged_in s k ∷ []) (judged_in t k ∷ []) = (part k, tt) in
      alike_operators place _ (judged_in s k ∷ []) (judged_in t k ∷ []) _ _ one (no_word_rule (judged_in s k ∷ []) (judged_in t k ∷ []) ((BadShift, list_any (λ (n : ShOp × ℕ). nat_lt 63 n.1) ns) ∷ []) one)

pub kind_alike : (k : ExprKind) → IsAlike k
kind_alike = expr_induct IsAlike (λ y place s t h.
    let x = map-ExprKind Known ExprKind (λ c. c.0) y in
    subst (λ (j : Judging). AlikeJudged (j place s) (j place t)) (sym (judge_roll x)) (layer_alike place s t h y))

-- the same of an expression with its place
pub expr_alike : (e : Spanned ExprKind) (s t : check.Scopes) → AlikeScopes s t → AlikeJudged (check.judged e s) (check.judged e t)
expr_alike e s t h = kind_alike e.kind e.span.start s t h

pub exprs_alike : (es : List (Spanned ExprKind)) (s t : check.Scopes) → AlikeScopes s t → AllAlike (map (λ x. check.judged x s) es) (map (λ x. check.judged x t) es)
exprs_alike [] s t h = tt
exprs_alike (e ∷ es) s t h = (expr_alike e s t h, exprs_alike es s t h)
