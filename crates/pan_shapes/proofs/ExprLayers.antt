-- How expressions are judged, at each variant.
use Rattle.std.proofs.Common.{◌≡◌, ℕ, ◌+◌, not, nat_lt, List, [], ◌∷◌, map, length, Some, None, Ok, Err, inl, inr, refl, sym, ap, subst, ◌∙◌}
use Rattle.std.specs.Prelude.{is_some, ◌⊎◌}
use Rattle.std.specs.List.{list_any}
use Rattle.std.proofs.lemmas.Simd.{map-map}
use Rattle.std.proofs.lemmas.List.{length-map}
use Rattle.pan_base.specs.declared.operators.BinOp.{BinOp}
use Rattle.pan_base.specs.declared.operators.ShOp.{ShOp}
use Rattle.pan_base.specs.declared.operators.Cmp.{Cmp}
use Rattle.pan_tree.specs.declared.rule.Rule.TheVariants.{UnknownName, NotStruct, NoField, NotWord, BadShift, ShapeTooWide}
use Rattle.pan_tree.specs.declared.shape.Shape.{Shape}
use Rattle.pan_tree.specs.declared.shape.Shape.TheVariants as shape
use Rattle.pan_tree.specs.declared.spanned.Spanned.{Spanned}
use Rattle.pan_tree.specs.declared.syntax.ExprKind.{ExprKind, ExprKind-F, fold-roll-ExprKind, roll-ExprKind, map-ExprKind}
use Rattle.pan_tree.specs.declared.syntax.ExprKind.TheOpen as open_expr
use Rattle.pan_tree.specs.declared.syntax.ExprKind.TheVariants as e
use Rattle.pan_tree.specs.Shapes.{APart, part_at, words_of}
use Rattle.pan_tree.specs.Check.{Scopes, Judged, Judging, judge_layer, judge_kind, judge, judged, whole, operators, has_no_word, or_word, shape_of, is_wide, part_shape, is_of_word, is_no_part}
use Rattle.pan_tree.proofs.CheckLayers.{judge_roll}
use Rattle.pan_shapes.specs.declared.error.CheckError.TheVariants as error
use Rattle.pan_shapes.specs.declared.judging.Judged.{Judged as Answer}
use Rattle.pan_shapes.specs.Judging.{IsMade, IsJudged}

roll : (x : ExprKind-F ExprKind) (place : ℕ) (v : Scopes) → judge_kind (roll-ExprKind x) place v ≡ judge_layer (map-ExprKind ExprKind Judging judge_kind x) place v
roll x place v = ap (λ f. f place v) (judge_roll x)

-- at a place, among these variables
module _ (place : ℕ) (v : Scopes) where
  abbrev pub at : ExprKind → Judged
  at k = judge_kind k place v

  abbrev pub a_word : Judged
  a_word = whole place shape.Word [] []

  abbrev pub a_struct : List Judged → Judged
  a_struct parts = let s = shape.Group (map (λ j. j.shape) parts) in whole place s parts ((ShapeTooWide, is_wide s) ∷ [])

  abbrev pub word_from : List Judged → Judged
  word_from parts = whole place shape.Word parts ((NotWord, has_no_word parts) ∷ [])

  abbrev pub a_field : Judged → List ℕ → Judged
  a_field j is = let part = part_at (APart j.shape) is in whole place (part_shape part) (j ∷ []) ((NotStruct, is_of_word part) ∷ (NoField, is_no_part part) ∷ [])

  abbrev pub a_chain : ℕ → Judged → List Judged → Judged
  a_chain n first terms = operators place n (first ∷ terms) ((NotWord, has_no_word (first ∷ terms)) ∷ [])

  abbrev pub a_load : Shape → Judged → Judged
  a_load s j = whole place s (j ∷ []) ((NotWord, has_no_word (j ∷ [])) ∷ (ShapeTooWide, is_wide s) ∷ [])

  abbrev pub a_shift : ℕ → List (ShOp × ℕ) → Judged → Judged
  a_shift n ns j = operators place n (j ∷ []) ((NotWord, has_no_word (j ∷ [])) ∷ (BadShift, list_any (λ n. nat_lt 63 n.1) ns) ∷ [])

  pub judge_number : (n : ℕ) → judge_kind (e.Number n) place v ≡ a_word
  judge_number n = ap at (sym (e.rolls-Number n)) ∙ roll (open_expr.Number n) place v

  pub judge_base : judge_kind e.Base place v ≡ a_word
  judge_base = ap at (sym e.rolls-Base) ∙ roll open_expr.Base place v

  pub judge_biw : judge_kind e.Biw place v ≡ a_word
  judge_biw = ap at (sym e.rolls-Biw) ∙ roll open_expr.Biw place v

  pub judge_variable : (x : List ℕ) → judge_kind (e.Var x) place v ≡ whole place (or_word (shape_of x v)) [] ((UnknownName, not (is_some (shape_of x v))) ∷ [])
  judge_variable x = ap at (sym (e.rolls-Var x)) ∙ roll (open_expr.Var x) place v

  pub judge_struct : (xs : List (Spanned ExprKind)) → judge_kind (e.Struct xs) place v ≡ a_struct (map (λ x. judged x v) xs)
  judge_struct xs = ap at (sym (e.rolls-Struct xs)) ∙ roll (open_expr.Struct xs) place v ∙ ap a_struct (map-map _ _ xs)

  pub judge_field : (x : Spanned ExprKind) (is : List ℕ) → judge_kind (e.Field x is) place v ≡ a_field (judged x v) is
  judge_field x is = ap at (sym (e.rolls-Field x is)) ∙ roll (open_expr.Field x is) place v

  pub judge_load : (s : Shape) (x : Spanned ExprKind) → judge_kind (e.Load s x) place v ≡ a_load s (judged x v)
  judge_load s x = ap at (sym (e.rolls-Load s x)) ∙ roll (open_expr.Load s x) place v

  pub judge_load_byte : (x : Spanned ExprKind) → judge_kind (e.LoadByte x) place v ≡ word_from (judged x v ∷ [])
  judge_load_byte x = ap at (sym (e.rolls-LoadByte x)) ∙ roll (open_expr.LoadByte x) place v

  pub judge_neg : (x : Spanned ExprKind) → judge_kind (e.Neg x) place v ≡ word_from (judged x v ∷ [])
  judge_neg x = ap at (sym (e.rolls-Neg x)) ∙ roll (open_expr.Neg x) place v

  pub judge_compare : (o : Cmp) (x y : Spanned ExprKind) → judge_kind (e.Compare o x y) place v ≡ word_from (judged x v ∷ judged y v ∷ [])
  judge_compare o x y = ap at (sym (e.rolls-Compare o x y)) ∙ roll (open_expr.Compare o x y) place v

  pub judge_chain : (x : Spanned ExprKind) (ys : List (BinOp × Spanned ExprKind)) → judge_kind (e.Chain x ys) place v ≡ a_chain (length ys) (judged x v) (map (λ y. judged y.1 v) ys)
  judge_chain x ys =
      let term : BinOp × Spanned ExprKind → BinOp × Spanned Judging = λ y. (y.0, record { kind = judge_kind (y.1).kind; span = (y.1).span }) in
      let of_term : BinOp × Spanned Judging → Judged = λ y. judge y.1 v in
      ap at (sym (e.rolls-Chain x ys)) ∙ roll (open_expr.Chain x ys) place v
      ∙ ap (λ n. a_chain n (judged x v) (map of_term (map term ys))) (length-map ys term) ∙ ap (a_chain (length ys) (judged x v)) (map-map of_term term ys)

  pub judge_shift : (x : Spanned ExprKind) (ns : List (ShOp × ℕ)) → judge_kind (e.Shift x ns) place v ≡ a_shift (length ns) ns (judged x v)
  judge_shift x ns = ap at (sym (e.rolls-Shift x ns)) ∙ roll (open_expr.Shift x ns) place v

  -- ---- as the code meets them: a part is read through a reference

  pub plain_is : (k : ExprKind) → ((n : ℕ) × (k ≡ e.Number n)) ⊎ ((k ≡ e.Base) ⊎ (k ≡ e.Biw)) → at k ≡ a_word
  plain_is k (inl (n, is)) = ap at is ∙ judge_number n
  plain_is k (inr (inl is)) = ap at is ∙ judge_base
  plain_is k (inr (inr is)) = ap at is ∙ judge_biw

  pub struct_is : (k : ExprKind) (parts xs : List (Spanned ExprKind)) → k ≡ e.Struct parts → xs ≡ parts → at k ≡ a_struct (map (λ x. judged x v) xs)
  struct_is k parts xs is as_is = ap at is ∙ judge_struct parts ∙ sym (ap (λ xs. a_struct (map (λ x. judged x v) xs)) as_is)

  pub field_is : (k : ExprKind) (of x : Spanned ExprKind) (path is : List ℕ) → k ≡ e.Field of path → x ≡ of → is ≡ path → at k ≡ a_field (judged x v) is
  field_is k of x path is here x_is is_is = ap at here ∙ judge_field of path ∙ sym (ap (λ x. a_field (judged x v) path) x_is) ∙ sym (ap (a_field (judged x v)) is_is)

  pub load_is : (k : ExprKind) (s : Shape) (of x : Spanned ExprKind) → k ≡ e.Load s of → x ≡ of → at k ≡ a_load s (judged x v)
  load_is k s of x is x_is = ap at is ∙ judge_load s of ∙ sym (ap (λ x. a_load s (judged x v)) x_is)

  pub word_from_is : (k : ExprKind) (of x : Spanned ExprKind) → (k ≡ e.LoadByte of) ⊎ (k ≡ e.Neg of) → x ≡ of → at k ≡ word_from (judged x v ∷ [])
  word_from_is k of x (inl is) x_is = ap at is ∙ judge_load_byte of ∙ sym (ap (λ x. word_from (judged x v ∷ [])) x_is)
  word_from_is k of x (inr is) x_is = ap at is ∙ judge_neg of ∙ sym (ap (λ x. word_from (judged x v ∷ [])) x_is)

  pub compare_is : (k : ExprKind) (o : Cmp) (left right x y : Spanned ExprKind) → k ≡ e.Compare o left right → x ≡ left → y ≡ right → at k ≡ word_from (judged x v ∷ judged y v ∷ [])
  compare_is k o left right x y is x_is y_is =
      ap at is ∙ judge_compare o left right ∙ sym (ap (λ x. word_from (judged x v ∷ judged right v ∷ [])) x_is) ∙ sym (ap (λ y. word_from (judged x v ∷ judged y v ∷ [])) y_is)

  pub shift_is : (k : ExprKind) (of x : Spanned ExprKind) (amounts ns : List (ShOp × ℕ)) → k ≡ e.Shift of amounts → x ≡ of → ns ≡ amounts → at k ≡ a_shift (length ns) ns (judged x v)
  shift_is k of x amounts ns is x_is ns_is =
      ap at is ∙ judge_shift of amounts ∙ sym (ap (λ x. a_shift (length amounts) amounts (judged x v)) x_is) ∙ sym (ap (λ ns. a_shift (length ns) ns (judged x v)) ns_is)

  pub var_known : (x : List ℕ) (s : Shape) (k : Answer) → shape_of x v ≡ Some s → IsMade s (1 + words_of s + 0) k → IsJudged (judge_kind (e.Var x) place v) (Ok k)
  var_known x s k known made =
      subst (λ j. IsJudged j (Ok k)) (sym (judge_variable x ∙ ap (λ o. whole place (or_word o) [] ((UnknownName, not (is_some o)) ∷ [])) known)) (refl, made)

  pub var_unknown : (x : List ℕ) → shape_of x v ≡ None → IsJudged (judge_kind (e.Var x) place v) (Err (error.Breaks UnknownName place))
  var_unknown x unknown =
      subst (λ j. IsJudged j (Err (error.Breaks UnknownName place))) (sym (judge_variable x ∙ ap (λ o. whole place (or_word o) [] ((UnknownName, not (is_some o)) ∷ [])) unknown)) ([], refl)
