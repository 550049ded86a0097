use Rattle.std.proofs.Common.{◌+◌, ◌-◌, ◌^◌, min, ◌||◌, [], ◌∷◌, ◌++◌, length, map, Ok, refl, sym, ap, subst, ◌∙◌}
use Rattle.std.proofs.lemmas.List.{append-nil, drop_all}
use Rattle.pan_base.specs.declared.operators.BinOp.{BinOp}
use Rattle.pan_tree.specs.declared.spanned.Spanned.{Spanned}
use Rattle.pan_tree.specs.declared.syntax.ExprKind.{ExprKind}
use Rattle.pan_tree.specs.declared.syntax.ExprKind.TheVariants as e
use Rattle.pan_tree.specs.Check.{judge_kind, judged, breaks_of, weights, has_no_word}
use Rattle.pan_shapes.specs.Judging.{IsJudged, TellsParts, TellsTerms}
use Rattle.pan_shapes.proofs.Combining.{handed_on, item_refused, weight_at_end}
use Rattle.pan_shapes.proofs.ExprLayers.{word_from, judge_chain, plain_is, struct_is, field_is, load_is, word_from_is, compare_is, shift_is}
use Rattle.pan_shapes.proofs.Judgements.{or_false, parts_refused, first_refused, others_refused, second_refused, word_passes, struct_passes, field_passes, load_passes, word_from_one, word_from_both, chain_passes, shift_passes}
use Rattle.pan_shapes.proofs.judging.+judge.Goals as goal

pub judge-returns-in-Number : goal.judge-returns-in-Number
judge-returns-in-Number t c =
    let place = c.args.expr.now.span.start in
    let v = c.args.scopes.now in
    let made = c.made_of.ensures in
    subst (λ j. IsJudged j (Ok c.made_of.result)) (sym (plain_is place v c.args.expr.now.kind c.in-Number.is)) (word_passes place v (Ok c.made_of.result) c.made_of.result (made.shaped, made.weighs))

pub judge-returns-in_err-parts-in-Struct : goal.judge-returns-in_err-parts-in-Struct
judge-returns-in_err-parts-in-Struct t c =
    let place = c.args.expr.now.span.start in
    let v = c.args.scopes.now in
    let kind = c.args.expr.now.kind in
    let is = struct_is place v kind c.in-Struct.parts c.as_slice.result.now c.in-Struct.is c.as_slice.ensures in
    parts_refused (judged c.args.expr.now v) (map (λ x. judged x v) c.as_slice.result.now) _ c.in_err-parts-in-Struct.field-0.0 c.from_residual.result (ap (λ j. j.breaks) is) c.from_residual.ensures.1 c.in_err-parts-in-Struct.ensures

pub judge-returns-in_ok-parts-in-Struct : goal.judge-returns-in_ok-parts-in-Struct
judge-returns-in_ok-parts-in-Struct t c =
    let place = c.args.expr.now.span.start in
    let v = c.args.scopes.now in
    let kind = c.args.expr.now.kind in
    let is = struct_is place v kind c.in-Struct.parts c.as_slice.result.now c.in-Struct.is c.as_slice.ensures in
    subst (λ j. IsJudged j c.struct_of.result) (sym is)
    (struct_passes place v c.struct_of.result _ c.in_ok-parts-in-Struct.parts c.in_ok-parts-in-Struct.ensures c.struct_of.ensures)

pub judge-returns-in_err-of-in-Field : goal.judge-returns-in_err-of-in-Field
judge-returns-in_err-of-in-Field t c =
    let place = c.args.expr.now.span.start in
    let v = c.args.scopes.now in
    let kind = c.args.expr.now.kind in
    let is = field_is place v kind c.in-Field.of c.get.result.now c.in-Field.path c.in-Field.path c.in-Field.is c.get.ensures refl in
    first_refused (judged c.args.expr.now v) (judged c.get.result.now v) [] _ c.in_err-of-in-Field.field-0.0 c.from_residual-in_err-of-in-Field.result (ap (λ j. j.breaks) is) c.from_residual-in_err-of-in-Field.ensures.1 c.in_err-of-in-Field.ensures

pub judge-returns-in_ok-of-in-Field : goal.judge-returns-in_ok-of-in-Field
judge-returns-in_ok-of-in-Field t c =
    let place = c.args.expr.now.span.start in
    let v = c.args.scopes.now in
    let kind = c.args.expr.now.kind in
    let is = field_is place v kind c.in-Field.of c.get.result.now c.in-Field.path c.as_slice-in-Field.result.now c.in-Field.is c.get.ensures c.as_slice-in-Field.ensures in
    subst (λ j. IsJudged j c.field_of.result) (sym is)
    (field_passes place v c.field_of.result (judged c.get.result.now v) c.in_ok-of-in-Field.of c.as_slice-in-Field.result.now c.in_ok-of-in-Field.ensures c.field_of.ensures)

pub judge-returns-in_err-address-in-Load : goal.judge-returns-in_err-address-in-Load
judge-returns-in_err-address-in-Load t c =
    let place = c.args.expr.now.span.start in
    let v = c.args.scopes.now in
    let kind = c.args.expr.now.kind in
    let is = load_is place v kind c.in-Load.shape c.in-Load.address c.get-in-Load.result.now c.in-Load.is c.get-in-Load.ensures in
    first_refused (judged c.args.expr.now v) (judged c.get-in-Load.result.now v) [] _ c.in_err-address-in-Load.field-0.0 c.from_residual-in_err-address-in-Load.result (ap (λ j. j.breaks) is) c.from_residual-in_err-address-in-Load.ensures.1 c.in_err-address-in-Load.ensures

pub judge-returns-in_ok-address-in-Load : goal.judge-returns-in_ok-address-in-Load
judge-returns-in_ok-address-in-Load t c =
    let place = c.args.expr.now.span.start in
    let v = c.args.scopes.now in
    let kind = c.args.expr.now.kind in
    let is = load_is place v kind c.in-Load.shape c.in-Load.address c.get-in-Load.result.now c.in-Load.is c.get-in-Load.ensures in
    subst (λ j. IsJudged j c.loaded_of.result) (sym is)
    (load_passes place v c.loaded_of.result c.in-Load.shape (judged c.get-in-Load.result.now v) c.in_ok-address-in-Load.address c.in_ok-address-in-Load.ensures c.loaded_of.ensures)

pub judge-returns-in_err-of-in-LoadByte : goal.judge-returns-in_err-of-in-LoadByte
judge-returns-in_err-of-in-LoadByte t c =
    let place = c.args.expr.now.span.start in
    let v = c.args.scopes.now in
    let is = word_from_is place v c.args.expr.now.kind c.in-LoadByte.of c.get-in-LoadByte.result.now c.in-LoadByte.is c.get-in-LoadByte.ensures in
    first_refused (judged c.args.expr.now v) (judged c.get-in-LoadByte.result.now v) [] _ c.in_err-of-in-LoadByte.field-0.0 c.from_residual-in_err-of-in-LoadByte.result (ap (λ j. j.breaks) is) c.from_residual-in_err-of-in-LoadByte.ensures.1 c.in_err-of-in-LoadByte.ensures

pub judge-returns-in_ok-of-in-LoadByte : goal.judge-returns-in_ok-of-in-LoadByte
judge-returns-in_ok-of-in-LoadByte t c =
    let place = c.args.expr.now.span.start in
    let v = c.args.scopes.now in
    let is = word_from_is place v c.args.expr.now.kind c.in-LoadByte.of c.get-in-LoadByte.result.now c.in-LoadByte.is c.get-in-LoadByte.ensures in
    subst (λ j. IsJudged j c.word_of.result) (sym is)
    (word_from_one place v c.word_of.result (judged c.get-in-LoadByte.result.now v) c.in_ok-of-in-LoadByte.of c.in_ok-of-in-LoadByte.ensures c.word_of.ensures)

pub judge-returns-in-Compare : goal.judge-returns-in-Compare
judge-returns-in-Compare t c =
    let place = c.args.expr.now.span.start in
    let v = c.args.scopes.now in
    let is = compare_is place v c.args.expr.now.kind c.in-Compare.field-0 c.in-Compare.left c.in-Compare.right c.get-in-Compare.result.now c.get-in-Compare-2.result.now c.in-Compare.is c.get-in-Compare.ensures c.get-in-Compare-2.ensures in
    subst (λ j. IsJudged j c.judge_compare.result) (sym is) c.judge_compare.ensures

pub judge-returns-in_err-of-in-Shift : goal.judge-returns-in_err-of-in-Shift
judge-returns-in_err-of-in-Shift t c =
    let place = c.args.expr.now.span.start in
    let v = c.args.scopes.now in
    let kind = c.args.expr.now.kind in
    let is = shift_is place v kind c.in-Shift.of c.get-in-Shift.result.now c.in-Shift.amounts c.in-Shift.amounts c.in-Shift.is c.get-in-Shift.ensures refl in
    first_refused (judged c.args.expr.now v) (judged c.get-in-Shift.result.now v) [] _ c.in_err-of-in-Shift.field-0.0 c.from_residual-in_err-of-in-Shift.result (ap (λ j. j.breaks) is) c.from_residual-in_err-of-in-Shift.ensures.1 c.in_err-of-in-Shift.ensures

pub judge-returns-in_ok-of-in-Shift : goal.judge-returns-in_ok-of-in-Shift
judge-returns-in_ok-of-in-Shift t c =
    let place = c.args.expr.now.span.start in
    let v = c.args.scopes.now in
    let kind = c.args.expr.now.kind in
    let is = shift_is place v kind c.in-Shift.of c.get-in-Shift.result.now c.in-Shift.amounts c.as_slice-in-Shift.result.now c.in-Shift.is c.get-in-Shift.ensures c.as_slice-in-Shift.ensures in
    subst (λ j. IsJudged j c.shift_of.result) (sym is)
    (shift_passes place v c.shift_of.result c.as_slice-in-Shift.result.now (length c.as_slice-in-Shift.result.now) (judged c.get-in-Shift.result.now v) c.in_ok-of-in-Shift.of c.in_ok-of-in-Shift.ensures c.shift_of.ensures)

pub judge_compare-returns-in_err-left : goal.judge_compare-returns-in_err-left
judge_compare-returns-in_err-left t c =
    let v = c.args.scopes.now in
    first_refused (word_from c.args.place v (judged c.args.left.now v ∷ judged c.args.right.now v ∷ [])) (judged c.args.left.now v) (judged c.args.right.now v ∷ []) _ c.in_err-left.field-0.0 c.from_residual.result refl c.from_residual.ensures.1 c.in_err-left.ensures

pub judge_compare-returns-in_err-right : goal.judge_compare-returns-in_err-right
judge_compare-returns-in_err-right t c =
    let v = c.args.scopes.now in
    second_refused (word_from c.args.place v (judged c.args.left.now v ∷ judged c.args.right.now v ∷ [])) (judged c.args.left.now v) (judged c.args.right.now v) _ c.in_err-right.field-0.0 c.from_residual-in_err-right.result refl c.in_ok-left.ensures.0
    c.from_residual-in_err-right.ensures.1 c.in_err-right.ensures

pub judge_compare-returns : goal.judge_compare-returns
judge_compare-returns t c =
    let v = c.args.scopes.now in
    word_from_both c.args.place v c.word_of_both.result (judged c.args.left.now v) (judged c.args.right.now v) c.in_ok-left.left c.in_ok-right.right c.in_ok-left.ensures c.in_ok-right.ensures c.word_of_both.ensures

pub judge_chain-returns-in_err-first : goal.judge_chain-returns-in_err-first
judge_chain-returns-in_err-first t c =
    let v = c.args.scopes.now in
    let is = judge_chain c.args.place v c.args.first.now c.args.rest.now in
    first_refused (judge_kind (e.Chain c.args.first.now c.args.rest.now) c.args.place v) (judged c.args.first.now v) (map (λ y. judged y.1 v) c.args.rest.now) _ c.in_err-first.field-0.0 c.from_residual.result (ap (λ j. j.breaks) is) c.from_residual.ensures.1 c.in_err-first.ensures

pub judge_chain-returns-in_err-terms : goal.judge_chain-returns-in_err-terms
judge_chain-returns-in_err-terms t c =
    let v = c.args.scopes.now in
    let is = judge_chain c.args.place v c.args.first.now c.args.rest.now in
    others_refused (judge_kind (e.Chain c.args.first.now c.args.rest.now) c.args.place v) (judged c.args.first.now v) (map (λ y. judged y.1 v) c.args.rest.now) _ c.in_err-terms.field-0.0 c.from_residual-in_err-terms.result (ap (λ j. j.breaks) is)
    c.in_ok-first.ensures.0 c.from_residual-in_err-terms.ensures.1 c.in_err-terms.ensures

pub judge_chain-returns : goal.judge_chain-returns
judge_chain-returns t c =
    let v = c.args.scopes.now in
    let n = length c.args.rest.now in
    subst (λ j. IsJudged j c.chain_of.result) (sym (judge_chain c.args.place v c.args.first.now c.args.rest.now))
    (chain_passes c.args.place v c.chain_of.result n (judged c.args.first.now v) (map (λ y. judged y.1 v) c.args.rest.now) c.in_ok-first.first c.in_ok-terms.terms c.in_ok-first.ensures c.in_ok-terms.ensures c.chain_of.ensures)

pub judge_parts-returns-in_err-part : goal.judge_parts-returns-in_err-part
judge_parts-returns-in_err-part t c =
    let v = c.args.scopes.now in
    let judged_part = λ (x : Spanned ExprKind). judged x v in
    let e = c.in_err-part.field-0.0 in
    let xs = c.args.parts.now in
    handed_on (TellsParts (map judged_part xs)) (breaks_of (map judged_part xs)) e c.from_residual.result c.from_residual.ensures.1
    (item_refused judged_part xs c.loop-part.part-index c.part-item.result e c.loop-part-test.true c.part-item.is c.loop-part.invariant.0 c.in_err-part.ensures)

pub judge_parts-returns : goal.judge_parts-returns
judge_parts-returns t c =
    let v = c.args.scopes.now in
    let judged_part = λ (x : Spanned ExprKind). judged x v in
    let none = drop_all c.loop-part.part-index c.args.parts.now c.loop-part-test.false in
    let inv = c.loop-part.invariant in (
      inv.0 ∙ ap (λ xs. breaks_of (map judged_part xs)) none,
      (
        sym (append-nil c.loop-part.shapes) ∙ sym (ap (λ xs. c.loop-part.shapes ++ map (λ j. j.shape) (map judged_part xs)) none) ∙ inv.1,
        weight_at_end c.loop-part.weight _ inv.3 (sym (ap (λ xs. min (c.loop-part.weight + weights (map judged_part xs)) (2 ^ 64 - 1)) none) ∙ inv.2),
      ),
    )

pub judge_terms-returns-in_err-term : goal.judge_terms-returns-in_err-term
judge_terms-returns-in_err-term t c =
    let v = c.args.scopes.now in
    let judged_term = λ (y : BinOp × Spanned ExprKind). judged y.1 v in
    let e = c.in_err-term.field-0.0 in
    let ys = c.args.terms.now in
    handed_on (TellsTerms (map judged_term ys)) (breaks_of (map judged_term ys)) e c.from_residual.result c.from_residual.ensures.1
    (item_refused judged_term ys c.loop-term.term-index c.loop-term-item.result e c.loop-term-test.true c.loop-term-item.is c.loop-term.invariant.0 c.in_err-term.ensures)

pub judge_terms-returns : goal.judge_terms-returns
judge_terms-returns t c =
    let v = c.args.scopes.now in
    let judged_term = λ (y : BinOp × Spanned ExprKind). judged y.1 v in
    let none = drop_all c.loop-term.term-index c.args.terms.now c.loop-term-test.false in
    let inv = c.loop-term.invariant in (
      inv.0 ∙ ap (λ ys. breaks_of (map judged_term ys)) none,
      (
        or_false c.loop-term.has_no_word ∙ sym (ap (λ ys. c.loop-term.has_no_word || has_no_word (map judged_term ys)) none) ∙ inv.1,
        weight_at_end c.loop-term.weight _ inv.3 (sym (ap (λ ys. min (c.loop-term.weight + weights (map judged_term ys)) (2 ^ 64 - 1)) none) ∙ inv.2),
      ),
    )
