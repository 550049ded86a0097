use Rattle.std.proofs.Common.{map, Some, None, refl, ap, sym, ◌∙◌}
use Rattle.std.specs.Prelude.{option_map, option_and_then}
use Rattle.pan_base.specs.Words.{negate}
use Rattle.pan_control.specs.Memory.{byte_at}
use Rattle.pan_tree.specs.Value.{Word, Struct, values_of, part_of_part}
use Rattle.pan_tree.specs.Meaning.{as_word, shifted}
use Rattle.pan_runner.specs.Told.{told, all_told}
use Rattle.source_resolver.specs.Slots.{chain, word}
use Rattle.pan_runner.specs.Evaluating.{term, loaded}
use Rattle.pan_runner.proofs.ToldLayers.{told_word, told_struct, part_of_none}
use Rattle.pan_runner.proofs.Gives.{lacking, lacks, gives_as, word_or}
use Rattle.pan_runner.proofs.GivingLayers.{compared, variable_is, struct_is, struct_no_word, field_is, load_is, number_word, load_byte_word, neg_word, chain_word, shift_word, compare_word, wraps, chain_of_none, chain_stopped, all_stopped}
use Rattle.pan_runner.proofs.evaluating.+evaluate.Goals as goal

pub evaluate-returns-in-Variable : goal.evaluate-returns-in-Variable
evaluate-returns-in-Variable t c =
    let u = all_told c.args.variables.now in
    gives_as told _ _ _ (c.variable.ensures ∙ sym (variable_is u c.args.memory.now c.args.expr.now c.in-Variable.place c.in-Variable.is)) c.copied.ensures

pub evaluate-returns-in_err-parts-in-Struct : goal.evaluate-returns-in_err-parts-in-Struct
evaluate-returns-in_err-parts-in-Struct t c =
    let u = all_told c.args.variables.now in
    let here = c.in-Struct.is in
    let is = struct_is u c.args.memory.now c.args.expr.now c.as_slice.result.now (cc) in
    lacks told _ _ (option_map (λ vs. Struct (values_of vs))) _ _ c.from_residual.ensures.1 c.in_err-parts-in-Struct.ensures is refl

pub evaluate-returns-in_ok-parts-in-Struct : goal.evaluate-returns-in_ok-parts-in-Struct
evaluate-returns-in_ok-parts-in-Struct t c =
    let u = all_told c.args.variables.now in
    let here = c.in-Struct.is in
    let is = struct_is u c.args.memory.now c.args.expr.now c.as_slice.result.now (cc) in
    is ∙ ap (option_map (λ vs. Struct (values_of vs))) c.in_ok-parts-in-Struct.ensures ∙ ap Some (sym (told_struct _))

pub evaluate-returns-in-Field : goal.evaluate-returns-in-Field
evaluate-returns-in-Field t c =
    let u = all_told c.args.variables.now in
    let here = c.in-Field.is in
    let is = field_is u c.args.memory.now c.args.expr.now c.get.result.now c.as_slice-in-Field.result.now (cc) in
    gives_as told _ _ _ (sym is) c.evaluate_field.ensures

pub evaluate-returns-in_err-addr-in-Load : goal.evaluate-returns-in_err-addr-in-Load
evaluate-returns-in_err-addr-in-Load t c =
    let u = all_told c.args.variables.now in
    let m = c.args.memory.now in
    let here = c.in-Load.is in
    let is = load_is u m c.args.expr.now c.in-Load.shape c.get-in-Load.result.now (cc) in
    lacks told _ _ (loaded c.in-Load.shape m) _ _ c.from_residual-in_err-addr-in-Load.ensures.1 c.in_err-addr-in-Load.ensures is refl

pub evaluate-returns-in_ok-addr-in-Load : goal.evaluate-returns-in_ok-addr-in-Load
evaluate-returns-in_ok-addr-in-Load t c =
    let u = all_told c.args.variables.now in
    let m = c.args.memory.now in
    let here = c.in-Load.is in
    let is = load_is u m c.args.expr.now c.in-Load.shape c.get-in-Load.result.now (cc) in
    gives_as told _ _ _ (ap (loaded c.in-Load.shape m) (sym c.in_ok-addr-in-Load.ensures) ∙ sym is) c.loaded.ensures

pub evaluate-returns-in_err-word-in-Number : goal.evaluate-returns-in_err-word-in-Number
evaluate-returns-in_err-word-in-Number t c =
    let is = wraps (all_told c.args.variables.now) c.args.memory.now c.args.expr.now c.in-Number.is in
    lacks told _ _ (option_map (λ n. Word n)) _ _ c.from_residual-in_err-word-in-Number.ensures.1 c.in_err-word-in-Number.ensures (sym is) refl

pub evaluate-returns-in_ok-word-in-Number : goal.evaluate-returns-in_ok-word-in-Number
evaluate-returns-in_ok-word-in-Number t c =
    let is = wraps (all_told c.args.variables.now) c.args.memory.now c.args.expr.now c.in-Number.is in
    sym is ∙ ap (option_map (λ n. Word n)) c.in_ok-word-in-Number.ensures ∙ ap Some (sym (told_word _))

pub evaluate_chain-returns-in_err-right : goal.evaluate_chain-returns-in_err-right
evaluate_chain-returns-in_err-right t c =
    let u = all_told c.args.variables.now in
    let m = c.args.memory.now in
    lacking _ _ _ _ _ c.from_residual.ensures.1 c.in_err-right.ensures
    (λ none. sym c.loop-op.invariant ∙ chain_stopped u m c.loop-op.word c.args.rest.now c.loop-op.op-index c.loop-op-item.result c.loop-op-test.true c.loop-op-item.is none)

pub evaluate_all-returns-in_err-value : goal.evaluate_all-returns-in_err-value
evaluate_all-returns-in_err-value t c =
    let u = all_told c.args.variables.now in
    let m = c.args.memory.now in
    lacking all_told _ _ _ _ c.from_residual.ensures.1 c.in_err-value.ensures
    (λ none. sym c.loop-expr.invariant ∙ all_stopped u m (all_told c.loop-expr.all) c.args.exprs.now c.loop-expr.expr-index c.expr-item.result c.loop-expr-test.true c.expr-item.is none)

pub evaluate_field-returns-in-Variable : goal.evaluate_field-returns-in-Variable
evaluate_field-returns-in-Variable t c =
    let u = all_told c.args.variables.now in
    let is = variable_is u c.args.memory.now c.args.of.now c.in-Variable.place c.in-Variable.is in
    gives_as told _ _ _ (c.part_of_variable.ensures ∙ sym (ap (λ a. part_of_part a c.args.path.now) is)) c.copied.ensures

pub evaluate_field-returns-in_err-value : goal.evaluate_field-returns-in_err-value
evaluate_field-returns-in_err-value t c =
    lacks told _ _ (λ a. part_of_part a c.args.path.now) _ _ c.from_residual.ensures.1 c.in_err-value.ensures refl (part_of_none c.args.path.now)

pub evaluate_field-returns : goal.evaluate_field-returns
evaluate_field-returns t c =
    gives_as told _ _ _ (c.part_at.ensures ∙ ap (λ a. part_of_part a c.args.path.now) (sym c.in_ok-value.ensures)) c.copied-2.ensures

pub evaluate_field_word-returns-in-Variable : goal.evaluate_field_word-returns-in-Variable
evaluate_field_word-returns-in-Variable t c =
    let u = all_told c.args.variables.now in
    let is = variable_is u c.args.memory.now c.args.of.now c.in-Variable.place c.in-Variable.is in
    word_or _ _ _ c.ok_or.ensures.value (sym (c.word_in.ensures ∙ ap as_word (c.part_of_variable.ensures ∙ sym (ap (λ a. part_of_part a c.args.path.now) is))))

pub evaluate_field_word-returns-in_err-value : goal.evaluate_field_word-returns-in_err-value
evaluate_field_word-returns-in_err-value t c =
    lacks _ _ _ (λ a. as_word (part_of_part a c.args.path.now)) _ _ c.from_residual.ensures.1 c.in_err-value.ensures refl (ap as_word (part_of_none c.args.path.now))

pub evaluate_field_word-returns : goal.evaluate_field_word-returns
evaluate_field_word-returns t c =
    word_or _ _ _ c.ok_or-2.ensures.value (sym (c.word_in-2.ensures ∙ ap as_word (c.part_at.ensures ∙ ap (λ a. part_of_part a c.args.path.now) (sym c.in_ok-value.ensures))))

pub evaluate_word-returns-in-Number : goal.evaluate_word-returns-in-Number
evaluate_word-returns-in-Number t c =
    number_word (all_told c.args.variables.now) c.args.memory.now c.args.expr.now c.in-Number.word c.in-Number.is

pub evaluate_word-returns-in-Variable : goal.evaluate_word-returns-in-Variable
evaluate_word-returns-in-Variable t c =
    word_or _ _ _ c.ok_or.ensures.value (sym (c.word_in.ensures ∙ ap as_word (c.variable.ensures ∙ sym (variable_is (all_told c.args.variables.now) c.args.memory.now c.args.expr.now c.in-Variable.place c.in-Variable.is))))

pub evaluate_word-returns-in-Struct : goal.evaluate_word-returns-in-Struct
evaluate_word-returns-in-Struct t c =
    struct_no_word (all_told c.args.variables.now) c.args.memory.now c.args.expr.now c.in-Struct.field-0 c.in-Struct.is

pub evaluate_word-returns-in-Field : goal.evaluate_word-returns-in-Field
evaluate_word-returns-in-Field t c =
    let u = all_told c.args.variables.now in
    let here = c.in-Field.is in
    let is = field_is u c.args.memory.now c.args.expr.now c.get.result.now c.as_slice.result.now (cc) in
    gives_as _ _ _ _ (sym (ap as_word is)) c.evaluate_field_word.ensures

pub evaluate_word-returns-in_err-addr-in-Load : goal.evaluate_word-returns-in_err-addr-in-Load
evaluate_word-returns-in_err-addr-in-Load t c =
    let u = all_told c.args.variables.now in
    let m = c.args.memory.now in
    let here = c.in-Load.is in
    let is = ap as_word (load_is u m c.args.expr.now c.in-Load.shape c.get-in-Load.result.now (cc)) in
    lacks _ _ _ (λ o. as_word (loaded c.in-Load.shape m o)) _ _ c.from_residual.ensures.1 c.in_err-addr-in-Load.ensures is refl

pub evaluate_word-returns-in_ok-addr-in-Load : goal.evaluate_word-returns-in_ok-addr-in-Load
evaluate_word-returns-in_ok-addr-in-Load t c =
    let u = all_told c.args.variables.now in
    let m = c.args.memory.now in
    let here = c.in-Load.is in
    let is = ap as_word (load_is u m c.args.expr.now c.in-Load.shape c.get-in-Load.result.now (cc)) in
    word_or _ _ _ c.ok_or-in-Load.ensures.value (is ∙ ap (λ o. as_word (loaded c.in-Load.shape m o)) c.in_ok-addr-in-Load.ensures ∙ sym c.loaded_word.ensures)

pub evaluate_word-returns-in_err-addr-in-LoadByte : goal.evaluate_word-returns-in_err-addr-in-LoadByte
evaluate_word-returns-in_err-addr-in-LoadByte t c =
    let u = all_told c.args.variables.now in
    let m = c.args.memory.now in
    let here = c.in-LoadByte.is in
    let is = load_byte_word u m c.args.expr.now c.get-in-LoadByte.result.now (cc) in
    lacks _ _ _ (option_and_then (byte_at m)) _ _ c.from_residual-in_err-addr-in-LoadByte.ensures.1 c.in_err-addr-in-LoadByte.ensures is refl

pub evaluate_word-returns-in_ok-addr-in-LoadByte : goal.evaluate_word-returns-in_ok-addr-in-LoadByte
evaluate_word-returns-in_ok-addr-in-LoadByte t c =
    let u = all_told c.args.variables.now in
    let m = c.args.memory.now in
    let here = c.in-LoadByte.is in
    let is = load_byte_word u m c.args.expr.now c.get-in-LoadByte.result.now (cc) in
    word_or _ _ _ c.ok_or-in-LoadByte.ensures.value (is ∙ ap (option_and_then (byte_at m)) c.in_ok-addr-in-LoadByte.ensures ∙ sym c.load_byte.ensures)

pub evaluate_word-returns-in_err-evaluate_word-in-Neg : goal.evaluate_word-returns-in_err-evaluate_word-in-Neg
evaluate_word-returns-in_err-evaluate_word-in-Neg t c =
    let u = all_told c.args.variables.now in
    let m = c.args.memory.now in
    let here = c.in-Neg.is in
    let is = neg_word u m c.args.expr.now c.get-in-Neg.result.now (cc) in
    lacks _ _ _ (option_map negate) _ _ c.from_residual-in_err-evaluate_word-in-Neg.ensures.1 c.in_err-evaluate_word-in-Neg.ensures is refl

pub evaluate_word-returns-in_ok-evaluate_word-in-Neg : goal.evaluate_word-returns-in_ok-evaluate_word-in-Neg
evaluate_word-returns-in_ok-evaluate_word-in-Neg t c =
    let u = all_told c.args.variables.now in
    let m = c.args.memory.now in
    let here = c.in-Neg.is in
    let is = neg_word u m c.args.expr.now c.get-in-Neg.result.now (cc) in
    is ∙ ap (option_map negate) c.in_ok-evaluate_word-in-Neg.ensures ∙ ap Some (sym c.negated.ensures)

pub evaluate_word-returns-in_err-first-in-Chain : goal.evaluate_word-returns-in_err-first-in-Chain
evaluate_word-returns-in_err-first-in-Chain t c =
    let u = all_told c.args.variables.now in
    let m = c.args.memory.now in
    let here = c.in-Chain.is in
    let rest = c.in-Chain.rest in
    let is = chain_word u m c.args.expr.now c.get-in-Chain.result.now rest (cc) in
    lacks _ _ _ (λ o. chain o (map term rest) u m) _ _ c.from_residual-in_err-first-in-Chain.ensures.1 c.in_err-first-in-Chain.ensures is (chain_of_none u m None rest refl)

pub evaluate_word-returns-in_ok-first-in-Chain : goal.evaluate_word-returns-in_ok-first-in-Chain
evaluate_word-returns-in_ok-first-in-Chain t c =
    let u = all_told c.args.variables.now in
    let m = c.args.memory.now in
    let here = c.in-Chain.is in
    let rest = c.as_slice-in-Chain.result.now in
    let is = chain_word u m c.args.expr.now c.get-in-Chain.result.now rest (cc) in
    gives_as _ _ _ _ (ap (λ o. chain o (map term rest) u m) (sym c.in_ok-first-in-Chain.ensures) ∙ sym is) c.evaluate_chain.ensures

pub evaluate_word-returns-in_err-word-in-Shift : goal.evaluate_word-returns-in_err-word-in-Shift
evaluate_word-returns-in_err-word-in-Shift t c =
    let u = all_told c.args.variables.now in
    let m = c.args.memory.now in
    let here = c.in-Shift.is in
    let amounts = c.in-Shift.amounts in
    let is = shift_word u m c.args.expr.now c.get-in-Shift.result.now amounts (cc) in
    lacks _ _ _ (option_map (shifted amounts)) _ _ c.from_residual-in_err-word-in-Shift.ensures.1 c.in_err-word-in-Shift.ensures is refl

pub evaluate_word-returns-in_ok-word-in-Shift : goal.evaluate_word-returns-in_ok-word-in-Shift
evaluate_word-returns-in_ok-word-in-Shift t c =
    let u = all_told c.args.variables.now in
    let m = c.args.memory.now in
    let here = c.in-Shift.is in
    let amounts = c.as_slice-in-Shift.result.now in
    let is = shift_word u m c.args.expr.now c.get-in-Shift.result.now amounts (cc) in
    is ∙ ap (option_map (shifted amounts)) c.in_ok-word-in-Shift.ensures ∙ ap Some (sym c.shifted_by_each.ensures)

pub evaluate_word-returns-in_err-left-in-Compare : goal.evaluate_word-returns-in_err-left-in-Compare
evaluate_word-returns-in_err-left-in-Compare t c =
    let u = all_told c.args.variables.now in
    let m = c.args.memory.now in
    let here = c.in-Compare.is in
    let y = c.get-in-Compare.result.now in
    let z = c.in-Compare.right in
    let is = compare_word u m c.args.expr.now c.in-Compare.cmp y z (cc) in
    lacks _ _ _ (λ o. compared c.in-Compare.cmp o (word z u m)) _ _ c.from_residual-in_err-left-in-Compare.ensures.1 c.in_err-left-in-Compare.ensures is refl

pub evaluate_word-returns-in_err-right-in-Compare : goal.evaluate_word-returns-in_err-right-in-Compare
evaluate_word-returns-in_err-right-in-Compare t c =
    let u = all_told c.args.variables.now in
    let m = c.args.memory.now in
    let here = c.in-Compare.is in
    let y = c.get-in-Compare.result.now in
    let z = c.get-in-Compare-2.result.now in
    let is = compare_word u m c.args.expr.now c.in-Compare.cmp y z (cc) in
    let left = is ∙ ap (λ o. compared c.in-Compare.cmp o (word z u m)) c.in_ok-left-in-Compare.ensures in
    lacks _ _ _ (compared c.in-Compare.cmp (Some _)) _ _ c.from_residual-in_err-right-in-Compare.ensures.1 c.in_err-right-in-Compare.ensures left refl

pub evaluate_word-returns-in_ok-right-in-Compare : goal.evaluate_word-returns-in_ok-right-in-Compare
evaluate_word-returns-in_ok-right-in-Compare t c =
    let u = all_told c.args.variables.now in
    let m = c.args.memory.now in
    let here = c.in-Compare.is in
    let y = c.get-in-Compare.result.now in
    let z = c.get-in-Compare-2.result.now in
    let is = compare_word u m c.args.expr.now c.in-Compare.cmp y z (cc) in
    let left = is ∙ ap (λ o. compared c.in-Compare.cmp o (word z u m)) c.in_ok-left-in-Compare.ensures in
    left ∙ ap (compared c.in-Compare.cmp (Some _)) c.in_ok-right-in-Compare.ensures ∙ ap Some (sym c.compared.ensures)
