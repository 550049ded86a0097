use Rattle.std.proofs.Common.{Some, None, ◌++◌, ap, sym, ◌∙◌}
use Rattle.std.proofs.lemmas.List.{drop_all}
use Rattle.pan_control.specs.Memory.{with_words}
use Rattle.pan_runner.specs.Stored.{stored_on, words_in_each}
use Rattle.pan_runner.proofs.LocalWords.{value_stored, value_refused, struct_stored, each_stored}
use Rattle.pan_runner.proofs.memory.+store.Goals as goal

pub store_each-returns-in_err-at-clause-written : goal.store_each-returns-in_err-at-clause-written
store_each-returns-in_err-at-clause-written t c more =
    c.loop-value.invariant more
    ∙ each_stored c.loop-value.memory c.store_value.new.memory c.loop-value.at c.args.values.now c.loop-value.value-index c.value-item.result None c.loop-value-test.true c.value-item.is c.in_err-at.ensures.written more
    ∙ sym (ap (λ o. stored_on c.store_value.new.memory o more) c.from_residual.ensures)

pub store_each-loop-value-preserved : goal.store_each-loop-value-preserved
store_each-loop-value-preserved t c more =
    c.loop-value.invariant more
    ∙ each_stored c.loop-value.memory c.store_value.new.memory c.loop-value.at c.args.values.now c.loop-value.value-index c.value-item.result (Some c.in_ok-at.at) c.loop-value-test.true c.value-item.is c.in_ok-at.ensures.written more

pub store_each-returns-clause-written : goal.store_each-returns-clause-written
store_each-returns-clause-written t c more =
    c.loop-value.invariant more
    ∙ ap (λ vs. with_words c.loop-value.memory c.loop-value.at (words_in_each vs ++ more)) (drop_all c.loop-value.value-index c.args.values.now c.loop-value-test.false)

pub store_value-returns-then-store_word-clause-written : goal.store_value-returns-then-store_word-clause-written
store_value-returns-then-store_word-clause-written t c =
    value_stored c.args.value.now c.args.memory.now c.store_word.new.memory c.args.addr c.in-Word.word c.in-Word.is c.if-store_word.ensures.stored

pub store_value-returns-else-store_word-clause-written : goal.store_value-returns-else-store_word-clause-written
store_value-returns-else-store_word-clause-written t c =
    value_refused c.args.value.now c.args.memory.now c.store_word.new.memory c.args.addr c.in-Word.word c.in-Word.is c.if-store_word.ensures.refused

pub store_value-returns-in-Struct-clause-written : goal.store_value-returns-in-Struct-clause-written
store_value-returns-in-Struct-clause-written t c =
    let is = c.in-Struct.is in
    struct_stored c.args.value.now c.args.memory.now c.store_each.new.memory c.args.addr c.as_slice.result.now c.store_each.result (cc) c.store_each.ensures.written
