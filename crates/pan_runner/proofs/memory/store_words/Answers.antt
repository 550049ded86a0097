use Rattle.std.proofs.Common.{◌≡◌, Some, None, sym, subst}
use Rattle.std.specs.Bool.{OnTrue, OnFalse}
use Rattle.pan_control.specs.Memory.{with_words}
use Rattle.pan_tree.specs.Value.{words_in}
use Rattle.pan_runner.specs.Told.{told}
use Rattle.pan_runner.proofs.LocalWords.{all_stored, some_refused}
use Rattle.pan_runner.proofs.memory.store_words.Goals as goal

pub returns-clause-stored : goal.returns-clause-stored
returns-clause-stored c =
    let ns = words_in (told c.args.value.now) in
    let after = c.store_value.new.memory in
    subst (λ b. OnTrue b (with_words c.args.memory.now c.args.addr ns ≡ Some after)) (sym c.is_some.ensures)
    (all_stored c.args.memory.now after c.args.addr ns c.store_value.result c.store_value.ensures.written)

pub returns-clause-refused : goal.returns-clause-refused
returns-clause-refused c =
    let ns = words_in (told c.args.value.now) in
    let after = c.store_value.new.memory in
    subst (λ b. OnFalse b (with_words c.args.memory.now c.args.addr ns ≡ None)) (sym c.is_some.ensures)
    (some_refused c.args.memory.now after c.args.addr ns c.store_value.result c.store_value.ensures.written)
