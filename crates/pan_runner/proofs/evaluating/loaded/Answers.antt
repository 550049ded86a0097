use Rattle.std.proofs.Common.{ap, sym, ◌∙◌, arith}
use Rattle.pan_tree.specs.Shapes.{filled}
use Rattle.pan_runner.specs.Told.{told}
use Rattle.pan_runner.proofs.LoadLemmas.{loaded_some, loaded_none}
use Rattle.pan_runner.proofs.evaluating.loaded.Goals as goal

pub returns-in_ok-filled-in-Some : goal.returns-in_ok-filled-in-Some
returns-in_ok-filled-in-Some c =
    loaded_some c.args.shape.now c.args.memory.now c.args.addr c.count_words.result (omega arith) c.count_words.ensures
    c.in-Some.words (told c.in_ok-filled-in-Some.field-0) (sym c.in_ok-words.ensures ∙ c.in-Some.is) (c.in_ok-filled-in-Some.ensures ∙ ap (filled c.args.shape.now) c.as_slice.ensures)

pub returns-in-None : goal.returns-in-None
returns-in-None c =
    loaded_none c.args.shape.now c.args.memory.now c.args.addr c.count_words.result (omega arith) c.count_words.ensures (sym c.in_ok-words.ensures ∙ c.in-None.is)
