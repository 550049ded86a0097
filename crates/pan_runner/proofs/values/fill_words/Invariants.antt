use Rattle.std.proofs.Common.{◌≡◌, ◌-◌, replicate}
use Rattle.pan_tree.specs.Shapes.{fill_word, fill_each}
use Rattle.pan_runner.specs.Told.{all_told}
use Rattle.pan_runner.proofs.FillLemmas.{behind}
use Rattle.pan_runner.proofs.values.fill_words.Given as goal

-- what is left completes what is done
abbrev pub invariant-loop : goal.invariant-loop
invariant-loop l = behind (all_told l.values) (fill_each (replicate (l.count - l.counter) fill_word) l.left) ≡ fill_each (replicate l.count fill_word) l.fn.words
