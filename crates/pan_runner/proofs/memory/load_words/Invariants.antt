use Rattle.std.proofs.Common.{◌≡◌, ◌-◌}
use Rattle.pan_control.specs.Memory.{words_at}
use Rattle.pan_runner.proofs.LocalWords.{behind}
use Rattle.pan_runner.proofs.memory.load_words.Given as goal

-- what is left completes what is done
abbrev pub invariant-loop : goal.invariant-loop
invariant-loop l = behind l.words (words_at l.memory l.at (l.count - l.counter)) ≡ words_at l.memory l.addr l.count
