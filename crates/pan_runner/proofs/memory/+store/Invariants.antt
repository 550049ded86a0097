use Rattle.std.proofs.Common.{◌≡◌, ℕ, List, ◌++◌, drop}
use Rattle.pan_control.specs.Memory.{with_words}
use Rattle.pan_runner.specs.Stored.{words_in_each}
use Rattle.pan_runner.proofs.memory.+store.Given as goal

-- what is left completes what is done
abbrev pub invariant-store_each-loop-value : goal.invariant-store_each-loop-value
invariant-store_each-loop-value l =
    (more : List ℕ) → with_words l.fn.memory l.fn.addr (words_in_each l.values ++ more) ≡ with_words l.memory l.at (words_in_each (drop l.value-index l.values) ++ more)
