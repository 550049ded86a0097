use Rattle.std.proofs.Common.{◌≡◌, ℕ, length, drop}
use Rattle.std.specs.Prelude.{◌||◌}
use Rattle.pan_flow.specs.Flow.{has}
use Rattle.pan_flow.specs.Functions.{above}
use Rattle.word_select.specs.Pruned.{is_set}
use Rattle.word_select.proofs.uses.flags_of.Given as goal

-- there is a flag for each, and those that are still to be set complete what is set
abbrev pub invariant-loop-x : goal.invariant-loop-x
invariant-loop-x l = (length l.flags ≡ above l.variables) × ((y : ℕ) → (is_set l.flags y || has (drop l.x-index l.variables) y) ≡ has l.variables y)
