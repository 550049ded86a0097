use Rattle.std.proofs.Common.{◌≡◌, drop}
use Rattle.std.specs.Prelude.{max}
use Rattle.pan_flow.specs.Functions.{above}
use Rattle.word_select.proofs.bounds.above_all.Given as goal

-- what is above the rest completes it
abbrev pub invariant-loop-x : goal.invariant-loop-x
invariant-loop-x l = max l.least (above (drop l.x-index l.variables)) ≡ above l.variables
