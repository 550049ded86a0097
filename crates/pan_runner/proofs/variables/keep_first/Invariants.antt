use Rattle.std.proofs.Common.{◌≡◌, take, length}
use Rattle.pan_runner.proofs.variables.keep_first.Given as goal

abbrev pub invariant-last : goal.invariant-last
invariant-last l = take l.count l.variables ≡ take l.count l.initial.variables

abbrev pub decreases-last : goal.decreases-last
decreases-last l = length l.variables
