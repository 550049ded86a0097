use Rattle.std.proofs.Common.{◌≡◌, max, drop}
use Rattle.pan_flow.specs.Functions.{above}
use Rattle.reg_alloc.proofs.variables.above_all.Given as goal

-- the greatest so far, with those that are left
abbrev pub invariant-loop-i : goal.invariant-loop-i
invariant-loop-i l = max l.most (above (drop l.i l.xs)) ≡ above l.xs
