use Rattle.std.proofs.Common.{◌≡◌, ◌-◌, ◌++◌}
use Rattle.pan_stage.specs.Locals.{numbers_from}
use Rattle.word_select.proofs.whole.first_variables.Given as goal

-- the numbers that are left complete those that are there
abbrev pub invariant-loop-x : goal.invariant-loop-x
invariant-loop-x l = l.xs ++ numbers_from l.x (l.count - l.x) ≡ numbers_from 0 l.count
