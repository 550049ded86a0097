use Rattle.std.proofs.Common.{◌≡◌, length, take}
use Rattle.pan_driver.specs.Chained.{renamed}
use Rattle.pan_driver.proofs.allocating.apply_all.Given as goal

abbrev pub invariant-loop-function : goal.invariant-loop-function
invariant-loop-function l = l.made ≡ renamed (take (length l.yielded) l.functions) (take (length l.yielded) l.colours)
