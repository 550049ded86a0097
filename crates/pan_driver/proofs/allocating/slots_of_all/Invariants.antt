use Rattle.std.proofs.Common.{take}
use Rattle.std.specs.List.{AllZip}
use Rattle.pan_driver.specs.Chained.{AreColoursOf}
use Rattle.pan_driver.proofs.allocating.slots_of_all.Given as goal

abbrev pub invariant-loop-function : goal.invariant-loop-function
invariant-loop-function l = AllZip AreColoursOf (take l.function-index l.functions) l.colours
