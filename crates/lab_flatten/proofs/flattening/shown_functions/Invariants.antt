use Rattle.std.proofs.Common.{◌≡◌, map, take}
use Rattle.lab_flatten.specs.Flatten.{lab_function}
use Rattle.lab_flatten.proofs.flattening.shown_functions.Given as goal

abbrev pub invariant-loop-function : goal.invariant-loop-function
invariant-loop-function l = l.shown ≡ map lab_function (take l.function-index l.functions)
