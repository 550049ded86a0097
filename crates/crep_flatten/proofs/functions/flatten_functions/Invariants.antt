use Rattle.std.proofs.Common.{◌≡◌, true, map, take}
use Rattle.std.specs.List.{list_all}
use Rattle.crep_flatten.specs.Flattened.{flat_function}
use Rattle.crep_flatten.specs.Literals.{function_fits}
use Rattle.crep_flatten.proofs.functions.flatten_functions.Given as goal

abbrev pub invariant-loop-i : goal.invariant-loop-i
invariant-loop-i l = (l.all ≡ map (flat_function l.checked) (take l.i l.functions)) × (list_all function_fits (take l.i l.functions) ≡ true)
