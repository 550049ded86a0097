use Rattle.std.proofs.Common.{◌≡◌, map, take}
use Rattle.word_select.specs.Pruned.{chosen_function}
use Rattle.word_select.proofs.whole.choose_functions.Given as goal

abbrev pub invariant-loop-i : goal.invariant-loop-i
invariant-loop-i l = l.made ≡ map chosen_function (take l.i l.functions)
