use Rattle.std.proofs.Common.{◌≡◌, ◌++◌, drop}
use Rattle.pan_command.specs.Bound.{names_of}
use Rattle.pan_command.proofs.bounding.add_names.Given as goal

-- what is left to be added gives the whole
abbrev pub invariant-loop-number : goal.invariant-loop-number
invariant-loop-number l = l.text.items ++ names_of l.program (drop l.number-index l.functions) ≡ l.initial.text.items ++ names_of l.program l.functions
