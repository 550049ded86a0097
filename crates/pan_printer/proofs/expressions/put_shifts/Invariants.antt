use Rattle.std.proofs.Common.{◌≡◌, ◌++◌, drop}
use Rattle.pan_printer.specs.Pieces.{text_of}
use Rattle.pan_printer.specs.Expressions.{shifts}
use Rattle.pan_printer.proofs.expressions.put_shifts.Given as goal

abbrev pub invariant-loop-operator : goal.invariant-loop-operator
invariant-loop-operator l = l.out ++ text_of (shifts (drop l.operator-index l.amounts)) ≡ l.initial.out ++ text_of (shifts l.amounts)
