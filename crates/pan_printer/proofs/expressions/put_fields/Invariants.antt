use Rattle.std.proofs.Common.{◌≡◌, ◌++◌, drop}
use Rattle.pan_printer.specs.Pieces.{text_of}
use Rattle.pan_printer.specs.Expressions.{fields}
use Rattle.pan_printer.proofs.expressions.put_fields.Given as goal

abbrev pub invariant-loop-index : goal.invariant-loop-index
invariant-loop-index l = l.out ++ text_of (fields (drop l.index-index l.path)) ≡ l.initial.out ++ text_of (fields l.path)
