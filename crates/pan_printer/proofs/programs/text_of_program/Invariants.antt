use Rattle.std.proofs.Common.{◌≡◌, ◌++◌, drop}
use Rattle.std.specs.Prelude.{flat_map}
use Rattle.pan_printer.specs.Pieces.{text_of}
use Rattle.pan_printer.specs.Canonical.{exception_pieces, function_pieces}
use Rattle.pan_printer.proofs.programs.text_of_program.Given as goal

-- what is left to do completes what is done
abbrev pub invariant-loop-exception : goal.invariant-loop-exception
invariant-loop-exception l =
    l.out ++ text_of (flat_map exception_pieces (drop l.exception-index l.exception-items)) ≡ text_of (flat_map exception_pieces l.exception-items)

abbrev pub invariant-loop-function : goal.invariant-loop-function
invariant-loop-function l =
    l.out ++ text_of (flat_map function_pieces (drop l.function-index l.function-items)) ≡ l.initial.out ++ text_of (flat_map function_pieces l.function-items)
