use Rattle.std.proofs.Common.{◌≡◌, ◌++◌, ◌+◌, ◌*◌, drop}
use Rattle.std.specs.Prelude.{flat_map}
use Rattle.pan_printer.specs.Pieces.{text_of}
use Rattle.pan_printer.specs.Canonical.{stmt_pieces}
use Rattle.pan_printer.proofs.statements.+stmt.Given as goal

-- what is left to do completes what is done
abbrev pub invariant-put_block-loop-stmt : goal.invariant-put_block-loop-stmt
invariant-put_block-loop-stmt l =
    l.out ++ text_of (flat_map stmt_pieces (drop l.stmt-index l.stmt-items)) ≡ l.initial.out ++ text_of (flat_map stmt_pieces l.stmt-items)

-- a handler calls its block, and a block its statements
abbrev pub decreases-put_stmt : goal.decreases-put_stmt
decreases-put_stmt l = 3 * goal.size-put_stmt l

abbrev pub decreases-put_block : goal.decreases-put_block
decreases-put_block l = 3 * goal.size-put_block l + 1

abbrev pub decreases-put_handler : goal.decreases-put_handler
decreases-put_handler l = 3 * goal.size-put_handler l + 2
