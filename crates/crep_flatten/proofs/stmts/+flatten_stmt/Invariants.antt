use Rattle.std.proofs.Common.{◌≡◌, ◌+◌, ◌*◌, ◌++◌, true, map, take, drop}
use Rattle.crep_flatten.specs.Flattened.{flat_all, flattening}
use Rattle.crep_flatten.specs.Literals.{stmts_fit}
use Rattle.crep_flatten.proofs.stmts.+flatten_stmt.Given as goal

-- what is left completes what is done
abbrev pub invariant-flatten_stmts-loop-stmt : goal.invariant-flatten_stmts-loop-stmt
invariant-flatten_stmts-loop-stmt l =
    let left = flat_all (map flattening (drop l.stmt-index l.stmts)) l.directory l.here in
    let whole = flat_all (map flattening l.stmts) l.directory l.initial.here in
    record { stmts : l.all ++ left.0 ≡ whole.0; after : left.1 ≡ whole.1; fits : stmts_fit (take l.stmt-index l.stmts) ≡ true }

-- a call goes by its handler, a block and a handler by their statements, and those one by one
abbrev pub decreases-flatten_stmt : goal.decreases-flatten_stmt
decreases-flatten_stmt l = 5 * goal.size-flatten_stmt l

abbrev pub decreases-flatten_stmts : goal.decreases-flatten_stmts
decreases-flatten_stmts l = 5 * goal.size-flatten_stmts l + 1

abbrev pub decreases-flatten_block : goal.decreases-flatten_block
decreases-flatten_block l = 5 * goal.size-flatten_block l + 2

abbrev pub decreases-flatten_handler : goal.decreases-flatten_handler
decreases-flatten_handler l = 5 * goal.size-flatten_handler l + 2

abbrev pub decreases-flatten_caught : goal.decreases-flatten_caught
decreases-flatten_caught l = 5 * goal.size-flatten_caught l + 3

abbrev pub decreases-flatten_call : goal.decreases-flatten_call
decreases-flatten_call l = 5 * goal.size-flatten_call l + 4
