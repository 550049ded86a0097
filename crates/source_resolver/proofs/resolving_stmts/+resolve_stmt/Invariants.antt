use Rattle.std.proofs.Common.{◌≡◌, ◌+◌, ◌*◌, ◌++◌, drop}
use Rattle.source_resolver.specs.Resolving.{resolved_stmts}
use Rattle.source_resolver.proofs.resolving_stmts.+resolve_stmt.Given as goal

-- what is left completes what is done
abbrev pub invariant-resolve_stmts-loop-stmt : goal.invariant-resolve_stmts-loop-stmt
invariant-resolve_stmts-loop-stmt l =
    let left = resolved_stmts (drop l.stmt-index l.stmts) l.directory l.places in
    let whole = resolved_stmts l.stmts l.directory l.initial.places in
    record { stmts : l.all ++ left.0 ≡ whole.0; after : left.1 ≡ whole.1 }

-- a call goes by its handler, a block and a handler by their statements, and those one by one
abbrev pub decreases-resolve_stmt : goal.decreases-resolve_stmt
decreases-resolve_stmt l = 4 * goal.size-resolve_stmt l

abbrev pub decreases-resolve_stmts : goal.decreases-resolve_stmts
decreases-resolve_stmts l = 4 * goal.size-resolve_stmts l + 1

abbrev pub decreases-resolve_block : goal.decreases-resolve_block
decreases-resolve_block l = 4 * goal.size-resolve_block l + 2

abbrev pub decreases-resolve_handler : goal.decreases-resolve_handler
decreases-resolve_handler l = 4 * goal.size-resolve_handler l + 2

abbrev pub decreases-resolve_call : goal.decreases-resolve_call
decreases-resolve_call l = 4 * goal.size-resolve_call l + 3
