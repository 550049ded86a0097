use Rattle.std.proofs.Common.{◌+◌, ◌-◌, ◌*◌, length}
use Rattle.pan_tree.specs.Grammar.{nesting_limit}
use Rattle.pan_parser.proofs.StmtTrees.{StmtsSo}
use Rattle.pan_parser.proofs.statements.+stmts.Given as goal

abbrev pub decreases-block : goal.decreases-block
decreases-block l = 16 * (nesting_limit - l.depth)

abbrev pub decreases-handler : goal.decreases-handler
decreases-handler l = 16 * (nesting_limit - l.depth) + 1

abbrev pub decreases-call_end : goal.decreases-call_end
decreases-call_end l = 16 * (nesting_limit - l.depth) + 2

abbrev pub decreases-declared : goal.decreases-declared
decreases-declared l = 16 * (nesting_limit - l.depth) + 3

abbrev pub decreases-assigned : goal.decreases-assigned
decreases-assigned l = 16 * (nesting_limit - l.depth) + 3

abbrev pub decreases-called : goal.decreases-called
decreases-called l = 16 * (nesting_limit - l.depth) + 3

abbrev pub decreases-branch : goal.decreases-branch
decreases-branch l = 16 * (nesting_limit - l.depth) + 3

abbrev pub decreases-repeated : goal.decreases-repeated
decreases-repeated l = 16 * (nesting_limit - l.depth) + 3

abbrev pub decreases-worded : goal.decreases-worded
decreases-worded l = 16 * (nesting_limit - l.depth) + 4

abbrev pub decreases-stmt_kind : goal.decreases-stmt_kind
decreases-stmt_kind l = 16 * (nesting_limit - l.depth) + 5

abbrev pub decreases-stmt : goal.decreases-stmt
decreases-stmt l = 16 * (nesting_limit - l.depth) + 6

abbrev pub decreases-stmts : goal.decreases-stmts
decreases-stmts l = 16 * (nesting_limit - l.depth) + 7

abbrev pub invariant-stmts-stmts : goal.invariant-stmts-stmts
invariant-stmts-stmts l = StmtsSo l.tokens l.depth l.fn.at l.rest l.all

abbrev pub decreases-stmts-stmts : goal.decreases-stmts-stmts
decreases-stmts-stmts l = length l.tokens.tokens - l.rest
