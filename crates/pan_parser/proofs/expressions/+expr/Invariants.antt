use Rattle.std.proofs.Common.{◌+◌, ◌-◌, ◌*◌, length}
use Rattle.pan_tree.specs.Grammar.{nesting_limit}
use Rattle.pan_parser.proofs.ExprWays.{operand_rank, chain_rank, ExprsSo, TermsSo}
use Rattle.pan_parser.proofs.expressions.+expr.Given as goal

abbrev pub decreases-primary : goal.decreases-primary
decreases-primary l = 16 * (nesting_limit - l.depth)

abbrev pub decreases-postfix : goal.decreases-postfix
decreases-postfix l = 16 * (nesting_limit - l.depth) + 1

abbrev pub decreases-unary : goal.decreases-unary
decreases-unary l = 16 * (nesting_limit - l.depth) + 2

abbrev pub decreases-operand : goal.decreases-operand
decreases-operand l = 16 * (nesting_limit - l.depth) + operand_rank l.level

abbrev pub decreases-chain : goal.decreases-chain
decreases-chain l = 16 * (nesting_limit - l.depth) + chain_rank l.level

abbrev pub decreases-shift : goal.decreases-shift
decreases-shift l = 16 * (nesting_limit - l.depth) + 7

abbrev pub decreases-expr : goal.decreases-expr
decreases-expr l = 16 * (nesting_limit - l.depth) + 14

abbrev pub decreases-exprs : goal.decreases-exprs
decreases-exprs l = 16 * (nesting_limit - l.depth) + 15

abbrev pub invariant-exprs-parts : goal.invariant-exprs-parts
invariant-exprs-parts l = ExprsSo l.tokens l.depth l.fn.at l.rest l.parts

abbrev pub decreases-exprs-parts : goal.decreases-exprs-parts
decreases-exprs-parts l = length l.tokens.tokens - l.rest

abbrev pub invariant-chain-terms : goal.invariant-chain-terms
invariant-chain-terms l = TermsSo l.tokens l.level l.depth l.initial.rest l.rest l.terms

abbrev pub decreases-chain-terms : goal.decreases-chain-terms
decreases-chain-terms l = length l.tokens.tokens - l.rest
