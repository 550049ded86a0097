use Rattle.std.proofs.Common.{arith}
use Rattle.pan_parser.proofs.Lefts.{comes, none_left}
use Rattle.pan_base.specs.Tokens.{placed}
use Rattle.pan_parser.proofs.cursor.first.Goals as goal

pub returns-then-at-len-clause-some : goal.returns-then-at-len-clause-some
returns-then-at-len-clause-some c = comes c.args.tokens.now c.args.at (placed c.get.result) c.get.ensures.token (omega arith) c.get.ensures.spelled

pub returns-else-at-len-clause-none : goal.returns-else-at-len-clause-none
returns-else-at-len-clause-none c = none_left c.args.tokens.now c.args.at (omega arith)
