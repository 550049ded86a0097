use Rattle.std.proofs.Common.{refl}
use Rattle.pan_base.specs.Tokens.{placed}
use Rattle.pan_parser.proofs.Lefts.{spans}
use Rattle.pan_parser.proofs.cursor.span_between.Goals as goal

pub returns : goal.returns
returns c = spans c.args.tokens.now c.args.from c.args.to (placed c.get.result) (placed c.get-2.result) _ c.requires.some c.requires.within c.get.ensures.token c.get-2.ensures.token refl
