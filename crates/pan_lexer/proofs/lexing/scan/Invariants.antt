use Rattle.std.proofs.Common.{length}
use Rattle.std.specs.Prelude.{map}
use Rattle.pan_base.specs.Tokens.{placed}
use Rattle.pan_lexer.proofs.RowLemmas.{ScannedSo}
use Rattle.pan_lexer.proofs.lexing.scan.Given as goal

abbrev pub invariant-pieces : goal.invariant-pieces
invariant-pieces l = ScannedSo l.bytes l.rest (map placed l.tokens)

abbrev pub decreases-pieces : goal.decreases-pieces
decreases-pieces l = length l.rest
