use Rattle.std.proofs.Common.{◌≡◌}
use Rattle.pan_lexer.specs.Pieces.{sign_of}
use Rattle.pan_lexer.proofs.SignLemmas.{sign_by_three, sign_within_some}
use Rattle.pan_lexer.proofs.signs.sign.Goals as goal

pub returns-clause-value : goal.returns-clause-value
returns-clause-value c = rw (← sign_by_three c.args.bytes.now, ← c.byte_at.ensures, ← c.byte_at-2.ensures, ← c.byte_at-3.ensures) c.sign_by.ensures

pub returns-clause-within : goal.returns-clause-within
returns-clause-within c =
    let value : c.sign_by.result ≡ sign_of c.args.bytes.now = rw (← sign_by_three c.args.bytes.now, ← c.byte_at.ensures, ← c.byte_at-2.ensures, ← c.byte_at-3.ensures) c.sign_by.ensures in
    sign_within_some c.args.bytes.now c.sign_by.result value
