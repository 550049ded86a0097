use Rattle.std.proofs.Common.{◌∙◌, ◌∷◌, [], suc, zero, arith}
use Rattle.pan_base.proofs.HexLemmas.{encode_lower-hex_text}
use Rattle.pan_base.proofs.trace.byte_digits.Goals as goal

pub returns : goal.returns
returns c = c.in-Ok.ensures.written ∙ encode_lower-hex_text (c.args.byte ∷ []) (elim [ zero ↦ omega (arith, c.ranges.byte.fits) | suc i ↦ omega arith ])
