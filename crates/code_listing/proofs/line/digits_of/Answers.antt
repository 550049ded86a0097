use Rattle.std.proofs.Common.{ap, ◌∙◌}
use Rattle.hex.specs.Hex.{encode_lower}
use Rattle.code_listing.specs.Operands.{eight_digits}
use Rattle.code_listing.proofs.Digits.{hex_text_of}
use Rattle.code_listing.proofs.line.digits_of.Goals as goal

pub returns : goal.returns
unfolding eight_digits
returns c = c.in-Ok.ensures.written ∙ ap encode_lower c.to_be_bytes.ensures ∙ hex_text_of c.args.number
