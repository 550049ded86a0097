use Rattle.std.proofs.Common.{◌∙◌, ap, ◌∷◌}
use Rattle.std.proofs.lemmas.List.{append-nil}
use Rattle.hex.specs.Hex.{encode_lower}
use Rattle.pan_base.specs.Trace.{word_text}
use Rattle.pan_base.proofs.HexLemmas.{word-hex_text}
use Rattle.pan_base.proofs.trace.word_digits.Goals as goal

pub returns : goal.returns
unfolding word_text
returns c = ap (λ t. 48 ∷ 120 ∷ t) (append-nil _ ∙ c.in-Ok.ensures.written ∙ ap encode_lower c.to_be_bytes.ensures ∙ word-hex_text c.args.word)
