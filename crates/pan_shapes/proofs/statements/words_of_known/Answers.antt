use Rattle.std.proofs.Common.{◌≡◌, arith, ap, ◌∙◌}
use Rattle.std.specs.Option.{option_copied}
use Rattle.pan_tree.specs.Check.{or_word}
use Rattle.pan_tree.specs.Shapes.{words_of}
use Rattle.pan_tree.proofs.ShapeLayers.{words_word}
use Rattle.pan_shapes.proofs.statements.words_of_known.Goals as goal

pub returns-in-None : goal.returns-in-None
returns-in-None c = let one : words_of (or_word (option_copied c.args.known)) ≡ 1 = ap (λ o. words_of (or_word (option_copied o))) c.in-None.is ∙ words_word in omega arith
