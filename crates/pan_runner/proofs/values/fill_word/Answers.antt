use Rattle.std.proofs.lemmas.List.{take_rest}
use Rattle.pan_runner.proofs.ToldLayers.{told_word}
use Rattle.pan_runner.proofs.values.fill_word.Goals as goal

pub returns-in-len1-up : goal.returns-in-len1-up
returns-in-len1-up c = simp (told_word, take_rest)
