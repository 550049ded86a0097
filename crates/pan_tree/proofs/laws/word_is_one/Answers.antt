use Rattle.pan_tree.proofs.ShapeLayers.{words_word, is_word_word, same_word}
use Rattle.pan_tree.proofs.laws.word_is_one.Goals as goal

pub returns : goal.returns
returns c = record { words = words_word; word = is_word_word; alike = same_word }
