-- What a shape is spread to, and its parts, at each variant.
use Rattle.pan_tree.proofs.ShapeLayers.{parts_word, parts_words, parts_group}
use Rattle.check_soundness.proofs.SpreadShapes.{spread_word, spread_words, spread_group}

pub ruleset spread_rules = (spread_word, spread_words, spread_group)

pub ruleset parts_rules = (parts_word, parts_words, parts_group)
