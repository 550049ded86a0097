-- What is told of expressions that should be words, together.
use Rattle.std.specs.Prelude.{◌≡◌, ◌-◌, ◌^◌, min, List, Result}
use Rattle.pan_tree.specs.Check as check
use Rattle.pan_shapes.specs.declared.error.CheckError.{CheckError}
use Rattle.pan_shapes.specs.declared.statements.Words.{Words}
use Rattle.pan_shapes.specs.Answers.{IsAnswer}

-- the weight, or the greatest number of 64 bits where that is less, and whether one is no word
abbrev pub AreWords : List check.Judged → Result Words CheckError → Type 0
AreWords js result = IsAnswer (check.breaks_of js) (λ w. (w.weight ≡ min (check.weights js) (2 ^ 64 - 1)) × (w.has_no_word ≡ check.has_no_word js)) result
