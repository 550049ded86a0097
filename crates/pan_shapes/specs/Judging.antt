-- What is told of expressions that break no rule.
use Rattle.std.specs.Prelude.{◌≡◌, ℕ, ◌-◌, ◌^◌, min, List, map, Result}
use Rattle.pan_tree.specs.Check as check
use Rattle.pan_shapes.specs.declared.error.CheckError.{CheckError}
use Rattle.pan_tree.specs.declared.shape.Shape.{Shape}
use Rattle.pan_shapes.specs.declared.judging.Judged.{Judged}
use Rattle.pan_shapes.specs.declared.judging.Parts.{Parts}
use Rattle.pan_shapes.specs.declared.judging.Terms.{Terms}
use Rattle.pan_shapes.specs.Answers.{IsAnswer}

-- the shape, and the weight, or the greatest number of 64 bits where that is less
abbrev pub Tells : check.Judged → Judged → Type 0
Tells j k = (k.shape ≡ j.shape) × (k.weight ≡ min j.weight (2 ^ 64 - 1))

-- the same of each
abbrev pub TellsAll : List check.Judged → List Judged → Type 0
TellsAll js ks = (map (λ k. k.shape) ks ≡ map (λ j. j.shape) js) × (map (λ k. k.weight) ks ≡ map (λ j. min j.weight (2 ^ 64 - 1)) js)

abbrev pub IsJudged : check.Judged → Result Judged CheckError → Type 0
IsJudged j result = IsAnswer j.breaks (Tells j) result

-- expressions one after another
abbrev pub AreJudged : List check.Judged → Result (List Judged) CheckError → Type 0
AreJudged js result = IsAnswer (check.breaks_of js) (TellsAll js) result

-- the shapes and the sum of the weights
abbrev pub TellsParts : List check.Judged → Parts → Type 0
TellsParts js p = (p.shapes ≡ map (λ j. j.shape) js) × (p.weight ≡ min (check.weights js) (2 ^ 64 - 1))

abbrev pub AreParts : List check.Judged → Result Parts CheckError → Type 0
AreParts js result = IsAnswer (check.breaks_of js) (TellsParts js) result

-- whether some is no word, and the sum of the weights
abbrev pub TellsTerms : List check.Judged → Terms → Type 0
TellsTerms js t = (t.has_no_word ≡ check.has_no_word js) × (t.weight ≡ min (check.weights js) (2 ^ 64 - 1))

abbrev pub AreTerms : List check.Judged → Result Terms CheckError → Type 0
AreTerms js result = IsAnswer (check.breaks_of js) (TellsTerms js) result

-- it has this shape and weighs so much
abbrev pub IsMade : Shape → ℕ → Judged → Type 0
IsMade s n k = (k.shape ≡ s) × (k.weight ≡ min n (2 ^ 64 - 1))
