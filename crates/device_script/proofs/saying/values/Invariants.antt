use Rattle.std.proofs.Common.{◌≡◌, length}
use Rattle.device_script.specs.Lines.{words}
use Rattle.device_script.specs.Saying.{numbers_said}
use Rattle.device_script.proofs.SayingLemmas.{after_values}
use Rattle.device_script.proofs.saying.values.Given as goal

-- the values so far come before those of the words that are left
abbrev pub invariant-words : goal.invariant-words
invariant-words l = numbers_said (words l.fn.rest) ≡ after_values l.values (numbers_said (words l.rest))

abbrev pub decreases-words : goal.decreases-words
decreases-words l = length l.rest
