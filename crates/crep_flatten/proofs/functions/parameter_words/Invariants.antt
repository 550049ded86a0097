use Rattle.std.proofs.Common.{◌≡◌, ◌+◌, drop}
use Rattle.pan_tree.specs.Check as check
use Rattle.crep_flatten.proofs.functions.parameter_words.Given as goal

-- what is left completes what is done
abbrev pub invariant-loop-param : goal.invariant-loop-param
invariant-loop-param l = l.words + check.parameter_words (drop l.param-index l.params) ≡ check.parameter_words l.params
