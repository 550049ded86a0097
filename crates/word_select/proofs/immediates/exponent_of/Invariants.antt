use Rattle.std.proofs.Common.{◌≡◌, ◌-◌}
use Rattle.word_select.specs.Facts.{exponent_below}
use Rattle.word_select.proofs.immediates.exponent_of.Given as goal

-- no greater exponent is the word's
abbrev pub invariant-loop-i : goal.invariant-loop-i
invariant-loop-i l = exponent_below (64 - l.i) l.word ≡ exponent_below 64 l.word
