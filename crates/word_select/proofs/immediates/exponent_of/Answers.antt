use Rattle.std.proofs.Common.{◌≡◌, ◌-◌, arith, sym, ap, ◌∙◌}
use Rattle.word_select.specs.Facts.{exponent_below}
use Rattle.word_select.proofs.Exponents.{exponent_hit, exponent_miss}
use Rattle.word_select.proofs.immediates.exponent_of.Goals as goal

pub returns-then-word-exponent : goal.returns-then-word-exponent
returns-then-word-exponent c = sym (exponent_hit c.loop-i.i c.args.word c.loop-i-test.true c.if-word-exponent.true) ∙ c.loop-i.invariant

pub loop-i-preserved : goal.loop-i-preserved
loop-i-preserved c = sym (exponent_miss c.loop-i.i c.args.word c.loop-i-test.true c.if-word-exponent.false) ∙ c.loop-i.invariant

pub returns : goal.returns
returns c = let l = c.loop-i-test.false in let e : 64 - c.loop-i.i ≡ 0 = omega (arith, l) in sym (ap (λ n. exponent_below n c.args.word) e) ∙ c.loop-i.invariant
