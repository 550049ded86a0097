use Rattle.std.proofs.Common.{◌≡◌, drop}
use Rattle.std.specs.Prelude.{max}
use Rattle.pan_stage.specs.Sums.{above}
use Rattle.crep_lang.specs.Text.{all_read}
use Rattle.loop_lower.proofs.numbers.above_exprs.Given as goal

abbrev pub invariant-loop-i : goal.invariant-loop-i
invariant-loop-i l = max l.most (above (all_read (drop l.i l.exprs))) ≡ above (all_read l.exprs)
