use Rattle.std.proofs.Common.{◌≡◌, drop, map}
use Rattle.std.specs.Prelude.{max}
use Rattle.pan_flow.specs.Functions.{all_in_turn, variables}
use Rattle.pan_stage.specs.Sums.{above}
use Rattle.crep_lang.specs.Text.{flow_of}
use Rattle.loop_lower.proofs.numbers.+reach.Given as goal

abbrev pub invariant-above_stmts-loop-i : goal.invariant-above_stmts-loop-i
invariant-above_stmts-loop-i l = max l.most (above (variables (all_in_turn (map flow_of (drop l.i l.all))))) ≡ above (variables (all_in_turn (map flow_of l.all)))
