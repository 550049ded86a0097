use Rattle.std.proofs.Common.{◌≡◌, map, max, drop}
use Rattle.pan_flow.specs.Functions.{above, all_in_turn, variables}
use Rattle.word_lang.specs.Text.{flow_of}
use Rattle.reg_alloc.proofs.variables.+above.Given as goal

-- the greatest so far, with those that are left
abbrev pub invariant-above_row-loop-i : goal.invariant-above_row-loop-i
invariant-above_row-loop-i l =
    max l.most (above (variables (all_in_turn (map flow_of (drop l.i l.all))))) ≡ above (variables (all_in_turn (map flow_of l.all)))
