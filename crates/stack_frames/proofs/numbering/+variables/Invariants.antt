use Rattle.std.proofs.Common.{◌≡◌, ◌++◌, drop, map}
use Rattle.pan_flow.specs.Functions.{variables, all_in_turn}
use Rattle.word_lang.specs.Text.{flow_of}
use Rattle.stack_frames.proofs.numbering.+variables.Given as goal

-- what is left to put completes what was put
abbrev pub invariant-put_variables_of-loop-stmt : goal.invariant-put_variables_of-loop-stmt
invariant-put_variables_of-loop-stmt l = l.homes ++ variables (all_in_turn (map flow_of (drop l.stmt-index l.stmts))) ≡ l.fn.homes ++ variables (all_in_turn (map flow_of l.stmts))
