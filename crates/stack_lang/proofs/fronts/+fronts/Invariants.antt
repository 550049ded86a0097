use Rattle.std.proofs.Common.{◌≡◌, map, max, drop}
use Rattle.pan_stage.specs.Sums.{most}
use Rattle.stack_lang.specs.Frames.{front}
use Rattle.stack_lang.proofs.fronts.+fronts.Given as goal

-- the most so far, with those that are left
abbrev pub invariant-most_before_slots-loop-stmt : goal.invariant-most_before_slots-loop-stmt
invariant-most_before_slots-loop-stmt l = max l.so_far (most (map front (drop l.stmt-index l.stmts))) ≡ most (map front l.stmts)
