use Rattle.std.proofs.Common.{◌≡◌, map, take}
use Rattle.stack_frames.specs.Frames.{number_in, framed}
use Rattle.stack_frames.proofs.bodies.+frames.Given as goal

abbrev pub invariant-framed_all-loop-stmt : goal.invariant-framed_all-loop-stmt
invariant-framed_all-loop-stmt l = l.code ≡ map (framed (number_in l.slots.homes)) (take l.stmt-index l.stmts)
