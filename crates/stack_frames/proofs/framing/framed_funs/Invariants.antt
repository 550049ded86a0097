use Rattle.std.proofs.Common.{◌≡◌, map, take}
use Rattle.stack_frames.specs.Frames.{framed_function}
use Rattle.stack_frames.proofs.framing.framed_funs.Given as goal

abbrev pub invariant-loop-function : goal.invariant-loop-function
invariant-loop-function l = l.code ≡ map framed_function (take l.function-index l.functions)
