use Rattle.std.proofs.Common.{◌≡◌, length, drop, fold}
use Rattle.device_script.specs.Memory.{overwritten, filled}
use Rattle.device_script.proofs.memory.fill.Given as goal

-- with the pieces that are left it's the memory that is filled
abbrev pub invariant-loop-piece : goal.invariant-loop-piece
invariant-loop-piece l = fold (λ memory piece. overwritten memory piece.offset piece.bytes) l.memory (drop l.piece-index l.pieces) ≡ filled l.pieces (length l.fn.memory)
