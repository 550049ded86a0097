use Rattle.std.proofs.Common.{◌≡◌, ◌-◌, drop}
use Rattle.pan_lexer.specs.Pieces.{after_close}
use Rattle.pan_lexer.proofs.comments.after_close.Given as goal

abbrev pub invariant-loop-i : goal.invariant-loop-i
invariant-loop-i l = after_close l.bytes ≡ after_close (drop (l.i - 1) l.bytes)
