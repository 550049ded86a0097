use Rattle.std.proofs.Common.{◌≡◌, ◌++◌, drop}
use Rattle.stack_frames.proofs.numbering.put_all.Given as goal

-- what is left to put completes what was put
abbrev pub invariant-loop-home : goal.invariant-loop-home
invariant-loop-home l = l.homes ++ drop l.home-index l.more ≡ l.initial.homes ++ l.more
