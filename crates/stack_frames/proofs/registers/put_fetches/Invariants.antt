use Rattle.std.proofs.Common.{◌≡◌, ◌++◌, drop}
use Rattle.stack_frames.specs.Frames.{number_in, fetches}
use Rattle.stack_frames.proofs.registers.put_fetches.Given as goal

-- what is left to do completes what is done
abbrev pub invariant-loop-home : goal.invariant-loop-home
invariant-loop-home l =
    (l.code ++ fetches (number_in l.slots.homes) l.place (drop l.home-index l.homes) ≡ l.initial.code ++ fetches (number_in l.slots.homes) 0 l.homes) × (l.place ≡ l.home-index)
