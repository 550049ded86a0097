use Rattle.std.proofs.Common.{◌≡◌, ◌++◌, drop}
use Rattle.std.specs.Prelude.{nat_le}
use Rattle.std.specs.List.{filter}
use Rattle.word_lang.specs.Homes.{first_slot}
use Rattle.stack_frames.proofs.numbering.only_slots.Given as goal

-- what is left completes what was put
abbrev pub invariant-loop-home : goal.invariant-loop-home
invariant-loop-home l = l.slots.items ++ filter (λ x. nat_le first_slot x) (drop l.home-index l.homes) ≡ filter (λ x. nat_le first_slot x) l.homes
