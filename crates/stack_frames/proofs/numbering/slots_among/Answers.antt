use Rattle.std.proofs.Common.{sym, subst}
use Rattle.std.specs.List.Sorted.{IsStrictlyIncreasing}
use Rattle.std.proofs.lemmas.List.Filters.{dedup_is}
use Rattle.stack_frames.specs.Frames.{AreSlots}
use Rattle.stack_frames.proofs.Numbers.{slots_in_order}
use Rattle.stack_frames.proofs.numbering.slots_among.Goals as goal

pub returns-clause-slots : goal.returns-clause-slots
returns-clause-slots c =
    subst (λ xs. AreSlots xs c.args.homes.now) (sym c.from_vec.ensures) (slots_in_order c.args.homes.now _ _ _ c.in_ok-slots.ensures c.sort_unstable.ensures.permutation c.sort_unstable.ensures.sorted (dedup_is _ _ _ c.dedup.ensures.filtered)).0

pub returns-clause-rising : goal.returns-clause-rising
returns-clause-rising c =
    subst IsStrictlyIncreasing (sym c.from_vec.ensures) (slots_in_order c.args.homes.now _ _ _ c.in_ok-slots.ensures c.sort_unstable.ensures.permutation c.sort_unstable.ensures.sorted (dedup_is _ _ _ c.dedup.ensures.filtered)).1
