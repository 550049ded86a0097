-- From runs in steps to the premise of the law of both directions.
use Rattle.std.specs.Prelude.{◌⊎◌}
use Rattle.std.proofs.Common.{ℕ, ◌≤◌, List, inl, inr}
use Rattle.pan_base.specs.Events.{Replied}
use Rattle.pan_base.specs.Lawful.{IsLawfulMemory, IsLawfulStack}
use Rattle.pan_control.specs.Seen.{Seen}
use Rattle.pan_stage.specs.Stage.{Site, Face, InSteps, IsDoneInSteps, IsCutShortInSteps, RunsInSteps}
use Rattle.pan_agree.specs.Agree.{Overflows}
use Rattle.pan_agree.specs.Laws.{DoesInTime, ForwardWithin}
use Rattle.pan_chain.specs.Whole.{most_instructions, source_stage}

pub within_time : (face : Face) (sites : List (List Site)) (first : List ℕ → List Replied → ℕ → Seen) (machine : InSteps) → RunsInSteps (source_stage face sites first) machine
    → (stack : ℕ) (memory : List ℕ) (replies : List Replied) → IsLawfulStack stack → IsLawfulMemory memory → ForwardWithin stack (most_instructions (first memory replies)) (first memory replies) (machine stack memory replies)
within_time face sites first machine runs stack memory replies size lawful n fine = by (runs stack memory replies n size lawful fine)
  where
    s : Seen
    s = first memory replies n

    by : IsDoneInSteps n (record s { toll = most_instructions (first memory replies) n }) (machine stack memory replies) ⊎ IsCutShortInSteps stack (record s { toll = most_instructions (first memory replies) n }) (machine stack memory replies)
        → (k : ℕ) × (k ≤ most_instructions (first memory replies) n) × (DoesInTime n k s (machine stack memory replies k) ⊎ Overflows stack s (machine stack memory replies k))
    by (inl d) = (d.steps, d.toll, inl (record { same = d.same; in_time = d.fuel }))
    by (inr d) = (d.steps, d.toll, inr (record { stack_end = d.ends; deeper = d.deeper; front = d.front }))
