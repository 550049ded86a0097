use Rattle.std.proofs.Common.{◌≡◌, drop, Some}
use Rattle.pan_tree.specs.Value.{part_of_part}
use Rattle.pan_runner.specs.Told.{told}
use Rattle.pan_runner.proofs.values.part_at.Given as goal

-- what is left of the path leads from here to where the whole leads
abbrev pub invariant-loop-index : goal.invariant-loop-index
invariant-loop-index l = part_of_part (Some (told l.at)) (drop l.index-index l.path) ≡ part_of_part (Some (told l.fn.value)) l.path
