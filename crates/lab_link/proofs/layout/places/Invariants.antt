use Rattle.std.proofs.Common.{◌≡◌, ◌≤◌, length}
use Rattle.lab_link.proofs.Laying.{HasPlaces}
use Rattle.lab_link.proofs.layout.places.Given as goal

-- the places of the labels from line i on
abbrev pub invariant-loop-i : goal.invariant-loop-i
invariant-loop-i l = (length l.table.items ≡ l.labels) × (l.i ≤ length l.lines) × HasPlaces l.lines l.layout l.i l.table.items

abbrev pub decreases-loop-i : goal.decreases-loop-i
decreases-loop-i l = l.i
