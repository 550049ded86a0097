use Rattle.std.proofs.Common.{◌≡◌, drop}
use Rattle.crep_flatten.specs.Reads.{go_straight}
use Rattle.crep_flatten.proofs.moving.go_straight.Given as goal

-- what is left decides
abbrev pub invariant-loop-i : goal.invariant-loop-i
invariant-loop-i l = go_straight l.first 0 l.words ≡ go_straight l.first l.i (drop l.i l.words)
