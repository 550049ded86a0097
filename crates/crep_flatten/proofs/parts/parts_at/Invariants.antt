use Rattle.std.proofs.Common.{◌≡◌, drop}
use Rattle.crep_flatten.specs.Flat.{parts_at}
use Rattle.crep_flatten.proofs.parts.parts_at.Given as goal

-- what is left completes what is done
abbrev pub invariant-loop-number : goal.invariant-loop-number
invariant-loop-number l = parts_at (drop l.number-index l.path) l.part ≡ parts_at l.path l.initial.part
