use Rattle.std.proofs.Common.{map}
use Rattle.lab_lang.specs.Layout.{shortest}
use Rattle.lab_link.proofs.Laying.{IsLaid}
use Rattle.lab_link.proofs.layout.lay.Given as goal

-- so many lines are laid out
abbrev pub invariant-loop-line : goal.invariant-loop-line
invariant-loop-line l = IsLaid (map shortest l.lines) l.line-index l.size l.layout
