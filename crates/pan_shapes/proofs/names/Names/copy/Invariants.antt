use Rattle.std.proofs.Common.{◌≡◌, take}
use Rattle.pan_shapes.proofs.NameLemmas.{now_of}
use Rattle.pan_shapes.proofs.names.Names.copy.Given as goal

abbrev pub invariant-loop-name : goal.invariant-loop-name
invariant-loop-name l = l.all ≡ now_of (take l.name-index l.name-items)
