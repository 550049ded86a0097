use Rattle.std.proofs.Common.{◌≡◌, false, map, take}
use Rattle.pan_tree.specs.declared.program.Param.{Param}
use Rattle.pan_tree.specs.Check.{repeats}
use Rattle.pan_shapes.proofs.heads.has_twins.Given as goal

abbrev pub invariant-loop-param : goal.invariant-loop-param
invariant-loop-param l = record { names : l.names ≡ map (λ (p : Param). p.name) (take l.param-index l.params); apart : repeats l.names ≡ false }
