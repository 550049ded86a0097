use Rattle.std.proofs.Common.{◌≡◌, ◌-◌, ◌^◌, map, min, sum, take}
use Rattle.pan_tree.specs.declared.program.Param.{Param}
use Rattle.pan_tree.specs.Shapes.{words_of}
use Rattle.pan_shapes.proofs.heads.words_of_params.Given as goal

abbrev pub invariant-loop-param : goal.invariant-loop-param
invariant-loop-param l = l.total ≡ min (sum (map (λ (p : Param). words_of p.shape) (take l.param-index l.params))) (2 ^ 64 - 1)
