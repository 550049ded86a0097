use Rattle.std.proofs.Common.{◌≡◌, map, drop}
use Rattle.pan_tree.specs.Shapes.{filling, fill_each}
use Rattle.pan_runner.specs.Told.{all_told}
use Rattle.pan_runner.proofs.FillLemmas.{behind}
use Rattle.pan_runner.proofs.values.+fill.Given as goal

-- what is left completes what is done
abbrev pub invariant-fill_each-loop-shape : goal.invariant-fill_each-loop-shape
invariant-fill_each-loop-shape l = behind (all_told l.values) (fill_each (map filling (drop l.shape-index l.shapes)) l.left) ≡ fill_each (map filling l.shapes) l.fn.words
