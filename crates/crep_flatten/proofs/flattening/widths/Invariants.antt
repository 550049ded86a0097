use Rattle.std.proofs.Common.{◌≡◌, ◌++◌, map, drop}
use Rattle.pan_tree.specs.Shapes.{words_of}
use Rattle.pan_tree.specs.declared.program.Exception.{Exception}
use Rattle.crep_flatten.proofs.flattening.widths.Given as goal

-- what is left completes what is done
abbrev pub invariant-loop-exception : goal.invariant-loop-exception
invariant-loop-exception l = l.all ++ map (λ (x : Exception). words_of x.shape) (drop l.exception-index l.exceptions) ≡ map (λ (x : Exception). words_of x.shape) l.exceptions
