use Rattle.std.proofs.Common.{◌≡◌, [], map, take, drop}
use Rattle.pan_tree.specs.declared.program.Exception.{Exception}
use Rattle.pan_tree.specs.Check.{exception_heads}
use Rattle.pan_shapes.proofs.heads.exception_names.Given as goal

-- none before breaks a rule
abbrev pub invariant-loop-exception : goal.invariant-loop-exception
invariant-loop-exception l = record {
  names : l.names ≡ map (λ (x : Exception). x.name) (take l.exception-index l.exceptions);
  left : exception_heads [] l.exceptions ≡ exception_heads (take l.exception-index l.exceptions) (drop l.exception-index l.exceptions);
}
