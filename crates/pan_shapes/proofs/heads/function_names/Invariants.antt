use Rattle.std.proofs.Common.{◌≡◌, [], map, take, drop}
use Rattle.pan_tree.specs.declared.program.Function.{Function}
use Rattle.pan_tree.specs.Check.{function_heads}
use Rattle.pan_shapes.proofs.heads.function_names.Given as goal

-- none before breaks a rule
abbrev pub invariant-loop-function : goal.invariant-loop-function
invariant-loop-function l = record {
  names : l.names ≡ map (λ (f : Function). f.name) (take l.function-index l.functions);
  left : function_heads [] l.functions ≡ function_heads (take l.function-index l.functions) (drop l.function-index l.functions);
}
