use Rattle.std.proofs.Common.{◌≡◌, map, take}
use Rattle.stack_bound.specs.Nodes.{node_of}
use Rattle.stack_bound.proofs.calls.nodes.Given as goal

abbrev pub invariant-loop-function : goal.invariant-loop-function
invariant-loop-function l = l.nodes ≡ map node_of (take l.function-index l.functions)
