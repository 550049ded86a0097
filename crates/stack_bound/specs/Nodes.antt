-- Functions as the walk over the calls sees them.
use Rattle.std.specs.Prelude.{ℕ, List, [], slice_index_or}
use Rattle.stack_lang.specs.declared.syntax.StackFun.{StackFun}
use Rattle.stack_bound.specs.Calls.{calls_in}
use Rattle.stack_bound.specs.declared.calls.Call.{Call}
use Rattle.stack_bound.specs.declared.calls.Node.{Node}

abbrev pub node_of : StackFun → Node
node_of f = record { frame = f.frame; calls = calls_in f.body }

-- what is at a number that no function has
abbrev pub no_node : Node
no_node = record { frame = 0; calls = [] }

abbrev pub node_at : List Node → ℕ → Node
node_at nodes f = slice_index_or nodes f no_node

abbrev pub calls_by : List Node → ℕ → List Call
calls_by nodes f = (node_at nodes f).calls

abbrev pub frame_by : List Node → ℕ → ℕ
frame_by nodes f = (node_at nodes f).frame
