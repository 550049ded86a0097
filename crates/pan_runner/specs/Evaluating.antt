-- The parts of what an expression gives.
use Rattle.std.specs.Prelude.{ℕ, List, Option, option_map, option_and_then}
use Rattle.pan_base.specs.declared.operators.BinOp.{BinOp}
use Rattle.pan_control.specs.Memory.{words_at}
use Rattle.pan_tree.specs.declared.shape.Shape.{Shape}
use Rattle.pan_tree.specs.Shapes.{words_of, filled}
use Rattle.pan_tree.specs.Value.{Value}
use Rattle.source_resolver.specs.declared.resolved.Expr.{Expr}
use Rattle.source_resolver.specs.Slots.{Giving, value}

-- a term of a chain, with what its expression gives
abbrev pub term : BinOp × Expr → BinOp × Giving
term p = (p.0, value p.1)

-- what local memory has from an address on, as a value of the shape
abbrev pub loaded : Shape → List ℕ → Option ℕ → Option Value
loaded s m addr = option_and_then (λ a. option_map (filled s) (words_at m a (words_of s))) addr
