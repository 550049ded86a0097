-- A bound on the events that are still possible within so many units of fuel.
use Rattle.std.specs.Prelude.{ℕ, zero, suc, ◌+◌, ◌*◌, max, List, [], ◌∷◌, Option, Some, None}
use Rattle.source_resolver.specs.declared.resolved.Stmt.{Stmt, Stmt-F, fold-Stmt}
use Rattle.source_resolver.specs.declared.resolved.Stmt.TheOpen as stmt
use Rattle.source_resolver.specs.declared.resolved.HandlerOf.{HandlerOf}
use Rattle.source_resolver.specs.declared.resolved.Function.{Function}
use Rattle.source_resolver.specs.declared.resolved.Program.{Program}
use Rattle.pan_runner.specs.Machine.{Frame, Block, Loop, Called, Config, Runs, Spends, Waits, Over}
use Rattle.pan_runner.specs.Weight.{total, running_weight, config_weight}

-- the size of a statement: its weight where loops' bodies and handlers weigh something too
abbrev pub handler_size : Option (HandlerOf (List ℕ)) → ℕ
handler_size None = 0
handler_size (Some h) = total h.body

abbrev pub size_layer : Stmt-F ℕ → ℕ
size_layer (stmt.If e first second) = 2 + total first + total second
size_layer (stmt.While e body) = 2 + total body
size_layer (stmt.Call c) = 2 + handler_size c.handler
size_layer _ = 2

unfoldable pub size : Stmt → ℕ
size = fold-Stmt ℕ size_layer

abbrev pub row_size : List Stmt → ℕ
row_size [] = 0
row_size (s ∷ all) = 1 + size s + row_size all

abbrev pub frame_size : Frame → ℕ
frame_size (Block keep all) = row_size all
frame_size (Loop s) = size s
frame_size (Called t None u) = 0
frame_size (Called t (Some h) u) = row_size h.body

-- the greatest size of a frame
abbrev pub frames_size : List Frame → ℕ
frames_size [] = 0
frames_size (k ∷ ks) = max (frame_size k) (frames_size ks)

-- the greatest size of a function's body
abbrev pub bodies_size : List Function → ℕ
bodies_size [] = 0
bodies_size (f ∷ fs) = max (row_size f.body) (bodies_size fs)

-- how much heavier a unit of fuel can make a configuration
abbrev pub reach : Program → List Frame → ℕ
reach p ks = 5 + 2 * max (bodies_size p.functions) (frames_size ks)

-- after the unit that it waits for
abbrev pub ahead_spent : Program → ℕ → ℕ → ℕ → ℕ
ahead_spent p weight unit zero = 0
ahead_spent p weight unit (suc k) = weight + k * unit

abbrev pub ahead : Program → Config → ℕ → ℕ
ahead p (Runs d ks m) k = running_weight p d ks + k * reach p ks
ahead p (Spends d ks m) k = ahead_spent p (running_weight p d ks) (reach p ks) k
ahead p (Waits q u ks m) k = config_weight p (Waits q u ks m) + k * reach p ks
ahead p (Over e) k = 0
