-- How many steps at most are made until a unit of fuel is spent, a reply is awaited, or the run ends.
use Rattle.std.specs.Prelude.{ℕ, ◌+◌, List, [], ◌∷◌, Option, Some, None, slice_get}
use Rattle.source_resolver.specs.declared.resolved.Stmt.{Stmt, Stmt-F, fold-Stmt}
use Rattle.source_resolver.specs.declared.resolved.Stmt.TheOpen as stmt
use Rattle.source_resolver.specs.declared.resolved.Function.{Function}
use Rattle.source_resolver.specs.declared.resolved.Program.{Program}
use Rattle.pan_runner.specs.Machine.{Way, Becomes, Doing, Enter, Leave, Frame, Block, Loop, Called, Config, Runs, Spends, Waits, Over}

-- a sum of weights, and one for each
abbrev pub total : List ℕ → ℕ
total [] = 0
total (n ∷ ns) = 1 + n + total ns

-- A loop's body and a handler stand behind a unit of fuel, so they weigh nothing here.
abbrev pub weight_layer : Stmt-F ℕ → ℕ
weight_layer (stmt.If e first second) = 2 + total first + total second
weight_layer _ = 2

unfoldable pub weight : Stmt → ℕ
weight = fold-Stmt ℕ weight_layer

abbrev pub row_weight : List Stmt → ℕ
row_weight [] = 0
row_weight (s ∷ all) = 1 + weight s + row_weight all

abbrev pub frame_weight : Frame → ℕ
frame_weight (Block keep all) = 1 + row_weight all
frame_weight (Loop s) = 1 + weight s
frame_weight (Called t None u) = 1
frame_weight (Called t (Some h) u) = 2 + row_weight h.body

abbrev pub frames_weight : List Frame → ℕ
frames_weight [] = 0
frames_weight (k ∷ ks) = frame_weight k + frames_weight ks

abbrev pub body_weight : Option Function → ℕ
body_weight None = 0
body_weight (Some f) = 2 + row_weight f.body

abbrev pub way_weight : Program → Way → ℕ
way_weight p (Becomes f xs) = 1 + body_weight (slice_get p.functions f)
way_weight p _ = 0

abbrev pub doing_weight : Program → Doing → ℕ
doing_weight p (Enter f xs) = body_weight (slice_get p.functions f)
doing_weight p (Leave way) = way_weight p way

abbrev pub running_weight : Program → Doing → List Frame → ℕ
running_weight p d ks = 1 + doing_weight p d + frames_weight ks

abbrev pub config_weight : Program → Config → ℕ
config_weight p (Runs d ks m) = running_weight p d ks
config_weight p (Spends d ks m) = 0
config_weight p (Waits q u ks m) = 2 + frames_weight ks
config_weight p (Over e) = 0
