-- Sizes of statements, blocks and functions' bodies.
use Rattle.std.proofs.Common.{◌≡◌, ℕ, zero, suc, ◌+◌, ◌≤◌, List, [], ◌∷◌, map, Option, Some, None, refl, sym, ap, ◌∙◌, arith}
use Rattle.std.specs.Prelude.{slice_get}
use Rattle.source_resolver.specs.declared.resolved.Stmt.{Stmt, Stmt-F, out-Stmt, roll-Stmt, map-Stmt, fold-roll-Stmt, roll-out-Stmt}
use Rattle.source_resolver.specs.declared.resolved.Stmt.TheOpen as stmt
use Rattle.source_resolver.specs.declared.resolved.Function.{Function}
use Rattle.pan_runner.specs.Weight.{total, weight_layer, weight, row_weight, body_weight}
use Rattle.pan_runner.specs.Ahead.{size_layer, size, row_size, bodies_size}
use Rattle.pan_runner.proofs.StmtLayers.{stmt_induct}
use Rattle.pan_runner.proofs.Lighter.{weight_roll}

pub size_roll : (x : Stmt-F Stmt) → size (roll-Stmt x) ≡ size_layer (map-Stmt Stmt ℕ size x)
unfolding size
size_roll x = fold-roll-Stmt ℕ size_layer x

pub size_out : (s : Stmt) → size s ≡ size_layer (map-Stmt Stmt ℕ size (out-Stmt s))
size_out s = ap size (sym (roll-out-Stmt s)) ∙ size_roll (out-Stmt s)

pub total_size : (all : List Stmt) → total (map size all) ≡ row_size all
total_size [] = refl
total_size (s ∷ all) = ap (λ n. 1 + size s + n) (total_size all)

-- ---- a statement weighs no more than its size

abbrev IsLight : Stmt → Type 0
IsLight s = weight s ≤ size s

abbrev Known : Type 0
Known = (s : Stmt) × IsLight s

totals_light : (all : List Known) → total (map weight (map (λ k. k.0) all)) ≤ total (map size (map (λ k. k.0) all))
totals_light [] = omega arith
totals_light (k ∷ all) = omega (arith, k.1, totals_light all)

abbrev parts : Stmt-F Known → Stmt-F Stmt
parts y = map-Stmt Known Stmt (λ k. k.0) y

layer_light : (y : Stmt-F Known) → weight_layer (map-Stmt Stmt ℕ weight (parts y)) ≤ size_layer (map-Stmt Stmt ℕ size (parts y))
layer_light stmt.Skip = omega arith
layer_light (stmt.Declare e) = omega arith
layer_light (stmt.Assign x e) = omega arith
layer_light (stmt.StoreWords a e) = omega arith
layer_light (stmt.StoreByte a e) = omega arith
layer_light (stmt.If e first second) = omega (arith, totals_light first, totals_light second)
layer_light (stmt.While e b) = omega arith
layer_light stmt.Break = omega arith
layer_light stmt.Continue = omega arith
layer_light (stmt.Call c) = omega arith
layer_light (stmt.Return e) = omega arith
layer_light (stmt.TailCall f args) = omega arith
layer_light (stmt.Raise x e) = omega arith
layer_light (stmt.SharedLoad n x a) = omega arith
layer_light (stmt.SharedStore n a e) = omega arith
layer_light (stmt.Foreign name a b c d) = omega arith

pub weight_light : (s : Stmt) → weight s ≤ size s
weight_light = stmt_induct IsLight (λ y. omega (arith, weight_roll (parts y), size_roll (parts y), layer_light y))

pub row_light : (all : List Stmt) → row_weight all ≤ row_size all
row_light [] = omega arith
row_light (s ∷ all) = omega (arith, weight_light s, row_light all)

-- ---- functions

-- the size of the body, where there is such a function
abbrev pub found_size : Option Function → ℕ
found_size None = 0
found_size (Some f) = row_size f.body

pub found_light : (o : Option Function) → body_weight o ≤ 2 + found_size o
found_light None = omega arith
found_light (Some f) = omega (arith, row_light f.body)

pub found_within : (fs : List Function) (i : ℕ) → found_size (slice_get fs i) ≤ bodies_size fs
found_within [] i = omega arith
found_within (f ∷ fs) zero = omega arith
found_within (f ∷ fs) (suc i) = omega (arith, found_within fs i)
