-- The known programs over frames, computed.
use Rattle.std.proofs.Common.{◌≡◌, ℕ, List, [], ◌∷◌, Option, Some, None, map, sym, ap, ◌∙◌}
use Rattle.pan_base.specs.declared.events.Size.{Size}
use Rattle.pan_base.specs.declared.events.Size.TheVariants.{B8}
use Rattle.pan_base.specs.declared.operators.Cmp.{Cmp}
use Rattle.std.specs.Prelude.{ℤ, replicate}
use Rattle.pan_base.specs.Events.{Store, Done, Stop, only, Exit, Uncaught, Spent, Stack, Asks, Stopped}
use Rattle.pan_base.specs.Results.{plus, upper}
use Rattle.riscv_isa.specs.Step.{reg}
use Rattle.riscv_isa.specs.declared.instr.Instr.{Instr}
use Rattle.riscv_isa.specs.Regions.{place_of}
use Rattle.stack_lang.specs.Frame.{Frame}
use Rattle.stack_lang.specs.Meaning.{World, Callee, Does, run_layer, run, meaning}
use Rattle.stack_lang.specs.declared.syntax.Catch.{Catch}
use Rattle.stack_lang.specs.declared.syntax.Stmt.{Stmt, Stmt-F, roll-Stmt, map-Stmt, fold-roll-Stmt}
use Rattle.stack_lang.specs.declared.syntax.Stmt.TheOpen as open_stmt
use Rattle.stack_lang.specs.declared.syntax.Stmt.TheVariants as stmt
use Rattle.known_stages.specs.StackPrograms.{loops, caught, tail, stopped, passes_on, breaks_before, data_memory}

-- a handler, with what its body does
abbrev handler_as : {A : Type 0} → (Stmt → A) → Option (Catch Stmt) → Option (Catch A)
handler_as f None = None
handler_as f (Some h) = Some (record { exception = h.exception; body = f h.body })

module _ (size d : ℕ) (callee : Callee) where
  run_roll : (y : Stmt-F Stmt) → run size d callee (roll-Stmt y) ≡ run_layer size d callee (map-Stmt Stmt Does (run size d callee) y)
  unfolding run
  run_roll y = fold-roll-Stmt Does (run_layer size d callee) y

  run_as : (y : Stmt-F Stmt) (s : Stmt) → roll-Stmt y ≡ s → (v : Frame) (w : World) → run size d callee s v w ≡ run_layer size d callee (map-Stmt Stmt Does (run size d callee) y) v w
  run_as y s is v w = ap (λ s. run size d callee s v w) (sym is) ∙ ap (λ f. f v w) (run_roll y)

  run_seq : (all : List Stmt) (v : Frame) (w : World) → run size d callee (stmt.Seq all) v w ≡ run_layer size d callee (open_stmt.Seq (map (run size d callee) all)) v w
  run_seq all v w = run_as (open_stmt.Seq all) _ (stmt.rolls-Seq all) v w

  run_plain : (i : Instr) (v : Frame) (w : World) → run size d callee (stmt.Plain i) v w ≡ run_layer size d callee (open_stmt.Plain i) v w
  run_plain i v w = run_as (open_stmt.Plain i) _ (stmt.rolls-Plain i) v w

  run_get : (r k : ℕ) (v : Frame) (w : World) → run size d callee (stmt.Get r k) v w ≡ run_layer size d callee (open_stmt.Get r k) v w
  run_get r k v w = run_as (open_stmt.Get r k) _ (stmt.rolls-Get r k) v w

  run_put : (k r : ℕ) (v : Frame) (w : World) → run size d callee (stmt.Put k r) v w ≡ run_layer size d callee (open_stmt.Put k r) v w
  run_put k r v w = run_as (open_stmt.Put k r) _ (stmt.rolls-Put k r) v w

  run_shared_store : (n : Size) (rs1 rs2 : ℕ) (imm : ℤ) (v : Frame) (w : World) → run size d callee (stmt.SharedStore n rs1 rs2 imm) v w ≡ run_layer size d callee (open_stmt.SharedStore n rs1 rs2 imm) v w
  run_shared_store n rs1 rs2 imm v w = run_as (open_stmt.SharedStore n rs1 rs2 imm) _ (stmt.rolls-SharedStore n rs1 rs2 imm) v w

  run_if : (c : Cmp) (a b : ℕ) (first second : Stmt) (v : Frame) (w : World) → run size d callee (stmt.If c a b first second) v w ≡ run_layer size d callee (open_stmt.If c a b (run size d callee first) (run size d callee second)) v w
  run_if c a b first second v w = run_as (open_stmt.If c a b first second) _ (stmt.rolls-If c a b first second) v w

  run_while : (before : List Stmt) (c : Cmp) (a b : ℕ) (body : Stmt) (v : Frame) (w : World) → run size d callee (stmt.While before c a b body) v w ≡ run_layer size d callee (open_stmt.While (map (run size d callee) before) c a b (run size d callee body)) v w
  run_while before c a b body v w = run_as (open_stmt.While before c a b body) _ (stmt.rolls-While before c a b body) v w

  run_break : (v : Frame) (w : World) → run size d callee stmt.Break v w ≡ run_layer size d callee open_stmt.Break v w
  run_break v w = run_as open_stmt.Break _ stmt.rolls-Break v w

  run_continue : (v : Frame) (w : World) → run size d callee stmt.Continue v w ≡ run_layer size d callee open_stmt.Continue v w
  run_continue v w = run_as open_stmt.Continue _ stmt.rolls-Continue v w

  run_call : (f : ℕ) (returned : Stmt) (handler : Option (Catch Stmt)) (v : Frame) (w : World) → run size d callee (stmt.Call f returned handler) v w ≡ run_layer size d callee (open_stmt.Call f (run size d callee returned) (handler_as (run size d callee) handler)) v w
  run_call f returned None v w = run_as (open_stmt.Call f returned None) _ (stmt.rolls-Call f returned None) v w
  run_call f returned (Some h) v w = run_as (open_stmt.Call f returned (Some h)) _ (stmt.rolls-Call f returned (Some h)) v w

  run_tail_call : (f : ℕ) (v : Frame) (w : World) → run size d callee (stmt.TailCall f) v w ≡ run_layer size d callee (open_stmt.TailCall f) v w
  run_tail_call f v w = run_as (open_stmt.TailCall f) _ (stmt.rolls-TailCall f) v w

  run_return : (v : Frame) (w : World) → run size d callee stmt.Return v w ≡ run_layer size d callee open_stmt.Return v w
  run_return v w = run_as open_stmt.Return _ stmt.rolls-Return v w

  run_raise : (i : ℕ) (v : Frame) (w : World) → run size d callee (stmt.Raise i) v w ≡ run_layer size d callee (open_stmt.Raise i) v w
  run_raise i v w = run_as (open_stmt.Raise i) _ (stmt.rolls-Raise i) v w

ruleset run_rules = (run_seq, run_plain, run_get, run_put, run_shared_store, run_if, run_while, run_break, run_continue, run_call, run_tail_call, run_return, run_raise)

pub tail_is : meaning tail 1024 [] [] 1 ≡ record { behaviour = only (Exit 42); deepest = 320; toll = 35 }
unfolding reg plus
tail_is = simp run_rules

pub stopped_is : meaning stopped 1024 [] (Stop ∷ []) 0 ≡ record { behaviour = only (Stopped (Store B8 0x40000000 5)); deepest = 240; toll = 18 }
unfolding reg plus upper place_of
stopped_is = simp run_rules

pub asks_is : meaning stopped 1024 [] [] 0 ≡ record { behaviour = only (Asks (Store B8 0x40000000 5)); deepest = 240; toll = 18 }
unfolding reg plus upper place_of
asks_is = simp run_rules

pub done_is : meaning stopped 1024 [] (Done ∷ []) 0 ≡ record { behaviour = record { events = record { request = Store B8 0x40000000 5; reply = Done } ∷ []; ending = Exit 0 }; deepest = 240; toll = 24 }
unfolding reg plus upper place_of
done_is = simp run_rules

pub loops_is : meaning loops 1024 [] [] 4 ≡ record { behaviour = only (Exit 4); deepest = 240; toll = 105 }
unfolding reg plus
loops_is = simp run_rules

pub spent_is : meaning loops 1024 [] [] 3 ≡ record { behaviour = only Spent; deepest = 240; toll = 84 }
unfolding reg plus
spent_is = simp run_rules

pub caught_is : meaning caught 1024 [] [] 2 ≡ record { behaviour = only (Exit 14); deepest = 560; toll = 88 }
unfolding reg plus
caught_is = simp run_rules

pub short_is : meaning caught 64 [] [] 2 ≡ record { behaviour = only Stack; deepest = 240; toll = 32 }
unfolding reg plus
short_is = simp run_rules

pub passes_on_is : meaning passes_on 1024 [] [] 1 ≡ record { behaviour = only (Uncaught 1); deepest = 560; toll = 40 }
unfolding reg plus upper place_of
passes_on_is = simp run_rules

pub breaks_before_is : meaning breaks_before 1024 [] [] 3 ≡ record { behaviour = only (Exit 3); deepest = 240; toll = 66 }
unfolding reg plus upper place_of
breaks_before_is = simp run_rules

pub data_memory_is : meaning data_memory 1024 (replicate 8 0) [] 0 ≡ record { behaviour = only (Exit 0x7800000000123716); deepest = 240; toll = 37 }
unfolding reg plus upper place_of
data_memory_is = simp run_rules
