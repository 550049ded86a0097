-- What a program over frames means, with a stack of so many bytes. The toll counts instructions where they are executed: a slot as a far one, a jump as two instructions and a branch as three, and each function as one that has a frame with a return address.
use Rattle.std.specs.Prelude.{ℕ, suc, ◌%◌, ◌^◌, nat_eq, nat_le, Bool, true, false, if◌then◌else◌, List, [], Option, Some, None, slice_get}
use Rattle.pan_base.specs.Words.{compare, truth}
use Rattle.pan_base.specs.Events.{Replied, Stack, Fails}
use Rattle.pan_control.specs.World.{World as WorldOf, entered, tolled}
use Rattle.pan_control.specs.Seen.{Seen}
use Rattle.pan_control.specs.Control.{Outcome as OutcomeOf, Meaning as MeaningOf, Callee as CalleeOf, Normal, Broken, Continued, Returned, Raised, Over, call, tail_call, left, with_value, and_then, in_turn, ask, turns}
use Rattle.pan_control.specs.Runs.{nested}
use Rattle.pan_control.specs.Runs as runs
use Rattle.pan_stage.specs.declared.program.Program.{Program}
use Rattle.riscv_isa.specs.declared.instr.Instr.TheVariants as instr
use Rattle.riscv_isa.specs.Step.{State, Config, Runs, Waits, reg, with_reg, act, request_of, resumed}
use Rattle.machine_start.specs.Start.{started}
use Rattle.stack_lang.specs.Shown.{hide, load_of, store_of}
use Rattle.stack_lang.specs.Frame.{Frame, no_slots, with_register, with_slot, back_with, framed, unframed}
use Rattle.stack_lang.specs.declared.syntax.Catch.{Catch}
use Rattle.stack_lang.specs.declared.syntax.StackFun.{StackFun}
use Rattle.stack_lang.specs.declared.syntax.Stmt.{Stmt, Stmt-F, fold-Stmt}
use Rattle.stack_lang.specs.declared.syntax.Stmt.TheOpen as stmt

-- the globals are bytes of the machine that is seen
abbrev pub World : Type 0
World = WorldOf (Unit {0})

abbrev pub Outcome : Type 0 → Type 0 → Type 0
Outcome V X = OutcomeOf (Unit {0}) V X

abbrev pub Callee : Type 0
Callee = CalleeOf (Unit {0}) Frame Frame

-- what a statement does to the frame and the world
abbrev pub Does : Type 0
Does = MeaningOf (Unit {0}) Frame Frame

-- ---- instructions

-- after an instruction that has to run on
abbrev pub ran : Frame → Config → World → Outcome Frame Frame
ran v (Runs s) w = Normal (record v { seen = hide s }) w
ran v _ w = Over Fails w

-- after one that has to ask
abbrev pub asked : Frame → Config → World → Outcome Frame Frame
asked v (Waits p s) w = ask (request_of p s) w (λ r w. Normal (record v { seen = hide (resumed p s r) }) w)
asked v _ w = Over Fails w

-- ready to call a foreign function by its number
abbrev pub aimed : ℕ → State → State
aimed n s = with_reg (with_reg s 14 n) 17 1

-- ---- statements

-- so much more is done, after a normal end
abbrev pub more : ℕ → Does
more n v w = Normal v (tolled n w)

-- so much is done first
abbrev pub after : ℕ → Callee → Callee
after n callee f v w = callee f v (tolled n w)

-- An exception that leaves a call: the record in this frame is the newest. Another exception goes on to the next one.
abbrev pub caught : Catch Does → Frame → ℕ → Frame → World → Outcome Frame Frame
caught h v i x w = if nat_eq i h.exception then h.body (back_with v x) (tolled 7 w) else Raised i x (tolled 9 w)

-- in a function with a frame of this size, where loops make at most so many turns, and functions do so
module _ (size d : ℕ) (callee : Callee) where
  -- a call, which may stand under a handler
  abbrev pub calls : ℕ → Does → Option (Catch Does) → Does
  calls f returned None v w = call (after 2 callee) f (Some v) w (λ x w. returned (back_with v x) w) (λ i x w. Raised i x w)
  calls f returned (Some h) v w = call (after 7 callee) f (Some v) w (λ x w. and_then (returned (back_with v x) (tolled 1 w)) (more 2)) (caught h v)

  abbrev pub run_layer : Stmt-F Does → Does
  run_layer (stmt.Seq all) v w = in_turn all v w
  run_layer (stmt.Plain i) v w = ran v (act i v.seen) (tolled 1 w)
  run_layer (stmt.Get r k) v w = with_value (v.slots k) w (λ n. Normal (with_register v r n) (tolled 3 w))
  run_layer (stmt.Put k r) v w = Normal (with_slot v k (reg v.seen r)) (tolled 3 w)
  run_layer (stmt.SharedLoad n rd rs1 imm) v w = asked v (act (load_of n rd rs1 imm) v.seen) (tolled 1 w)
  run_layer (stmt.SharedStore n rs1 rs2 imm) v w = asked v (act (store_of n rs1 rs2 imm) v.seen) (tolled 1 w)
  run_layer (stmt.Foreign i) v w = asked v (act instr.Ecall (aimed i v.seen)) (tolled 3 w)
  run_layer (stmt.If c a b first second) v w = if compare c (reg v.seen a) (reg v.seen b) then first v (tolled 3 w) else and_then (second v (tolled 3 w)) (more 2)
  run_layer (stmt.While before c a b body) v w =
      turns d (λ v w. and_then (in_turn before v w) (more 3)) (λ v w. Some (truth c (reg v.seen a) (reg v.seen b))) body v (tolled 2 w)
  run_layer stmt.Break v w = Broken v (tolled 2 w)
  run_layer stmt.Continue v w = Continued v (tolled 2 w)
  run_layer (stmt.Call f returned handler) v w = calls f returned handler v w
  run_layer (stmt.TailCall f) v w = tail_call (after 6 callee) f (Some (unframed size v)) w
  run_layer stmt.Return v w = Returned v (tolled 5 w)
  run_layer (stmt.Raise i) v w = Raised i v (tolled 3 w)

  unfoldable pub run : Stmt → Does
  run = fold-Stmt Does run_layer

-- ---- functions and programs

-- the frame, where there is room for it, and the body runs and leaves; else the run is over, before the function's cost counts
abbrev pub body_of : Bool → ℕ → Callee → StackFun → Frame → World → Outcome (Unit {0}) Frame
body_of false d callee f v w = Over Stack (tolled 9 w)
body_of true d callee f v w = left (run f.frame d callee f.body (framed f.frame v) (entered f.cost (tolled 6 w)))

abbrev pub enter : ℕ → Callee → StackFun → Frame → World → Outcome (Unit {0}) Frame
enter d callee f v w = body_of (nat_le f.frame v.room) d callee f v w

-- what functions do, with calls nested no deeper than the number
abbrev pub leaves : List StackFun → ℕ → Callee
leaves fs d = nested (λ d callee f v w. with_value (slice_get fs f) w (λ g. enter d callee g v w)) d

-- How main leaves, with a stack of this size, on local memory m, with replies r and n units of fuel. What stands before main and after it is 9 instructions at most.
abbrev pub main_leaves : Program StackFun → ℕ → List ℕ → List Replied → ℕ → Outcome (Unit {0}) Frame
main_leaves p size m r n =
    leaves p.functions (suc n) p.main (record { seen = hide (started p m size); slots = no_slots; room = size }) (tolled 9 (runs.start tt [] r n))

-- the word that main returns stands in x10
abbrev pub meaning : Program StackFun → ℕ → List ℕ → List Replied → ℕ → Seen
meaning p size m r n = runs.seen (λ (v : Frame). Some (reg v.seen 10 % 2 ^ 64)) (main_leaves p size m r n)
