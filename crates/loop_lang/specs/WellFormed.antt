-- When a program of steps is well formed.
use Rattle.std.specs.Prelude.{map}
use Rattle.std.specs.List.{All}
use Rattle.pan_flow.specs.Functions.{IsWritten}
use Rattle.pan_stage.specs.Room.{HasRoom}
use Rattle.pan_stage.specs.WellFormed.{AreCounts, AreRight}
use Rattle.pan_stage.specs.declared.program.Program.{Program}
use Rattle.loop_lang.specs.Needs.{needs}
use Rattle.loop_lang.specs.Text.{arity, mentions, flow_of_function}
use Rattle.loop_lang.specs.declared.syntax.LoopFun.{LoopFun}

pub record IsWellFormed (p : Program LoopFun) : Type 0 where
  -- its counts and numbers are lawful
  pub counts : AreCounts arity p
  -- what its functions mention is there, with as many words as they pass and take
  pub right : AreRight arity (λ (f : LoopFun). mentions f.body) p
  -- every variable that is read was written on each way before, the parameters at the entry
  pub written : All (λ f. IsWritten (flow_of_function f)) p.functions
  -- frames and code fit what the functions cost
  pub room : HasRoom (map (λ (f : LoopFun). f.cost) p.functions) (needs p)
