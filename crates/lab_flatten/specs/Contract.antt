-- What flattening promises of lines beside what a stage keeps: they take at least a step for each unit of fuel.
use Rattle.std.specs.Prelude.{◌≡◌, ◌≢◌, ℕ, ◌+◌, ◌≤◌, List}
use Rattle.pan_base.specs.Events.{Replied, Behaviour, Fails}
use Rattle.pan_base.specs.Lawful.{IsLawfulMemory, IsLawfulStack}
use Rattle.pan_control.specs.Control.{world_of}
use Rattle.pan_stage.specs.Stage.{InSteps}
use Rattle.pan_stage.specs.declared.program.Program.{Program}
use Rattle.stack_lang.specs.Frame.{Frame}
use Rattle.stack_lang.specs.Meaning.{Outcome, main_leaves, meaning}
use Rattle.stack_lang.specs.declared.syntax.StackFun.{StackFun}

-- With n units of fuel, of which main left some, this behaviour is seen after some number of steps. They are at least the units that were taken, whatever the end is, and at most what counts as done.
pub record TakesFuelAsSteps (n : ℕ) (main : Outcome (Unit {0}) Frame) (seen : Behaviour) (most : ℕ) (runs : ℕ → Behaviour) : Type 0 where
  pub steps : ℕ
  pub same : runs steps ≡ seen
  pub fuel : n ≤ steps + (world_of main).fuel
  pub toll : steps ≤ most

-- so it is wherever the program doesn't fail
abbrev pub RunsOnFuel : Program StackFun → InSteps → Type 0
RunsOnFuel p behaviour =
    (size : ℕ) (m : List ℕ) (r : List Replied) (n : ℕ) → IsLawfulStack size → IsLawfulMemory m → ((meaning p size m r n).behaviour).ending ≢ Fails
    → TakesFuelAsSteps n (main_leaves p size m r n) (meaning p size m r n).behaviour (meaning p size m r n).toll (behaviour size m r)
