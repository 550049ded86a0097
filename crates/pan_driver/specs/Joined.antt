-- Stages that are put together in parts.
use Rattle.std.specs.Prelude.{◌≡◌, ℕ, List}
use Rattle.std.specs.List.{AllZip}
use Rattle.pan_stage.specs.Programs.{with_functions}
use Rattle.pan_stage.specs.Stage.{KeepsOverStack, KeepsInSteps}
use Rattle.pan_tree.specs.declared.program.Program.{Program}
use Rattle.word_lang.specs.Stage as word_stages
use Rattle.word_lang.specs.declared.program.WordProg.{WordProg}
use Rattle.stack_bound.specs.Bounds.{IsAnswer}
use Rattle.stack_lang.specs.Stage as stack_stages
use Rattle.lab_lang.specs.Layout.{IsLayout}
use Rattle.lab_lang.specs.Meaning.{behaviour}
use Rattle.lab_lang.specs.Stage as lab_stages
use Rattle.lab_flatten.specs.Contract.{RunsOnFuel}
use Rattle.lab_link.specs.Linked.{IsLinked}
use Rattle.pan_driver.specs.Chained.{AreColoursOf, renamed}
use Rattle.pan_driver.specs.declared.built.Stages.{Stages}
use Rattle.pan_driver.specs.declared.lowering.Rear.{Rear}
use Rattle.pan_driver.specs.declared.lowering.Lowered.{Lowered}

-- the stages behind operations, each as its pass may give it
pub record IsRear (words : WordProg) (r : Rear) : Type 0 where
  pub colours : AllZip AreColoursOf (words.program).functions (r.middle).colours
  pub homes : ((r.middle).homes).program ≡ with_functions words.program (renamed (words.program).functions (r.middle).colours)
  pub stack : KeepsOverStack (word_stages.stage ((r.middle).homes).program) (stack_stages.stage ((r.back).stack).program)
  pub lab : (layout : List (ℕ × ℕ)) → IsLayout 0 ((r.back).lab).lines layout → KeepsInSteps (stack_stages.stage ((r.back).stack).program) (lab_stages.stage ((r.back).lab).program ((r.back).lab).lines layout)
  pub fuel : (layout : List (ℕ × ℕ)) → IsLayout 0 ((r.back).lab).lines layout → RunsOnFuel ((r.back).stack).program (behaviour ((r.back).lab).program ((r.back).lab).lines layout)
  pub bound : IsAnswer ((r.back).stack).program (r.back).bound
  pub code : IsLinked ((r.back).lab).program ((r.back).lab).lines ((r.back).code).layout ((r.back).code).bytes

-- all stages of a checked program
abbrev pub joined : Program → Lowered → Stages
joined p l =
    let front = l.front in
    let middle = (l.rear).middle in
    let back = (l.rear).back in
    record { checked = p; crep = front.crep; loops = front.loops; words = front.words; colours = middle.colours; homes = middle.homes; stack = back.stack; bound = back.bound; lab = back.lab; code = back.code }
