-- From chained stages to a faithful image.
use Rattle.std.proofs.Common.{◌≡◌, ℕ, ◌+◌, ◌*◌, ◌≤◌, List, [], ◌∷◌, length, map, sum, arith, refl, sym, ap, subst, ◌∙◌}
use Rattle.std.proofs.lemmas.List.Sums.{sum_by-cons}
use Rattle.pan_base.specs.Events.{Replied}
use Rattle.pan_control.specs.Seen.{Seen}
use Rattle.pan_stage.specs.Room.{weight_of, weight_of_all, allowed}
use Rattle.pan_stage.specs.Stage.{Site, Face, Stage, StackStage, StepStage, Keeps, KeepsOverStack, KeepsInSteps, Executes, InSteps, RunsInSteps}
use Rattle.pan_stage.specs.declared.program.Program.{Program}
use Rattle.pan_tree.specs.Check.{cost, function_weight, program_weight, foreign_names}
use Rattle.pan_tree.specs.Meaning.{source as meaning}
use Rattle.pan_tree.specs.declared.program.Program.{Program as Source}
use Rattle.pan_tree.specs.declared.program.Function.{Function}
use Rattle.pan_chain.specs.Whole.{machine_of}
use Rattle.crep_flatten.specs.Source as source
use Rattle.crep_lang.specs.Stage as crep
use Rattle.loop_lang.specs.Stage as loops
use Rattle.word_lang.specs.Stage as words
use Rattle.word_lang.specs.declared.syntax.WordFun.{WordFun}
use Rattle.reg_alloc.specs.Accepts.{IsRenamed}
use Rattle.stack_lang.specs.Stage as stacks
use Rattle.lab_lang.specs.Stage as labs
use Rattle.lab_lang.specs.declared.syntax.LabFun.{LabFun}
use Rattle.pan_driver.specs.Chained.{parts, AreChained}
use Rattle.pan_driver.specs.InTime.{IsShort}
use Rattle.pan_driver.specs.declared.built.Stages.{Stages}
use Rattle.pan_driver.proofs.Homes.{is_renamed}

-- ---- weights

weight_back : (w : ℕ) → weight_of (16 * (4 + w)) ≡ w
weight_back w = omega arith

all_weights : (p : Source) (fs : List Function) → weight_of_all (map (cost p) fs) ≡ sum (map (function_weight p) fs)
all_weights p [] = refl
all_weights p (f ∷ fs) =
    let w = weight_back (function_weight p f) in
    let r = all_weights p fs in
    let s = sum_by-cons (λ n. n) (function_weight p f) (map (function_weight p) fs) in
    omega (arith, w, r, s)

-- ---- what the stages keep

abbrev pub KeepsCompose : Type 0
KeepsCompose = (a b c : Stage) → Keeps a b → Keeps b c → Keeps a c

abbrev pub OverStackComposes : Type 0
OverStackComposes = (a b : Stage) (c : StackStage) → Keeps a b → KeepsOverStack b c → KeepsOverStack a c

abbrev pub StepsCompose : Type 0
StepsCompose = (a : Stage) (b : StackStage) (c : StepStage) (machine : InSteps) → KeepsOverStack a b → KeepsInSteps b c → Executes c machine → RunsInSteps a machine

abbrev pub RenamingKeeps : Type 0
RenamingKeeps = (p q : Program WordFun) → IsRenamed p q → Keeps (words.stage p) (words.stage q)

-- the lines as they are laid out in the code
abbrev pub laid_out : Stages → StepStage
laid_out s = labs.stage (s.lab).program (s.lab).lines (s.code).layout

module _ (passes : KeepsCompose) (frames : OverStackComposes) (renaming : RenamingKeeps) (s : Stages) (chained : AreChained s) where
  -- the program over homes keeps the source
  pub kept : Keeps (source.stage s.checked) (words.stage (s.homes).program)
  kept =
      let crep_kept = chained.crep in
      let loops_kept = passes (source.stage s.checked) (crep.stage (s.crep).program) (loops.stage (s.loops).program) crep_kept chained.loops in
      let words_kept = passes (source.stage s.checked) (loops.stage (s.loops).program) (words.stage (s.words).program) loops_kept chained.words in
      let by_homes = subst (IsRenamed (s.words).program) (sym chained.homes) (is_renamed (s.words).program s.colours chained.colours) in
      passes (source.stage s.checked) (words.stage (s.words).program) (words.stage (s.homes).program) words_kept (renaming (s.words).program (s.homes).program by_homes)

  pub over_stack : KeepsOverStack (source.stage s.checked) (stacks.stage (s.stack).program)
  over_stack = frames (source.stage s.checked) (words.stage (s.homes).program) (stacks.stage (s.stack).program) kept chained.stack

  pub in_steps : KeepsInSteps (stacks.stage (s.stack).program) (laid_out s)
  in_steps = chained.lab (s.code).layout (chained.code).laid

  same_face : (laid_out s).face ≡ source.face s.checked
  same_face = in_steps.face ∙ over_stack.face

  -- the image's machine does what the lines do
  pub executes : Executes (laid_out s) (machine_of (parts s))
  executes = (chained.code).executed (parts s) refl (sym (ap (λ (f : Face). f.foreign_names) same_face)) (ap (λ (f : Face). f.globals) same_face)

  pub short : IsShort s.checked (parts s)
  short =
      let most = (chained.code).most in
      let costs : map (λ (f : LabFun). f.cost) ((s.lab).program).functions ≡ map (cost s.checked) (s.checked).functions = ap (λ (f : Face). f.costs) same_face in
      let weights : weight_of_all (map (λ (f : LabFun). f.cost) ((s.lab).program).functions) ≡ program_weight s.checked = ap weight_of_all costs ∙ all_weights s.checked (s.checked).functions in
      omega (arith, most, weights)

  pub runs : StepsCompose → RunsInSteps (source.stage s.checked) (machine_of (parts s))
  runs compose = compose (source.stage s.checked) (stacks.stage (s.stack).program) (laid_out s) (machine_of (parts s)) over_stack in_steps executes

-- a chained program has at most 1,024 foreign names
pub few_names : (s : Stages) → AreChained s → length (foreign_names s.checked) ≤ 1024
few_names s chained =
    let few = (((s.crep).well_formed).counts).numbers.names in
    subst (λ names. length names ≤ 1024) (ap (λ (f : Face). f.foreign_names) (chained.crep).face) few
