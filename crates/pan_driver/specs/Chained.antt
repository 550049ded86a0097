-- The kept stages of a build, and its image: each is what its pass may give for the one before it.
use Rattle.std.specs.Prelude.{◌≡◌, ℕ, ◌+◌, ◌<◌, Option, Some, None, List, [], ◌∷◌, length}
use Rattle.std.specs.List.{AllZip}
use Rattle.pan_flow.specs.Functions.{above, variables}
use Rattle.pan_stage.specs.Programs.{with_functions}
use Rattle.pan_stage.specs.Stage.{Keeps, KeepsOverStack, KeepsInSteps}
use Rattle.pan_tree.specs.Check.{foreign_names}
use Rattle.pan_tree.specs.declared.program.Program.{Program}
use Rattle.front_end.specs.Sources.{IsChecked}
use Rattle.crep_flatten.specs.Source as source_stages
use Rattle.crep_lang.specs.Stage as crep_stages
use Rattle.loop_lang.specs.Stage as loop_stages
use Rattle.word_lang.specs.Homes.{first_slot}
use Rattle.word_lang.specs.Stage as word_stages
use Rattle.word_lang.specs.Text.{flow_of_function}
use Rattle.word_lang.specs.declared.syntax.WordFun.{WordFun}
use Rattle.reg_alloc.specs.Accepts.{Accepts}
use Rattle.reg_alloc.specs.Homes.{home_number}
use Rattle.reg_alloc.specs.Renamed.{rename_function}
use Rattle.reg_alloc.specs.declared.homes.Colours.{Colours}
use Rattle.stack_bound.specs.Bounds.{IsAnswer}
use Rattle.stack_bound.specs.declared.types.Bound.{Bound}
use Rattle.stack_bound.specs.declared.types.Bound.TheVariants.{Bytes, Cycle}
use Rattle.stack_lang.specs.Stage as stack_stages
use Rattle.lab_lang.specs.Layout.{IsLayout}
use Rattle.lab_lang.specs.Meaning.{behaviour}
use Rattle.lab_lang.specs.Stage as lab_stages
use Rattle.lab_flatten.specs.Contract.{RunsOnFuel}
use Rattle.lab_link.specs.Linked.{IsLinked}
use Rattle.riscv_isa.specs.Image.{ImageParts, ImageOf}
use Rattle.pan_driver.specs.declared.built.Stages.{Stages}

-- the number of a bound; a cycle has none
abbrev pub bytes_of : Bound → Option ℕ
bytes_of (Bytes n) = Some n
bytes_of (Cycle functions) = None

-- the parts of the image: the linked code, the program's foreign names, and the bound's number, if it has one
abbrev pub parts : Stages → ImageParts
parts s = record { code = (s.code).bytes; names = foreign_names s.checked; bound = bytes_of s.bound }

-- The colours give each variable of the function the slot of its number, and the function accepts them: variables that meet have different homes, and those that are across have slots.
pub record AreColoursOf (f : WordFun) (c : Colours) : Type 0 where
  pub count : length c.homes ≡ above (variables (flow_of_function f))
  pub own : (v : ℕ) → v < length c.homes → home_number c.homes v ≡ first_slot + v
  pub accepted : Accepts (home_number c.homes) f

-- each function with its variables renamed by its colours
abbrev pub renamed : List WordFun → List Colours → List WordFun
renamed [] cs = []
renamed (f ∷ fs) [] = []
renamed (f ∷ fs) (c ∷ cs) = rename_function (home_number c.homes) f ∷ renamed fs cs

-- Each stage, from the checked program down to the code, is what its pass may give for the one before it.
pub record AreChained (s : Stages) : Type 0 where
  -- crep, loops and words each keep the stage before
  pub crep : Keeps (source_stages.stage s.checked) (crep_stages.stage (s.crep).program)
  pub loops : Keeps (crep_stages.stage (s.crep).program) (loop_stages.stage (s.loops).program)
  pub words : Keeps (loop_stages.stage (s.loops).program) (word_stages.stage (s.words).program)
  -- each function of the words has its colours, and over homes the words are renamed by them
  pub colours : AllZip AreColoursOf ((s.words).program).functions s.colours
  pub homes : (s.homes).program ≡ with_functions (s.words).program (renamed ((s.words).program).functions s.colours)
  -- the program over frames keeps the one over homes, or runs out of stack
  pub stack : KeepsOverStack (word_stages.stage (s.homes).program) (stack_stages.stage (s.stack).program)
  -- at each layout the lines do in steps what that one does, in at least one for each unit of fuel that is taken
  pub lab : (layout : List (ℕ × ℕ)) → IsLayout 0 (s.lab).lines layout → KeepsInSteps (stack_stages.stage (s.stack).program) (lab_stages.stage (s.lab).program (s.lab).lines layout)
  pub fuel : (layout : List (ℕ × ℕ)) → IsLayout 0 (s.lab).lines layout → RunsOnFuel (s.stack).program (behaviour (s.lab).program (s.lab).lines layout)
  -- the bound is that of the program over frames
  pub bound : IsAnswer (s.stack).program s.bound
  -- the code is that of the lines
  pub code : IsLinked (s.lab).program (s.lab).lines (s.code).layout (s.code).bytes

-- the stages and the image of a checked program
pub record ChainedFrom (program : Program) (s : Stages) (image : List ℕ) : Type 0 where
  pub checked : s.checked ≡ program
  pub stages : AreChained s
  pub written : ImageOf image (parts s)

-- the stages and the image of a source: they begin with the program of its bytes
pub record Chained (bytes : List ℕ) (s : Stages) (image : List ℕ) : Type 0 where
  pub checked : IsChecked bytes s.checked
  pub stages : AreChained s
  pub written : ImageOf image (parts s)
