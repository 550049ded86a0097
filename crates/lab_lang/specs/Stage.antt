-- A program of lines at a layout as a stage.
use Rattle.std.specs.Prelude.{ℕ, List}
use Rattle.pan_stage.specs.Programs.{face_of}
use Rattle.pan_stage.specs.Stage.{StepStage}
use Rattle.pan_stage.specs.declared.program.Program.{Program}
use Rattle.lab_lang.specs.Meaning.{behaviour}
use Rattle.lab_lang.specs.Needs.{code}
use Rattle.lab_lang.specs.declared.syntax.LabFun.{LabFun}
use Rattle.lab_lang.specs.declared.syntax.Line.{Line}

abbrev pub stage : Program LabFun → List Line → List (ℕ × ℕ) → StepStage
stage p lines layout =
    record {
      face = face_of (λ (f : LabFun). f.name) (λ (f : LabFun). f.cost) p;
      code = code lines;
      behaviour = behaviour p lines layout;
    }
