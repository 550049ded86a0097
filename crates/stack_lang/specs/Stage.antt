-- A program over frames as a stage.
use Rattle.std.specs.Prelude.{map}
use Rattle.pan_stage.specs.Programs.{face_of}
use Rattle.pan_stage.specs.Stage.{StackStage}
use Rattle.pan_stage.specs.declared.program.Program.{Program}
use Rattle.stack_lang.specs.Meaning.{meaning}
use Rattle.stack_lang.specs.Needs.{needs}
use Rattle.stack_lang.specs.Text.{sites}
use Rattle.stack_lang.specs.declared.syntax.StackFun.{StackFun}

abbrev pub stage : Program StackFun → StackStage
stage p =
    record {
      face = face_of (λ (f : StackFun). f.name) (λ (f : StackFun). f.cost) p;
      sites = map (λ (f : StackFun). sites f.body) p.functions;
      needs = needs p;
      meaning = meaning p;
    }
