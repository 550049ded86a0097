-- A program of steps as a stage.
use Rattle.std.specs.Prelude.{map}
use Rattle.pan_stage.specs.Programs.{face_of}
use Rattle.pan_stage.specs.Stage.{Stage}
use Rattle.pan_stage.specs.declared.program.Program.{Program}
use Rattle.loop_lang.specs.Meaning.{meaning}
use Rattle.loop_lang.specs.Needs.{needs}
use Rattle.loop_lang.specs.Text.{sites}
use Rattle.loop_lang.specs.declared.syntax.LoopFun.{LoopFun}

abbrev pub stage : Program LoopFun → Stage
stage p =
    record {
      face = face_of (λ (f : LoopFun). f.name) (λ (f : LoopFun). f.cost) p;
      sites = map (λ (f : LoopFun). sites f.body) p.functions;
      needs = needs p;
      meaning = meaning p;
    }
