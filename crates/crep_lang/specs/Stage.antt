-- A program of words as a stage.
use Rattle.std.specs.Prelude.{map}
use Rattle.pan_stage.specs.Programs.{face_of}
use Rattle.pan_stage.specs.Stage.{Stage}
use Rattle.pan_stage.specs.declared.program.Program.{Program}
use Rattle.crep_lang.specs.Meaning.{meaning}
use Rattle.crep_lang.specs.Needs.{needs}
use Rattle.crep_lang.specs.Text.{sites}
use Rattle.crep_lang.specs.declared.syntax.CrepFun.{CrepFun}

abbrev pub stage : Program CrepFun → Stage
stage p =
    record {
      face = face_of (λ (f : CrepFun). f.name) (λ (f : CrepFun). f.cost) p;
      sites = map (λ (f : CrepFun). sites f.body) p.functions;
      needs = needs p;
      meaning = meaning p;
    }
