-- A program of operations as a stage.
use Rattle.std.specs.Prelude.{map}
use Rattle.pan_stage.specs.Programs.{face_of}
use Rattle.pan_stage.specs.Stage.{Stage}
use Rattle.pan_stage.specs.declared.program.Program.{Program}
use Rattle.word_lang.specs.Meaning.{meaning}
use Rattle.word_lang.specs.Needs.{needs}
use Rattle.word_lang.specs.Text.{sites}
use Rattle.word_lang.specs.declared.syntax.WordFun.{WordFun}

abbrev pub stage : Program WordFun → Stage
stage p =
    record {
      face = face_of (λ (f : WordFun). f.name) (λ (f : WordFun). f.cost) p;
      sites = map (λ (f : WordFun). sites f.body) p.functions;
      needs = needs p;
      meaning = meaning p;
    }
