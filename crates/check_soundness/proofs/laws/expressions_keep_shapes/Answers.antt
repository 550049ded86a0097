use Rattle.check_soundness.proofs.KeptShapes.{expression_shaped}
use Rattle.check_soundness.proofs.FailsNothing.{fails_nothing}
use Rattle.check_soundness.proofs.laws.expressions_keep_shapes.Goals as goal

pub returns : goal.returns
returns c = record {
  shaped = λ e checked variables memory h b. expression_shaped e checked variables memory (record { same = h }) b;
  nothing = λ e variables memory step. fails_nothing variables memory e.kind step;
}
