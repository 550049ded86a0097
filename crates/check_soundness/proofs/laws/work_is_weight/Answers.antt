use Rattle.check_soundness.proofs.KeptShapes.{statement_weighs, test_weighs}
use Rattle.check_soundness.proofs.laws.work_is_weight.Goals as goal

pub returns : goal.returns
returns c = record {
  statement = λ context place state statement variables h. statement_weighs context place state statement variables (record { same = h });
  test = λ condition checked variables h. test_weighs condition checked variables (record { same = h });
}
