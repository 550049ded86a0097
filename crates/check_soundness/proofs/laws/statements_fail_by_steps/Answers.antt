use Rattle.pan_tree.specs.Meaning.{Does}
use Rattle.check_soundness.proofs.ByStep.{fails_by_step}
use Rattle.check_soundness.proofs.StepsFail.{step_fails}
use Rattle.check_soundness.proofs.laws.statements_fail_by_steps.Goals as goal

pub returns : goal.returns
returns c = record {
  only = λ program result statement variables world end b h. fails_by_step Does program result statement variables world end b h;
  always = λ program statement variables world step. step_fails Does program variables world statement step;
}
