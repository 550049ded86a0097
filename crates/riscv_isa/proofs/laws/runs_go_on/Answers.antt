use Rattle.riscv_isa.proofs.RunLaws.{steady, leads_on, run_on, run_answered, run_stopped, run_unanswered, run_over}
use Rattle.riscv_isa.proofs.laws.runs_go_on.Goals as goal

pub returns : goal.returns
returns g c = record {
  steady = steady;
  composed = leads_on;
  silent = run_on;
  answered = run_answered;
  stopped = run_stopped;
  unanswered = run_unanswered;
  over = run_over;
}
