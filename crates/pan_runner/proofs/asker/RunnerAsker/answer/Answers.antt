use Rattle.pan_runner.proofs.Taking.{runner_answers}
use Rattle.pan_runner.proofs.asker.RunnerAsker.answer.Goals as goal

pub returns-in-Asks : goal.returns-in-Asks
returns-in-Asks c = runner_answers c.args.self.now c.take.new.self c.in-Asks.question _ c.in-Asks.is c.take.ensures.keeps c.take.ensures.config
