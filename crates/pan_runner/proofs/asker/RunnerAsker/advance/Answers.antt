use Rattle.pan_runner.proofs.Advancing.{advances}
use Rattle.pan_runner.proofs.asker.RunnerAsker.advance.Goals as goal

pub returns-in-Ok : goal.returns-in-Ok
returns-in-Ok c = advances c.args.self.now c.run.new.self c.args.budget c.in-Ok.used c.in-Ok.ensures.went c.pause-pause.result c.pause-pause.ensures c.if-self.false
