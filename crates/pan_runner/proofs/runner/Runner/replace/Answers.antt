use Rattle.pan_runner.proofs.Begun.{becomes_first}
use Rattle.pan_runner.proofs.runner.Runner.replace.Goals as goal

pub returns-in-None-clause-config : goal.returns-in-None-clause-config
returns-in-None-clause-config c = becomes_first c.args.self.now c.pop.new.self c.args.function c.args.args (c.in-None.ensures {u = tt}).frames c.in-None.ensures.empty c.pop.ensures.keeps.memory
