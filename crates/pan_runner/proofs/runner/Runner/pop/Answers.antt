use Rattle.pan_runner.proofs.FramesLemmas.{popped}
use Rattle.pan_runner.proofs.runner.Runner.pop.Goals as goal

pub returns-clause-frames : goal.returns-clause-frames
returns-clause-frames c = popped c.args.self.now.frames c.pop.new.self c.pop.result c.pop.ensures
