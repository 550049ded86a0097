use Rattle.std.proofs.Common.{[], ap, ◌∙◌}
use Rattle.pan_runner.specs.View.{frames_onto}
use Rattle.pan_runner.proofs.FramesLemmas.{on_top}
use Rattle.pan_runner.proofs.runner.Runner.push.Goals as goal

pub returns-clause-frames : goal.returns-clause-frames
returns-clause-frames c = ap (λ fs. frames_onto fs []) (c.in_ok-push.ensures.ok) ∙ on_top c.args.self.now.frames c.args.frame []
