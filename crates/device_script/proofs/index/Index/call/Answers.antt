use Rattle.std.proofs.Common.{◌∙◌}
use Rattle.device_script.proofs.index.Index.call.Goals as goal

pub returns : goal.returns
returns c = λ rules h. c.copied.ensures ∙ c.get.ensures.value ∙ h.calls c.args.name.now
