use Rattle.std.proofs.Common.{ap, ◌∙◌}
use Rattle.pan_base.specs.Events.{Load}
use Rattle.device_script.specs.Device.{DeviceState}
use Rattle.device_script.specs.Rules.{step}
use Rattle.device_script.proofs.QuietLemmas.{quiet_alike}
use Rattle.device_script.proofs.device.ScriptDeviceDevice.load.Goals as goal

pub returns-clause-quiet : goal.returns-clause-quiet
returns-clause-quiet c quiet = quiet_alike (Load c.args.size c.args.addr) c.args.self.now _ _ quiet (c.load-answer.ensures ∙ ap (λ (d : DeviceState). step d.rules (Load c.args.size c.args.addr)) c.self.view_is)
