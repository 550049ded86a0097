use Rattle.std.proofs.Common.{ap, ◌∙◌}
use Rattle.pan_base.specs.Events.{Store}
use Rattle.device_script.specs.Device.{DeviceState}
use Rattle.device_script.specs.Rules.{step}
use Rattle.device_script.proofs.QuietLemmas.{quiet_alike}
use Rattle.device_script.proofs.device.ScriptDeviceDevice.store.Goals as goal

pub returns-clause-quiet : goal.returns-clause-quiet
returns-clause-quiet c quiet = quiet_alike (Store c.args.size c.args.addr c.args.value) c.args.self.now _ _ quiet (c.store-answer.ensures ∙ ap (λ (d : DeviceState). step d.rules (Store c.args.size c.args.addr c.args.value)) c.self.view_is)
