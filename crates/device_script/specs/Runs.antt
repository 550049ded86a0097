-- Runs whose replies a script gives.
use Rattle.std.specs.Prelude.{List}
use Rattle.pan_base.specs.Events.{Replied, Behaviour}
use Rattle.pan_port.specs.Drive.{AreGiven}
use Rattle.device_script.specs.Device.{DeviceState, Steps}
use Rattle.device_script.specs.Script.{Content}

-- the device of a script, before its first request
abbrev pub device : Content → DeviceState
device script = record { rules = script.rules; stops = 0; silences = 0 }

-- the replies are those that the script gives to the requests of this run
abbrev pub IsGiven : Content → Behaviour → List Replied → Type 0
IsGiven script run replies = (last : DeviceState) × AreGiven Steps (device script) run replies last
