pub mod MachineOrder
pub mod Cut
pub mod ScriptDevices
pub mod Meeting
pub mod FilledMemory
pub mod OtherRuns
