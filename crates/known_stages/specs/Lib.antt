pub mod CrepPrograms
pub mod LabPrograms
pub mod LoopPrograms
pub mod WordPrograms
pub mod StackPrograms
pub mod Flows
pub mod RoomPrograms
