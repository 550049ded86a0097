pub mod CrepMeanings
mod LabMeanings
pub mod LoopMeanings
pub mod WordMeanings
pub mod StackMeanings
pub mod Decided
pub mod FlowFacts
pub mod RoomFacts
