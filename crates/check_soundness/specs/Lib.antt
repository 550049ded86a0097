pub mod Spread
pub mod FailingSteps
pub mod Guarded
