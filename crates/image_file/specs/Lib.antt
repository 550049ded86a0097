pub mod Fields
pub mod Parts
pub mod Split
pub mod Faults
