pub mod Reasons
pub mod Readings
