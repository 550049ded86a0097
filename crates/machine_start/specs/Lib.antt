pub mod Start
pub mod Ranges
